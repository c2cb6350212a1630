use Rattle.std.proofs.Common.{◌≡◌, ◌<◌, ◌≤◌, length}
use Rattle.monoid_kit.specs.Items.{AllElements}
use Rattle.semiring_kit.specs.Semiring.{IsGood}
use Rattle.key_tests.proofs.plans.letters_of.Given as goal

abbrev pub invariant-loop-value : goal.invariant-loop-value
invariant-loop-value g l = record {
  count : length l.letters.items ≡ l.value-index;
  keys : AllElements (λ key. key < l.size) (λ letter. letter.key) l.letters.items;
  good : AllElements (IsGood (g.S.Semiring.ring l.kit)) (λ letter. letter.elem) l.letters.items;
  near : AllElements (λ elem. (g.S.Semiring.ring l.kit).reach elem ≤ 32768) (λ letter. letter.elem) l.letters.items;
}
