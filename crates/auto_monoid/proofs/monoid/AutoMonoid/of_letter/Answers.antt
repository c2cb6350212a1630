use Rattle.std.proofs.Common.{◌<◌, length, get_or, ap, ◌∙◌, sym, subst, arith}
use Rattle.std.proofs.lemmas.List.FromFn.{length-map-range_with_len, get_or-map-range_with_len}
use Rattle.auto_monoid.specs.MonoidOf.{letter_element}
use Rattle.auto_monoid.specs.TransitionOf.{machine, functions}
use Rattle.auto_monoid.proofs.Products.{letter_in}
use Rattle.auto_monoid.proofs.monoid.AutoMonoid.of_letter.Goals as goal

pub index-requires : goal.index-requires
index-requires c =
    let monoid = c.args.self.now in
    let element = letter_element (machine monoid) (functions monoid) in
    let whole = ap length monoid.lettered ∙ length-map-range_with_len element 0 (machine monoid).letters in
    let is_letter = c.requires.is_letter in
    omega arith

pub returns-clause-element : goal.returns-clause-element
returns-clause-element c =
    let monoid = c.args.self.now in
    c.index.ensures
    ∙ ap (λ letters. get_or letters c.args.letter c.index.result.now) monoid.lettered
    ∙ get_or-map-range_with_len (letter_element (machine monoid) (functions monoid)) 0 (machine monoid).letters
    c.args.letter c.args.letter c.index.result.now c.requires.is_letter (omega arith)

pub returns-clause-is_element : goal.returns-clause-is_element
returns-clause-is_element c =
    let monoid = c.args.self.now in
    subst (λ n. n < length (functions monoid)) (sym (returns-clause-element c))
    (letter_in (machine monoid) monoid.is_auto (functions monoid) monoid.numbered c.args.letter c.requires.is_letter)
