use Rattle.std.proofs.Common.{◌≡◌, ◌<◌, [], ℕ, All, get_or, map, ◌∙◌, sym, ap, subst, arith}
use Rattle.std.specs.List.{fold, range_with_len}
use Rattle.std.proofs.lemmas.List.{get_or_default}
use Rattle.auto_monoid.specs.AutoOf.{plain_auto}
use Rattle.auto_monoid.specs.Functions.{followed_by}
use Rattle.auto_monoid.specs.Numbering.{with_new}
use Rattle.auto_monoid.proofs.Found.{fold_new-more, grown-longer, grown-at}
use Rattle.auto_monoid.proofs.discovery.extend.Goals as goal

pub index-requires : goal.index-requires
index-requires c =
    let fs = c.args.functions.now.items in
    let g = λ (letter : ℕ). followed_by (plain_auto c.args.auto.now) (get_or fs c.args.element []) letter in
    let gs = map g (range_with_len 0 c.loop-letter.letter) in
    let longer = grown-longer fs c.loop-letter.functions.items gs c.loop-letter.invariant in
    let inside = c.requires.element in
    omega arith

pub followed_by-requires-clause-states : goal.followed_by-requires-clause-states
followed_by-requires-clause-states c =
    let a = plain_auto c.args.auto.now in
    let fs = c.args.functions.now.items in
    let g = λ (letter : ℕ). followed_by a (get_or fs c.args.element []) letter in
    let is : c.index.result.now ≡ get_or fs c.args.element c.index.result.now =
    c.index.ensures
    ∙ grown-at fs c.loop-letter.functions.items (map g (range_with_len 0 c.loop-letter.letter)) c.loop-letter.invariant
    c.args.element c.index.result.now c.requires.element in
    subst (λ f. All (λ state. state < a.states) f) (sym is)
    (c.requires.functions c.args.element c.index.result.now c.requires.element).below

pub loop-letter-preserved : goal.loop-letter-preserved
loop-letter-preserved c =
    let a = plain_auto c.args.auto.now in
    let fs = c.args.functions.now.items in
    let g = λ (letter : ℕ). followed_by a (get_or fs c.args.element []) letter in
    let is : c.index.result.now ≡ get_or fs c.args.element [] =
    c.index.ensures
    ∙ grown-at fs c.loop-letter.functions.items (map g (range_with_len 0 c.loop-letter.letter)) c.loop-letter.invariant
    c.args.element c.index.result.now c.requires.element
    ∙ get_or_default fs c.args.element c.index.result.now [] c.requires.element in
    c.in_ok-add_new.ensures
    ∙ ap (λ hs. with_new hs c.in_ok-extension.extension) c.loop-letter.invariant
    ∙ ap (with_new (fold with_new fs (map g (range_with_len 0 c.loop-letter.letter))))
    (c.in_ok-extension.ensures ∙ ap (λ f. followed_by a f c.loop-letter.letter) is)
    ∙ sym (fold_new-more g fs c.loop-letter.letter)
