use Rattle.std.proofs.Common.{◌<◌, All, ap, ◌∙◌, sym, subst}
use Rattle.auto_monoid.specs.AutoOf.{plain_auto}
use Rattle.auto_monoid.specs.Functions.{followed_by, number_of}
use Rattle.auto_monoid.specs.MonoidOf.{letter_element}
use Rattle.auto_monoid.proofs.Words.{identity-IsFunction}
use Rattle.auto_monoid.proofs.Found.{map-range-more}
use Rattle.auto_monoid.proofs.table.letters_of.Goals as goal

pub followed_by-requires-clause-states : goal.followed_by-requires-clause-states
followed_by-requires-clause-states c =
    let a = plain_auto c.args.auto.now in
    subst (All (λ state. state < a.states)) (sym c.in_ok-identity.ensures) (identity-IsFunction a c.requires.auto).below

pub loop-letter-preserved : goal.loop-letter-preserved
loop-letter-preserved c =
    let a = plain_auto c.args.auto.now in
    let fs = c.args.functions.now in
    map-range-more (letter_element a fs) c.loop-letter.letter c.loop-letter.letters.items
    c.push.new.self.items c.place_of.result
    c.loop-letter.invariant c.in_ok-push.ensures.items
    (c.place_of.ensures.place
    ∙ ap (number_of fs) (c.in_ok-function.ensures
    ∙ ap (λ f. followed_by a f c.loop-letter.letter) c.in_ok-identity.ensures))
