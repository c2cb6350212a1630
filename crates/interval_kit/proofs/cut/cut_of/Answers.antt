use Rattle.std.proofs.Common.{◌≡◌, ◌*◌, ◌∙◌, ◌++◌, [], ◌∷◌, arith, ap, sym, subst, List, ℕ}
use Rattle.interval_kit.specs.Cut.{IsCut, even_cut}
use Rattle.interval_kit.proofs.EvenCut.{even_cut-IsCut, IsCut-last, one_more, with_end}
use Rattle.interval_kit.proofs.cut.cut_of.Goals as goal

pub loop-k-preserved : goal.loop-k-preserved
loop-k-preserved c =
    c.in_ok-push.ensures.items ∙ ap (λ xs. xs ++ c.loop-k.k * c.args.leaf ∷ []) c.loop-k.invariant
    ∙ one_more c.args.rows c.args.leaf c.requires.nonempty c.loop-k.k (omega (arith, c.div_ceil-leaves.ensures))

bounds_are : (c : goal.In_ok-push-2) → c.push-2.new.self.items ≡ even_cut c.args.rows c.args.leaf
bounds_are c =
    c.in_ok-push-2.ensures.items ∙ ap (λ xs. xs ++ c.args.rows ∷ []) c.loop-k.invariant
    ∙ with_end c.args.rows c.args.leaf c.requires.nonempty c.loop-k.k (omega (arith, c.div_ceil-leaves.ensures))

is_cut : (c : goal.In_ok-push-2) → IsCut c.args.rows c.push-2.new.self.items
is_cut c =
    let P : List ℕ → Type 0 = λ xs. IsCut c.args.rows xs in
    subst P (sym (bounds_are c)) (even_cut-IsCut c.args.rows c.args.leaf c.requires.nonempty)

pub invariant_of-result : goal.invariant_of-result
invariant_of-result c = IsCut-last c.args.rows c.push-2.new.self.items (is_cut c)

pub returns-clause-bounds : goal.returns-clause-bounds
returns-clause-bounds c = bounds_are c

pub returns-clause-is_cut : goal.returns-clause-is_cut
returns-clause-is_cut c = is_cut c
