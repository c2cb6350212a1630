-- Views of hands: how they begin, change and are cut, and how often a number stands in them.
use Rattle.std.specs.Prelude.{ℕ, ◌+◌, ◌-◌, ◌==◌}
use Rattle.std.specs.Prelude.{List, [], ◌∷◌, ◌++◌, count_by, sum_by}
use Rattle.steal_deal.specs.declared.partition.Partition.{Partition}
use Rattle.steal_deal.specs.declared.view.View.{View}

-- a hand that has drawn nothing
abbrev pub fresh : Partition → ℕ → ℕ → View
fresh p number spare =
    record { partition = p; number = number; spare = spare; taken = []; met = [] }

-- after a draw that gave the number y
abbrev pub gained : View → ℕ → View
gained v y = record v { taken = v.taken ++ y ∷ [] }

-- after a draw that found block b empty
abbrev pub found_empty : View → ℕ → View
found_empty v b = record v { met = v.met ++ b ∷ [] }

-- a hand that keeps its number alone, and the next one, which gets the numbers after it
abbrev pub alone : View → View
alone v = record v { spare = 0 }

abbrev pub next : View → View
next v = fresh v.partition (v.number + 1) (v.spare - 1)

-- how often a number stands in a list
abbrev pub copies : ℕ → List ℕ → ℕ
copies x xs = count_by (λ y. y == x) xs

-- how often a number stands in all the `taken` lists together
abbrev pub times_taken : List View → ℕ → ℕ
times_taken views y = sum_by (λ v. copies y v.taken) views

-- how often a block stands in all the `met` lists together
abbrev pub times_met : List View → ℕ → ℕ
times_met views b = sum_by (λ v. copies b v.met) views
