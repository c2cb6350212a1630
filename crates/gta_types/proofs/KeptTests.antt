-- The tests that an expression names are declared.
use Rattle.std.proofs.Common.{ℕ, ◌<◌, List, [], ◌++◌, map, length, All, subst}
use Rattle.std.proofs.lemmas.List.{map-append}
use Rattle.std.proofs.lemmas.List.Elements.{All-nil, All-cons, All-append}
use Rattle.std.proofs.lemmas.Bool.{not-false}
use Rattle.gta_spec.specs.Keep.{KeepTree, Test, Not, Both, Either, keep_map, kept_tests}
use Rattle.gta_spec.specs.Parts.{PartTree}
use Rattle.gta_spec.specs.WellFormed.{EachFits}
use Rattle.spec_tables.specs.Tables.{number_of}
use Rattle.gta_types.specs.Names.{TestName, use_as}
use Rattle.gta_types.specs.Resolved.{environment}
use Rattle.gta_types.proofs.InRange.{test_in}
use Rattle.gta_types.proofs.Within.{Known, each_front, each_back}

halves : {A B : Type 0} (F : B → Type 0) (f : A → B) (xs ys : List A) → EachFits F (map f (xs ++ ys))
    → EachFits F (map f xs) × EachFits F (map f ys)
halves F f xs ys fits =
    let joined : EachFits F (map f xs ++ map f ys) = subst (EachFits F) (map-append f xs ys) fits in
    (each_front F (map f xs) (map f ys) joined, each_back F (map f xs) (map f ys) joined)

module _ (all : List PartTree) (line : ℕ) where
  abbrev IsTest : ℕ → Type 0
  IsTest test = test < length (environment all).tests

  abbrev numbered : KeepTree (List ℕ) → KeepTree ℕ
  numbered keep = keep_map (number_of (environment all).tests) keep

  abbrev NamesTests : List (List ℕ) → Type 0
  NamesTests names = EachFits (Known all) (map (use_as line TestName) names)

  pub tests_declared : (keep : KeepTree (List ℕ)) → NamesTests (kept_tests keep)
      → All IsTest (kept_tests (numbered keep))
  tests_declared (Test x) known =
      All-cons IsTest (number_of (environment all).tests x) [] (test_in all x (not-false _ known.0)) (All-nil IsTest)
  tests_declared (Not x) known = tests_declared x known
  tests_declared (Both x y) known =
      let each = halves (Known all) (use_as line TestName) (kept_tests x) (kept_tests y) known in
      All-append IsTest (kept_tests (numbered x)) (kept_tests (numbered y)) (tests_declared x each.0)
      (tests_declared y each.1)
  tests_declared (Either x y) known =
      let each = halves (Known all) (use_as line TestName) (kept_tests x) (kept_tests y) known in
      All-append IsTest (kept_tests (numbered x)) (kept_tests (numbered y)) (tests_declared x each.0)
      (tests_declared y each.1)
