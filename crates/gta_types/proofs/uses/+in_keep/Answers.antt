use Rattle.std.proofs.Common.{inl, inr}
use Rattle.gta_spec.specs.Keep.{kept_tests}
use Rattle.gta_spec.specs.Parts.{keep_tree}
use Rattle.gta_types.specs.Names.{use_as, TestName}
use Rattle.gta_types.proofs.Unknown.{unknown_mapped_front, unknown_mapped_back}
use Rattle.gta_types.proofs.uses.+in_keep.Goals as goal

pub returns-then-is_some : goal.returns-then-is_some
returns-then-is_some t c =
    let xs = kept_tests (keep_tree c.in-Both.x.value) in
    let ys = kept_tests (keep_tree c.in-Both.y.value) in
    let here = rw c.deref-in-Both.ensures at c.in_keep-found.ensures in
    let both = unknown_mapped_front c.args.names.now (use_as c.args.line TestName) xs ys c.in_keep-found.result here
    c.if-is_some.ensures in
    elim c.in-Both.is [
      | inl is ↦ rw is both
      | inr is ↦ rw is both
    ]

pub returns-else-is_some : goal.returns-else-is_some
returns-else-is_some t c =
    let xs = kept_tests (keep_tree c.in-Both.x.value) in
    let ys = kept_tests (keep_tree c.in-Both.y.value) in
    let here = rw c.deref-in-Both.ensures at c.in_keep-found.ensures in
    let rest = rw c.deref-in-Both-2.ensures at c.in_keep-in-Both.ensures in
    let both = unknown_mapped_back c.args.names.now (use_as c.args.line TestName) xs ys c.in_keep-found.result _ here
    c.if-is_some.ensures rest in
    elim c.in-Both.is [
      | inl is ↦ rw is both
      | inr is ↦ rw is both
    ]
