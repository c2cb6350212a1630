use Rattle.std.proofs.Common.{◌≡◌, ℕ, List, map, Option, Some, None, option_map, sym, ap, ◌∙◌}
use Rattle.gta_spec.specs.Parts.{part_tree}
use Rattle.gta_types.specs.declared.names.Place.{Place}
use Rattle.gta_types.specs.Names.{declarations, declared_twice, unknown_use}
use Rattle.gta_types.specs.Index.{declared_place, used_place, place}
use Rattle.gta_types.proofs.Looked.{unknown_in-uses}
use Rattle.gta_types.proofs.FirstFault.{name_fault-unknown, name_fault-twice, name_fault-none}
use Rattle.gta_types.proofs.naming.check_names.Goals as goal

pub returns-in-Some : goal.returns-in-Some
returns-in-Some c =
    let parts = map part_tree c.args.parts.now in
    let known = rw (c.as_slice.ensures.value, c.in_ok-all.ensures) at c.in_ok-index.ensures.names in
    let used = sym (unknown_in-uses c.in_ok-index.index.names parts known 0 c.requires.ascend) in
    let p = c.in-Some.place in
    let at : option_map used_place (unknown_use parts) ≡ Some (place p) =
    used ∙ sym c.unknown_in.ensures ∙ ap (λ (o : Option Place). option_map place o) c.in-Some.is in
    record {
      tells = name_fault-unknown parts p.line c.in_ok-name.name
          (at ∙ ap (λ (n : List ℕ). Some (p.line, n)) (sym (c.in_ok-name.ensures ∙ c.bytes.ensures)));
    }

pub returns-in-Some-twice : goal.returns-in-Some-twice
returns-in-Some-twice c =
    let parts = map part_tree c.args.parts.now in
    let known = rw (c.as_slice.ensures.value, c.in_ok-all.ensures) at c.in_ok-index.ensures.names in
    let twice = rw (c.as_slice.ensures.value, c.in_ok-all.ensures) at c.in_ok-index.ensures.twice in
    let used = sym (unknown_in-uses c.in_ok-index.index.names parts known 0 c.requires.ascend) in
    let none : option_map used_place (unknown_use parts) ≡ None =
    used ∙ sym c.unknown_in.ensures ∙ ap (λ (o : Option Place). option_map place o) c.in_default.is in
    let p = c.in-Some-twice.place in
    let at : option_map declared_place (declared_twice (declarations parts)) ≡ Some (place p) =
    sym twice ∙ ap (λ (o : Option Place). option_map place o) c.in-Some-twice.is in
    record {
      tells = name_fault-twice parts p.line c.in_ok-name-2.name none
          (at ∙ ap (λ (n : List ℕ). Some (p.line, n)) (sym (c.in_ok-name-2.ensures ∙ c.bytes-in-Some-twice.ensures)));
    }

pub returns : goal.returns
returns c =
    let parts = map part_tree c.args.parts.now in
    let known = rw (c.as_slice.ensures.value, c.in_ok-all.ensures) at c.in_ok-index.ensures.names in
    let twice = rw (c.as_slice.ensures.value, c.in_ok-all.ensures) at c.in_ok-index.ensures.twice in
    let used = sym (unknown_in-uses c.in_ok-index.index.names parts known 0 c.requires.ascend) in
    let none : option_map used_place (unknown_use parts) ≡ None =
    used ∙ sym c.unknown_in.ensures ∙ ap (λ (o : Option Place). option_map place o) c.in_default.is in
    record {
      tells = name_fault-none parts none
          (sym twice ∙ ap (λ (o : Option Place). option_map place o) c.in_default-twice.is);
    }
