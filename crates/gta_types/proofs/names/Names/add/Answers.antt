use Rattle.std.proofs.Common.{◌≡◌, None, Some, refl, sym, ◌∙◌}
use Rattle.gta_types.specs.Index.{known_at}
use Rattle.gta_types.proofs.Keys.{at_key, equal_keys, kept_at, put_at}
use Rattle.gta_types.proofs.names.Names.add.Goals as goal

pub returns-in-None-clause-again : goal.returns-in-None-clause-again
returns-in-None-clause-again c =
    let known = known_at c.args.self.now c.args.scope c.args.name.now in
    let absent : known ≡ None =
    sym (at_key c.args.self.now c.args.scope c.args.name.now) ∙ sym c.in_ok-insert.ensures.old ∙ c.in-None.is in
    rw absent refl

pub returns-in-None-clause-added : goal.returns-in-None-clause-added
returns-in-None-clause-added c = λ s x.
    let old = c.args.self.now in
    let scope = c.args.scope in
    let name = c.args.name.now in
    let absent : known_at old scope name ≡ None =
    sym (at_key old scope name) ∙ sym c.in_ok-insert.ensures.old ∙ c.in-None.is in
    sym (at_key _ s x)
    ∙ c.in_ok-insert.ensures.updates.0 (s, record { ref_ptr = (0, 0); now = x })
    ∙ rw (equal_keys scope name s x, at_key old s x) refl
    ∙ put_at (known_at old) scope name c.args.found absent s x

pub returns-in_ok-insert-in-Some-clause-again : goal.returns-in_ok-insert-in-Some-clause-again
returns-in_ok-insert-in-Some-clause-again c =
    let known = known_at c.args.self.now c.args.scope c.args.name.now in
    let there : known ≡ Some c.in-Some.earlier =
    sym (at_key c.args.self.now c.args.scope c.args.name.now) ∙ sym c.in_ok-insert.ensures.old ∙ c.in-Some.is in
    rw there refl

pub returns-in_ok-insert-in-Some-clause-added : goal.returns-in_ok-insert-in-Some-clause-added
returns-in_ok-insert-in-Some-clause-added c = λ s x.
    let old = c.args.self.now in
    let scope = c.args.scope in
    let name = c.args.name.now in
    let there : known_at old scope name ≡ Some c.in-Some.earlier =
    sym (at_key old scope name) ∙ sym c.in_ok-insert.ensures.old ∙ c.in-Some.is in
    sym (at_key _ s x)
    ∙ c.in_ok-insert-in-Some.ensures.updates.0 (s, record { ref_ptr = (0, 0); now = x })
    ∙ rw (
      c.in_ok-insert.ensures.updates.0 (s, record { ref_ptr = (0, 0); now = x }),
      equal_keys scope name s x,
      at_key old s x,
    ) refl
    ∙ kept_at (known_at old) scope name c.args.found c.in-Some.earlier there s x
