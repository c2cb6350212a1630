use Rattle.std.proofs.Common.{◌≡◌, ◌≤◌, ℕ, length, subst, ap, sym, ◌∙◌, arith}
use Rattle.std.proofs.lemmas.Result.{IfOk-weaker}
use Rattle.semiring_kit.specs.Total.{total_at_key}
use Rattle.key_map.specs.Slots.{key_of, elem_of, value_in, FitsSlots}
use Rattle.key_map.specs.Rows.{slots_from}
use Rattle.key_map.specs.Loose.{AreLoose}
use Rattle.key_map.proofs.Slots.{value_in-total}
use Rattle.key_map.proofs.Gathers.{no_item, loose-last_key, loose-last_elem, gathering-start, gathering-step}
use Rattle.key_map.proofs.Gathers.{gathering-fits, gathering-value, gathering-kept}
use Rattle.key_map.proofs.collect.SparseKitCollect.collect.Goals as goal

pub returns-then-ascend-clause-value : goal.returns-then-ascend-clause-value
returns-then-ascend-clause-value g c k =
    value_in-total (g.met.S.Semiring.laws c.args.self.now.kit) 0 (g.M.Monoid.size c.args.self.now.keys)
    c.args.loose.items k
    (rw c.deref.ensures.value at c.if-ascend.ensures)

pub loop-slot-init : goal.loop-slot-init
loop-slot-init g c =
    gathering-start (g.met.S.Semiring.laws c.args.self.now.kit) (g.M.Monoid.size c.args.self.now.keys)
    c.args.loose.items
    c.in_ok-row.row.items (rw c.size.ensures at c.in_ok-row.ensures) c.requires

pub gather-requires-clause-key_is_in_row : goal.gather-requires-clause-key_is_in_row
gather-requires-clause-key_is_in_row g c =
    let split = rw c.in-Some.is at c.pop.ensures.items in
    let key_in = loose-last_key (g.met.S.Semiring.laws c.args.self.now.kit) c.pop.new.self.items c.in-Some.slot
    (subst (AreLoose (g.S.Semiring.ring c.args.self.now.kit) (g.M.Monoid.size c.args.self.now.keys)) split
    c.loop-slot.invariant.are_loose) in
    let long = c.loop-slot.invariant.has_size in
    omega (arith, key_in, long)

pub gather-requires-clause-elem_is_good : goal.gather-requires-clause-elem_is_good
gather-requires-clause-elem_is_good g c =
    let split = rw c.in-Some.is at c.pop.ensures.items in
    loose-last_elem (g.met.S.Semiring.laws c.args.self.now.kit) c.pop.new.self.items c.in-Some.slot
    (subst (AreLoose (g.S.Semiring.ring c.args.self.now.kit) (g.M.Monoid.size c.args.self.now.keys)) split
    c.loop-slot.invariant.are_loose)

pub loop-slot-preserved : goal.loop-slot-preserved
loop-slot-preserved g c =
    gathering-step (g.met.S.Semiring.laws c.args.self.now.kit) (g.M.Monoid.size c.args.self.now.keys) c.args.loose.items
    c.loop-slot.row.items c.gather.new.row.items c.loop-slot.loose.items c.pop.new.self.items c.in-Some.slot
    c.loop-slot.invariant
    (rw c.in-Some.is at c.pop.ensures.items) c.in_ok-gather.ensures.gathered c.in_ok-gather.ensures.few

pub slots_of-requires : goal.slots_of-requires
slots_of-requires g c =
    let long = c.loop-slot.invariant.has_size in
    let size = c.size.ensures in
    let fits = c.size.type_inv in
    omega (arith, long, size, fits)

pub returns : goal.returns
returns g c =
    let ring = g.S.Semiring.ring c.args.self.now.kit in
    let laws = g.met.S.Semiring.laws c.args.self.now.kit in
    let size = g.M.Monoid.size c.args.self.now.keys in
    let all = c.args.loose.items in
    let row = c.loop-slot.row.items in
    let left = c.loop-slot.loose.items in
    let cases = rw c.in_default.is at c.pop.ensures.cases in
    let none = no_item left (omega (arith, cases)) in
    let gathering = c.loop-slot.invariant in
    record {
      fits = IfOk-weaker c.slots_of.result (λ map. map.items ≡ slots_from 0 row)
          (λ map. FitsSlots ring 0 size map.items)
          (λ map is. subst (FitsSlots ring 0 size) (sym is) (gathering-fits laws size all row left none gathering))
          c.slots_of.ensures;
      value = IfOk-weaker c.slots_of.result (λ map. map.items ≡ slots_from 0 row)
          (λ map. (k : ℕ) → value_in ring.zero map.items k ≡ total_at_key ring key_of elem_of all k)
          (λ map is k. ap (λ items. value_in ring.zero items k) is
          ∙ gathering-value laws size all row left none gathering k) c.slots_of.ensures;
      kept = IfOk-weaker c.slots_of.result (λ map. map.items ≡ slots_from 0 row) (λ map. length map.items ≤ length all)
          (λ map is. let count = ap length is in let few = gathering-kept laws size all row left none gathering in
          omega (arith, count, few))
          c.slots_of.ensures;
    }
