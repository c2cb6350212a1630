use Rattle.std.proofs.Common.{◌≡◌, ◌≤◌, ◌+◌, ◌-◌, vec_len}
use Rattle.std.specs.Io.KnownBytes.{Consumes}
use Rattle.gta_port.proofs.reading.read_all.Given as goal

abbrev pub invariant-loop-block : goal.invariant-loop-block
invariant-loop-block g l =
    let m = g.S.Source in
    record {
      within : vec_len l.bytes ≤ l.limit + 1;
      taken : Consumes (m.left l.fn.source) (m.left l.source) l.bytes.items;
      steady : m.faults l.source ≡ m.faults l.fn.source;
    }

abbrev pub decreases-loop-block : goal.decreases-loop-block
decreases-loop-block g l = l.limit + 1 - vec_len l.bytes
