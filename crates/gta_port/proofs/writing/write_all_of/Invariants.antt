use Rattle.std.proofs.Common.{length, ◌-◌, ◌≡◌, ◌≤◌, take}
use Rattle.std.specs.Io.KnownBytes.{Appends}
use Rattle.gta_port.proofs.writing.write_all_of.Given as goal

abbrev pub invariant-loop-gone : goal.invariant-loop-gone
invariant-loop-gone g l =
    let m = g.K.Sink in
    record {
      within : l.gone ≤ length l.bytes;
      front : Appends (m.gone l.fn.sink) (m.gone l.sink) (take l.gone l.bytes);
      steady : m.faults l.sink ≡ m.faults l.fn.sink;
    }

abbrev pub decreases-loop-gone : goal.decreases-loop-gone
decreases-loop-gone g l = length l.bytes - l.gone
