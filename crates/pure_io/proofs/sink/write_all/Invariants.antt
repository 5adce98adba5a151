use Rattle.std.proofs.Common.{length, ◌-◌, ◌≤◌, take}
use Rattle.pure_io.specs.Outside.{Appends}
use Rattle.pure_io.proofs.sink.write_all.Given as goal

abbrev pub invariant-loop-done : goal.invariant-loop-done
invariant-loop-done g l = record {
  within : l.done ≤ length l.text;
  written : Appends (g.S.Sink.written l.initial.out) (g.S.Sink.written l.out) (take l.done l.text);
  later : g.S.Sink.faults l.initial.out ≤ g.S.Sink.faults l.out;
}

abbrev pub decreases-loop-done : goal.decreases-loop-done
decreases-loop-done g l = length l.text - l.done
