use Rattle.std.proofs.Common.{length-drop, arith}
use Rattle.std.proofs.lemmas.List.{take_rest}
use Rattle.pure_io.proofs.Growth.{Appends-take}
use Rattle.pure_io.proofs.sink.write_all.Goals as goal

pub loop-done-preserved : goal.loop-done-preserved
loop-done-preserved g c = record {
  within = omega (arith, simp (take_rest, length-drop) at c.in_ok-count.ensures.within);
  written = Appends-take _ _ _ c.args.text.now c.loop-done.done c.in_ok-count.count
      c.loop-done.invariant.written (rw take_rest at c.in_ok-count.ensures.written);
  later = omega arith;
}
