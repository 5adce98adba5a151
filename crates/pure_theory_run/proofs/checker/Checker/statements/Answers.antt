use Rattle.pure_theory_run.specs.Outline.{outlines}
use Rattle.pure_theory_run.proofs.CheckerLaws.{closed-turn, longer-count, closed-all, all-closed}
use Rattle.pure_theory_run.proofs.checker.Checker.statements.Goals as goal

pub loop-place-preserved : goal.loop-place-preserved
loop-place-preserved c = record {
  closed = closed-turn c.args.self.now.texts c.args.self.now.theories c.loop-place.closed.items c.push.new.self.items c.in_ok-one.one c.loop-place.duties.items c.next_closed.new.duties.items c.loop-place.place c.loop-place.invariant.closed
      c.loop-place.invariant.count c.in_ok-one.ensures c.in_ok-push.ensures.items;
  count = longer-count c.loop-place.closed.items c.push.new.self.items c.in_ok-one.one c.loop-place.place c.loop-place.invariant.count c.in_ok-push.ensures.items;
}

pub returns : goal.returns
returns c =
    closed-all c.args.self.now.texts c.args.self.now.theories (outlines c.loop-place.closed.items) c.loop-place.duties.items c.loop-place.invariant.closed
    (all-closed c.loop-place.closed.items c.theories-place-end.result.now c.args.self.now.theories c.loop-place.place c.theories-place-end.ensures c.loop-place.invariant.count c.loop-place.auto.place-end c.loop-place-test.false)
