use Rattle.std.proofs.Common.{length, refl, arith}
use Rattle.std.proofs.lemmas.Option.{slice_get_read}
use Rattle.pure_machine.proofs.PromiseLaws.{none_ready_more}
use Rattle.pure_machine.proofs.promises.ready_from.Goals as goal

pub returns-then-is_ready-clause-at : goal.returns-then-is_ready-clause-at
returns-then-is_ready-clause-at g c within = (c.index-promises-at.result, slice_get_read c.args.promises.now (length c.args.promises.now) c.loop-at.at c.index-promises-at.result refl c.loop-at-test.true c.index-promises-at.is, c.if-is_ready.ensures)

pub loop-at-preserved : goal.loop-at-preserved
loop-at-preserved g c = (none_ready_more c.args.promises.now c.loop-at.at c.index-promises-at.result c.loop-at-test.true c.index-promises-at.is c.if-is_ready.ensures c.loop-at.invariant.0, omega (arith, c.loop-at-test.true))
