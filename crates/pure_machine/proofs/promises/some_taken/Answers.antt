use Rattle.std.proofs.Common.{◌≢◌, length, refl, arith}
use Rattle.std.proofs.lemmas.Option.{slice_get_read, slice_get_within}
use Rattle.pure_machine.specs.State.{Taken}
use Rattle.pure_machine.proofs.PromiseLaws.{all_more}
use Rattle.pure_machine.proofs.promises.some_taken.Goals as goal

pub returns-then-is_taken : goal.returns-then-is_taken
returns-then-is_taken g c = (c.loop-at.at, c.index-promises-at.result, slice_get_read c.args.promises.now (length c.args.promises.now) c.loop-at.at c.index-promises-at.result refl c.loop-at-test.true c.index-promises-at.is, c.if-is_taken.ensures)

pub loop-at-preserved : goal.loop-at-preserved
loop-at-preserved g c = all_more (λ p. p.standing ≢ Taken) c.args.promises.now c.loop-at.at c.index-promises-at.result c.loop-at-test.true c.index-promises-at.is c.if-is_taken.ensures c.loop-at.invariant

pub returns : goal.returns
returns g c n p at = c.loop-at.invariant n (omega (arith, slice_get_within c.args.promises.now n p at, c.loop-at-test.false)) p at
