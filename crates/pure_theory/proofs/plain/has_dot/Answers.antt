use Rattle.std.proofs.Common.{take_all}
use Rattle.pure_text.proofs.AnswerLaws.{yes_as, no_as}
use Rattle.pure_lookup.proofs.PlaceLemmas.{no_dot-next}
use Rattle.pure_theory.proofs.PlainLaws.{dot_here}
use Rattle.pure_theory.proofs.plain.has_dot.Goals as goal

pub returns-then-byte-eq46 : goal.returns-then-byte-eq46
returns-then-byte-eq46 c = yes_as _ (dot_here c.args.text.now c.loop-byte.byte-index c.loop-byte-test.true c.if-byte-eq46.true)

pub loop-byte-preserved : goal.loop-byte-preserved
loop-byte-preserved c = no_dot-next c.args.text.now c.loop-byte.byte-index c.loop-byte-test.true c.if-byte-eq46.false c.loop-byte.invariant

pub returns : goal.returns
returns c = no_as _ (rw (take_all c.loop-byte.byte-index c.args.text.now c.loop-byte-test.false) at c.loop-byte.invariant)
