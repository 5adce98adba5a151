use Rattle.std.proofs.Common.{◌∙◌, sym}
use Rattle.pure_record.proofs.DotLemmas.{before-at, before-next, before-end}
use Rattle.pure_record.proofs.lexing.before_dot.Goals as goal

pub returns-then-byte-eq46 : goal.returns-then-byte-eq46
returns-then-byte-eq46 c = sym (c.loop-at.invariant ∙ before-at c.args.bytes.now c.loop-at.at c.loop-at-test.true c.if-byte-eq46.true)

pub loop-at-preserved : goal.loop-at-preserved
loop-at-preserved c = c.loop-at.invariant ∙ before-next c.args.bytes.now c.loop-at.at c.loop-at-test.true c.if-byte-eq46.false

pub returns : goal.returns
returns c = sym (c.loop-at.invariant ∙ before-end c.args.bytes.now c.loop-at.at c.loop-at-test.false)
