use Rattle.std.proofs.Common.{subst, take_all}
use Rattle.pure_text.specs.Lists.{Each}
use Rattle.pure_text.proofs.ListLaws.{each_at}
use Rattle.pure_text.proofs.LoopLaws.{each_turn}
use Rattle.pure_promise_rows.specs.Grounds.{IsHeld}
use Rattle.pure_promise_rows.proofs.grounds.is_grounded.Goals as goal

pub loop-other-preserved : goal.loop-other-preserved
loop-other-preserved c = each_turn (IsHeld c.args.lemma.now) c.args.lemmas.now c.loop-other.other-index c.other-item.result c.loop-other-test.true c.other-item.is c.loop-other.invariant (c.is_held.ensures c.if-not-is_held.false)

pub returns : goal.returns
returns c = λ yes r is d stands among. each_at (IsHeld c.args.lemma.now) c.args.lemmas.now (subst (Each (IsHeld c.args.lemma.now)) (take_all c.loop-other.other-index c.args.lemmas.now c.loop-other-test.false) c.loop-other.invariant) d stands r is among
