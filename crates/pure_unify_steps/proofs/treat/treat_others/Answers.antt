use Rattle.std.proofs.Common.{sym, ◌∙◌}
use Rattle.pure_unify_steps.proofs.TreatLaws.{left_flexible, right_flexible, rigid}
use Rattle.pure_unify_steps.proofs.treat.treat_others.Goals as goal

pub returns-then-is_flexible : goal.returns-then-is_flexible
returns-then-is_flexible c = left_flexible c.args.l.now c.args.r.now (sym c.is_flexible.ensures ∙ c.if-is_flexible.true)

pub returns-then-is_flexible-2 : goal.returns-then-is_flexible-2
returns-then-is_flexible-2 c = right_flexible c.args.l.now c.args.r.now (sym c.is_flexible-2.ensures ∙ c.if-is_flexible-2.true)

pub returns : goal.returns
returns c =
    rigid c.args.l.now c.args.r.now c.head.result.now c.head-2.result.now c.in_ok-how.how (sym c.is_flexible.ensures ∙ c.if-is_flexible.false) (sym c.is_flexible-2.ensures ∙ c.if-is_flexible-2.false) c.head.ensures c.head-2.ensures c.in_ok-how.ensures
