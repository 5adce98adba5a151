use Rattle.std.proofs.Common.{sym, subst, ◌∙◌}
use Rattle.pure_text.specs.Lists.{IsIn}
use Rattle.pure_tunify.proofs.ReachLaws.{on_true}
use Rattle.pure_tunify.proofs.GraphCheckLaws.{asked_read}
use Rattle.pure_tunify.proofs.demands.is_asked.Goals as goal

pub returns : goal.returns
returns c =
    subst (IsIn c.args.class) (c.as_slice-classes.ensures.value ∙ sym (asked_read c.args.asked.now c.args.node c.in-Some.own.now c.in-Some.ensures.lookup.3.0 c.in-Some.ensures.lookup.1))
    (on_true _ c.has_class.result c.has_class.ensures c.if-not-has_class.false)
