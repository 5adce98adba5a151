use Rattle.std.proofs.Common.{ap, sym, subst}
use Rattle.pure_logic.specs.Derivable.{Theorem}
use Rattle.pure_goal_rules.specs.Rules.{IsFactProposition}
use Rattle.pure_goal_rules.proofs.RuleLaws.{rule_is}
use Rattle.pure_goal_rules.proofs.rule.rule_of.Goals as goal

pub raised_form-requires : goal.raised_form-requires
raised_form-requires c = subst IsFactProposition (ap (λ (t : Theorem). t.prop) (sym c.fact.view_is)) c.requires.fact

pub returns : goal.returns
returns c = λ s e.
    rule_is s c.args.fact.now c.args.goal c.args.index c.in_ok-above.above c.in_ok-by.by e c.requires.index c.in_ok-above.ensures c.in_ok-by.ensures c.fact.inside.prop c.in_ok-apart.ensures.form c.in_ok-apart.apart
    (ap (λ (t : Theorem). t.prop) c.fact.view_is) c.in_ok-apart.ensures.long c.in_ok-apart.ensures.is c.new-premises.result.items c.strip.new.premises.items c.new-premises.ensures.items c.in_ok-conclusion.conclusion c.in_ok-conclusion.ensures
