use Rattle.std.proofs.Common.{List, refl, ap, ◌∙◌}
use Rattle.pure_goal_steps.specs.Steps.{rule_attempt}
use Rattle.pure_goal_rules.specs.declared.item.Item.{Item}
use Rattle.pure_goal_rules.specs.Shown.{shown}
use Rattle.pure_resolve.proofs.resolve.attempt_with.Goals as goal

pub returns : goal.returns
returns c = record {
  attempt = c.in_ok-attempt.ensures ∙ ap (λ (xs : List Item). rule_attempt (shown xs) c.args.parts.now.conclusion.now c.args.resolver.now.rule.premises.items c.args.resolver.now.rule.conclusion) c.as_slice-items.ensures.value;
  maxidx = refl;
}
