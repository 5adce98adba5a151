use Rattle.pure_goal_steps.specs.Steps.{indexed}
use Rattle.pure_goal_rules.proofs.RuleLaws.{ok_map}
use Rattle.pure_resolve.specs.Uses.{IsRuleAttempt, IsFactAttempt}
use Rattle.pure_resolve.proofs.UseLaws.{fact_attempt}
use Rattle.pure_resolve.proofs.resolve.attempt_by.Goals as goal

pub returns : goal.returns
returns c = λ s is.
    ok_map (IsRuleAttempt c.args.parts.now c.in_ok-resolver.resolver) (IsFactAttempt (indexed s) c.args.fact.now c.args.parts.now)
    (λ t a. fact_attempt (indexed s) c.args.fact.now c.args.parts.now c.in_ok-resolver.resolver (c.in_ok-resolver.ensures s is) t a) c.attempt_with-attempt.result c.attempt_with-attempt.ensures
