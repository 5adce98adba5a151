use Rattle.pure_definitions.specs.Declarations.Decl.{algebra_of}
use Rattle.pure_goal_steps.specs.Steps.{indexed}
use Rattle.pure_resolve.proofs.UseLaws.{first_of_goal, fact_proposition, resolved_may, resolved_answer}
use Rattle.pure_resolve.proofs.resolve.resolved.Goals as goal

pub attempt_by-requires : goal.attempt_by-requires
attempt_by-requires g c = fact_proposition (g.B.Base.content c.args.thy.now) c.args.goal.now c.args.fact.now c.requires.may

pub followed-requires-clause-goal : goal.followed-requires-clause-goal
followed-requires-clause-goal g c = first_of_goal (g.B.Base.content c.args.thy.now) c.args.goal.now c.requires.may.step c.args.first.now c.requires.first

pub followed-requires-clause-attempt : goal.followed-requires-clause-attempt
followed-requires-clause-attempt g c =
    resolved_may (g.B.Base.content c.args.thy.now) c.args.goal.now c.args.fact.now c.requires.may c.args.first.now c.requires.first c.in_ok-parts.parts c.in_ok-parts.ensures
    (indexed c.requires.may.step.is.state) c.in_ok-attempt.field-0 (c.in_ok-attempt.ensures c.requires.may.step.is.state c.requires.may.step.is.is)

pub followed-requires-clause-set : goal.followed-requires-clause-set
followed-requires-clause-set g c = c.in_ok-rests.ensures.ascends

pub returns : goal.returns
returns g c =
    resolved_answer (algebra_of (g.B.Base.content c.args.thy.now).declarations) c.args.goal.now c.args.fact.now c.requires.may.step.is c.args.first.now c.requires.first c.in_ok-parts.parts c.in_ok-parts.ensures
    c.in_ok-attempt.field-0 (c.in_ok-attempt.ensures c.requires.may.step.is.state c.requires.may.step.is.is) c.in_ok-rests.rests.items c.in_ok-rests.ensures c.followed.result c.followed.ensures
