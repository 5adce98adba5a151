use Rattle.std.proofs.Common.{◌++◌, sym, subst}
use Rattle.pure_theorem.specs.Sets.{label_cmp, IsLabelSet, IsSetOf}
use Rattle.pure_definitions.specs.Declarations.Decl.{algebra_of}
use Rattle.pure_goal_steps.specs.Steps.{indexed}
use Rattle.pure_goal_rules.specs.Shown.{shown}
use Rattle.pure_resolve.proofs.UseLaws.{first_of_goal, fact_proposition, destructed_may, destructed_all}
use Rattle.pure_resolve.proofs.hypotheses.destructed.Goals as goal

pub rule_on-requires : goal.rule_on-requires
rule_on-requires g c = fact_proposition (g.B.Base.content c.args.thy.now) c.args.goal.now c.args.fact.now c.requires.may

pub destructed_by-answer-requires-clause-first : goal.destructed_by-answer-requires-clause-first
destructed_by-answer-requires-clause-first g c = first_of_goal (g.B.Base.content c.args.thy.now) c.args.goal.now c.requires.may.step c.args.first.now c.requires.first

pub destructed_by-answer-requires-clause-may : goal.destructed_by-answer-requires-clause-may
destructed_by-answer-requires-clause-may g c = λ P As e p stands.
    destructed_may (g.B.Base.content c.args.thy.now) c.args.goal.now c.args.fact.now c.requires.may c.args.first.now c.requires.first (shown c.in_ok-parts.parts.prefix.items) c.in_ok-parts.parts.conclusion.now c.in_ok-parts.ensures
    (indexed c.requires.may.step.is.state) c.in_ok-resolver.resolver (c.in_ok-resolver.ensures c.requires.may.step.is.state c.requires.may.step.is.is) P As e p stands

pub destructed_by-answer-requires-clause-set : goal.destructed_by-answer-requires-clause-set
destructed_by-answer-requires-clause-set g c = subst IsLabelSet (sym c.deref.ensures.value) c.in_ok-rests.ensures.ascends

pub returns : goal.returns
returns g c =
    destructed_all (algebra_of (g.B.Base.content c.args.thy.now).declarations) c.args.goal.now c.args.fact.now c.requires.may.step.is c.args.first.now c.requires.first c.in_ok-parts.parts c.in_ok-parts.ensures
    c.in_ok-resolver.resolver (c.in_ok-resolver.ensures c.requires.may.step.is.state c.requires.may.step.is.is) c.deref.result.now (subst (IsSetOf label_cmp (c.args.goal.now.rests ++ c.args.fact.now.rests)) (sym c.deref.ensures.value) c.in_ok-rests.ensures) c.destructed_by-answer.result c.destructed_by-answer.ensures.none c.destructed_by-answer.ensures.some
