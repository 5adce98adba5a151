use Rattle.std.proofs.Common.{◌++◌, sym, subst}
use Rattle.pure_theorem.specs.Sets.{label_cmp, IsLabelSet, IsSetOf}
use Rattle.pure_definitions.specs.Declarations.Decl.{algebra_of}
use Rattle.pure_goal_steps.specs.Steps.{indexed}
use Rattle.pure_goal_rules.specs.Shown.{shown}
use Rattle.pure_resolve.proofs.UseLaws.{first_of_goal, fact_proposition, eliminated_may, eliminated_all}
use Rattle.pure_resolve.proofs.hypotheses.eliminated.Goals as goal

pub rule_on-requires : goal.rule_on-requires
rule_on-requires g c = fact_proposition (g.B.Base.content c.args.thy.now) c.args.goal.now c.args.fact.now c.requires.may

pub eliminated_by-answer-requires-clause-first : goal.eliminated_by-answer-requires-clause-first
eliminated_by-answer-requires-clause-first g c = first_of_goal (g.B.Base.content c.args.thy.now) c.args.goal.now c.requires.may.step c.args.first.now c.requires.first

pub eliminated_by-answer-requires-clause-may : goal.eliminated_by-answer-requires-clause-may
eliminated_by-answer-requires-clause-may g c = λ P As e p stands.
    eliminated_may (g.B.Base.content c.args.thy.now) c.args.goal.now c.args.fact.now c.requires.may c.args.first.now c.requires.first (shown c.in_ok-parts.parts.prefix.items) c.in_ok-parts.parts.conclusion.now c.in_ok-parts.ensures
    (indexed c.requires.may.step.is.state) c.in_ok-resolver.resolver (c.in_ok-resolver.ensures c.requires.may.step.is.state c.requires.may.step.is.is) P As e p stands

pub eliminated_by-answer-requires-clause-set : goal.eliminated_by-answer-requires-clause-set
eliminated_by-answer-requires-clause-set g c = subst IsLabelSet (sym c.deref.ensures.value) c.in_ok-rests.ensures.ascends

pub returns : goal.returns
returns g c =
    eliminated_all (algebra_of (g.B.Base.content c.args.thy.now).declarations) c.args.goal.now c.args.fact.now c.requires.may.step.is c.args.first.now c.requires.first c.in_ok-parts.parts c.in_ok-parts.ensures
    c.in_ok-resolver.resolver (c.in_ok-resolver.ensures c.requires.may.step.is.state c.requires.may.step.is.is) c.deref.result.now (subst (IsSetOf label_cmp (c.args.goal.now.rests ++ c.args.fact.now.rests)) (sym c.deref.ensures.value) c.in_ok-rests.ensures) c.eliminated_by-answer.result c.eliminated_by-answer.ensures.none c.eliminated_by-answer.ensures.some
