use Rattle.std.proofs.Common.{ap, sym, ◌∙◌}
use Rattle.pure_definitions.specs.Declarations.Decl.{algebra_of}
use Rattle.pure_grammar.specs.Theories.TheoryText as tree
use Rattle.pure_script.specs.Seen.{seen_step}
use Rattle.pure_resolve.specs.GoalSteps.State.{State}
use Rattle.pure_resolve.specs.GoalSteps.Steps.{AssumptionStep, PreferStep, DeferStep}
use Rattle.pure_method.proofs.StepAnswers.{step-as, kept-step}
use Rattle.pure_method.proofs.step.stepped.Goals as goal

pub returns-in-Rule : goal.returns-in-Rule
returns-in-Rule g c = record {
  answer = step-as c.args.names.now c.args.theory.now c.args.lemma c.args.goal.now.thm (tree.Rule c.bytes.result.now) (seen_step c.args.step.now) (ap seen_step c.in-Rule.is ∙ ap tree.Rule (sym c.bytes.ensures)) c.by_rule.result c.by_rule.ensures.answer;
  may = c.by_rule.ensures.may;
}

pub returns-in-Erule : goal.returns-in-Erule
returns-in-Erule g c = record {
  answer = step-as c.args.names.now c.args.theory.now c.args.lemma c.args.goal.now.thm (tree.Erule c.bytes-in-Erule.result.now) (seen_step c.args.step.now) (ap seen_step c.in-Erule.is ∙ ap tree.Erule (sym c.bytes-in-Erule.ensures)) c.by_erule.result c.by_erule.ensures.answer;
  may = c.by_erule.ensures.may;
}

pub returns-in-Drule : goal.returns-in-Drule
returns-in-Drule g c = record {
  answer = step-as c.args.names.now c.args.theory.now c.args.lemma c.args.goal.now.thm (tree.Drule c.bytes-in-Drule.result.now) (seen_step c.args.step.now) (ap seen_step c.in-Drule.is ∙ ap tree.Drule (sym c.bytes-in-Drule.ensures)) c.by_drule.result c.by_drule.ensures.answer;
  may = c.by_drule.ensures.may;
}

pub returns-in-Unfold : goal.returns-in-Unfold
returns-in-Unfold g c = record {
  answer = step-as c.args.names.now c.args.theory.now c.args.lemma c.args.goal.now.thm _ (seen_step c.args.step.now) (ap seen_step c.in-Unfold.is) c.by_unfolding.result c.by_unfolding.ensures.answer;
  may = c.by_unfolding.ensures.may;
}

pub returns-in-Assumption : goal.returns-in-Assumption
returns-in-Assumption g c = record {
  answer = step-as c.args.names.now c.args.theory.now c.args.lemma c.args.goal.now.thm (tree.Assumption) (seen_step c.args.step.now) (ap seen_step c.in-Assumption.is) c.assumed.result
      (kept-step c.args.names.now c.args.theory.now c.requires.ready c.args.lemma (AssumptionStep (algebra_of c.args.theory.now.declarations)) c.args.goal.now.thm c.requires.set c.assumed.result c.assumed.ensures.answer);
  may = c.assumed.ensures.may;
}

pub returns-in-Prefer : goal.returns-in-Prefer
returns-in-Prefer g c = record {
  answer = step-as c.args.names.now c.args.theory.now c.args.lemma c.args.goal.now.thm (tree.Prefer c.in-Prefer.n) (seen_step c.args.step.now) (ap seen_step c.in-Prefer.is) c.preferred.result
      (kept-step c.args.names.now c.args.theory.now c.requires.ready c.args.lemma (λ (s : State). PreferStep s c.in-Prefer.n) c.args.goal.now.thm c.requires.set c.preferred.result c.preferred.ensures.answer);
  may = c.preferred.ensures.may;
}

pub returns-in-Defer : goal.returns-in-Defer
returns-in-Defer g c = record {
  answer = step-as c.args.names.now c.args.theory.now c.args.lemma c.args.goal.now.thm (tree.Defer) (seen_step c.args.step.now) (ap seen_step c.in-Defer.is) c.deferred.result
      (kept-step c.args.names.now c.args.theory.now c.requires.ready c.args.lemma (DeferStep) c.args.goal.now.thm c.requires.set c.deferred.result c.deferred.ensures.answer);
  may = c.deferred.ensures.may;
}
