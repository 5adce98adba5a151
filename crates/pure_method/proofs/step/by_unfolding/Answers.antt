use Rattle.std.proofs.Common.{List, ◌++◌, sym, subst}
use Rattle.pure_text.specs.Lists.{Each}
use Rattle.pure_definitions.specs.Declarations.Decl.{algebra_of}
use Rattle.pure_logic.specs.Derivable.{Theorem}
use Rattle.pure_theorem.specs.Sets.{label_cmp, IsSetOf}
use Rattle.pure_resolve.specs.GoalSteps.State.{State}
use Rattle.pure_resolve.specs.Goals.{IsStep}
use Rattle.pure_method.specs.Unfolding.{UnfoldStep, all_rests}
use Rattle.pure_method.specs.Running.{GainsNamed}
use Rattle.pure_method.specs.Taking.{IsReadyFact}
use Rattle.pure_method.proofs.StepAnswers.{by_facts, all-ready, facts_fault}
use Rattle.pure_method.proofs.step.by_unfolding.Goals as goal

pub unfolded-answer-requires-clause-facts : goal.unfolded-answer-requires-clause-facts
unfolded-answer-requires-clause-facts c =
    subst (λ (ths : List Theorem). Each (IsReadyFact c.args.theory.now) ths) (sym c.deref.ensures.value) (all-ready c.args.names.now c.args.theory.now c.requires.ready c.args.lemma c.args.written.now c.in-Ok.found.items c.in-Ok.ensures.facts)

pub returns-in-Ok-clause-answer : goal.returns-in-Ok-clause-answer
returns-in-Ok-clause-answer c =
    by_facts c.args.names.now c.args.theory.now c.requires.ready c.args.lemma (UnfoldStep (algebra_of c.args.theory.now.declarations)) c.args.goal.now.thm c.in-Ok.found.items c.args.written.now c.in-Ok.ensures.facts
    c.unfolded-answer.result
    (subst (λ (ths : List Theorem). IsStep (λ (s : State). UnfoldStep (algebra_of c.args.theory.now.declarations) s ths) c.args.goal.now.thm (IsSetOf label_cmp (c.args.goal.now.thm.rests ++ all_rests ths)) c.unfolded-answer.result) c.deref.ensures.value c.unfolded-answer.ensures.answer)

pub returns-in-Err : goal.returns-in-Err
returns-in-Err c = record {
  answer = facts_fault c.args.names.now c.args.theory.now c.args.lemma (λ (s : State). UnfoldStep (algebra_of c.args.theory.now.declarations) s) (GainsNamed c.args.names.now c.args.theory.now c.args.lemma c.args.written.now c.args.goal.now.thm.rests) c.args.goal.now.thm
      c.requires.goal.is c.args.written.now c.in-Err.fault c.in-Err.ensures.fault;
  may = tt;
}
