use Rattle.std.proofs.Common.{◌∷◌, [], ◌++◌}
use Rattle.pure_definitions.specs.Declarations.Decl.{algebra_of}
use Rattle.pure_theorem.specs.Sets.{label_cmp, IsSetOf}
use Rattle.pure_resolve.specs.GoalSteps.State.{State}
use Rattle.pure_resolve.specs.GoalSteps.Steps.{EliminationStep}
use Rattle.pure_method.specs.Proof.{WithOne}
use Rattle.pure_method.specs.Running.{GainsNamed}
use Rattle.pure_method.proofs.ReadyLaws.{ready-fact}
use Rattle.pure_method.proofs.StepAnswers.{goes_on, may_use, by_fact, facts_fault, one_of}
use Rattle.pure_method.proofs.step.by_erule.Goals as goal

pub erule_while-answer-requires : goal.erule_while-answer-requires
erule_while-answer-requires g c =
    may_use c.args.theory.now c.args.goal.now.thm c.in-Ok.fact c.requires.goal (ready-fact c.args.names.now c.args.theory.now c.requires.ready c.args.lemma c.args.written.now c.in-Ok.fact c.in-Ok.ensures)

pub returns-in-Ok : goal.returns-in-Ok
returns-in-Ok g c =
    let algebra = algebra_of c.args.theory.now.declarations in
    record {
      answer = by_fact c.args.names.now c.args.theory.now c.requires.ready c.args.lemma (EliminationStep algebra) c.args.goal.now.thm c.in-Ok.fact c.args.written.now c.in-Ok.ensures c.erule_while-answer.result c.erule_while-answer.ensures.answer;
      may = goes_on c.args.theory.now (λ (s : State). EliminationStep algebra s c.in-Ok.fact) (IsSetOf label_cmp (c.args.goal.now.thm.rests ++ c.in-Ok.fact.rests)) c.args.goal.now.thm
          c.requires.goal.content c.erule_while-answer.result c.erule_while-answer.ensures.answer (c.erule_while-answer.ensures.derivable c.requires.ready.unify);
    }

pub returns-in-Err : goal.returns-in-Err
returns-in-Err g c = record {
  answer = facts_fault c.args.names.now c.args.theory.now c.args.lemma (λ (s : State). WithOne (EliminationStep (algebra_of c.args.theory.now.declarations) s)) (GainsNamed c.args.names.now c.args.theory.now c.args.lemma (c.args.written.now ∷ []) c.args.goal.now.thm.rests) c.args.goal.now.thm
      c.requires.goal.is (c.args.written.now ∷ []) c.in-Err.fault (one_of c.args.names.now c.args.theory.now c.args.lemma c.args.written.now c.in-Err.fault c.in-Err.ensures);
  may = tt;
}
