use Rattle.std.proofs.Common.{refl, sym, subst}
use Rattle.std.specs.Prelude.{Ok, Err}
use Rattle.pure_script.specs.Seen.{seen_step}
use Rattle.pure_method.specs.Running.{IsReady}
use Rattle.pure_method.proofs.ReadyLaws.{ready}
use Rattle.pure_method.proofs.RunLaws.{run-further, run-failed, step-over, may-over}
use Rattle.pure_method.proofs.FurtherLaws.{given-further, refused-stops}
use Rattle.pure_method.proofs.run.further.Goals as goal

pub stepped-requires-clause-ready : goal.stepped-requires-clause-ready
stepped-requires-clause-ready g c = subst (IsReady c.args.names.now) (sym c.theory_of.ensures.value) (ready c.args.names.now c.args.duty.now c.requires.provable c.theory_of.ensures.sound)

pub returns-in-Ok : goal.returns-in-Ok
returns-in-Ok g c = (
  run-further c.args.names.now c.args.duty.now c.requires.provable c.args.run.goal.thm c.args.run.number c.args.run.at c.requires.run (seen_step c.args.step.now) c.requires.step c.requires.close c.requires.end
      c.in-Ok.goal (step-over c.args.names.now c.theory_of.result.now c.args.duty.now.content c.theory_of.ensures.value c.lemma_of.result c.args.duty.now.lemma c.lemma_of.ensures (seen_step c.args.step.now) c.args.run.goal.thm (Ok c.in-Ok.goal) c.in-Ok.ensures.answer)
      (may-over c.theory_of.result.now c.args.duty.now.content c.theory_of.ensures.value c.in-Ok.goal c.in-Ok.ensures.may) c.place_behind-at.result c.place_behind-at.ensures,
  c.place_behind-at.ensures,
  given-further c.args.names.now c.args.duty.now c.args.run (seen_step c.args.step.now) c.requires.step c.requires.close _
      (step-over c.args.names.now c.theory_of.result.now c.args.duty.now.content c.theory_of.ensures.value c.lemma_of.result c.args.duty.now.lemma c.lemma_of.ensures (seen_step c.args.step.now) c.args.run.goal.thm (Ok c.in-Ok.goal) c.in-Ok.ensures.answer)
      c.place_behind-at.ensures refl,
)

pub returns-else-is_memory : goal.returns-else-is_memory
returns-else-is_memory g c = (
  c.requires.run,
  run-failed c.args.names.now c.args.duty.now c.requires.provable c.args.run.goal.thm c.args.run.number c.args.run.at c.requires.run (seen_step c.args.step.now) c.requires.step c.in-Err.fault c.if-is_memory.ensures
      (step-over c.args.names.now c.theory_of.result.now c.args.duty.now.content c.theory_of.ensures.value c.lemma_of.result c.args.duty.now.lemma c.lemma_of.ensures (seen_step c.args.step.now) c.args.run.goal.thm (Err c.in-Err.fault) c.in-Err.ensures.answer),
  refused-stops c.args.names.now c.args.duty.now c.args.run (seen_step c.args.step.now) c.requires.step c.in-Err.fault c.if-is_memory.ensures
      (step-over c.args.names.now c.theory_of.result.now c.args.duty.now.content c.theory_of.ensures.value c.lemma_of.result c.args.duty.now.lemma c.lemma_of.ensures (seen_step c.args.step.now) c.args.run.goal.thm (Err c.in-Err.fault) c.in-Err.ensures.answer),
)
