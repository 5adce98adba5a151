use Rattle.std.proofs.Common.{ap, sym}
use Rattle.pure_declare.specs.Notes.{Fork}
use Rattle.pure_method.proofs.StepPlaces.{step-left}
use Rattle.pure_method.proofs.duty.step_at.Goals as goal

pub returns : goal.returns
returns c =
    step-left c.duty.inside.script.items c.as_slice-steps.result.now c.args.duty.now.script c.args.at c.index-steps-at.result c.as_slice-steps.ensures.value (sym (ap (λ (f : Fork). f.script) c.duty.view_is)) c.requires c.index-steps-at.is
