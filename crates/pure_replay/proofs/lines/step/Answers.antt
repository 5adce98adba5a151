use Rattle.std.proofs.Common.{List, subst, sym}
use Rattle.std.specs.Prelude.{Err}
use Rattle.pure_record.specs.Seen.{seen_node}
use Rattle.pure_replay.specs.Conclusion.{Conclusion}
use Rattle.pure_replay.specs.Step.{plain_content, IsStep}
use Rattle.pure_replay.specs.Inferred.{Infers}
use Rattle.pure_replay.specs.Known.{AreNumbered}
use Rattle.pure_replay.specs.Table.{IsStepFault}
use Rattle.pure_replay.proofs.StepLaws.{fault-step, put-step}
use Rattle.pure_replay.proofs.lines.step.Goals as goal

pub returns-in-Err-clause-stepped : goal.returns-in-Err-clause-stepped
returns-in-Err-clause-stepped c =
    let Q = plain_content c.args.declared.now in
    let node = seen_node c.args.node.now in
    let old = c.args.table.now.conclusions.items in
    let left = c.args.table.now.left in
    subst (IsStepFault Q node c.args.place old left) (sym c.fault_at.ensures)
    (fault-step Q node c.args.place old left old left c.in-Err.fault (subst (λ (cs : List Conclusion). IsStep (Infers Q cs node) (Err c.in-Err.fault)) c.as_slice.ensures.value c.in-Err.ensures))

pub returns-in-Ok-clause-stepped : goal.returns-in-Ok-clause-stepped
returns-in-Ok-clause-stepped c =
    let Q = plain_content c.args.declared.now in
    let node = seen_node c.args.node.now in
    put-step Q node c.args.place c.args.table.now.conclusions.items c.args.table.now.left _ _ c.in-Ok.last (subst (λ (cs : List Conclusion). Infers Q cs node c.in-Ok.last) c.as_slice.ensures.value c.in-Ok.ensures) c.push.result c.push.ensures.put

pub returns-in-Ok-clause-numbered : goal.returns-in-Ok-clause-numbered
returns-in-Ok-clause-numbered c = c.push.ensures.numbered c.requires.numbered

pub concluded-requires-clause-numbered : goal.concluded-requires-clause-numbered
concluded-requires-clause-numbered c =
    subst (λ (cs : List Conclusion). AreNumbered c.args.table.now.known.terms.items cs c.args.table.now.known.lines.items) (sym c.as_slice.ensures.value) c.requires.numbered
