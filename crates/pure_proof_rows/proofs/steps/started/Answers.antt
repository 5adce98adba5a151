use Rattle.std.proofs.Common.{◌≡◌, List, []}
use Rattle.pure_definitions.specs.Names.{Label}
use Rattle.pure_goal_steps.specs.Steps.{BeginsAs}
use Rattle.pure_proof_rows.proofs.StepLaws.{theory_content, begun, proposition}
use Rattle.pure_proof_rows.proofs.steps.started.Goals as goal

pub start-requires : goal.start-requires
start-requires c = (c.in-Ok.typ, c.in-Ok.ensures.answer.1)

pub returns : goal.returns
returns c =
    let q = theory_content c.args.theory.now c.requires in
    begun c.args.theory.now (BeginsAs c.args.statement.now) (λ (rests : List Label). rests ≡ []) q c.start.result c.start.ensures.answer
    (c.start.ensures.derivable q (proposition c.args.theory.now c.args.statement.now c.in-Ok.typ c.in-Ok.ensures.certified c.in-Ok.ensures.answer.1 (c.is_prop.ensures.0 c.if-not-is_prop.false)))
