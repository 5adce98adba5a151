use Rattle.std.proofs.Common.{◌∙◌}
use Rattle.pure_record.specs.Seen.{seen_lines}
use Rattle.pure_replay.specs.Step.{plain_content}
use Rattle.pure_replay.proofs.LoopLaws.{concluded-last, concluded-fault}
use Rattle.pure_replay.proofs.lines.last_proposition.Goals as goal

pub returns-in-Ok : goal.returns-in-Ok
returns-in-Ok c =
    concluded-last (plain_content c.args.declared.now) (seen_lines c.args.nodes.now) _ c.in-Ok.ensures.0 c.in-Ok.ensures.1 (c.deref.ensures.value ∙ c.in-Ok.ensures.2) c.last_of.result c.last_of.ensures

pub returns-in-Err : goal.returns-in-Err
returns-in-Err c = concluded-fault (plain_content c.args.declared.now) (seen_lines c.args.nodes.now) c.in-Err.fault c.in-Err.ensures
