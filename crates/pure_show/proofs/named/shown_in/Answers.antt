use Rattle.pure_places.specs.Seen.{seen_part, seen_command}
use Rattle.pure_show.proofs.AnswerLaws.{part-is, placed-so}
use Rattle.pure_show.proofs.named.shown_in.Goals as goal

pub returns : goal.returns
returns c =
    placed-so c.args.names.now c.args.duty.now c.args.name.now c.bytes.result.now _ c.bytes.ensures (seen_part c.part_at.result.now) _
    (part-is c.as_slice-commands.result.now _ c.as_slice-commands.ensures.value c.args.duty.now.label c.command_number.result c.part_number.result c.command_number.ensures c.part_number.ensures (seen_command c.args.none.now) c.requires.none
    (seen_part c.part_at.result.now) c.part_at.ensures)
    c.shown_course.result c.shown_course.ensures
