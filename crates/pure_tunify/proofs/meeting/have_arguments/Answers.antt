use Rattle.pure_tunify.proofs.MeetingLaws.{both_arguments}
use Rattle.pure_tunify.proofs.meeting.have_arguments.Goals as goal

pub returns-in-Con : goal.returns-in-Con
returns-in-Con c = rw (← c.left.view_is, c.in-Con.is, ← c.as_slice-args.ensures) (both_arguments c.has_arguments-same.result c.in-Con.name c.as_slice-args.result.now c.args.right.now c.has_arguments-same.ensures)
