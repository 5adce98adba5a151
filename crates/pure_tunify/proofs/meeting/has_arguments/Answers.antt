use Rattle.pure_tunify.proofs.MeetingLaws.{other_count}
use Rattle.pure_tunify.proofs.meeting.has_arguments.Goals as goal

pub returns-then-args-count : goal.returns-then-args-count
returns-then-args-count c = rw (← c.t.view_is, c.in-Con.is, ← c.as_slice-args.ensures) (other_count c.in-Con.other c.args.name c.args.count c.as_slice-args.result.now c.if-args-count.true)
