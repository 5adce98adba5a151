use Rattle.std.proofs.Common.{◌∙◌}
use Rattle.pure_typ.specs.TypView.{args_list}
use Rattle.pure_tunify.proofs.MeetingLaws.{arguments_are}
use Rattle.pure_tunify.proofs.meeting.arguments.Goals as goal

pub returns-in-Con : goal.returns-in-Con
returns-in-Con c = λ k ts e. c.as_slice.ensures ∙ arguments_are c.in-Con.name k (args_list c.in-Con.args) ts ((rw c.in-Con.is at c.t.view_is) ∙ e)
