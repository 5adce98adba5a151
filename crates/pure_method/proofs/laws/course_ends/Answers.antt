use Rattle.pure_method.proofs.CourseLaws.{course_ends}
use Rattle.pure_method.proofs.laws.course_ends.Goals as goal

pub returns : goal.returns
returns c = course_ends
