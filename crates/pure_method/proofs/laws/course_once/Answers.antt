use Rattle.pure_method.proofs.CourseLaws.{course_once}
use Rattle.pure_method.proofs.laws.course_once.Goals as goal

pub returns : goal.returns
returns c = course_once
