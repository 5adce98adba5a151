use Rattle.pure_places.specs.Seen.{seen_part}
use Rattle.pure_theory_run.specs.Method.Running.{steps_left}
use Rattle.pure_show.proofs.ProgressLaws.{Goes}
use Rattle.pure_show.proofs.course.push_course.Given as goal

-- what was written of the proof on its way
abbrev pub invariant-steps : goal.invariant-steps
invariant-steps l = Goes l.fn.names l.fn.duty l.fn.name l.fn.stand.source.now (seen_part l.fn.stand.part.now) l.proving l.page

abbrev pub decreases-steps : goal.decreases-steps
decreases-steps l = steps_left l.fn.duty l.proving
