use Rattle.std.specs.Prelude.{[]}
use Rattle.pure_places.specs.Seen.{seen_part}
use Rattle.pure_script.specs.Seen.{seen_step}
use Rattle.pure_show.specs.Answers.{place_of}
use Rattle.pure_show.specs.Progress.{seen_page}
use Rattle.pure_show.proofs.ProgressLaws.{on-ok, pushed-over, step-written}
use Rattle.pure_show.proofs.course.push_run.Goals as goal

pub returns-clause-written : goal.returns-clause-written
returns-clause-written c =
    on-ok (step-written c.args.names.now c.args.duty.now [] (place_of c.args.stand.now.source.now (seen_part c.args.stand.now.part.now)) (seen_page c.args.page.now) (seen_page c.push.new.self) c.args.run.now _ _ c.step_at-step.ensures) c.push.result
    (pushed-over c.names.result.now c.args.names.now c.names.ensures (place_of c.args.stand.now.source.now (seen_part c.args.stand.now.part.now)) (seen_page c.args.page.now) (seen_page c.push.new.self) c.args.run.now.number (seen_step c.step_at-step.result.now) c.args.run.now.goal.thm c.push.result c.push.ensures.written)
