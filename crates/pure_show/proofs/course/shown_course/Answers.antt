use Rattle.pure_places.specs.Seen.{seen_part}
use Rattle.pure_theory_run.specs.Method.Running.{shown_ending}
use Rattle.pure_show.specs.Answers.{place_of}
use Rattle.pure_show.specs.Progress.{seen_page}
use Rattle.pure_show.proofs.ProgressLaws.{result-shown}
use Rattle.pure_show.proofs.course.shown_course.Goals as goal

pub returns : goal.returns
returns c =
    result-shown c.args.names.now c.args.duty.now c.args.name.now (place_of c.args.stand.now.source.now (seen_part c.args.stand.now.part.now)) (seen_page c.push_course.new.page) (shown_ending c.in_ok-outcome.outcome)
    c.in_ok-outcome.ensures c.ended.result c.ended.ensures.text c.ended.ensures.clean
