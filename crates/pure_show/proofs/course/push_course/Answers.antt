use Rattle.pure_places.specs.Seen.{seen_part}
use Rattle.pure_show.specs.Answers.{place_of}
use Rattle.pure_show.specs.Progress.{seen_page}
use Rattle.pure_show.proofs.ProgressLaws.{first-going, less-by, none-of, some-of}
use Rattle.pure_show.proofs.course.push_course.Goals as goal

pub steps-init : goal.steps-init
steps-init c = record {
  proves = c.in_ok-proving.ensures.proves;
  cursor = c.requires.cursor;
  going = first-going c.args.names.now c.args.duty.now c.args.name.now (place_of c.args.stand.now.source.now (seen_part c.args.stand.now.part.now)) (seen_page c.args.page.now) c.requires.text c.requires.room c.in_ok-proving.proving.place c.in_ok-proving.ensures.begins;
}

pub steps-preserved : goal.steps-preserved
steps-preserved c = record {
  proves = c.in_ok-outcome.ensures.proves;
  cursor = c.in_ok-outcome.ensures.cursor;
  going = none-of _ _ c.in_ok-outcome.field-0 c.in-None.is c.in_ok-outcome.ensures.going;
}

pub steps-smaller : goal.steps-smaller
steps-smaller c = less-by _ _ (none-of _ _ c.in_ok-outcome.field-0 c.in-None.is c.in_ok-outcome.ensures.fewer)

pub returns-in-Some : goal.returns-in-Some
returns-in-Some c = some-of _ _ c.in_ok-outcome.field-0 c.in-Some.outcome c.in-Some.is c.in_ok-outcome.ensures.going
