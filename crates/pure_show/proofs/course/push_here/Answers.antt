use Rattle.std.proofs.Common.{sym, subst}
use Rattle.std.specs.Prelude.{[], OnOk}
use Rattle.pure_places.specs.Seen.{seen_part}
use Rattle.pure_theory_run.specs.Method.declared.proving.Place.{Place}
use Rattle.pure_show.specs.Answers.{place_of}
use Rattle.pure_show.specs.Progress.{IsPlaceWritten, seen_page}
use Rattle.pure_show.proofs.ProgressLaws.{none-written, run-within}
use Rattle.pure_show.proofs.course.push_here.Goals as goal

pub push_run-requires-clause-within : goal.push_run-requires-clause-within
push_run-requires-clause-within c = run-within c.args.names.now c.args.duty.now [] (λ n. []) c.args.proving.now.place c.in-Some.run'.now c.in-Some.ensures c.requires.proves

pub returns-in-Some-clause-written : goal.returns-in-Some-clause-written
returns-in-Some-clause-written c =
    subst (λ (p : Place). OnOk c.push_run.result (IsPlaceWritten c.args.names.now c.args.duty.now (place_of c.args.stand.now.source.now (seen_part c.args.stand.now.part.now)) (seen_page c.args.page.now) (seen_page c.push_run.new.page) p))
    (sym c.in-Some.ensures) c.push_run.ensures.written

pub returns-in-None-clause-written : goal.returns-in-None-clause-written
returns-in-None-clause-written c = none-written c.args.names.now c.args.duty.now [] (place_of c.args.stand.now.source.now (seen_part c.args.stand.now.part.now)) (seen_page c.args.page.now) c.args.proving.now.place c.in-None.ensures
