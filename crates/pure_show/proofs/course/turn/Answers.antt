use Rattle.pure_places.specs.Seen.{seen_part}
use Rattle.pure_show.specs.Answers.{place_of}
use Rattle.pure_show.specs.Progress.{seen_page}
use Rattle.pure_show.proofs.ProgressLaws.{fewer, if-ok, result-going}
use Rattle.pure_show.proofs.course.turn.Goals as goal

pub returns-clause-cursor : goal.returns-clause-cursor
returns-clause-cursor c = if-ok c.in_ok-push_here.ensures.cursor c.advance.result

pub returns-clause-fewer : goal.returns-clause-fewer
returns-clause-fewer c = fewer _ _ c.advance.result c.advance.ensures.outcome

pub returns-clause-going : goal.returns-clause-going
returns-clause-going c =
    result-going c.args.names.now c.args.duty.now c.args._name.now (place_of c.args.stand.now.source.now (seen_part c.args.stand.now.part.now)) (seen_page c.args.page.now) (seen_page c.push_here.new.page)
    c.args.proving.now.place c.advance.new.self.place c.requires.proves c.in_ok-push_here.ensures.written c.requires.going c.advance.result c.advance.ensures.step
