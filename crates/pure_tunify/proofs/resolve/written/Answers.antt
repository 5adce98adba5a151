use Rattle.pure_tunify.specs.Working.{AreWrittenOut}
use Rattle.pure_tunify.proofs.WritingLaws.{writing_ends}
use Rattle.pure_tunify.proofs.resolve.written.Goals as goal

pub returns-in_ok-map-in-Some : goal.returns-in_ok-map-in-Some
returns-in_ok-map-in-Some c =
    let done : AreWrittenOut c.args.settings.now c.args.settings.now.sets c.in-Some.done = rw c.in-Some.is at c.in_ok-found.ensures in
    writing_ends c.args.settings.now c.in-Some.done c.binds.result.now c.in_ok-map-in-Some.map done c.binds.ensures.are c.binds.ensures.distinct c.in_ok-map-in-Some.ensures
