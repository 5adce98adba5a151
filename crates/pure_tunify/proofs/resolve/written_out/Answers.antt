use Rattle.pure_tunify.specs.Working.{HasImagesWithin, AreWrittenOut}
use Rattle.pure_tunify.proofs.WritingLaws.{makes_the_same}
use Rattle.pure_tunify.proofs.resolve.written_out.Goals as goal

pub unreachable-requires : goal.unreachable-requires
unreachable-requires c =
    let beyond : ¬ HasImagesWithin c.args.settings.now.sets = rw c.in-None.is at c.in_ok-found.ensures in
    beyond c.requires

pub returns : goal.returns
returns c =
    let done : AreWrittenOut c.args.settings.now c.args.settings.now.sets c.in-Some.done = rw c.in-Some.is at c.in_ok-found.ensures in
    makes_the_same c.args.settings.now c.in-Some.done c.args.settings.now.sets c.next.ensures.tidy.triangular done
