use Rattle.pure_plays.proofs.SeatsLaws.{written-plans, written-all}
use Rattle.pure_plays.proofs.plays.play_closed.Goals as goal

pub close-closed-requires-clause-board : goal.close-closed-requires-clause-board
close-closed-requires-clause-board g c κs =
    written-plans _ _ _ _ c.as_mut_slice.result.now c.play-right.new.seats c.in_ok-board.ensures.seats c.as_mut_slice.ensures.value c.as_mut_slice.ensures.len c.play-right.ensures

pub close-closed-requires-clause-opened : goal.close-closed-requires-clause-opened
close-closed-requires-clause-opened g c κs =
    written-all _ _ _ _ c.as_mut_slice.result.now c.play-right.new.seats c.requires.some c.in_ok-board.ensures.seats c.as_mut_slice.ensures.value c.as_mut_slice.ensures.len c.play-right.ensures
