use Rattle.pure_pool.proofs.EndLaws.{served-all}
use Rattle.pure_plays.proofs.boards.close_back.Goals as goal

pub close-requires-clause-board : goal.close-requires-clause-board
close-requires-clause-board g c κs within = (served-all _ _ _ _ c.requires.back.1.opened c.requires.back.1.served).plans

pub close-requires-clause-opened : goal.close-requires-clause-opened
close-requires-clause-opened g c κs within =
    let served = served-all _ _ _ _ c.requires.back.1.opened c.requires.back.1.served in
    (c.requires.back.0, c.requires.back.1.some, served.openings, served.all)
