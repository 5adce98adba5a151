use Rattle.pure_pool.proofs.EndLaws.{served-all, closed-executed}
use Rattle.pure_pool.proofs.executed.closed_with.Goals as goal

pub close-closed-requires-clause-board : goal.close-closed-requires-clause-board
close-closed-requires-clause-board g c κs within = (served-all _ _ _ _ c.requires.back.1.opened c.requires.back.1.served).plans

pub close-closed-requires-clause-opened : goal.close-closed-requires-clause-opened
close-closed-requires-clause-opened g c κs within =
    let served = served-all _ _ _ _ c.requires.back.1.opened c.requires.back.1.served in
    (c.requires.back.0, c.requires.back.1.some, served.openings, served.all)

pub returns-clause-executed : goal.returns-clause-executed
returns-clause-executed g c o back =
    closed-executed _ _ _ _ _ _ _ _ c.close-closed.result c.ended.result back.some (served-all _ _ _ _ back.opened back.served) c.close-closed.ensures.ended c.close-closed.ensures.seats c.ended.ensures.same c.ended.ensures.goes_on
