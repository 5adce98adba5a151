use Rattle.pure_pool.proofs.EndLaws.{opened-fresh, back-any}
use Rattle.pure_plays.proofs.boards.run_opened.Goals as goal

pub run-served-requires-clause-seats : goal.run-served-requires-clause-seats
run-served-requires-clause-seats g c κs within = opened-fresh _ c.requires.seats.0 _ c.requires.seats.2

pub closed_by-requires-clause-back : goal.closed_by-requires-clause-back
closed_by-requires-clause-back g c κs within = back-any (λ v. v.items) c.run-served.result _ _ c.requires.seats.0 c.requires.seats.1 c.requires.seats.2 c.run-served.ensures
