use Rattle.pure_session.proofs.names.united.Goals as goal

pub both-requires-clause-right : goal.both-requires-clause-right
both-requires-clause-right c = rw c.in-Ok.is at c.requires.right

pub returns-in-Ok : goal.returns-in-Ok
returns-in-Ok c first second left right = c.both.ensures first second left (rw c.in-Ok.is at right)
