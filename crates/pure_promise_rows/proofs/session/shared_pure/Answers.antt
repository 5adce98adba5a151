use Rattle.pure_promise_rows.proofs.session.shared_pure.Goals as goal

pub returns-in-Ok : goal.returns-in-Ok
returns-in-Ok c = rw c.in-Ok.ensures c.in_ok-pure.ensures
