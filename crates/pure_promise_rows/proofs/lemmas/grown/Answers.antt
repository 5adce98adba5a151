use Rattle.pure_promise_rows.proofs.lemmas.grown.Goals as goal

pub promised-requires : goal.promised-requires
promised-requires c = rw c.deref.ensures c.requires

pub returns-in-Ok : goal.returns-in-Ok
returns-in-Ok c = rw c.in-Ok.ensures c.in_ok-more.ensures
