use Rattle.pure_promise_rows.proofs.PairLemmas.{under_pair}
use Rattle.pure_promise_rows.proofs.paired.under.Goals as goal

pub returns-in-Ok : goal.returns-in-Ok
returns-in-Ok c =
    let stands = c.may_stand.ensures c.if-not-may_stand.false in
    rw c.in-Ok.ensures (under_pair c.args.theory.now c.args.th.now c.args.pair.now c.requires stands.0 stands.1)
