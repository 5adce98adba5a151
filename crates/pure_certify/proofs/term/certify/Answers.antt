use Rattle.pure_certify.proofs.TermLemmas.{first_fault-is_fault, certified-ok}
use Rattle.pure_certify.proofs.term.certify.Goals as goal

pub returns-in-Some-clause-answer : goal.returns-in-Some-clause-answer
returns-in-Some-clause-answer g c =
    let fault = rw c.in-Some.is at c.in_ok-fault.ensures in
    first_fault-is_fault (g.D.Tables.declarations c.args.tables.now) c.args.t.now c.in-Some.fault fault

pub returns-in-None-clause-answer : goal.returns-in-None-clause-answer
returns-in-None-clause-answer g c =
    let parts = rw c.in-None.is at c.in_ok-fault.ensures in
    c.certified_typ.ensures (g.D.Tables.declarations c.args.tables.now) parts

pub returns-in-None-clause-certified : goal.returns-in-None-clause-certified
returns-in-None-clause-certified g c =
    let parts = rw c.in-None.is at c.in_ok-fault.ensures in
    certified-ok (g.D.Tables.declarations c.args.tables.now) c.args.t.now c.certified_typ.result (c.certified_typ.ensures (g.D.Tables.declarations c.args.tables.now) parts)
