use Rattle.pure_certify.proofs.MatchLemmas.{no_match-of, match-of}
use Rattle.pure_certify.proofs.ConstLemmas.{no_instance-fault, unsorted-fault, instance-sound}
use Rattle.pure_certify.proofs.constant.fault_of_instance.Goals as goal

pub returns-then-not-can : goal.returns-then-not-can
returns-then-not-can c ds order is =
    no_instance-fault ds c.args.name c.args.declared.now c.args.typ.now is
    (no_match-of c.args.declared.now c.args.typ.now _ _ c.in_ok-can.can c.empty-binds.ensures c.if-not-can.true c.in_ok-can.ensures)

pub returns-in-None : goal.returns-in-None
returns-in-None c ds order is =
    let found = match-of c.args.declared.now c.args.typ.now _ _ c.in_ok-can.can c.empty-binds.ensures c.if-not-can.false c.first_unsorted.ensures.distinct c.in_ok-can.ensures in
    instance-sound ds c.args.order.now c.args.name c.args.declared.now c.args.typ.now _ order is found.0 c.in-None.ensures.first

pub returns : goal.returns
returns c ds order is =
    let found = match-of c.args.declared.now c.args.typ.now _ _ c.in_ok-can.can c.empty-binds.ensures c.if-not-can.false c.first_unsorted.ensures.distinct c.in_ok-can.ensures in
    unsorted-fault ds c.args.order.now c.args.name c.args.declared.now c.args.typ.now _ c.in-Some.var order is c.first_unsorted.ensures.distinct found c.in-Some.ensures.first
