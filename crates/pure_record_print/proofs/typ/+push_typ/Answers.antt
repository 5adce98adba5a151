use Rattle.std.proofs.Common.{arith}
use Rattle.pure_definitions.proofs.TypsLemmas.{typ_depth-item}
use Rattle.pure_print.proofs.TypLemmas.{rest-taken}
use Rattle.pure_record_print.proofs.PrintLemmas.{arguments-written}
use Rattle.pure_record_print.proofs.typ.+push_typ.Goals as goal

pub push_arguments-returns : goal.push_arguments-returns
push_arguments-returns t c =
    arguments-written c.args.names.now c.args.args.now c.index-args-0.result _ _ _ _ _ c.if-args-eq0.false c.index-args-0.is c.in_ok-extend_from_slice.ensures.items c.in_ok-push_typ.ensures
    (rw (rest-taken c.args.args.now) at c.in_ok-push_more_arguments.ensures) c.in_ok-extend_from_slice-2.ensures.items

pub push_more_arguments-push_typ-requires : goal.push_more_arguments-push_typ-requires
push_more_arguments-push_typ-requires t c =
    let inside = typ_depth-item c.args.args.now c.loop-arg.arg-index c.arg-item.result c.loop-arg-test.true c.arg-item.is in
    (omega arith, tt)
