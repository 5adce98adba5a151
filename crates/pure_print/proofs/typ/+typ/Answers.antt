use Rattle.std.proofs.Common.{sym, ◌∙◌, arith}
use Rattle.pure_definitions.proofs.TypsLemmas.{typ_depth-item}
use Rattle.pure_print.proofs.TypLemmas.{one-written, arrow-written, several-written, rest-taken}
use Rattle.pure_print.proofs.typ.+typ.Goals as goal

pub push_applied-returns-then-args-eq1 : goal.push_applied-returns-then-args-eq1
push_applied-returns-then-args-eq1 t c =
    one-written c.args.names.now c.args.constructor c.args.args.now c.index-args-0.result _ _ _ _ c.if-args-eq1.true c.index-args-0.is c.in_ok-push_operand.ensures c.in_ok-push.ensures.items
    c.in_ok-push_typ_name.ensures

pub push_applied-returns-then-is_arrow_of : goal.push_applied-returns-then-is_arrow_of
push_applied-returns-then-is_arrow_of t c =
    arrow-written c.args.names.now c.args.constructor c.args.args.now c.index-args-0-then-is_arrow_of.result c.index-args-1.result _ _ _ _ (sym c.is_arrow_of.ensures ∙ c.if-is_arrow_of.true)
    c.index-args-0-then-is_arrow_of.is c.index-args-1.is c.in_ok-push_operand-2.ensures c.in_ok-extend_from_slice.ensures.items c.in_ok-push_typ.ensures

pub push_applied-returns : goal.push_applied-returns
push_applied-returns t c =
    several-written c.args.names.now c.args.constructor c.args.args.now c.index-args-0-2.result _ _ _ _ _ _ (sym c.is_arrow_of.ensures ∙ c.if-is_arrow_of.false) c.if-args-eq0.false c.if-args-eq1.false
    c.index-args-0-2.is c.in_ok-push-2.ensures.items c.in_ok-push_typ-2.ensures (rw (rest-taken c.args.args.now) at c.in_ok-push_more_typs.ensures) c.in_ok-extend_from_slice-2.ensures.items c.in_ok-push_typ_name-2.ensures

pub push_more_typs-push_typ-requires : goal.push_more_typs-push_typ-requires
push_more_typs-push_typ-requires t c =
    let inside = typ_depth-item c.args.args.now c.loop-arg.arg-index c.arg-item.result c.loop-arg-test.true c.arg-item.is in
    (omega arith, tt)
