use Rattle.std.proofs.Common.{subst}
use Rattle.pure_try.proofs.AnswerLaws.{IsLeast, least-within, methods-are, tried-none, tried-some}
use Rattle.pure_try.proofs.named.first_method.Goals as goal

pub returns-in-None : goal.returns-in-None
returns-in-None g c =
    tried-none c.args.names.now c.args.duty.now _ c.as_slice.result.now (methods-are c.args.names.now c.args.duty.now _ _ c.in_ok-methods.ensures c.theory_of.ensures) c.as_slice.ensures.value
    (subst (IsLeast c.args.names.now c.args.duty.now c.as_slice.result.now) c.in-None.is c.in_ok-winner.ensures)

pub method_at-requires : goal.method_at-requires
method_at-requires g c =
    least-within c.args.names.now c.args.duty.now _ c.as_slice.result.now _ c.as_slice.ensures.value c.as_slice-in-Some.ensures.value c.in-Some.place
    (subst (IsLeast c.args.names.now c.args.duty.now c.as_slice.result.now) c.in-Some.is c.in_ok-winner.ensures)

pub returns : goal.returns
returns g c =
    tried-some c.args.names.now c.args.duty.now _ c.as_slice.result.now _ (methods-are c.args.names.now c.args.duty.now _ _ c.in_ok-methods.ensures c.theory_of.ensures) c.as_slice.ensures.value c.as_slice-in-Some.ensures.value c.in-Some.place
    (subst (IsLeast c.args.names.now c.args.duty.now c.as_slice.result.now) c.in-Some.is c.in_ok-winner.ensures) _ c.in_ok-method-in-Some.ensures
