use Rattle.std.proofs.Common.{refl}
use Rattle.pure_text.proofs.AnswerLaws.{test_fails}
use Rattle.pure_order.proofs.FaultLaws.{unknown_class, known_arity}
use Rattle.pure_order.proofs.order.Order.add_arity.Goals as goal

pub returns-then-not-is_declared-clause-fault : goal.returns-then-not-is_declared-clause-fault
returns-then-not-is_declared-clause-fault c = rw (← c.self.view_is) (unknown_class c.self.inside.tables.classes c.args.domains.items c.as_slice.result.now c.args.class c.as_slice.ensures.value c.in_default.ensures (test_fails _ c.is_declared.result c.is_declared.ensures c.if-not-is_declared.true))

pub returns-then-has_arity-clause-fault : goal.returns-then-has_arity-clause-fault
returns-then-has_arity-clause-fault c = rw (← c.self.view_is) (known_arity c.self.inside.tables.classes c.args.con c.args.class c.args.domains.items c.as_slice.result.now c.as_slice.ensures.value c.in_default.ensures (c.is_declared.ensures.0 c.if-not-is_declared.false), c.has_arity.ensures.0 c.if-has_arity.true)

pub returns-in-Err-clause-fault : goal.returns-in-Err-clause-fault
returns-in-Err-clause-fault c = rw (← c.self.view_is) (
  known_arity c.self.inside.tables.classes c.args.con c.args.class c.args.domains.items c.as_slice.result.now c.as_slice.ensures.value c.in_default.ensures (c.is_declared.ensures.0 c.if-not-is_declared.false),
  test_fails _ c.has_arity.result c.has_arity.ensures c.if-has_arity.false,
  refl,
  refl,
  rw (c.in-Err.is, c.new-arity.ensures, c.in_ok-domains.ensures) at c.in_ok-declared.ensures.conflict,
)

pub returns-clause-new : goal.returns-clause-new
returns-clause-new c = rw (← c.self.view_is) (known_arity c.self.inside.tables.classes c.args.con c.args.class c.args.domains.items c.as_slice.result.now c.as_slice.ensures.value c.in_default.ensures (c.is_declared.ensures.0 c.if-not-is_declared.false), test_fails _ c.has_arity.result c.has_arity.ensures c.if-has_arity.false)
