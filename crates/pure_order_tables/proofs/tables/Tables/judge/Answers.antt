use Rattle.std.proofs.Common.{Some, None}
use Rattle.pure_order_tables.specs.ArityView.{arity_of}
use Rattle.pure_order_tables.proofs.JudgeLaws.{extends_itself, judged}
use Rattle.pure_order_tables.proofs.ArityTableLaws.{bare_greater}
use Rattle.pure_order_tables.proofs.JudgeLaws.{bare_coregular}
use Rattle.pure_order_tables.proofs.tables.Tables.judge.Goals as goal

pub returns-then-is_bare : goal.returns-then-is_bare
returns-then-is_bare c = (
  bare_greater c.args.self.now (arity_of c.args.arity.now) c.in_ok-all_above.field-0.items c.if-is_bare.ensures c.in_ok-all_above.ensures,
  bare_coregular c.args.self.now c.requires.coregular (arity_of c.args.arity.now) c.if-is_bare.ensures,
)

pub uncovered-requires-clause-extends : goal.uncovered-requires-clause-extends
uncovered-requires-clause-extends c = extends_itself c.args.self.now

pub returns-in-Some-least_colliding : goal.returns-in-Some-least_colliding
returns-in-Some-least_colliding c = judged c.args.self.now c.are_in_order.ensures.ordered c.order_is_decided.ensures c.requires.coregular (arity_of c.args.arity.now) c.in_ok-uncovered.uncovered.items c.requires.declared c.in_ok-uncovered.ensures (Some c.in-Some-least_colliding.class) (rw c.as_slice-2.ensures.value at c.in-Some-least_colliding.ensures)

pub returns : goal.returns
returns c = (
  c.in_ok-greater-in-None.ensures,
  judged c.args.self.now c.are_in_order.ensures.ordered c.order_is_decided.ensures c.requires.coregular (arity_of c.args.arity.now) c.in_ok-uncovered.uncovered.items c.requires.declared c.in_ok-uncovered.ensures None (rw c.as_slice-2.ensures.value at c.in-None.ensures),
)
