use Rattle.std.proofs.Common.{◌≡◌, take_all, inl, inr}
use Rattle.pure_definitions.specs.Types.Order.{Arity}
use Rattle.pure_order_tables.specs.ArityView.{arity_of}
use Rattle.pure_order_tables.specs.declared.tables.ArityEntry.{ArityEntry}
use Rattle.pure_text.proofs.AnswerLaws.{test_fails}
use Rattle.pure_text.proofs.ListLaws.{any-map, in-map, read_in}
use Rattle.pure_order_tables.proofs.ArityTableLaws.{arity_in, none_for}
use Rattle.pure_text.proofs.LoopLaws.{any_turn}
use Rattle.pure_order_tables.proofs.tables.Tables.arity.Goals as goal

pub returns-in_default : goal.returns-in_default
returns-in_default c = none_for c.args.self.now c.args.con c.args.class c.in_default.ensures

pub returns-then-is_for : goal.returns-then-is_for
returns-then-is_for c = arity_in c.get-arity.result.now c.args.con c.args.class c.sorts.result.now c.args.self.now.arities (c.is_for.ensures.0 c.if-is_for.true) c.sorts.ensures
    (rw c.arities-arities.ensures.are at (in-map arity_of c.get-arity.result.now c.arities-arities.result.now (read_in c.arities-arities.result.now c.loop-i.i c.get-arity.result.now (rw c.len-i-end.ensures at c.loop-i-test.true) c.get-arity.ensures)))

pub loop-i-preserved : goal.loop-i-preserved
loop-i-preserved c m = elim ((any_turn (λ (e : ArityEntry). (e.con ≡ c.args.con) × (e.class ≡ c.args.class)) c.arities-arities.result.now c.loop-i.i c.get-arity.result.now (rw c.len-i-end.ensures at c.loop-i-test.true) c.get-arity.ensures).0 m) [
  | inl before ↦ c.loop-i.invariant before
  | inr here ↦ test_fails _ c.is_for.result c.is_for.ensures c.if-is_for.false here
]

pub returns : goal.returns
returns c m = c.loop-i.invariant (rw (take_all c.loop-i.i c.arities-arities.result.now (rw c.len-i-end.ensures at c.loop-i-test.false))
    ((any-map arity_of (λ (b : Arity). (b.con ≡ c.args.con) × (b.class ≡ c.args.class)) c.arities-arities.result.now).0 (rw c.arities-arities.ensures.are m)))
