use Rattle.std.proofs.Common.{◌∷◌, [], take, inl, inr}
use Rattle.pure_order_tables.specs.ArityView.{arity_of, arities_of}
use Rattle.pure_text.proofs.AnswerLaws.{yes_as, test_fails}
use Rattle.pure_text.proofs.ListLaws.{in-map, in_split, read_in}
use Rattle.pure_order_tables.proofs.CoregularLaws.{one_more_arity}
use Rattle.pure_order_tables.proofs.tables.Tables.has_same.Goals as goal

pub returns-then-is_same_arity : goal.returns-then-is_same_arity
returns-then-is_same_arity c = yes_as _ (rw (c.is_same_arity.ensures.0 c.if-is_same_arity.true, ← c.arities-arities.ensures.are) (in-map arity_of c.get-other.result.now c.arities-arities.result.now (read_in c.arities-arities.result.now c.loop-i.i c.get-other.result.now (rw c.len-i-end.ensures at c.loop-i-test.true) c.get-other.ensures)))

pub loop-i-preserved : goal.loop-i-preserved
loop-i-preserved c m =
    elim (in_split (arity_of c.args.arity.now) (arities_of (take c.loop-i.i c.arities-arities.result.now)) (arity_of c.get-other.result.now ∷ []) (rw (one_more_arity c.arities-arities.result.now c.loop-i.i c.get-other.result.now (rw c.len-i-end.ensures at c.loop-i-test.true) c.get-other.ensures) at m)) [
      | inl before ↦ c.loop-i.invariant before
      | inr w ↦ elim w [ inl here ↦ test_fails _ c.is_same_arity.result c.is_same_arity.ensures c.if-is_same_arity.false here | inr none ↦ absurd none ]
    ]
