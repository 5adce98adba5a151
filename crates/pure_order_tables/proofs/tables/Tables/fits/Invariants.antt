use Rattle.std.proofs.Common.{IsTrue}
use Rattle.pure_order_tables.specs.ArityView.{arity_of}
use Rattle.pure_order_tables.specs.Uncovered.{IsAbovePlace}
use Rattle.pure_order_tables.proofs.JudgeLaws.{AreGreaterSoFar, IsBareBefore}
use Rattle.pure_order_tables.proofs.tables.Tables.fits.Given as goal

abbrev pub invariant-loop-number : goal.invariant-loop-number
invariant-loop-number l = record {
  top : IsAbovePlace l.self (arity_of l.arity) l.top;
  bare : IsTrue l.bare → IsBareBefore l.self l.arity.con l.uncovered l.number;
  seen : AreGreaterSoFar l.self (arity_of l.arity) (λ d. ⊥) l.uncovered l.greater.items l.number;
}
