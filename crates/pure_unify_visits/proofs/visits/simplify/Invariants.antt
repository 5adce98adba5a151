use Rattle.std.specs.Prelude.{Ok}
use Rattle.pure_unify_definitions.specs.Node as nodes
use Rattle.pure_unify_visits.specs.declared.scan.Turn.TheVariants.{Onward}
use Rattle.pure_unify_visits.specs.Scanned.{IsScan, IsReady, IsTurned}
use Rattle.pure_unify_visits.proofs.visits.simplify.Given as goal

abbrev pub invariant-loop : goal.invariant-loop
invariant-loop l = record {
  comes : (n : nodes.Node) → IsScan l.initial.scan n → IsTurned l.order l.maxidx n (Ok (Onward l.scan));
  ready : IsReady l.scan;
}
