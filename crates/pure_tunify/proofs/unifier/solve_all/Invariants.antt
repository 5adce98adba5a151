use Rattle.std.proofs.Common.{◌≡◌}
use Rattle.pure_tunify.specs.Passes.{HasCome}
use Rattle.pure_tunify.proofs.unifier.solve_all.Given as goal

abbrev pub invariant-loop-pair : goal.invariant-loop-pair
invariant-loop-pair l = record {
  come : HasCome l.order l.initial.settings.index l.initial.settings.next l.pairs l.pair-index l.settings;
  number : l.index ≡ l.pair-index;
}
