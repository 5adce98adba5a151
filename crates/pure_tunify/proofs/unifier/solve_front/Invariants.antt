use Rattle.pure_tunify.specs.Passes.{HasCome}
use Rattle.pure_tunify.proofs.unifier.solve_front.Given as goal

abbrev pub invariant-loop-i : goal.invariant-loop-i
invariant-loop-i l = HasCome l.order l.initial.settings.index l.initial.settings.next l.pairs l.i l.settings
