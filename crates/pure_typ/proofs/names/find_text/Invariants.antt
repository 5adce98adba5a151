use Rattle.std.proofs.Common.{◌++◌, ◌-◌}
use Rattle.pure_typ.proofs.NamesLemmas.{Narrows}
use Rattle.pure_typ.proofs.names.find_text.Given as goal

abbrev pub invariant-loop-low : goal.invariant-loop-low
invariant-loop-low l = Narrows l.texts (l.a ++ (l.b ++ l.c)) l.low l.high

abbrev pub decreases-loop-low : goal.decreases-loop-low
decreases-loop-low l = l.high - l.low
