use Rattle.std.proofs.Common.{◌-◌, drop, length}
use Rattle.pure_lookup.specs.Places.{IsBest}
use Rattle.pure_lookup.proofs.find.last_of.Given as goal

-- the best of those behind
abbrev pub invariant-loop-back : goal.invariant-loop-back
invariant-loop-back g l = IsBest l.names (g.S.Scope.content l.scope) (g.S.Scope.space l.scope) l.written (drop (length l.candidates - l.back) l.candidates) l.best l.last
