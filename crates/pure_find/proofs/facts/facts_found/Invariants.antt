use Rattle.std.proofs.Common.{◌-◌, length}
use Rattle.pure_find.proofs.FactLaws.{IsFoundTo}
use Rattle.pure_find.proofs.facts.facts_found.Given as goal

abbrev pub invariant-decls : goal.invariant-decls
invariant-decls l = IsFoundTo l.names l.theory l.long l.place l.finding

abbrev pub decreases-decls : goal.decreases-decls
decreases-decls l = length l.theory.declarations - l.place
