use Rattle.std.proofs.Common.{◌≡◌, ◌++◌, ◌-◌, map, drop, length}
use Rattle.pure_try.specs.declared.method.Method.TheVariants.{Rule}
use Rattle.pure_try.specs.Methods.{declared_facts, methods_of}
use Rattle.pure_try.proofs.facts.methods.Given as goal

abbrev pub invariant-decls : goal.invariant-decls
invariant-decls l = l.methods.items ++ map Rule (declared_facts l.names (drop l.place l.theory.declarations)) ≡ methods_of l.names l.theory

abbrev pub decreases-decls : goal.decreases-decls
decreases-decls l = length l.theory.declarations - l.place
