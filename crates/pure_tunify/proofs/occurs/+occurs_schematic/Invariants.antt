use Rattle.std.proofs.Common.{take}
use Rattle.pure_definitions.specs.Types.Typ.{TVar, typs_of}
use Rattle.pure_definitions.specs.Types.Occurs.{OccursInTyps}
use Rattle.pure_tunify.proofs.occurs.+occurs_schematic.Given as goal

-- it occurs in none so far
abbrev pub invariant-loop-arg : goal.invariant-loop-arg
invariant-loop-arg l = ¬ OccursInTyps (TVar l.name l.index l.sort) (typs_of (take l.arg-index l.args))
