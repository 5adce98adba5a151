use Rattle.std.proofs.Common.{take}
use Rattle.pure_definitions.specs.Types.Typ.{typs_of}
use Rattle.pure_certify.specs.Bodies.{HaveExtra}
use Rattle.pure_certify.proofs.body.+has_extra.Given as goal

-- none of those so far has one
abbrev pub invariant-loop-arg : goal.invariant-loop-arg
invariant-loop-arg l = ¬ HaveExtra l.typ (typs_of (take l.arg-index l.args))
