use Rattle.std.proofs.Common.{take}
use Rattle.pure_definitions.specs.Types.Typ.{typs_of}
use Rattle.pure_typ.specs.TypKept.{AreMeasures}
use Rattle.pure_typ.proofs.args.measured.Given as goal

abbrev pub invariant-loop-typ : goal.invariant-loop-typ
invariant-loop-typ l = AreMeasures (typs_of (take l.typ-index l.types)) l.kept
