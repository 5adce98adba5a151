use Rattle.std.proofs.Common.{take}
use Rattle.pure_definitions.specs.Types.Typ.{typs_of}
use Rattle.pure_logic.specs.Content.{AreSchematicTyps}
use Rattle.pure_replay.proofs.schematic.+is_schematic_typ.Given as goal

abbrev pub invariant-loop-arg : goal.invariant-loop-arg
invariant-loop-arg l = AreSchematicTyps (typs_of (take l.arg-index l.args))
