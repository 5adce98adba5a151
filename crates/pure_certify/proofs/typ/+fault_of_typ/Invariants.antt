use Rattle.std.proofs.Common.{◌+◌, ◌*◌, take}
use Rattle.pure_definitions.specs.Types.Typ.{typ_depth, typs_depth, typs_of}
use Rattle.pure_definitions.specs.Declarations.Certified.{AreCertifiedTyps}
use Rattle.pure_certify.proofs.typ.+fault_of_typ.Given as goal

abbrev pub decreases-fault_of_typ : goal.decreases-fault_of_typ
decreases-fault_of_typ g l = 2 * typ_depth l.t.now

abbrev pub decreases-fault_of_types : goal.decreases-fault_of_types
decreases-fault_of_types g l = 2 * typs_depth (typs_of l.types.now) + 1

-- the types so far are certified
abbrev pub invariant-fault_of_types-loop-t : goal.invariant-fault_of_types-loop-t
invariant-fault_of_types-loop-t g l = AreCertifiedTyps (g.D.Tables.declarations l.tables) (typs_of (take l.t-index l.types))
