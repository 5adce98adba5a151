use Rattle.std.proofs.Common.{◌+◌, ◌*◌, take}
use Rattle.pure_text.specs.Lists.{Each}
use Rattle.pure_definitions.specs.Types.Typ.{typ_depth, typs_depth, typs_of}
use Rattle.pure_inst.specs.Named.{LacksTyps}
use Rattle.pure_inst.proofs.named.+lacks_typs.Given as goal

abbrev pub decreases-lacks_typs : goal.decreases-lacks_typs
decreases-lacks_typs l = 2 * typ_depth l.t.now

abbrev pub decreases-all_lack_typs : goal.decreases-all_lack_typs
decreases-all_lack_typs l = 2 * typs_depth (typs_of l.types.now) + 1

-- none is in the types so far
abbrev pub invariant-all_lack_typs-loop-typ : goal.invariant-all_lack_typs-loop-typ
invariant-all_lack_typs-loop-typ l = Each (LacksTyps l.names) (take l.typ-index l.types)
