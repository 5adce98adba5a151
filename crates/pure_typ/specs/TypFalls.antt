-- The types inside a type are less deep.
use Rattle.std.specs.Prelude.{◌+◌, ◌≤◌, max, List, [], ◌∷◌}
use Rattle.std.proofs.Common.{arith}
use denote.Param.Weighed.{most}
use Rattle.pure_typ.specs.declared.typ.Args.TheVariants.{Nullary, Shared}
use Rattle.pure_typ.specs.declared.typ.TypNode.{TypNode}
use Rattle.pure_typ.specs.declared.typ.TypNode.TheVariants.{TFree, TVar, Con}
use Rattle.pure_typ.specs.declared.typ.Typ.TheDeep.{deep-TypNode}
use Rattle.pure_definitions.specs.Types.Typ.{Typ, typ_depth, typs_depth, typs_of}
use Rattle.pure_typ.specs.TypView.{view_typ}

-- no type of a list is deeper than the list
pub most_le-typs_depth : (ts : List Typ) → most (λ t. typ_depth t + 1) ts ≤ 1 + typs_depth (typs_of ts)
most_le-typs_depth [] = omega arith
most_le-typs_depth (t ∷ ts) = omega (arith, most_le-typs_depth ts)

pub depth_le-typ_depth : (n : TypNode) → max (deep-TypNode n) 0 ≤ typ_depth (view_typ n)
depth_le-typ_depth (TFree x s) = omega arith
depth_le-typ_depth (TVar x i s) = omega arith
depth_le-typ_depth (Con k Nullary) = omega arith
depth_le-typ_depth (Con k (Shared list)) = omega (arith, most_le-typs_depth list.value.types.items)
