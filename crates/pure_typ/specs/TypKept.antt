-- The measures that are kept beside the arguments of a constructor.
use Rattle.std.specs.Prelude.{◌≡◌}
use Rattle.pure_definitions.specs.Types.Typ.{Typs, typs_of, typs_size, typs_depth}
use Rattle.pure_definitions.specs.Terms.Measures.{kept_count, typs_index_above, are_ground}
use Rattle.pure_typ.specs.declared.typ.ArgsKept.{ArgsKept}
use Rattle.pure_typ.specs.declared.typ.Args.{Args}
use Rattle.pure_typ.specs.declared.typ.Args.TheVariants.{Nullary, Shared}
use Rattle.pure_typ.specs.declared.typ.TypNode.{TypNode}
use Rattle.pure_typ.specs.declared.typ.TypNode.TheVariants.{TFree, TVar, Con}

-- The measures are those of the types.
pub record AreMeasures (ts : Typs) (kept : ArgsKept) : Type 0 where
  pub size : kept.size ≡ kept_count (typs_size ts)
  pub depth : kept.depth ≡ kept_count (typs_depth ts)
  pub above : kept.above ≡ typs_index_above ts
  pub ground : kept.ground ≡ are_ground ts

-- The measures that are kept with the arguments are theirs.
abbrev pub AreArgsMeasured : Args → Type 0
AreArgsMeasured Nullary = Unit {0}
AreArgsMeasured (Shared list) = AreMeasures (typs_of list.value.types.items) list.value.kept

abbrev pub IsNodeMeasured : TypNode → Type 0
IsNodeMeasured (TFree x s) = Unit {0}
IsNodeMeasured (TVar x i s) = Unit {0}
IsNodeMeasured (Con k args) = AreArgsMeasured args
