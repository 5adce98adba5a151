-- What a node of a type is seen as.
use Rattle.std.specs.Prelude.{List, []}
use Rattle.pure_typ.specs.declared.typ.Args.{Args}
use Rattle.pure_typ.specs.declared.typ.Args.TheVariants.{Nullary, Shared}
use Rattle.pure_typ.specs.declared.typ.TypNode.{TypNode}
use Rattle.pure_typ.specs.declared.typ.TypNode.TheVariants.{TFree, TVar, Con}
use Rattle.pure_definitions.specs.Types.Typ as tree

-- the types that a constructor is applied to
abbrev pub args_list : Args → List tree.Typ
args_list Nullary = []
args_list (Shared list) = list.value.types.items

abbrev pub view_typ : TypNode → tree.Typ
view_typ (TFree x s) = tree.TFree x s
view_typ (TVar x i s) = tree.TVar x i s
view_typ (Con k args) = tree.Con k (tree.typs_of (args_list args))
