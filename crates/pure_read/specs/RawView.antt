-- What nodes of trees are seen as.
use Rattle.std.specs.Prelude.{Option, Some, None, Box}
use Rattle.std.specs.declared.alloc.Global.{Global}
use Rattle.pure_read.specs.declared.raw.RawTypNode.{RawTypNode}
use Rattle.pure_read.specs.declared.raw.RawTypNode.TheVariants.{Var, Con}
use Rattle.pure_read.specs.declared.raw.RawNode.{RawNode}
use Rattle.pure_read.specs.declared.raw.RawNode.TheVariants.{Leaf, Abs, App, Typed}
use Rattle.pure_grammar.specs.Terms.RawTree as tree

abbrev pub view_raw_typ : RawTypNode → tree.RawTypTree
view_raw_typ (Var at kind text sort) = tree.Var at kind text sort.items
view_raw_typ (Con at name args) = tree.Con at name (tree.raw_typs_of args.items)

-- the type that is written of a binder, if one is
abbrev pub seen_annotation : Option (Box tree.RawTypTree Global) → Option tree.RawTypTree
seen_annotation None = None
seen_annotation (Some b) = Some b.value

abbrev pub view_raw : RawNode → tree.RawTree
view_raw (Leaf at kind text) = tree.Leaf at kind text
view_raw (Abs at var typ body) = tree.Abs at var (seen_annotation typ) body.value
view_raw (App at fun arg) = tree.App at fun.value arg.value
view_raw (Typed at term typ) = tree.Typed at term.value typ.value
