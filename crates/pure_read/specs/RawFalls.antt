-- The trees inside a tree are less deep.
use Rattle.std.specs.Prelude.{◌+◌, ◌≤◌, max, List, [], ◌∷◌}
use Rattle.std.proofs.Common.{arith}
use denote.Param.Weighed.{most}
use Rattle.pure_read.specs.declared.raw.RawTypNode.{RawTypNode}
use Rattle.pure_read.specs.declared.raw.RawTypNode.TheVariants.{Var, Con}
use Rattle.pure_read.specs.declared.raw.RawTyp.TheDeep.{deep-RawTypNode}
use Rattle.pure_read.specs.declared.raw.RawNode.{RawNode}
use Rattle.pure_read.specs.declared.raw.RawNode.TheVariants.{Leaf, Abs, App, Typed}
use Rattle.pure_read.specs.declared.raw.Raw.TheDeep.{deep-RawNode}
use Rattle.pure_grammar.specs.Terms.RawTree.{RawTypTree, raw_typs_of}
use Rattle.pure_read.specs.RawDepth.{raw_typ_depth, raw_typs_depth, raw_depth}
use Rattle.pure_read.specs.RawView.{view_raw_typ, view_raw}

-- no type of a list is deeper than the list
most_le-raw_typs_depth : (ts : List RawTypTree) → most (λ t. raw_typ_depth t + 1) ts ≤ 1 + raw_typs_depth (raw_typs_of ts)
most_le-raw_typs_depth [] = omega arith
most_le-raw_typs_depth (t ∷ ts) = omega (arith, most_le-raw_typs_depth ts)

pub depth_le-raw_typ_depth : (n : RawTypNode) → max (deep-RawTypNode n) 0 ≤ raw_typ_depth (view_raw_typ n)
depth_le-raw_typ_depth (Var at kind text sort) = omega arith
depth_le-raw_typ_depth (Con at name args) = omega (arith, most_le-raw_typs_depth args.items)

pub depth_le-raw_depth : (n : RawNode) → max (deep-RawNode n) 0 ≤ raw_depth (view_raw n)
depth_le-raw_depth (Leaf at kind text) = omega arith
depth_le-raw_depth (Abs at var typ body) = omega arith
depth_le-raw_depth (App at fun arg) = omega arith
depth_le-raw_depth (Typed at term typ) = omega arith
