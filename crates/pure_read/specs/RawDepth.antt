-- How deep trees are.
use Rattle.std.specs.Prelude.{ℕ, ◌+◌, max}
use Rattle.pure_grammar.specs.Terms.RawTree.{RawTypTree, Var, Con, RawTypTrees, none, also, RawTree, Leaf, Abs, App, Typed}

-- the count of nodes on the longest path from the root
abbrev mutual
  pub raw_typ_depth : RawTypTree → ℕ
  raw_typ_depth (Var at kind text sort) = 1
  raw_typ_depth (Con at name args) = 1 + raw_typs_depth args

  pub raw_typs_depth : RawTypTrees → ℕ
  raw_typs_depth none = 0
  raw_typs_depth (also t ts) = max (raw_typ_depth t) (raw_typs_depth ts)

-- the same of a term, types apart
abbrev pub raw_depth : RawTree → ℕ
raw_depth (Leaf at kind text) = 1
raw_depth (Abs at var typ body) = 1 + raw_depth body
raw_depth (App at fun arg) = 1 + max (raw_depth fun) (raw_depth arg)
raw_depth (Typed at term typ) = 1 + raw_depth term
