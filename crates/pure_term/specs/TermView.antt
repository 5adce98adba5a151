-- What a node of a term is seen as.
use Rattle.pure_term.specs.declared.term.TermNode.{TermNode}
use Rattle.pure_term.specs.declared.term.TermNode.TheVariants.{Const, Free, Var, Bound, Abs, App}
use Rattle.pure_definitions.specs.Terms.Term as tree

abbrev pub view_term : TermNode → tree.Term
view_term (Const c T) = tree.Const c T
view_term (Free x T) = tree.Free x T
view_term (Var x i T) = tree.Var x i T
view_term (Bound n) = tree.Bound n
view_term (Abs kept T b) = tree.Abs T b.value
view_term (App kept f a) = tree.App f.value a.value
