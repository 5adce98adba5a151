-- The terms inside a term are less deep.
use Rattle.std.specs.Prelude.{◌≤◌, max}
use Rattle.std.proofs.Common.{arith}
use Rattle.pure_term.specs.declared.term.TermNode.{TermNode}
use Rattle.pure_term.specs.declared.term.TermNode.TheVariants.{Const, Free, Var, Bound, Abs, App}
use Rattle.pure_term.specs.declared.term.Term.TheDeep.{deep-TermNode}
use Rattle.pure_definitions.specs.Terms.Term.{term_depth}
use Rattle.pure_term.specs.TermView.{view_term}

pub depth_le-term_depth : (n : TermNode) → max (deep-TermNode n) 0 ≤ term_depth (view_term n)
depth_le-term_depth (Const c T) = omega arith
depth_le-term_depth (Free x T) = omega arith
depth_le-term_depth (Var x i T) = omega arith
depth_le-term_depth (Bound n) = omega arith
depth_le-term_depth (Abs kept T b) = omega arith
depth_le-term_depth (App kept f a) = omega arith
