-- Parts of a term, each with its row of nodes.
use Rattle.std.specs.Prelude.{◌≡◌, ◌+◌, ◌≤◌}
use Rattle.pure_definitions.specs.Terms.Term.{Term, Const, Free, Var, Bound, Abs, App, term_depth}
use Rattle.pure_norm.specs.declared.pieces.Piece.{Piece}
use Rattle.pure_norm.specs.declared.pieces.Form.{Form}
use Rattle.pure_norm.specs.declared.pieces.Form.TheVariants as form
use Rattle.pure_norm.specs.Cells.{cells_of}

-- The part's row is that of its term.
pub record IsPiece (p : Piece) : Type 0 where
  pub row : p.cells.now ≡ cells_of p.binders p.above p.term.now
  pub low : p.binders + term_depth p.term.now ≤ 10000
  pub shallow : p.above + term_depth p.term.now ≤ 10000

-- The term is a constant, a fixed variable or a schematic one.
abbrev pub IsLeaf : Term → Type 0
IsLeaf (Const c T) = Unit {0}
IsLeaf (Free x T) = Unit {0}
IsLeaf (Var x i T) = Unit {0}
IsLeaf _ = ⊥

-- The form is that of the part, and what it has are parts.
abbrev pub IsForm : Piece → Form → Type 0
IsForm p form.Leaf = IsLeaf p.term.now
IsForm p (form.Bound place) = p.term.now ≡ Bound place
IsForm p (form.Abs T b) = (p.term.now ≡ Abs T.now b.term.now) × IsPiece b
IsForm p (form.App f a) = (p.term.now ≡ App f.term.now a.term.now) × IsPiece f × IsPiece a
