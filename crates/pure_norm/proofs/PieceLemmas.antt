-- The rows of what stands below an abstraction or an application.
use Rattle.std.proofs.Common.{◌≡◌, ◌∙◌, ℕ, ◌+◌, ◌≤◌, List, [], ◌∷◌, ◌++◌, length, take, drop, ap, sym, arith}
use Rattle.std.proofs.lemmas.List.{append_assoc, length-append, length_push, take_at, drop_at, same_from_push}
use Rattle.pure_definitions.specs.Types.Typ.{Typ, typ_size, typ_depth}
use Rattle.std.specs.Prelude.{min}
use Rattle.pure_definitions.specs.Terms.Term.{Term, Abs, App, term_depth}
use Rattle.pure_norm.specs.declared.cells.Cell.{Cell}
use Rattle.pure_norm.specs.declared.cells.Cell.TheVariants.{Application, Other}
use Rattle.pure_norm.specs.declared.pieces.Piece.{Piece}
use Rattle.pure_norm.specs.Cells.{cells_of, front_in}
use Rattle.pure_norm.specs.Pieces.{IsPiece}

-- A row with a last node has that one alone, and isn't empty.
pub rest-same : (cs rest body : List Cell) (x last : Cell) → cs ≡ rest ++ x ∷ [] → cs ≡ body ++ last ∷ [] → rest ≡ body
rest-same cs rest body x last split is = (same_from_push rest body x last (sym split ∙ is)).0

last-same : (cs rest body : List Cell) (x last : Cell) → cs ≡ rest ++ x ∷ [] → cs ≡ body ++ last ∷ [] → x ≡ last
last-same cs rest body x last split is = (same_from_push rest body x last (sym split ∙ is)).1

pub not_empty : (cs body : List Cell) (last : Cell) → length cs ≡ 0 → cs ≡ body ++ last ∷ [] → ⊥
not_empty cs body last none is = let more = length_push body last in let same = ap length is in omega arith

-- an application's row with its last node behind the two others
joined : (cs f a : List Cell) (last : Cell) → cs ≡ f ++ (a ++ last ∷ []) → cs ≡ (f ++ a) ++ last ∷ []
joined cs f a last is = is ∙ sym (append_assoc f a (last ∷ []))

pub empty-sides : (cs f a : List Cell) → length cs ≡ 0 → cs ≡ f ++ (a ++ Application (length f) ∷ []) → ⊥
empty-sides cs f a none is = not_empty cs (f ++ a) (Application (length f)) none (joined cs f a (Application (length f)) is)

module _ (cs rest f a : List Cell) (x : Cell) (split : cs ≡ rest ++ x ∷ []) (is : cs ≡ f ++ (a ++ Application (length f) ∷ [])) where
  sides-rest : rest ≡ f ++ a
  sides-rest = rest-same cs rest (f ++ a) x (Application (length f)) split (joined cs f a (Application (length f)) is)

  sides-front : front_in x ≡ length f
  sides-front = ap front_in (last-same cs rest (f ++ a) x (Application (length f)) split (joined cs f a (Application (length f)) is))

  pub sides-cut : (n front : ℕ) → front ≡ front_in x → n ≡ min front (length rest) → n ≡ length f
  sides-cut n front found least =
      let long = length-append f a in
      let rests = ap length sides-rest in
      let fronts = sides-front in
      omega arith

  pub sides-fun : (n : ℕ) → n ≡ length f → take n rest ≡ f
  sides-fun n cut = rw sides-rest (take_at f a n (sym cut))

  pub sides-arg : (n : ℕ) → n ≡ length f → drop n rest ≡ a
  sides-arg n cut = rw sides-rest (drop_at f a n (sym cut))

-- the body of an abstraction
module _ (p : Piece) (T : Typ) (b : Term) (h : IsPiece p) (is : p.term.now ≡ Abs T b) where
  pub body-row : p.cells.now ≡ cells_of (p.binders + 1) (p.above + 1) b ++ Other (1 + typ_size T) (p.above + (1 + typ_depth T)) ∷ []
  body-row = h.row ∙ ap (cells_of p.binders p.above) is

  pub body-low : (p.binders + 1) + term_depth b ≤ 10000
  body-low = let low = h.low in let deep = ap term_depth is in omega arith

  pub body-shallow : (p.above + 1) + term_depth b ≤ 10000
  body-shallow = let low = h.shallow in let deep = ap term_depth is in omega arith

-- the sides of an application
module _ (p : Piece) (f a : Term) (h : IsPiece p) (is : p.term.now ≡ App f a) where
  pub sides-row : p.cells.now ≡ cells_of p.binders (p.above + 1) f ++ (cells_of p.binders (p.above + 1) a ++ Application (length (cells_of p.binders (p.above + 1) f)) ∷ [])
  sides-row = h.row ∙ ap (cells_of p.binders p.above) is

  pub fun-low : p.binders + term_depth f ≤ 10000
  fun-low = let low = h.low in let deep = ap term_depth is in omega arith

  pub arg-low : p.binders + term_depth a ≤ 10000
  arg-low = let low = h.low in let deep = ap term_depth is in omega arith

  pub fun-shallow : (p.above + 1) + term_depth f ≤ 10000
  fun-shallow = let low = h.shallow in let deep = ap term_depth is in omega arith

  pub arg-shallow : (p.above + 1) + term_depth a ≤ 10000
  arg-shallow = let low = h.shallow in let deep = ap term_depth is in omega arith
