-- What a row tells of its term.
use Rattle.std.proofs.Common.{◌≡◌, ◌∙◌, ℕ, ◌+◌, ◌<◌, ◌≤◌, Bool, true, false, List, [], ◌∷◌, ◌++◌, length, drop, get_or, refl, ap, arith}
use Rattle.std.proofs.lemmas.List.{at_drop_more}
use Rattle.std.specs.Prelude.{◌-◌, max, nat_eq, if◌then◌else◌}
use Rattle.pure_definitions.specs.Types.Typ.{typ_size, typ_depth}
use Rattle.pure_definitions.specs.Terms.Term.{Term, Const, Free, Var, Bound, Abs, App, term_size, term_depth}
use Rattle.pure_norm.specs.declared.cells.Cell.{Cell}
use Rattle.pure_norm.specs.declared.cells.Cell.TheVariants.{Application, Other}
use Rattle.pure_norm.specs.declared.measure.Measure.{Measure}
use Rattle.pure_norm.specs.declared.pieces.Piece.{Piece}
use Rattle.pure_norm.specs.Cells.{cells_of, total, greatest, cell_count, cell_deepest, cell_size, cell_depth}
use Rattle.pure_norm.specs.Env.{Env, meant_under, meant}
use Rattle.pure_norm.specs.Measures.{measure_of, measures, bound_measure}
use Rattle.pure_norm.specs.Occurrences.{occurrence_count, deepest_occurrence}
use Rattle.pure_norm.specs.Pieces.{IsPiece}
use Rattle.pure_norm.proofs.MeantLemmas.{meant-leaf, meant-abs, meant-app}
use Rattle.pure_norm.proofs.MeasureLemmas.{bound-meant}
use Rattle.pure_norm.proofs.OccurrenceLemmas.{deepest-le}

-- Sums and greatest numbers of two rows, one behind the other, and one node further on in a row.
module _ (f : Cell → ℕ) where
  total-append : (xs ys : List Cell) → total f (xs ++ ys) ≡ total f xs + total f ys
  total-append [] ys = omega arith
  total-append (x ∷ xs) ys = let more = total-append xs ys in omega arith

  greatest-append : (xs ys : List Cell) → greatest f (xs ++ ys) ≡ max (greatest f xs) (greatest f ys)
  greatest-append [] ys = omega arith
  greatest-append (x ∷ xs) ys = let more = greatest-append xs ys in omega arith

  module _ (cs : List Cell) (i : ℕ) (d : Cell) (within : i < length cs) (so_far : ℕ) where
    total-more : total f (drop i cs) ≡ f (get_or cs i d) + total f (drop (i + 1) cs)
    total-more = at_drop_more (total f) cs i d within

    greatest-more : greatest f (drop i cs) ≡ max (f (get_or cs i d)) (greatest f (drop (i + 1) cs))
    greatest-more = at_drop_more (greatest f) cs i d within

    pub total-turn : so_far + total f (drop i cs) ≡ total f cs → (so_far + f (get_or cs i d)) + total f (drop (i + 1) cs) ≡ total f cs
    total-turn h = let more = total-more in omega arith

    pub greatest-turn : max so_far (greatest f (drop i cs)) ≡ greatest f cs → max (max so_far (f (get_or cs i d))) (greatest f (drop (i + 1) cs)) ≡ greatest f cs
    greatest-turn h = let more = greatest-more in omega arith

    pub greatest-room : (limit : ℕ) → max so_far (greatest f (drop i cs)) ≡ greatest f cs → greatest f cs ≤ limit → f (get_or cs i d) ≤ limit
    greatest-room limit h low = let more = greatest-more in omega arith

-- The row of an abstraction's body has the occurrences of its variable.
count-row : (b n m d : ℕ) (t : Term) → m ≡ b + n → total (cell_count b) (cells_of m d t) ≡ occurrence_count n t
count-row b n m d (Const c T) is = refl
count-row b n m d (Free x T) is = refl
count-row b n m d (Var x i T) is = refl
count-row b n m d (Bound p) is = let left : m - b ≡ n = omega arith in rw left (omega arith)
count-row b n m d (Abs T c) is =
    let body = count-row b (n + 1) (m + 1) (d + 1) c (omega arith) in
    let row = total-append (cell_count b) (cells_of (m + 1) (d + 1) c) (Other (1 + typ_size T) (d + (1 + typ_depth T)) ∷ []) in
    omega arith
count-row b n m d (App f a) is =
    let function = count-row b n m (d + 1) f is in
    let argument = count-row b n m (d + 1) a is in
    let last = Application (length (cells_of m (d + 1) f)) in
    let row = total-append (cell_count b) (cells_of m (d + 1) f) (cells_of m (d + 1) a ++ last ∷ []) in
    let back = total-append (cell_count b) (cells_of m (d + 1) a) (last ∷ []) in
    omega arith

deepest-row : (b k deep n m d above : ℕ) (t : Term) → m ≡ b + n → d + deep ≡ k + above → k ≤ d → greatest (cell_deepest b k deep) (cells_of m d t) ≡ deepest_occurrence n above t
deepest-row b k deep n m d above (Const c T) is path low = refl
deepest-row b k deep n m d above (Free x T) is path low = refl
deepest-row b k deep n m d above (Var x i T) is path low = refl
deepest-row b k deep n m d above (Bound p) is path low =
    let left : m - b ≡ n = omega arith in
    let same : (d - k) + deep ≡ above = omega arith in
    rw (left, same) (omega arith)
deepest-row b k deep n m d above (Abs T c) is path low =
    let body = deepest-row b k deep (n + 1) (m + 1) (d + 1) (above + 1) c (omega arith) (omega arith) (omega arith) in
    let row = greatest-append (cell_deepest b k deep) (cells_of (m + 1) (d + 1) c) (Other (1 + typ_size T) (d + (1 + typ_depth T)) ∷ []) in
    omega arith
deepest-row b k deep n m d above (App f a) is path low =
    let function = deepest-row b k deep n m (d + 1) (above + 1) f is (omega arith) (omega arith) in
    let argument = deepest-row b k deep n m (d + 1) (above + 1) a is (omega arith) (omega arith) in
    let last = Application (length (cells_of m (d + 1) f)) in
    let row = greatest-append (cell_deepest b k deep) (cells_of m (d + 1) f) (cells_of m (d + 1) a ++ last ∷ []) in
    let back = greatest-append (cell_deepest b k deep) (cells_of m (d + 1) a) (last ∷ []) in
    omega arith

-- A bound variable occurs at most once at each node.
count-place : (s : Bool) → (if s then 1 else 0) ≤ 1
count-place true = omega arith
count-place false = omega arith

count-le : (n : ℕ) (t : Term) → occurrence_count n t ≤ term_size t
count-le n (Const c T) = omega arith
count-le n (Free x T) = omega arith
count-le n (Var x i T) = omega arith
count-le n (Bound p) = count-place (nat_eq p n)
count-le n (Abs T b) = let inside = count-le (n + 1) b in omega arith
count-le n (App f a) = let function = count-le n f in let argument = count-le n a in omega arith

module _ (p : Piece) (h : IsPiece p) where
  pub count-piece : total (cell_count p.binders) p.cells.now ≡ occurrence_count 0 p.term.now
  count-piece = rw h.row (count-row p.binders 0 p.binders p.above p.term.now (omega arith))

  pub few-piece : total (cell_count p.binders) p.cells.now ≤ term_size p.term.now
  few-piece = let same = count-piece in let less = count-le 0 p.term.now in omega arith

  pub deepest-piece : (deep : ℕ) → greatest (cell_deepest p.binders p.above deep) p.cells.now ≡ deepest_occurrence 0 deep p.term.now
  deepest-piece deep = rw h.row (deepest-row p.binders p.above deep 0 p.binders p.above deep p.term.now (omega arith) (omega arith) (omega arith))

  pub low-piece : (deep : ℕ) → greatest (cell_deepest p.binders p.above deep) p.cells.now ≤ deep + term_depth p.term.now
  low-piece deep = let same = deepest-piece deep in let less = deepest-le 0 deep p.term.now in omega arith

-- The row of a term that is held has the size and the depth of what is meant.
bound-row : (b n m p : ℕ) (e : Env) → m ≡ b + n → bound_measure (m - b) (measures e) p ≡ measure_of (meant_under n e (Bound p))
bound-row b n m p e is = let left : m - b ≡ n = omega arith in ap (λ (i : ℕ). bound_measure i (measures e) p) left ∙ bound-meant n e p

size-row : (b k n m d : ℕ) (e : Env) (t : Term) → m ≡ b + n → total (cell_size b k (measures e)) (cells_of m d t) ≡ term_size (meant_under n e t)
size-row b k n m d e (Const c T) is = let whole = ap term_size (meant-leaf n e (Const c T) tt) in omega arith
size-row b k n m d e (Free x T) is = let whole = ap term_size (meant-leaf n e (Free x T) tt) in omega arith
size-row b k n m d e (Var x i T) is = let whole = ap term_size (meant-leaf n e (Var x i T) tt) in omega arith
size-row b k n m d e (Bound p) is = let own = ap (λ (x : Measure). x.size) (bound-row b n m p e is) in omega arith
size-row b k n m d e (Abs T c) is =
    let body = size-row b k (n + 1) (m + 1) (d + 1) e c (omega arith) in
    let row = total-append (cell_size b k (measures e)) (cells_of (m + 1) (d + 1) c) (Other (1 + typ_size T) (d + (1 + typ_depth T)) ∷ []) in
    let whole = ap term_size (meant-abs n e T c) in
    omega arith
size-row b k n m d e (App f a) is =
    let function = size-row b k n m (d + 1) e f is in
    let argument = size-row b k n m (d + 1) e a is in
    let last = Application (length (cells_of m (d + 1) f)) in
    let row = total-append (cell_size b k (measures e)) (cells_of m (d + 1) f) (cells_of m (d + 1) a ++ last ∷ []) in
    let back = total-append (cell_size b k (measures e)) (cells_of m (d + 1) a) (last ∷ []) in
    let whole = ap term_size (meant-app n e f a) in
    omega arith

depth-row : (b k n j m d : ℕ) (e : Env) (t : Term) → m ≡ b + n → d ≡ k + j → greatest (cell_depth b k (measures e)) (cells_of m d t) ≡ j + term_depth (meant_under n e t)
depth-row b k n j m d e (Const c T) is path = let whole = ap term_depth (meant-leaf n e (Const c T) tt) in omega arith
depth-row b k n j m d e (Free x T) is path = let whole = ap term_depth (meant-leaf n e (Free x T) tt) in omega arith
depth-row b k n j m d e (Var x i T) is path = let whole = ap term_depth (meant-leaf n e (Var x i T) tt) in omega arith
depth-row b k n j m d e (Bound p) is path = let own = ap (λ (x : Measure). x.depth) (bound-row b n m p e is) in omega arith
depth-row b k n j m d e (Abs T c) is path =
    let body = depth-row b k (n + 1) (j + 1) (m + 1) (d + 1) e c (omega arith) (omega arith) in
    let row = greatest-append (cell_depth b k (measures e)) (cells_of (m + 1) (d + 1) c) (Other (1 + typ_size T) (d + (1 + typ_depth T)) ∷ []) in
    let whole = ap term_depth (meant-abs n e T c) in
    omega arith
depth-row b k n j m d e (App f a) is path =
    let function = depth-row b k n (j + 1) m (d + 1) e f is (omega arith) in
    let argument = depth-row b k n (j + 1) m (d + 1) e a is (omega arith) in
    let last = Application (length (cells_of m (d + 1) f)) in
    let row = greatest-append (cell_depth b k (measures e)) (cells_of m (d + 1) f) (cells_of m (d + 1) a ++ last ∷ []) in
    let back = greatest-append (cell_depth b k (measures e)) (cells_of m (d + 1) a) (last ∷ []) in
    let whole = ap term_depth (meant-app n e f a) in
    omega arith

module _ (e : Env) (p : Piece) (ms : List Measure) (h : IsPiece p) (listed : ms ≡ measures e) where
  pub size-piece : total (cell_size p.binders p.above ms) p.cells.now ≡ term_size (meant e p.term.now)
  size-piece = rw (listed, h.row) (size-row p.binders p.above 0 p.binders p.above e p.term.now (omega arith))

  pub depth-piece : greatest (cell_depth p.binders p.above ms) p.cells.now ≡ term_depth (meant e p.term.now)
  depth-piece = rw (listed, h.row) (let whole = depth-row p.binders p.above 0 0 p.binders p.above e p.term.now (omega arith) (omega arith) in omega arith)

  pub measure-piece : (m : Measure) → m.size ≡ total (cell_size p.binders p.above ms) p.cells.now → m.depth ≡ greatest (cell_depth p.binders p.above ms) p.cells.now → m ≡ measure_of (meant e p.term.now)
  measure-piece m size depth = λ l. record { size = (size ∙ size-piece) l; depth = (depth ∙ depth-piece) l }
