-- The pairs of the arguments of two sides are within the limits, and the bound variables in closed terms within them are small.
use Rattle.std.proofs.Common.{ℕ, ◌<◌, ◌≤◌, List, [], ◌∷◌, arith}
use Rattle.pure_text.specs.Lists.{Each}
use Rattle.pure_text.proofs.ListLaws.{each-append, each_imply}
use Rattle.pure_definitions.specs.Types.Typ.{Typ}
use Rattle.pure_definitions.specs.Terms.Term.{Term, Const, Free, Var, Bound, Abs, App, IsWithin, term_size, term_depth}
use Rattle.pure_definitions.specs.Terms.Subst.{TermBind}
use Rattle.pure_definitions.specs.Terms.Typing.{HasType}
use Rattle.pure_definitions.proofs.MeasureLemmas.{closed_exactly}
use Rattle.pure_term_laws.proofs.TypingLaws.{typed-closed}
use Rattle.pure_logic.specs.Derivable.{Pair}
use Rattle.pure_unify_definitions.specs.Fronts.{abstractions, term_body, arguments, below, pairs_below}
use Rattle.pure_pattern_laws.specs.Treatment.{Becomes, IsTreated}
use Rattle.pure_pattern_laws.specs.Answers.{AreLongOfOneTyp}
use Rattle.pure_pattern_laws.specs.Laws.{IsPatternBind}
use Rattle.pure_pattern_terms.specs.Images.{IsLowTerm, AreShallow}
use Rattle.pure_pattern_rules.specs.Treated.{AreSidesWithin, AreBindsWithin}
use Rattle.pure_pattern.specs.Held.{IsLowPair, IsLowImage, IsImageWithin}

-- An argument below the abstractions of a side isn't larger, and no deeper.
record IsSmaller (a t : Term) : Type 0 where
  size : term_size a ≤ term_size t
  depth : term_depth a ≤ term_depth t

smaller-function : (f a x : Term) → IsSmaller x f → IsSmaller x (App f a)
smaller-function f a x h = (let size = h.size in let depth = h.depth in record { size = omega arith; depth = omega arith })

smaller-argument : (f a : Term) → IsSmaller a (App f a)
smaller-argument f a = record { size = omega arith; depth = omega arith }

arguments-smaller : (t : Term) → Each (λ a. IsSmaller a t) (arguments t)
arguments-smaller (Const c T) = tt
arguments-smaller (Free x T) = tt
arguments-smaller (Var x i T) = tt
arguments-smaller (Bound p) = tt
arguments-smaller (Abs T b) = tt
arguments-smaller (App f a) =
    each-append (λ x. IsSmaller x (App f a)) (arguments f) (a ∷ []) (each_imply (λ x. IsSmaller x f) (λ x. IsSmaller x (App f a)) (arguments f) (smaller-function f a) (arguments-smaller f)) (smaller-argument f a, tt)

smaller-under : (T : Typ) (b a : Term) → IsSmaller a b → IsSmaller (Abs T a) (Abs T b)
smaller-under T b a h = (let size = h.size in let depth = h.depth in record { size = omega arith; depth = omega arith })

below-smaller : (t a : Term) → IsSmaller a (term_body t) → IsSmaller (below (abstractions t) a) t
below-smaller (Const c T) a h = h
below-smaller (Free x T) a h = h
below-smaller (Var x i T) a h = h
below-smaller (Bound p) a h = h
below-smaller (Abs T b) a h = smaller-under T b (below (abstractions b) a) (below-smaller b a h)
below-smaller (App f b) a h = h

within-smaller : (a t : Term) → IsSmaller a t → IsWithin t → IsWithin a
within-smaller a t h w = (let small = h.size in let low = h.depth in let size = w.size in let depth = w.depth in record { size = omega arith; depth = omega arith })

arguments-within : (t : Term) → IsWithin t → Each (λ a. IsWithin (below (abstractions t) a)) (arguments (term_body t))
arguments-within t w =
    each_imply (λ a. IsSmaller a (term_body t)) (λ a. IsWithin (below (abstractions t) a)) (arguments (term_body t)) (λ a k. within-smaller (below (abstractions t) a) t (below-smaller t a k) w) (arguments-smaller (term_body t))

pairs-within : (Ts Us : List Typ) (ts us : List Term) → Each (λ a. IsWithin (below Ts a)) ts → Each (λ b. IsWithin (below Us b)) us → Each AreSidesWithin (pairs_below Ts Us ts us)
pairs-within Ts Us [] us h k = tt
pairs-within Ts Us (t ∷ ts) [] h k = tt
pairs-within Ts Us (t ∷ ts) (u ∷ us) h k = ((h.0, k.0), pairs-within Ts Us ts us h.1 k.1)

pub becomes-within : (index : ℕ) (p : Pair) (qs : List Pair) → IsTreated index p.left p.right (Becomes qs) → AreSidesWithin p → Each AreSidesWithin qs
becomes-within index p qs (IsTreated.equal e) w = tt
becomes-within index p qs (IsTreated.same_heads n e f same) w =
    pairs-within (abstractions p.left) (abstractions p.right) (arguments (term_body p.left)) (arguments (term_body p.right)) (arguments-within p.left w.0) (arguments-within p.right w.1)

-- The numbers of bound variables.
low-side : (t : Term) (T : Typ) → HasType [] t T → IsWithin t → IsLowTerm t
low-side t T h w = (let closed = (closed_exactly 0 t).0 (typed-closed t T h) in let deep = w.depth in omega arith)

pub low-pairs : (ps : List Pair) → Each AreLongOfOneTyp ps → Each AreSidesWithin ps → Each IsLowPair ps
low-pairs [] h w = tt
low-pairs (p ∷ ps) h w = ((low-side p.left h.0.typ h.0.left_typ w.0.0, low-side p.right h.0.typ h.0.right_typ w.0.1), low-pairs ps h.1 w.1)

pub low-images : (bs : List TermBind) → Each IsPatternBind bs → Each IsImageWithin bs → Each IsLowImage bs
low-images [] h w = tt
low-images (b ∷ bs) h w = (low-side b.image b.typ h.0.typed w.0, low-images bs h.1 w.1)

shallow-image : (b : TermBind) → IsWithin b.image → term_depth b.image < 2147483648
shallow-image b w = (let deep = w.depth in omega arith)

pub shallow-images : (bs : List TermBind) → AreBindsWithin bs → AreShallow bs
shallow-images bs h = each_imply (λ b. IsWithin b.image) (λ b. term_depth b.image < 2147483648) bs shallow-image h
