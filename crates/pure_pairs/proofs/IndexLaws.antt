-- The index above those of terms and of pairs: one more of a list. A term whose indexes are below one of a variable stays where the variable becomes a constant function.
use Rattle.std.proofs.Common.{◌≡◌, ℕ, ◌+◌, ◌<◌, ◌≤◌, false, List, [], ◌∷◌, length, get_or, take, zero, suc, max, refl, ap, arith}
use Rattle.pure_definitions.specs.Types.Typ.{Typ}
use Rattle.pure_definitions.specs.Terms.Term.{Term, Const, Free, Var, Bound, Abs, App, term_eq}
use Rattle.pure_definitions.proofs.BindLemmas.{term_eq-other}
use Rattle.pure_logic.specs.Derivable.{Pair}
use Rattle.pure_unify_definitions.specs.Fronts.{front}
use Rattle.pure_pairs.specs.Smash.{term_index_above, terms_index_above, pairs_index_above, with_constant}

pub term_more : (ts : List Term) (i : ℕ) (t : Term) → i < length ts → t ≡ get_or ts i t → terms_index_above (take (i + 1) ts) ≡ max (terms_index_above (take i ts)) (term_index_above t)
term_more [] i t h e = absurd (omega arith)
term_more (u ∷ us) zero t h e = rw e (omega arith)
term_more (u ∷ us) (suc i) t h e =
    let next : suc i + 1 ≡ suc (i + 1) = omega arith in
    let rest = term_more us i t (omega arith) e in
    rw next (omega (arith, rest))

pub pair_more : (ps : List Pair) (i : ℕ) (p : Pair) → i < length ps → p ≡ get_or ps i p → pairs_index_above (take (i + 1) ps) ≡ max (pairs_index_above (take i ps)) (pairs_index_above (p ∷ []))
pair_more [] i p h e = absurd (omega arith)
pair_more (q ∷ qs) zero p h e = rw e (omega arith)
pair_more (q ∷ qs) (suc i) p h e =
    let next : suc i + 1 ≡ suc (i + 1) = omega arith in
    let rest = pair_more qs i p (omega arith) e in
    rw next (omega (arith, rest))

front-below : (t : Term) → term_index_above (front t) ≤ term_index_above t
front-below (Const c T) = omega arith
front-below (Free x T) = omega arith
front-below (Var x i T) = omega arith
front-below (Bound n) = omega arith
front-below (Abs T b) = omega arith
front-below (App f a) = let inside = front-below f in omega arith

differs : (v t : Term) → term_index_above t < term_index_above v → term_eq v t ≡ false
differs v t h = term_eq-other v t (λ e. let same = ap term_index_above e in omega arith)

pub constant_stays : (v : Term) (Ts : List Typ) (c t : Term) → term_index_above t < term_index_above v → with_constant v Ts c t ≡ t
constant_stays v Ts c (Const d T) h = refl
constant_stays v Ts c (Free x T) h = refl
constant_stays v Ts c (Var x i T) h = rw (differs v (Var x i T) h) refl
constant_stays v Ts c (Bound n) h = refl
constant_stays v Ts c (Abs T b) h = ap (Abs T) (constant_stays v Ts c b (omega arith))
constant_stays v Ts c (App f a) h =
    let low = front-below f in
    rw (differs v (front f) (omega arith)) (λ l. App (constant_stays v Ts c f (omega arith) l) (constant_stays v Ts c a (omega arith) l))
