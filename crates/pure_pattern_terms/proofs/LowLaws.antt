-- How great the bound variables of a term's arguments are.
use Rattle.std.proofs.Common.{◌≡◌, ℕ, ◌+◌, ◌<◌, ◌≤◌, List, [], ◌∷◌, ◌++◌, ap, refl, ◌∙◌, arith, map, reverse}
use mathlib.Core.List.{reverse_aux}
use Rattle.pure_text.specs.Lists.{Each}
use Rattle.pure_definitions.specs.Terms.Term.{Term, Const, Free, Var, Bound, Abs, App, term_depth}
use Rattle.pure_definitions.specs.Terms.Measures.{loose_above}
use Rattle.pure_unify_definitions.specs.Fronts.{front, head, arguments}
use Rattle.pure_pattern_laws.specs.Putting.{bound_place, place_of}

front-low : (t : Term) → bound_place (front t) ≤ loose_above t
front-low (Const c T) = omega arith
front-low (Free x T) = omega arith
front-low (Var x i T) = omega arith
front-low (Bound p) = omega arith
front-low (Abs T b) = omega arith
front-low (App f a) = (let rest = front-low f in omega arith)

head-low : (t : Term) → bound_place (head t) ≤ loose_above t + term_depth t
head-low (Const c T) = omega arith
head-low (Free x T) = omega arith
head-low (Var x i T) = omega arith
head-low (Bound p) = omega arith
head-low (Abs T b) = (let rest = head-low b in omega arith)
head-low (App f a) = (let rest = front-low (App f a) in omega arith)

place-low : (n : ℕ) (t : Term) → loose_above t + term_depth t < n → place_of t < n
place-low n t h = (let low = head-low t in omega arith)

places-low : (n : ℕ) (t : Term) → loose_above t + term_depth t < n → Each (λ w. w < n) (map place_of (arguments t))
places-low n (Const c T) h = tt
places-low n (Free x T) h = tt
places-low n (Var x i T) h = tt
places-low n (Bound p) h = tt
places-low n (Abs T b) h = tt
places-low n (App f a) h = (let rest = places-low n f (omega arith) in let last = place-low n a (omega arith) in both (arguments f) rest last)
  where
    both : (ts : List Term) → Each (λ w. w < n) (map place_of ts) → place_of a < n → Each (λ w. w < n) (map place_of (ts ++ a ∷ []))
    both [] k l = (l, tt)
    both (t ∷ ts) k l = (k.0, both ts k.1 l)

back : (n : ℕ) (ws vs : List ℕ) → Each (λ w. w < n) ws → Each (λ w. w < n) vs → Each (λ w. w < n) (reverse_aux ws vs)
back n [] vs h k = k
back n (w ∷ ws) vs h k = back n ws (w ∷ vs) h.1 (h.0, k)

pub places-back-low : (n : ℕ) (t : Term) → loose_above t + term_depth t < n → Each (λ w. w < n) (reverse (map place_of (arguments t)))
places-back-low n t h = back n (map place_of (arguments t)) [] (places-low n t h) tt

-- Added from the right.
reverse-last : (ws : List ℕ) (w : ℕ) (vs : List ℕ) → reverse_aux (ws ++ w ∷ []) vs ≡ w ∷ reverse_aux ws vs
reverse-last [] w vs = refl
reverse-last (v ∷ ws) w vs = reverse-last ws w (v ∷ vs)

map-last : (ts : List Term) (a : Term) → map place_of (ts ++ a ∷ []) ≡ map place_of ts ++ place_of a ∷ []
map-last [] a = refl
map-last (t ∷ ts) a = λ l. place_of t ∷ map-last ts a l

pub places-back : (f a : Term) → reverse (map place_of (arguments (App f a))) ≡ place_of a ∷ reverse (map place_of (arguments f))
places-back f a = ap (λ ws. reverse_aux ws []) (map-last (arguments f) a) ∙ reverse-last (map place_of (arguments f)) (place_of a) []
