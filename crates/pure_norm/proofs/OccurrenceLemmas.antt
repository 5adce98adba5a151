-- What the occurrences of a bound variable say of the size and the depth of a body with an argument put in.
use Rattle.std.proofs.Common.{◌≡◌, ◌⊎◌, inl, inr, ℕ, ◌+◌, ◌*◌, ◌<◌, ◌≤◌, Bool, true, false, refl, arith}
use Rattle.std.proofs.Math.Nat.{add-mul}
use Rattle.std.proofs.lemmas.Bool.Decides.{nat_tests}
use Rattle.std.specs.Prelude.{◌-◌, nat_eq, nat_lt, if◌then◌else◌}
use Rattle.pure_definitions.specs.Terms.Term.{Term, Const, Free, Var, Bound, Abs, App, term_size, term_depth}
use Rattle.pure_definitions.specs.Terms.Bounds.{lift_term, place_at, subst_under}
use Rattle.pure_definitions.proofs.TermLemmas.{term_size-lift, term_depth-lift}
use Rattle.pure_norm.specs.Occurrences.{occurrence_count, deepest_occurrence}

size-place : (n p : ℕ) (arg : Term) → term_size (place_at n arg p) + occurrence_count n (Bound p) ≡ 1 + occurrence_count n (Bound p) * term_size arg
size-place n p arg = choose (nat_lt p n) (nat_eq p n) refl refl
  where
    choose : (b s : Bool) → nat_lt p n ≡ b → nat_eq p n ≡ s
        → term_size (if b then Bound p else (if s then lift_term n 0 arg else Bound (p - 1))) + (if s then 1 else 0) ≡ 1 + (if s then 1 else 0) * term_size arg
    choose true true f g = absurd (let no : ⊥ = grind (arith, nat_tests) in no)
    choose true false f g = omega arith
    choose false true f g = let e = term_size-lift n 0 arg in omega arith
    choose false false f g = omega arith

-- Each occurrence is replaced by the argument's nodes.
pub size-put : (n : ℕ) (arg b : Term) → term_size (subst_under n arg b) + occurrence_count n b ≡ term_size b + occurrence_count n b * term_size arg
size-put n arg (Const c T) = omega arith
size-put n arg (Free x T) = omega arith
size-put n arg (Var x i T) = omega arith
size-put n arg (Bound p) = size-place n p arg
size-put n arg (Abs T b) = let inside = size-put (n + 1) arg b in omega arith
size-put n arg (App f a) =
    let function = size-put n arg f in
    let argument = size-put n arg a in
    let both = add-mul (occurrence_count n f) (occurrence_count n a) (term_size arg) in
    omega arith

depth-place : (n above limit p : ℕ) (arg : Term) → above + 1 ≤ limit → (0 < occurrence_count n (Bound p) → deepest_occurrence n above (Bound p) + term_depth arg ≤ limit)
    → above + term_depth (place_at n arg p) ≤ limit
depth-place n above limit p arg low = choose (nat_lt p n) (nat_eq p n)
  where
    choose : (b s : Bool) → (0 < (if s then 1 else 0) → (if s then above else 0) + term_depth arg ≤ limit)
        → above + term_depth (if b then Bound p else (if s then lift_term n 0 arg else Bound (p - 1))) ≤ limit
    choose true s h = low
    choose false true h = let e = term_depth-lift n 0 arg in let reached = h (omega arith) in omega arith
    choose false false h = low

-- The body with the argument put in is within a limit of depth where the body is, and the argument at the deepest occurrence.
pub depth-put : (n above limit : ℕ) (arg b : Term) → above + term_depth b ≤ limit → (0 < occurrence_count n b → deepest_occurrence n above b + term_depth arg ≤ limit)
    → above + term_depth (subst_under n arg b) ≤ limit
depth-put n above limit arg (Const c T) low h = low
depth-put n above limit arg (Free x T) low h = low
depth-put n above limit arg (Var x i T) low h = low
depth-put n above limit arg (Bound p) low h = depth-place n above limit p arg low h
depth-put n above limit arg (Abs T b) low h =
    let inside = depth-put (n + 1) (above + 1) limit arg b (omega arith) h in omega arith
depth-put n above limit arg (App f a) low h =
    let function = depth-put n (above + 1) limit arg f (omega arith) (λ some. let reached = h (omega arith) in omega arith) in
    let argument = depth-put n (above + 1) limit arg a (omega arith) (λ some. let reached = h (omega arith) in omega arith) in
    omega arith

-- The bound variable doesn't occur; or it does, and the argument stands at the deepest occurrence.
abbrev pub Reaches : (n above : ℕ) → (arg b : Term) → Type 0
Reaches n above arg b = ((occurrence_count n b ≡ 0) × (deepest_occurrence n above b ≡ 0))
    ⊎ ((0 < occurrence_count n b) × (deepest_occurrence n above b + term_depth arg ≤ above + term_depth (subst_under n arg b)))

reaches-place : (n above p : ℕ) (arg : Term) → Reaches n above arg (Bound p)
reaches-place n above p arg = choose (nat_lt p n) (nat_eq p n) refl refl
  where
    choose : (b s : Bool) → nat_lt p n ≡ b → nat_eq p n ≡ s
        → (◌≡◌ {A = ℕ} (if s then 1 else 0) 0 × ◌≡◌ {A = ℕ} (if s then above else 0) 0)
        ⊎ ((0 < (if s then 1 else 0)) × ((if s then above else 0) + term_depth arg ≤ above + term_depth (if b then Bound p else (if s then lift_term n 0 arg else Bound (p - 1)))))
    choose true true f g = absurd (let no : ⊥ = grind (arith, nat_tests) in no)
    choose true false f g = inl (omega arith, omega arith)
    choose false true f g = let e = term_depth-lift n 0 arg in inr (omega arith, omega arith)
    choose false false f g = inl (omega arith, omega arith)

-- The argument stands at the deepest occurrence, if anywhere.
pub reaches : (n above : ℕ) (arg b : Term) → Reaches n above arg b
reaches n above arg (Const c T) = inl (omega arith, omega arith)
reaches n above arg (Free x T) = inl (omega arith, omega arith)
reaches n above arg (Var x i T) = inl (omega arith, omega arith)
reaches n above arg (Bound p) = reaches-place n above p arg
reaches n above arg (Abs T b) = elim (reaches (n + 1) (above + 1) arg b) [
  | inl h ↦ inl h
  | inr h ↦ (let low = h.1 in inr (h.0, omega arith))
]
reaches n above arg (App f a) = both (reaches n (above + 1) arg f) (reaches n (above + 1) arg a)
  where
    both : Reaches n (above + 1) arg f → Reaches n (above + 1) arg a → Reaches n above arg (App f a)
    both (inl h) (inl k) = let a = h.0 in let b = h.1 in let c = k.0 in let d = k.1 in inl (omega arith, omega arith)
    both (inl h) (inr k) = let a = h.0 in let b = h.1 in let c = k.0 in let d = k.1 in inr (omega arith, omega arith)
    both (inr h) (inl k) = let a = h.0 in let b = h.1 in let c = k.0 in let d = k.1 in inr (omega arith, omega arith)
    both (inr h) (inr k) = let a = h.0 in let b = h.1 in let c = k.0 in let d = k.1 in inr (omega arith, omega arith)

-- Where there is no occurrence, none is deepest.
pub deepest-none : (n above : ℕ) (b : Term) → occurrence_count n b ≡ 0 → deepest_occurrence n above b ≡ 0
deepest-none n above b h = elim (reaches n above b b) [
  | inl none ↦ none.1
  | inr some ↦ (let here = some.0 in absurd (omega arith))
]

deepest-place : (above : ℕ) (s : Bool) → (if s then above else 0) ≤ above + 1
deepest-place above true = omega arith
deepest-place above false = omega arith

-- The deepest occurrence is no deeper than the body.
pub deepest-le : (n above : ℕ) (b : Term) → deepest_occurrence n above b ≤ above + term_depth b
deepest-le n above (Const c T) = omega arith
deepest-le n above (Free x T) = omega arith
deepest-le n above (Var x i T) = omega arith
deepest-le n above (Bound p) = deepest-place above (nat_eq p n)
deepest-le n above (Abs T b) = let inside = deepest-le (n + 1) (above + 1) b in omega arith
deepest-le n above (App f a) = let function = deepest-le n (above + 1) f in let argument = deepest-le n (above + 1) a in omega arith
