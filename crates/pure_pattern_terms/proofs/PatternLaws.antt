-- Whether terms are patterns.
use Rattle.std.proofs.Common.{◌≡◌, ◌↔◌, ℕ, ◌<◌, List, Bool, true, Result, Ok, Err, IfOk, ap, refl, sym, subst, ◌∙◌, arith}
use Rattle.pure_definitions.specs.Terms.Term.{Term, Const, Free, Var, Bound, Abs, App}
use Rattle.pure_definitions.specs.Terms.Measures.{term_index_above}
use Rattle.pure_unify_definitions.specs.Fronts.{front, is_schematic}
use Rattle.pure_pattern_laws.specs.Patterns.{HasPlaces, IsPattern}
use Rattle.pure_pattern_laws.proofs.PatternLaws.{true-false}

pub schematic-index : (t : Term) → is_schematic (front t) ≡ true → 0 < term_index_above t
schematic-index (Const c T) e = absurd (cc)
schematic-index (Free x T) e = absurd (cc)
schematic-index (Var x i T) e = omega arith
schematic-index (Bound p) e = absurd (cc)
schematic-index (Abs T b) e = absurd (cc)
schematic-index (App f a) e = (let rest = schematic-index f e in omega arith)

pub ground_pattern : (t : Term) → term_index_above t ≡ 0 → IsPattern t
ground_pattern (Const c T) e = tt
ground_pattern (Free x T) e = tt
ground_pattern (Var x i T) e = tt
ground_pattern (Bound p) e = tt
ground_pattern (Abs T b) e = ground_pattern b (omega arith)
ground_pattern (App f a) e = (λ k. (let more = schematic-index f k in absurd (omega arith)), λ k. (ground_pattern f (omega arith), ground_pattern a (omega arith)))

pub yes-pattern : (t : Term) → IsPattern t → (true ≡ true) ↔ IsPattern t
yes-pattern t p = (λ e. p, λ k. refl)

pub flexible-told : (t f a : Term) (b : Bool) → t ≡ App f a → is_schematic (front f) ≡ true → (b ≡ true) ↔ ((zs : List ℕ) × HasPlaces t zs) → (b ≡ true) ↔ IsPattern t
flexible-told t f a b e k h =
    subst (λ u. (b ≡ true) ↔ IsPattern u) (sym e)
    (let told : (b ≡ true) ↔ ((zs : List ℕ) × HasPlaces (App f a) zs) = subst (λ u. (b ≡ true) ↔ ((zs : List ℕ) × HasPlaces u zs)) e h in
    (λ y. (λ o. told.0 y, λ o. true-false (is_schematic (front f)) k o), λ p. told.1 (p.0 k)))

pub flexible-result : {E : Type 0} (r : Result Bool E) (t f a g v : Term) (b : Bool) → t ≡ App f a → b ≡ true → b ≡ is_schematic v → v ≡ front g → g ≡ f → IfOk r (λ d. (d ≡ true) ↔ ((zs : List ℕ) × HasPlaces t zs)) → IfOk r (λ d. (d ≡ true) ↔ IsPattern t)
flexible-result (Ok d) t f a g v b e k h m s told =
    let test : is_schematic (front f) ≡ true = sym (ap (λ u. is_schematic (front u)) s) ∙ (sym (ap is_schematic m) ∙ (sym h ∙ k)) in
    flexible-told t f a d e test told
flexible-result (Err x) t f a g v b e k h m s told = told
