-- The bound variables to which a new variable is applied, at one place more.
use Rattle.std.proofs.Common.{◌≡◌, ℕ, zero, suc, List, [], ◌∷◌, Bool, true, false, None, nat_eq, ap, refl, sym, ◌∙◌, arith}
use Rattle.std.specs.Prelude.{if◌then◌else◌}
use Rattle.std.specs.List.{list_any}
use Rattle.pure_definitions.specs.Terms.Term.{Term, Bound, App}
use Rattle.pure_unify_definitions.specs.Fronts.{applied, bounds}
use Rattle.pure_pattern_laws.specs.Places.{agreeing, shared_left, at_place}

-- Where no bound variable is left, none is kept.
pub no_agreeing : (f : Term) (count : ℕ) (zs ws : List ℕ) → count ≡ 0 → f ≡ applied f (agreeing zs ws (bounds count))
no_agreeing f zero [] ws e = refl
no_agreeing f zero (z ∷ zs) [] e = refl
no_agreeing f zero (z ∷ zs) (w ∷ ws) e = refl
no_agreeing f (suc count) zs ws e = absurd (omega arith)

pub no_left : (f : Term) (count : ℕ) (zs ws : List ℕ) → count ≡ 0 → f ≡ applied f (shared_left zs ws (bounds count))
no_left f zero [] ws e = refl
no_left f zero (z ∷ zs) ws e = refl
no_left f (suc count) zs ws e = absurd (omega arith)

pub none_at : (z count : ℕ) (ws : List ℕ) → count ≡ 0 → at_place z ws (bounds count) ≡ None
none_at z zero [] e = refl
none_at z zero (w ∷ ws) e = refl
none_at z (suc count) ws e = absurd (omega arith)

-- The first is kept or not.
kept : (f : Term) (place : ℕ) (us : List Term) (test : Bool) → applied (if test then App f (Bound place) else f) us ≡ applied f (if test then (Bound place ∷ us) else us)
kept f place us true = refl
kept f place us false = refl

pub agreeing_more : (f more done : Term) (count place z w : ℕ) (zs ws all others : List ℕ) (test : Bool) → count ≡ suc place → all ≡ z ∷ zs → others ≡ w ∷ ws → test ≡ nat_eq z w → more ≡ (if test then App f (Bound place) else f)
    → done ≡ applied more (agreeing zs ws (bounds place)) → done ≡ applied f (agreeing all others (bounds count))
agreeing_more f more done count place z w zs ws all others test e first second same m h =
    let us = agreeing zs ws (bounds place) in
    h
    ∙ (ap (λ (u : Term). applied u us) m
    ∙ (kept f place us test
    ∙ (ap (λ (b : Bool). applied f (if b then (Bound place ∷ us) else us)) same
    ∙ (λ i. applied f (agreeing (sym first i) (sym second i) (bounds (sym e i)))))))

pub left_more : (f more done : Term) (count place z : ℕ) (zs ws all : List ℕ) (test : Bool) → count ≡ suc place → all ≡ z ∷ zs → test ≡ list_any (nat_eq z) ws → more ≡ (if test then App f (Bound place) else f)
    → done ≡ applied more (shared_left zs ws (bounds place)) → done ≡ applied f (shared_left all ws (bounds count))
left_more f more done count place z zs ws all test e first same m h =
    let us = shared_left zs ws (bounds place) in
    h
    ∙ (ap (λ (u : Term). applied u us) m
    ∙ (kept f place us test
    ∙ (ap (λ (b : Bool). applied f (if b then (Bound place ∷ us) else us)) same
    ∙ (λ i. applied f (shared_left (sym first i) ws (bounds (sym e i)))))))
