-- The places of an application, and of its function.
use Rattle.std.proofs.Common.{◌≡◌, ℕ, inl, inr, List, [], ◌∷◌, ◌++◌, Bool, true, false, ◌||◌, ap, refl, sym, subst, ◌∙◌, nat_eq, Option, Some, None, MatchOption, Result, Ok, Err, IfOk}
use Rattle.std.proofs.lemmas.Bool.{eqb-true, eq-eqb}
use Rattle.std.specs.List.{list_any}
use Rattle.pure_text.specs.Lists.{IsIn, EachTwo, AreDistinct}
use Rattle.pure_text.proofs.ListLaws.{two-append, distinct-snoc}
use Rattle.pure_definitions.specs.Terms.Term.{Term, Bound, App}
use Rattle.pure_definitions.specs.Reduction.Eta.{EtaReduces, IsEtaNormalForm}
use Rattle.pure_term_laws.proofs.EtaNormalLaws.{one_eta_normal_form}
use Rattle.pure_eta.proofs.EtaStepLaws.{bound-normal}
use Rattle.pure_unify_definitions.specs.Fronts.{arguments}
use Rattle.pure_pattern_laws.specs.Patterns.{IsPlace, HasPlaces}
use Rattle.pure_pattern_terms.specs.Found.{IsPlaceFound, IsBoundFound}
use Rattle.pure_pattern_laws.proofs.OnceLaws.{places-once}

-- A bound variable up to eta steps, told by the eta-normal form.
pub bound-place : (t : Term) (z : ℕ) → t ≡ Bound z → IsPlace t z
bound-place t z e = subst (EtaReduces t) e EtaReduces.done

pub normal-place : (t n : Term) (z : ℕ) → IsEtaNormalForm t n → n ≡ Bound z → IsPlace t z
normal-place t n z h e = subst (EtaReduces t) e h.reduces

pub no-place : (t n : Term) → IsEtaNormalForm t n → ((z : ℕ) → ¬ (n ≡ Bound z)) → (z : ℕ) → ¬ IsPlace t z
no-place t n h none_is z k = none_is z (one_eta_normal_form t n (Bound z) h (record { reduces = k; normal = bound-normal z }))

two-last : {A B : Type 0} (R : A → B → Type 0) (ts : List A) (a : A) (ws : List B) → EachTwo R (ts ++ a ∷ []) ws → (us : List B) × (v : B) × (ws ≡ us ++ v ∷ []) × EachTwo R ts us × R a v
two-last R [] a [] h = absurd h
two-last R [] a (w ∷ []) h = ([], w, refl, tt, h.0)
two-last R [] a (w ∷ v ∷ ws) h = absurd h.1
two-last R (t ∷ ts) a [] h = absurd h
two-last R (t ∷ ts) a (w ∷ ws) h = (let rest = two-last R ts a ws h.1 in (w ∷ rest.0, rest.1, ap (λ us. w ∷ us) rest.2, (h.0, rest.3), rest.4))

in-front : (x v : ℕ) (us : List ℕ) → IsIn x us → IsIn x (us ++ v ∷ [])
in-front x v [] m = absurd m
in-front x v (u ∷ us) (inl e) = inl e
in-front x v (u ∷ us) (inr m) = inr (in-front x v us m)

in-last : (v : ℕ) (us : List ℕ) → IsIn v (us ++ v ∷ [])
in-last v [] = inl refl
in-last v (u ∷ us) = inr (in-last v us)

distinct-front : (us : List ℕ) (v : ℕ) → AreDistinct (us ++ v ∷ []) → AreDistinct us × (¬ IsIn v us)
distinct-front [] v d = (tt, λ m. m)
distinct-front (u ∷ us) v d =
    let rest = distinct-front us v d.1 in
    ((λ m. d.0 (in-front u v us m), rest.0), λ m. elim m [ inl e ↦ d.0 (subst (λ x. IsIn x (us ++ v ∷ [])) e (in-last v us)) | inr n ↦ rest.1 n ])

pub all-places : (f a : Term) (zs : List ℕ) (z : ℕ) → HasPlaces f zs → IsPlace a z → ¬ IsIn z zs → HasPlaces (App f a) (zs ++ z ∷ [])
all-places f a zs z h p n = record { are = two-append IsPlace (arguments f) (a ∷ []) zs (z ∷ []) h.are (p, tt); distinct = distinct-snoc zs z h.distinct n }

pub no-first : (f a : Term) → ¬ ((zs : List ℕ) × HasPlaces f zs) → ¬ ((zs : List ℕ) × HasPlaces (App f a) zs)
no-first f a n h =
    let last = two-last IsPlace (arguments f) a h.0 h.1.are in
    n (last.0, record { are = last.3; distinct = (distinct-front last.0 last.1 (subst AreDistinct last.2 h.1.distinct)).0 })

pub no-last : (f a : Term) → ((z : ℕ) → ¬ IsPlace a z) → ¬ ((zs : List ℕ) × HasPlaces (App f a) zs)
no-last f a n h = (let last = two-last IsPlace (arguments f) a h.0 h.1.are in n last.1 last.4)

pub no-twice : (f a : Term) (zs : List ℕ) (z : ℕ) → HasPlaces f zs → IsPlace a z → IsIn z zs → ¬ ((ws : List ℕ) × HasPlaces (App f a) ws)
no-twice f a zs z h p m k =
    let same = places-once (arguments f ++ a ∷ []) (zs ++ z ∷ []) k.0 (two-append IsPlace (arguments f) (a ∷ []) zs (z ∷ []) h.are (p, tt)) k.1.are in
    (distinct-front zs z (subst AreDistinct (sym same) k.1.distinct)).1 m

-- Whether a number stands in a list, as it is asked.
pub any-in : (z : ℕ) (zs : List ℕ) → list_any (λ y. nat_eq y z) zs ≡ true → IsIn z zs
any-in z [] e = absurd (cc)
any-in z (w ∷ ws) e = by_cases (nat_eq w z) refl e (λ k. any-in z ws k)
  where
    by_cases : (b : Bool) → nat_eq w z ≡ b → (b || list_any (λ y. nat_eq y z) ws) ≡ true → (list_any (λ y. nat_eq y z) ws ≡ true → IsIn z ws) → IsIn z (w ∷ ws)
    by_cases true t f rest = inl (sym (eqb-true w z t))
    by_cases false t f rest = inr (rest f)

pub none-in : (z : ℕ) (zs : List ℕ) → list_any (λ y. nat_eq y z) zs ≡ false → ¬ IsIn z zs
none-in z [] e m = m
none-in z (w ∷ ws) e (inl same) = (let yes = eq-eqb w z (sym same) in or-false (nat_eq w z) (list_any (λ y. nat_eq y z) ws) yes e)
  where
    or-false : (a b : Bool) → a ≡ true → (a || b) ≡ false → ⊥
    or-false true b s t = absurd (cc)
    or-false false b s t = absurd (cc)
none-in z (w ∷ ws) e (inr m) = none-in z ws (rest (nat_eq w z) (list_any (λ y. nat_eq y z) ws) e) m
  where
    rest : (a b : Bool) → (a || b) ≡ false → b ≡ false
    rest true b s = absurd (cc)
    rest false b s = s

pub contained : (z : ℕ) (zs ws : List ℕ) (b : Bool) → ws ≡ zs → b ≡ list_any (λ y. nat_eq y z) ws → b ≡ true → IsIn z zs
contained z zs ws b e h k = subst (IsIn z) e (any-in z ws (sym h ∙ k))

pub not-contained : (z : ℕ) (zs ws : List ℕ) (b : Bool) → ws ≡ zs → b ≡ list_any (λ y. nat_eq y z) ws → b ≡ false → ¬ IsIn z zs
not-contained z zs ws b e h k = subst (λ us. ¬ IsIn z us) e (none-in z ws (sym h ∙ k))

pub found-place : (t n : Term) (o : Option ℕ) → IsEtaNormalForm t n → IsBoundFound n o → IsPlaceFound t o
found-place t n (Some z) h e = normal-place t n z h e
found-place t n None h e = no-place t n h e

-- What is told of options that are none, and of the last.
pub first-lacks : {B : Type 0} (t f a g : Term) (o : Option B) (Q : B → Type 0) → t ≡ App f a → g ≡ f → ((x : B) → o ≡ Some x → ⊥) → MatchOption o (¬ ((zs : List ℕ) × HasPlaces g zs)) Q → ¬ ((zs : List ℕ) × HasPlaces t zs)
first-lacks t f a g None Q e same n h = subst (λ u. ¬ ((zs : List ℕ) × HasPlaces u zs)) (sym e) (no-first f a (subst (λ u. ¬ ((zs : List ℕ) × HasPlaces u zs)) same h))
first-lacks t f a g (Some x) Q e same n h = absurd (n x refl)

pub last-lacks : (t f a b : Term) (o : Option ℕ) → t ≡ App f a → b ≡ a → ((x : ℕ) → o ≡ Some x → ⊥) → IsPlaceFound b o → ¬ ((zs : List ℕ) × HasPlaces t zs)
last-lacks t f a b None e same n h = subst (λ u. ¬ ((zs : List ℕ) × HasPlaces u zs)) (sym e) (no-last f a (subst (λ u. (z : ℕ) → ¬ IsPlace u z) same h))
last-lacks t f a b (Some x) e same n h = absurd (n x refl)

pub with-places : {V E : Type 0} (items : V → List ℕ) (r : Result (Option V) E) (t f a g b : Term) (zs : List ℕ) (z : ℕ) → t ≡ App f a → g ≡ f → b ≡ a → HasPlaces g zs → IsPlace b z
    → IfOk r (λ more. MatchOption more (IsIn z zs) (λ v. (items v ≡ zs ++ z ∷ []) × (¬ IsIn z zs))) → IfOk r (λ places. MatchOption places (¬ ((ws : List ℕ) × HasPlaces t ws)) (λ v. HasPlaces t (items v)))
with-places items (Err x) t f a g b zs z e same last h p k = k
with-places items (Ok None) t f a g b zs z e same last h p k =
    subst (λ u. ¬ ((ws : List ℕ) × HasPlaces u ws)) (sym e) (no-twice f a zs z (subst (λ u. HasPlaces u zs) same h) (subst (λ u. IsPlace u z) last p) k)
with-places items (Ok (Some v)) t f a g b zs z e same last h p k =
    subst (λ u. HasPlaces u (items v)) (sym e) (subst (HasPlaces (App f a)) (sym k.0) (all-places f a zs z (subst (λ u. HasPlaces u zs) same h) (subst (λ u. IsPlace u z) last p) k.1))
