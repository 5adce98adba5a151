-- Hypotheses without one that is discharged.
use Rattle.std.proofs.Common.{◌≡◌, ◌≢◌, List, [], ◌∷◌, map, Bool, true, false, cond, inl, inr, refl, ap, sym, ◌∙◌}
use Rattle.pure_text.specs.Lists.{IsIn, Each}
use Rattle.pure_definitions.specs.Terms.Term.{Term, term_eq}
use Rattle.pure_definitions.specs.Models.Equality.{term_eq-same, term_eq-itself}
use Rattle.pure_logic.specs.Tree.{without}

pub each-without : (P : Term → Type 0) (A : Term) (hyps : List Term) → Each P hyps → Each P (without A hyps)
each-without P A [] h = tt
each-without P A (B ∷ Bs) h = by (term_eq A B) (each-without P A Bs h.1)
  where
    by : (b : Bool) → Each P (without A Bs) → Each P (cond b (without A Bs) (B ∷ without A Bs))
    by true rest = rest
    by false rest = (h.0, rest)

-- Where all hypotheses are A, none is left without it.
pub without-all : (A : Term) (hyps : List Term) → Each (λ B. B ≡ A) hyps → without A hyps ≡ []
without-all A [] h = refl
without-all A (B ∷ Bs) h = rw (h.0, term_eq-itself A) (without-all A Bs h.1)

-- What is among A and the hypotheses is among the hypotheses without A.
pub each-discharged : (A : Term) (hyps Bs : List Term) → Each (λ B. IsIn B (A ∷ hyps)) Bs → Each (λ B. IsIn B hyps) (without A Bs)
each-discharged A hyps [] h = tt
each-discharged A hyps (B ∷ Bs) h = by (term_eq A B) refl (each-discharged A hyps Bs h.1)
  where
    other : term_eq A B ≡ false → IsIn B (A ∷ hyps) → IsIn B hyps
    other e (inl same) = let whole : term_eq A B ≡ true = rw same (term_eq-itself A) in absurd (cc)
    other e (inr m) = m

    by : (b : Bool) → term_eq A B ≡ b → Each (λ B. IsIn B hyps) (without A Bs) → Each (λ B. IsIn B hyps) (cond b (without A Bs) (B ∷ without A Bs))
    by true e rest = rest
    by false e rest = (other e h.0, rest)

-- What differs from A and is a hypothesis is one of those without A.
pub stays : (A B : Term) (hyps : List Term) → term_eq A B ≡ false → IsIn B hyps → IsIn B (without A hyps)
stays A B [] other m = m
stays A B (C ∷ Cs) other m = by (term_eq A C) refl (stays A B Cs other) m
  where
    by : (b : Bool) → term_eq A C ≡ b → (IsIn B Cs → IsIn B (without A Cs)) → IsIn B (C ∷ Cs) → IsIn B (cond b (without A Cs) (C ∷ without A Cs))
    by true e later (inl same) = (let same_test : term_eq A B ≡ true = rw same e in absurd (cc))
    by true e later (inr n) = later n
    by false e later (inl same) = inl same
    by false e later (inr n) = inr (later n)

pub without-among : (A : Term) (hyps Bs : List Term) → Each (λ B. IsIn B hyps) Bs → Each (λ B. IsIn B (without A hyps)) (without A Bs)
without-among A hyps [] h = tt
without-among A hyps (B ∷ Bs) h = by (term_eq A B) refl (without-among A hyps Bs h.1)
  where
    by : (b : Bool) → term_eq A B ≡ b → Each (λ B. IsIn B (without A hyps)) (without A Bs) → Each (λ B. IsIn B (without A hyps)) (cond b (without A Bs) (B ∷ without A Bs))
    by true e rest = rest
    by false e rest = (stays A B hyps e h.0, rest)

-- An instance of a hypothesis that is not the instance of the discharged one is the instance of one that stays.
pub map-without : (f : Term → Term) (A : Term) (hyps : List Term) (B : Term) → (f A ≢ B) → IsIn B (map f hyps) → IsIn B (map f (without A hyps))
map-without f A [] B other m = m
map-without f A (C ∷ Cs) B other m = by (term_eq A C) refl (map-without f A Cs B other) m
  where
    by : (b : Bool) → term_eq A C ≡ b → (IsIn B (map f Cs) → IsIn B (map f (without A Cs))) → IsIn B (f C ∷ map f Cs) → IsIn B (map f (cond b (without A Cs) (C ∷ without A Cs)))
    by true e later (inl same) = absurd (other (ap f (term_eq-same A C e) ∙ sym same))
    by true e later (inr n) = later n
    by false e later (inl same) = inl same
    by false e later (inr n) = inr (later n)

pub discharged : (f : Term → Term) (A : Term) (hyps Bs : List Term) → Each (λ B. IsIn B (map f hyps)) Bs → Each (λ B. IsIn B (map f (without A hyps))) (without (f A) Bs)
discharged f A hyps [] h = tt
discharged f A hyps (B ∷ Bs) h = by (term_eq (f A) B) refl (discharged f A hyps Bs h.1)
  where
    by : (b : Bool) → term_eq (f A) B ≡ b → Each (λ B. IsIn B (map f (without A hyps))) (without (f A) Bs) → Each (λ B. IsIn B (map f (without A hyps))) (cond b (without (f A) Bs) (B ∷ without (f A) Bs))
    by true e rest = rest
    by false e rest = (map-without f A hyps B (λ same. (let whole : term_eq (f A) B ≡ true = rw (← same) (term_eq-itself (f A)) in absurd (cc))) h.0, rest)

-- What holds of A and of each hypothesis without A holds of all.
pub restored : (P : Term → Type 0) (A : Term) (hyps : List Term) → P A → Each P (without A hyps) → Each P hyps
restored P A [] h k = tt
restored P A (B ∷ Bs) h k = by (term_eq A B) refl (restored P A Bs h) k
  where
    by : (b : Bool) → term_eq A B ≡ b → (Each P (without A Bs) → Each P Bs) → Each P (cond b (without A Bs) (B ∷ without A Bs)) → P B × Each P Bs
    by true e later k = (rw (term_eq-same A B e) at h, later k)
    by false e later k = (k.0, later k.1)
