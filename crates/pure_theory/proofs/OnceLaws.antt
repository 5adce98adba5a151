-- Theories without repeats, put in one after the other.
use Rattle.std.proofs.Common.{◌≡◌, List, [], ◌∷◌, ◌++◌, Bool, true, false, cond, ◌||◌, refl, ap, sym, ◌∙◌, append_assoc, append-nil, ℕ, ◌+◌, ◌<◌, length, get_or, take, add-one}
use Rattle.std.proofs.lemmas.List.{flat_map_more}
use Rattle.std.proofs.lemmas.List.Folds.{list_any_at, list_any_more}
use Rattle.std.specs.Prelude.{Some, None, slice_get}
use Rattle.std.specs.Option.{option_to_list}
use Rattle.pure_text.proofs.LoopLaws.{longer_by}
use Rattle.pure_theory_tables.proofs.GetLaws.{take_next}
use Rattle.std.specs.List.{list_any, flat_map}
use Rattle.pure_logic.specs.Content.{TheoryId, Content}
use Rattle.pure_logic.specs.Beginning.{theory_eq, without_theory, each_once, theories_of, ancestors_of}
use Rattle.pure_logic.proofs.AncestorLaws.{theory_eq-same, theory_eq-itself}
use Rattle.pure_theory.specs.Once.{once_more, all_once_more}

-- Of two theories: they are the same, and the test says so both ways; or it says neither way.
data Told (t u : TheoryId) : Type 0 where
  alike : theory_eq t u ≡ true → theory_eq u t ≡ true → Told t u
  apart : theory_eq t u ≡ false → theory_eq u t ≡ false → Told t u

told : (t u : TheoryId) → Told t u
told t u = by (theory_eq t u) (theory_eq u t) refl refl
  where
    by : (a b : Bool) → theory_eq t u ≡ a → theory_eq u t ≡ b → Told t u
    by true b p q = let e = theory_eq-same t u p in alike p (rw e (theory_eq-itself u))
    by false true p q = let e = theory_eq-same u t q in absurd (let r : theory_eq t u ≡ true = rw e (theory_eq-itself t) in cc)
    by false false p q = apart p q

without-append : (x t : TheoryId) (ts : List TheoryId) → without_theory x (ts ++ t ∷ []) ≡ without_theory x ts ++ cond (theory_eq x t) [] (t ∷ [])
without-append x t [] = by (theory_eq x t)
  where
    by : (b : Bool) → cond b [] (t ∷ []) ≡ cond b [] (t ∷ [])
    by b = refl
without-append x t (u ∷ us) = by (theory_eq x u) (without-append x t us)
  where
    by : (b : Bool) → without_theory x (us ++ t ∷ []) ≡ without_theory x us ++ cond (theory_eq x t) [] (t ∷ []) → cond b (without_theory x (us ++ t ∷ [])) (u ∷ without_theory x (us ++ t ∷ [])) ≡ cond b (without_theory x us) (u ∷ without_theory x us) ++ cond (theory_eq x t) [] (t ∷ [])
    by true later = later
    by false later = ap (λ vs. u ∷ vs) later

any-without : (x t : TheoryId) (ts : List TheoryId) → theory_eq t x ≡ false → list_any (theory_eq t) (without_theory x ts) ≡ list_any (theory_eq t) ts
any-without x t [] h = refl
any-without x t (u ∷ us) h = by (theory_eq x u) refl (any-without x t us h)
  where
    by : (b : Bool) → theory_eq x u ≡ b → list_any (theory_eq t) (without_theory x us) ≡ list_any (theory_eq t) us → list_any (theory_eq t) (cond b (without_theory x us) (u ∷ without_theory x us)) ≡ (theory_eq t u || list_any (theory_eq t) us)
    by true e later = let p : theory_eq t u ≡ false = rw (← theory_eq-same x u e) h in later ∙ ap (λ b. b || list_any (theory_eq t) us) (sym p)
    by false e later = ap (λ b. theory_eq t u || b) later

-- One more theory behind the list.
once-snoc : (xs : List TheoryId) (t : TheoryId) → each_once (xs ++ t ∷ []) ≡ once_more (each_once xs) t
once-snoc [] t = refl
once-snoc (x ∷ xs) t = ap (λ ts. x ∷ without_theory x ts) (once-snoc xs t) ∙ step (told t x) (list_any (theory_eq t) (each_once xs)) refl
  where
    here : theory_eq t x ≡ true → once_more (x ∷ without_theory x (each_once xs)) t ≡ x ∷ without_theory x (each_once xs)
    here p = ap (λ b. cond (b || list_any (theory_eq t) (without_theory x (each_once xs))) (x ∷ without_theory x (each_once xs)) ((x ∷ without_theory x (each_once xs)) ++ t ∷ [])) p

    beside : (b : Bool) → theory_eq t x ≡ false → list_any (theory_eq t) (each_once xs) ≡ b → once_more (x ∷ without_theory x (each_once xs)) t ≡ cond b (x ∷ without_theory x (each_once xs)) ((x ∷ without_theory x (each_once xs)) ++ t ∷ [])
    beside b p q =
        ap (λ c. cond (c || list_any (theory_eq t) (without_theory x (each_once xs))) (x ∷ without_theory x (each_once xs)) ((x ∷ without_theory x (each_once xs)) ++ t ∷ [])) p
        ∙ ap (λ c. cond c (x ∷ without_theory x (each_once xs)) ((x ∷ without_theory x (each_once xs)) ++ t ∷ [])) (any-without x t (each_once xs) p ∙ q)

    step : Told t x → (b : Bool) → list_any (theory_eq t) (each_once xs) ≡ b → x ∷ without_theory x (cond b (each_once xs) (each_once xs ++ t ∷ [])) ≡ once_more (x ∷ without_theory x (each_once xs)) t
    step (alike p q) true r = sym (here p)
    step (alike p q) false r = ap (λ ts. x ∷ ts) (without-append x t (each_once xs) ∙ ap (λ b. without_theory x (each_once xs) ++ cond b [] (t ∷ [])) q ∙ append-nil (without_theory x (each_once xs))) ∙ sym (here p)
    step (apart p q) true r = sym (beside true p r)
    step (apart p q) false r = ap (λ ts. x ∷ ts) (without-append x t (each_once xs) ∙ ap (λ b. without_theory x (each_once xs) ++ cond b [] (t ∷ [])) q) ∙ sym (beside false p r)

pub all_once : (xs us : List TheoryId) → all_once_more (each_once xs) us ≡ each_once (xs ++ us)
all_once xs [] = ap each_once (sym (append-nil xs))
all_once xs (u ∷ us) = ap (λ ts. all_once_more ts us) (sym (once-snoc xs u)) ∙ all_once (xs ++ u ∷ []) us ∙ ap each_once (append_assoc xs (u ∷ []) us)

pub all_once_more-append : (ts us vs : List TheoryId) → all_once_more ts (us ++ vs) ≡ all_once_more (all_once_more ts us) vs
all_once_more-append ts [] vs = refl
all_once_more-append ts (u ∷ us) vs = all_once_more-append (once_more ts u) us vs

-- One turn over theories that are put in one after the other.
pub once_turn : (ts us now after : List TheoryId) (i : ℕ) (t : TheoryId) → i < length us → t ≡ get_or us i t → now ≡ all_once_more ts (take i us) → after ≡ once_more now t → after ≡ all_once_more ts (take (i + 1) us)
once_turn ts us now after i t short is h k = rw (longer_by us i t short is, all_once_more-append ts (take i us) (t ∷ []), k, h) refl

-- The ancestors of a theory, and then its own.
pub once_own : (ts : List TheoryId) (Q : Content) (now after : List TheoryId) (own : TheoryId) → now ≡ all_once_more ts Q.ancestors → Q.own ≡ Some own → after ≡ once_more now own → after ≡ all_once_more ts (theories_of Q)
once_own ts Q now after own h e k = rw (all_once_more-append ts Q.ancestors (option_to_list Q.own), e, k, h) refl

pub once_ownless : (ts : List TheoryId) (Q : Content) (now : List TheoryId) → now ≡ all_once_more ts Q.ancestors → Q.own ≡ None → now ≡ all_once_more ts (theories_of Q)
once_ownless ts Q now h e = rw (all_once_more-append ts Q.ancestors (option_to_list Q.own), e, h) refl

-- One turn over contents whose theories are put in.
pub theories_turn : (parents : List Content) (i : ℕ) (P : Content) (now after : List TheoryId) → slice_get parents i ≡ Some P → now ≡ all_once_more [] (flat_map theories_of (take i parents)) → after ≡ all_once_more now (theories_of P) → after ≡ all_once_more [] (flat_map theories_of (take (i + 1) parents))
theories_turn parents i P now after held h k =
    let longer : take (i + 1) parents ≡ take i parents ++ P ∷ [] = rw add-one (take_next parents i P held) in
    rw (longer, ← flat_map_more theories_of [] (take i parents) P, all_once_more-append [] (flat_map theories_of (take i parents)) (theories_of P), k, h) refl

pub all_theories : (parents : List Content) (now : List TheoryId) → now ≡ all_once_more [] (flat_map theories_of parents) → now ≡ ancestors_of parents
all_theories parents now h = h ∙ all_once [] (flat_map theories_of parents)

-- Whether a theory is in a list, one theory after another.
pub any_here : (t u : TheoryId) (ts : List TheoryId) (i : ℕ) → i < length ts → u ≡ get_or ts i u → theory_eq t u ≡ true → list_any (theory_eq t) ts ≡ true
any_here t u ts i short is same = list_any_at (theory_eq t) ts i u short (ap (theory_eq t) (sym is) ∙ same)

pub any_next : (t u : TheoryId) (ts : List TheoryId) (i : ℕ) → i < length ts → u ≡ get_or ts i u → list_any (theory_eq t) (take i ts) ≡ false → theory_eq t u ≡ false → list_any (theory_eq t) (take (i + 1) ts) ≡ false
any_next t u ts i short is before here =
    let last : theory_eq t (get_or ts i u) ≡ false = ap (theory_eq t) (sym is) ∙ here in
    rw (list_any_more (theory_eq t) ts i u short, before, last) refl
