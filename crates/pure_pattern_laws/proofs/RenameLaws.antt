-- Renamed terms: their types, their long forms, and their steps.
use Rattle.std.proofs.Common.{◌≡◌, ℕ, zero, suc, ◌+◌, List, [], ◌∷◌, Bool, true, false, ap, refl, sym, ◌∙◌, arith, nat_lt, slice_get, Some, map}
use Rattle.std.proofs.lemmas.Bool.Decides.{nat_tests}
use Rattle.std.specs.Prelude.{◌-◌, if◌then◌else◌}
use Rattle.pure_text.specs.Lists.{EachTwo}
use Rattle.pure_definitions.specs.Types.Typ.{Typ, arrow}
use Rattle.pure_definitions.specs.Terms.Term.{Term, Const, Free, Var, Bound, Abs, App}
use Rattle.pure_definitions.specs.Terms.Bounds.{lift_term}
use Rattle.pure_definitions.specs.Terms.Typing.{HasType}
use Rattle.pure_definitions.specs.Reduction.Beta.{IsAbs, IsBetaNormal}
use Rattle.pure_definitions.specs.Reduction.Eta.{EtaStep, EtaReduces, abstraction_count, HasSaturatedParts}
use Rattle.pure_definitions.proofs.NormalLemmas.{abstraction-lift}
use Rattle.pure_eta.proofs.LongLaws.{IsLong, no_abstraction}
use Rattle.pure_eta.proofs.KeptLaws.{steps_keep_beta_normal}
use Rattle.pure_unify_definitions.specs.Fronts.{front, head}
use Rattle.pure_pattern_laws.specs.Patterns.{IsPlace}
use Rattle.pure_pattern_laws.specs.Putting.{bound_place, place_of, place_in, renamed}
use Rattle.pure_pattern_laws.proofs.PlacedLaws.{raised, renaming, renaming-same, renaming-renaming, lift-suc}

-- Each binder has its type where it is renamed to.
abbrev pub IsScoped : (ℕ → ℕ) → (bs cs : List Typ) → Type 0
IsScoped r bs cs = (p : ℕ) (U : Typ) → slice_get bs p ≡ Some U → slice_get cs (r p) ≡ Some U

scoped-raised : (r : ℕ → ℕ) (V : Typ) (bs cs : List Typ) → IsScoped r bs cs → IsScoped (raised r) (V ∷ bs) (V ∷ cs)
scoped-raised r V bs cs h zero U e = e
scoped-raised r V bs cs h (suc p) U e = h p U e

pub renaming-typed : (r : ℕ → ℕ) (bs cs : List Typ) → IsScoped r bs cs → (t : Term) (T : Typ) → HasType bs t T → HasType cs (renaming r t) T
renaming-typed r bs cs h (Const c V) T k = k
renaming-typed r bs cs h (Free x V) T k = k
renaming-typed r bs cs h (Var x i V) T k = k
renaming-typed r bs cs h (Bound p) T k = h p T k
renaming-typed r bs cs h (Abs V b) T k = (k.0, renaming-typed (raised r) (V ∷ bs) (V ∷ cs) (scoped-raised r V bs cs h) b k.0 k.1, k.2)
renaming-typed r bs cs h (App f a) T k = (k.0, renaming-typed r bs cs h f (arrow k.0 T) k.1, renaming-typed r bs cs h a k.0 k.2)

pub renaming-unabs : (r : ℕ → ℕ) (t : Term) → IsAbs (renaming r t) → IsAbs t
renaming-unabs r (Const c V) k = k
renaming-unabs r (Free x V) k = k
renaming-unabs r (Var x i V) k = k
renaming-unabs r (Bound p) k = k
renaming-unabs r (Abs V b) k = tt
renaming-unabs r (App f a) k = k

pub renaming-normal : (r : ℕ → ℕ) (t : Term) → IsBetaNormal t → IsBetaNormal (renaming r t)
renaming-normal r (Const c V) n = tt
renaming-normal r (Free x V) n = tt
renaming-normal r (Var x i V) n = tt
renaming-normal r (Bound p) n = tt
renaming-normal r (Abs V b) n = renaming-normal (raised r) b n
renaming-normal r (App f a) n = (λ k. n.0 (renaming-unabs r f k), renaming-normal r f n.1, renaming-normal r a n.2)

pub renaming-count : (r : ℕ → ℕ) (t : Term) → abstraction_count (renaming r t) ≡ abstraction_count t
renaming-count r (Const c V) = refl
renaming-count r (Free x V) = refl
renaming-count r (Var x i V) = refl
renaming-count r (Bound p) = refl
renaming-count r (Abs V b) = ap (λ n. 1 + n) (renaming-count (raised r) b)
renaming-count r (App f a) = refl

pub renaming-parts : (r : ℕ → ℕ) (bs cs : List Typ) → IsScoped r bs cs → (t : Term) → HasSaturatedParts bs t → HasSaturatedParts cs (renaming r t)
renaming-parts r bs cs h (Const c V) p = tt
renaming-parts r bs cs h (Free x V) p = tt
renaming-parts r bs cs h (Var x i V) p = tt
renaming-parts r bs cs h (Bound q) p = tt
renaming-parts r bs cs h (Abs V b) p =
    let inner = scoped-raised r V bs cs h in
    ((p.0.0, renaming-typed (raised r) (V ∷ bs) (V ∷ cs) inner b p.0.0 p.0.1, renaming-count (raised r) b ∙ p.0.2), renaming-parts (raised r) (V ∷ bs) (V ∷ cs) inner b p.1)
renaming-parts r bs cs h (App f a) p =
    (renaming-parts r bs cs h f p.0, (p.1.0, renaming-typed r bs cs h a p.1.0 p.1.1, renaming-count r a ∙ p.1.2), renaming-parts r bs cs h a p.2)

pub renaming-long : (r : ℕ → ℕ) (bs cs : List Typ) → IsScoped r bs cs → (t : Term) (T : Typ) → IsLong bs t t T → IsLong cs (renaming r t) (renaming r t) T
renaming-long r bs cs h t T k = record {
  typed = renaming-typed r bs cs h t T k.typed;
  reduces = EtaReduces.done;
  normal = renaming-normal r t k.normal;
  count = renaming-count r t ∙ k.count;
  parts = renaming-parts r bs cs h t k.parts;
}

-- The renaming by a list.
abbrev renamed_place : (n : ℕ) → (ws : List ℕ) → ℕ → ℕ
renamed_place n ws p = if nat_lt p n then p else n + place_in ws (p - n)

raised-place : (n : ℕ) (ws : List ℕ) (p : ℕ) → renamed_place (n + 1) ws p ≡ raised (renamed_place n ws) p
raised-place n ws zero = (let low : nat_lt 0 (n + 1) ≡ true = grind (arith, nat_tests) in rw low refl)
raised-place n ws (suc p) = by_cases (nat_lt p n) refl
  where
    by_cases : (b : Bool) → nat_lt p n ≡ b → renamed_place (n + 1) ws (suc p) ≡ suc (renamed_place n ws p)
    by_cases true e = (let low : nat_lt (suc p) (n + 1) ≡ true = grind (arith, nat_tests) in rw (e, low) refl)
    by_cases false e =
        let high : nat_lt (suc p) (n + 1) ≡ false = grind (arith, nat_tests) in
        let number : suc p - (n + 1) ≡ p - n = omega arith in
        let whole : (n + 1) + place_in ws (p - n) ≡ suc (n + place_in ws (p - n)) = omega arith in
        rw (e, high, number) whole

renamed-bound : (n : ℕ) (ws : List ℕ) (p : ℕ) → renamed n ws (Bound p) ≡ Bound (renamed_place n ws p)
renamed-bound n ws p = by_cases (nat_lt p n)
  where
    by_cases : (b : Bool) → (if b then Bound p else Bound (n + place_in ws (p - n))) ≡ Bound (if b then p else n + place_in ws (p - n))
    by_cases true = refl
    by_cases false = refl

renamed-under : (n : ℕ) (ws : List ℕ) (t : Term) → renamed n ws t ≡ renaming (renamed_place n ws) t
renamed-under n ws (Const c V) = refl
renamed-under n ws (Free x V) = refl
renamed-under n ws (Var x i V) = refl
renamed-under n ws (Bound p) = renamed-bound n ws p
renamed-under n ws (Abs V b) = ap (Abs V) (renamed-under (n + 1) ws b ∙ renaming-same (renamed_place (n + 1) ws) (raised (renamed_place n ws)) (raised-place n ws) b)
renamed-under n ws (App f a) = λ l. App (renamed-under n ws f l) (renamed-under n ws a l)

first-place : (ws : List ℕ) (p : ℕ) → renamed_place 0 ws p ≡ place_in ws p
first-place ws p =
    let high : nat_lt p 0 ≡ false = grind (arith, nat_tests) in
    let number : p - 0 ≡ p = omega arith in
    let whole : 0 + place_in ws p ≡ place_in ws p = omega arith in
    rw (high, number) whole

pub renamed-renaming : (ws : List ℕ) (t : Term) → renamed 0 ws t ≡ renaming (place_in ws) t
renamed-renaming ws t = renamed-under 0 ws t ∙ renaming-same (renamed_place 0 ws) (place_in ws) (first-place ws) t

-- Eta steps of renamed terms.
renaming-lift : (r : ℕ → ℕ) (t : Term) → renaming (raised r) (lift_term 1 0 t) ≡ lift_term 1 0 (renaming r t)
renaming-lift r t = ap (renaming (raised r)) (lift-suc t) ∙ (renaming-renaming (raised r) suc t ∙ (sym (renaming-renaming suc r t) ∙ sym (lift-suc (renaming r t))))

renaming-step : (r : ℕ → ℕ) {t u : Term} → EtaStep t u → EtaStep (renaming r t) (renaming r u)
renaming-step r (EtaStep.contract {f = f} e) = EtaStep.contract (ap (renaming (raised r)) e ∙ renaming-lift r f)
renaming-step r (EtaStep.body s) = EtaStep.body (renaming-step (raised r) s)
renaming-step r (EtaStep.function s) = EtaStep.function (renaming-step r s)
renaming-step r (EtaStep.argument s) = EtaStep.argument (renaming-step r s)

pub renaming-eta : (r : ℕ → ℕ) {t u : Term} → EtaReduces t u → EtaReduces (renaming r t) (renaming r u)
renaming-eta r EtaReduces.done = EtaReduces.done
renaming-eta r (EtaReduces.next s k) = EtaReduces.next (renaming-step r s) (renaming-eta r k)

-- Which bound variable a normal term is up to eta steps, its head tells.
front-lift : (q : ℕ) (t : Term) → front t ≡ Bound q → front (lift_term 1 0 t) ≡ Bound (q + 1)
front-lift q (Const c V) e = absurd (cc)
front-lift q (Free x V) e = absurd (cc)
front-lift q (Var x i V) e = absurd (cc)
front-lift q (Bound p) e =
    let same : p ≡ q = cc in
    let high : nat_lt p 0 ≡ false = grind (arith, nat_tests) in
    rw (high, same) refl
front-lift q (Abs V b) e = absurd (cc)
front-lift q (App f a) e = front-lift q f e

front-back : {t u : Term} (q : ℕ) → EtaStep t u → IsBetaNormal t → ¬ IsAbs t → front u ≡ Bound q → front t ≡ Bound q
front-back q (EtaStep.contract s) n o e = absurd (o tt)
front-back q (EtaStep.body s) n o e = absurd (o tt)
front-back q (EtaStep.function s) n o e = front-back q s n.1 n.0 e
front-back q (EtaStep.argument s) n o e = e

bare-head : (t : Term) → ¬ IsAbs t → head t ≡ front t
bare-head (Const c V) n = refl
bare-head (Free x V) n = refl
bare-head (Var x i V) n = refl
bare-head (Bound p) n = refl
bare-head (Abs V b) n = absurd (n tt)
bare-head (App f a) n = refl

head-contract : (q : ℕ) (T : Typ) (f g : Term) → g ≡ lift_term 1 0 f → ¬ IsAbs g → head f ≡ Bound (q + abstraction_count f) → head (Abs T (App g (Bound 0))) ≡ Bound (q + abstraction_count (Abs T (App g (Bound 0))))
head-contract q T f g e n h =
    let bare : ¬ IsAbs f = λ k. n (rw e (abstraction-lift 1 0 f k)) in
    let count : q + abstraction_count f ≡ q = (let z = no_abstraction f bare in omega arith) in
    let at_front : front f ≡ Bound q = sym (bare-head f bare) ∙ (h ∙ ap Bound count) in
    rw e (front-lift q f at_front)

head-back : {t u : Term} (q : ℕ) → EtaStep t u → IsBetaNormal t → head u ≡ Bound (q + abstraction_count u) → head t ≡ Bound (q + abstraction_count t)
head-back q (EtaStep.contract {T = T} {f = f} {g = g} e) n h = head-contract q T f g e n.0 h
head-back q (EtaStep.body {b = b} {c = c} s) n h =
    let inner = head-back (q + 1) s n (h ∙ ap Bound (omega arith)) in
    inner ∙ ap Bound (omega arith)
head-back q (EtaStep.function {f = f} {g = g} s) n h = front-back (q + 0) s n.1 n.0 h
head-back q (EtaStep.argument s) n h = h

pub place-head : {t : Term} (z : ℕ) → IsPlace t z → IsBetaNormal t → head t ≡ Bound (z + abstraction_count t)
place-head z EtaReduces.done n = ap Bound (omega arith)
place-head {t = t} z (EtaReduces.next {u = u} s r) n = head-back z s n (place-head z r (steps_keep_beta_normal t u (EtaReduces.next s EtaReduces.done) n))

pub place-is : (t : Term) (z : ℕ) → IsPlace t z → IsBetaNormal t → place_of t ≡ z
place-is t z h n =
    let found : bound_place (head t) ≡ z + abstraction_count t = ap bound_place (place-head z h n) in
    omega arith

pub places-are : (ts : List Term) (zs : List ℕ) → EachTwo IsPlace ts zs → EachTwo (λ t z. IsBetaNormal t) ts zs → map place_of ts ≡ zs
places-are [] [] h n = refl
places-are [] (z ∷ zs) h n = absurd h
places-are (t ∷ ts) [] h n = absurd h
places-are (t ∷ ts) (z ∷ zs) h n = λ l. place-is t z h.0 n.0 l ∷ places-are ts zs h.1 n.1 l
