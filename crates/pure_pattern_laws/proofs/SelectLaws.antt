-- What two sides have in common: a term below abstractions over the bound variables that both keep.
use Rattle.std.proofs.Common.{◌≡◌, ◌⊎◌, ℕ, zero, suc, ◌+◌, ◌<◌, inl, inr, List, [], ◌∷◌, length, Bool, true, false, ap, refl, sym, subst, ◌∙◌, arith, nat_eq, slice_get, Option, Some, None, option_map, reverse, ◌||◌}
use Rattle.std.proofs.lemmas.Bool.{eqb-true, eq-eqb}
use Rattle.std.proofs.lemmas.Bool.Decides.{nat_tests}
use Rattle.std.specs.Prelude.{if◌then◌else◌}
use Rattle.std.specs.List.{list_any}
use mathlib.Core.List.{reverse_aux}
use Rattle.pure_text.specs.Lists.{IsIn, EachTwo, AreDistinct}
use Rattle.pure_text.proofs.ListLaws.{two_long}
use Rattle.pure_definitions.specs.Types.Typ.{Typ, prop}
use Rattle.pure_definitions.specs.Terms.Term.{Term, Const, Free, Var, Bound, Abs, App}
use Rattle.pure_definitions.specs.Terms.Typing.{HasType}
use Rattle.pure_reduction.specs.Steps.{BetaReduces}
use Rattle.pure_unify_definitions.specs.Fronts.{below, function_typ, applied, bounds}
use Rattle.pure_unify_laws.proofs.SplitLaws.{under}
use Rattle.pure_unify_final.proofs.ExtendLaws.{below-typed}
use Rattle.pure_pattern_laws.specs.Places.{agreeing, shared_left}
use Rattle.pure_pattern_laws.specs.Putting.{place_in}
use Rattle.pure_pattern_laws.proofs.PlacedLaws.{raised, renaming, shifted, placed, placed_after-renaming, renaming_after-placed}
use Rattle.pure_pattern_laws.proofs.RenameLaws.{renaming-typed}
use Rattle.pure_pattern_laws.proofs.PutLaws.{bound_terms, below-renamed}
use Rattle.pure_pattern_laws.proofs.PatternLaws.{low-place, reverse-apart, length-under}
use Rattle.pure_pattern_laws.proofs.ListLaws.{numbers, low-numbers}

-- Where a bound variable stands in a list.
abbrev pub find_place : ℕ → List ℕ → Option ℕ
find_place q [] = None
find_place q (w ∷ ws) = if nat_eq q w then Some 0 else option_map suc (find_place q ws)

later-found : (o : Option ℕ) (i : ℕ) → option_map suc o ≡ Some i → (j : ℕ) × (o ≡ Some j) × (i ≡ suc j)
later-found None i e = absurd (cc)
later-found (Some j) i e = (j, refl, cc)

find-cases : (q w : ℕ) (ws : List ℕ) (i : ℕ) → find_place q (w ∷ ws) ≡ Some i → ((q ≡ w) × (i ≡ 0)) ⊎ ((j : ℕ) × (find_place q ws ≡ Some j) × (i ≡ suc j))
find-cases q w ws i e = by_cases (nat_eq q w) refl e
  where
    by_cases : (b : Bool) → nat_eq q w ≡ b → (if b then Some 0 else option_map suc (find_place q ws)) ≡ Some i → ((q ≡ w) × (i ≡ 0)) ⊎ ((j : ℕ) × (find_place q ws ≡ Some j) × (i ≡ suc j))
    by_cases true t f = inl (eqb-true q w t, cc)
    by_cases false t f = inr (later-found (find_place q ws) i f)

find-is : (q : ℕ) (ws : List ℕ) (i : ℕ) → find_place q ws ≡ Some i → (place_in ws i ≡ q) × (i < length ws)
find-is q [] i e = absurd (cc)
find-is q (w ∷ ws) i e = elim (find-cases q w ws i e) [
  | inl k ↦ (subst (λ j. place_in (w ∷ ws) j ≡ q) (sym k.1) (sym k.0), (let z = k.1 in omega arith))
  | inr k ↦ (let rest = find-is q ws k.0 k.1 in (subst (λ j. place_in (w ∷ ws) j ≡ q) (sym k.2) rest.0, (let z = k.2 in let l = rest.1 in omega arith)))
]

find-in : (q : ℕ) (ws : List ℕ) → IsIn q ws → (i : ℕ) × (find_place q ws ≡ Some i)
find-in q [] m = absurd m
find-in q (w ∷ ws) (inl e) = (let t = eq-eqb q w e in (0, rw t refl))
find-in q (w ∷ ws) (inr m) = by_cases (nat_eq q w) refl (find-in q ws m)
  where
    by_cases : (b : Bool) → nat_eq q w ≡ b → (i : ℕ) × (find_place q ws ≡ Some i) → (i : ℕ) × (find_place q (w ∷ ws) ≡ Some i)
    by_cases true t rest = (0, rw t refl)
    by_cases false t rest = (suc rest.0, rw (t, rest.1) refl)

-- What is found has the type of what is looked for.
abbrev IsFoundScoped : (bs ds : List Typ) → List ℕ → Type 0
IsFoundScoped bs ds ws = (q i : ℕ) (V : Typ) → find_place q ws ≡ Some i → slice_get bs q ≡ Some V → slice_get ds i ≡ Some V

found-scoped : (Us : List Typ) (qs : List ℕ) (bs ds : List Typ) (ws : List ℕ) → EachTwo (λ q U. slice_get bs q ≡ Some U) qs Us → IsFoundScoped bs ds ws → IsFoundScoped bs (under Us ds) (reverse_aux qs ws)
found-scoped [] [] bs ds ws h k = k
found-scoped [] (q ∷ qs) bs ds ws h k = absurd h
found-scoped (U ∷ Us) [] bs ds ws h k = absurd h
found-scoped (U ∷ Us) (q ∷ qs) bs ds ws h k = found-scoped Us qs bs (U ∷ ds) (q ∷ ws) h.1 inner
  where
    inner : IsFoundScoped bs (U ∷ ds) (q ∷ ws)
    inner p i V e f = elim (find-cases p q ws i e) [
      | inl m ↦ subst (λ j. slice_get (U ∷ ds) j ≡ Some V) (sym m.1) (sym h.0 ∙ (ap (slice_get bs) (sym m.0) ∙ f))
      | inr m ↦ subst (λ j. slice_get (U ∷ ds) j ≡ Some V) (sym m.2) (k p m.0 V m.1 f)
    ]

-- the bound variable in the list, or else some other term of its type
abbrev other_of : Option Typ → Term
other_of (Some V) = Free 0 V
other_of None = Free 0 prop

abbrev selected_of : List Typ → ℕ → Option ℕ → Term
selected_of bs q (Some i) = Bound i
selected_of bs q None = other_of (slice_get bs q)

abbrev selected : List Typ → List ℕ → ℕ → Term
selected bs ws q = selected_of bs q (find_place q ws)

selected-typed : (bs cs : List Typ) (ws : List ℕ) → IsFoundScoped bs cs ws → (q : ℕ) (V : Typ) → slice_get bs q ≡ Some V → HasType cs (selected bs ws q) V
selected-typed bs cs ws h q V e = by_cases (find_place q ws) refl
  where
    by_cases : (o : Option ℕ) → find_place q ws ≡ o → HasType cs (selected_of bs q o) V
    by_cases (Some i) f = h q i V f e
    by_cases None f = rw e refl

pub placed-typed : (s : ℕ → Term) (bs cs : List Typ) → ((p : ℕ) (V : Typ) → slice_get bs p ≡ Some V → HasType cs (s p) V) → (t : Term) (T : Typ) → HasType bs t T → HasType cs (placed s t) T
placed-typed s bs cs h (Const c V) T k = k
placed-typed s bs cs h (Free x V) T k = k
placed-typed s bs cs h (Var x i V) T k = k
placed-typed s bs cs h (Bound p) T k = h p T k
placed-typed s bs cs h (Abs A b) T k = (k.0, placed-typed (shifted s) (A ∷ bs) (A ∷ cs) inner b k.0 k.1, k.2)
  where
    inner : (p : ℕ) (V : Typ) → slice_get (A ∷ bs) p ≡ Some V → HasType (A ∷ cs) (shifted s p) V
    inner zero V e = e
    inner (suc p) V e = renaming-typed suc cs (A ∷ cs) (λ q U f. f) (s p) V (h p V e)
placed-typed s bs cs h (App f a) T k = (k.0, placed-typed s bs cs h f _ k.1, placed-typed s bs cs h a k.0 k.2)

-- Where two renamings of a term agree, only bound variables on which they agree occur in it.
pub agree-placed : (r q : ℕ → ℕ) (s : ℕ → Term) (bs : List Typ) → ((p : ℕ) (V : Typ) → slice_get bs p ≡ Some V → r p ≡ q p → s p ≡ Bound p) → (t : Term) (T : Typ) → HasType bs t T → renaming r t ≡ renaming q t → placed s t ≡ t
agree-placed r q s bs h (Const c V) T k e = refl
agree-placed r q s bs h (Free x V) T k e = refl
agree-placed r q s bs h (Var x i V) T k e = refl
agree-placed r q s bs h (Bound p) T k e = (let same : r p ≡ q p = cc in h p T k same)
agree-placed r q s bs h (Abs A b) T k e = (let same : renaming (raised r) b ≡ renaming (raised q) b = cc in ap (Abs A) (agree-placed (raised r) (raised q) (shifted s) (A ∷ bs) inner b k.0 k.1 same))
  where
    inner : (p : ℕ) (V : Typ) → slice_get (A ∷ bs) p ≡ Some V → raised r p ≡ raised q p → shifted s p ≡ Bound p
    inner zero V f g = refl
    inner (suc p) V f g = ap (renaming suc) (h p V f (omega arith))
agree-placed r q s bs h (App f a) T k e =
    let functions : renaming r f ≡ renaming q f = cc in
    let arguments : renaming r a ≡ renaming q a = cc in
    λ l. App (agree-placed r q s bs h f _ k.1 functions l) (agree-placed r q s bs h a k.0 k.2 arguments l)

-- Where renamings of two terms agree, only bound variables occur that one of the other term is renamed to, too.
abbrev IsCommon : (r q : ℕ → ℕ) (s : ℕ → Term) (bs cs : List Typ) → Type 0
IsCommon r q s bs cs = (p m : ℕ) (V W : Typ) → slice_get bs p ≡ Some V → slice_get cs m ≡ Some W → r p ≡ q m → s p ≡ Bound p

common-raised : (r q : ℕ → ℕ) (s : ℕ → Term) (bs cs : List Typ) (A B : Typ) → IsCommon r q s bs cs → IsCommon (raised r) (raised q) (shifted s) (A ∷ bs) (B ∷ cs)
common-raised r q s bs cs A B h zero m V W e f g = refl
common-raised r q s bs cs A B h (suc p) zero V W e f g = absurd (omega arith)
common-raised r q s bs cs A B h (suc p) (suc m) V W e f g = ap (renaming suc) (h p m V W e f (omega arith))

pub two-placed : (r q : ℕ → ℕ) (s : ℕ → Term) (bs cs : List Typ) → IsCommon r q s bs cs → (t u : Term) (T U : Typ) → HasType bs t T → HasType cs u U → renaming r t ≡ renaming q u → placed s t ≡ t
two-placed r q s bs cs h (Const c V) u T U k l e = refl
two-placed r q s bs cs h (Free x V) u T U k l e = refl
two-placed r q s bs cs h (Var x i V) u T U k l e = refl
two-placed r q s bs cs h (Bound p) (Bound m) T U k l e = (let same : r p ≡ q m = cc in h p m T U k l same)
two-placed r q s bs cs h (Bound p) (Const c V) T U k l e = absurd (cc)
two-placed r q s bs cs h (Bound p) (Free x V) T U k l e = absurd (cc)
two-placed r q s bs cs h (Bound p) (Var x i V) T U k l e = absurd (cc)
two-placed r q s bs cs h (Bound p) (Abs A b) T U k l e = absurd (cc)
two-placed r q s bs cs h (Bound p) (App f a) T U k l e = absurd (cc)
two-placed r q s bs cs h (Abs A b) (Abs B c) T U k l e =
    let same : renaming (raised r) b ≡ renaming (raised q) c = cc in
    ap (Abs A) (two-placed (raised r) (raised q) (shifted s) (A ∷ bs) (B ∷ cs) (common-raised r q s bs cs A B h) b c k.0 l.0 k.1 l.1 same)
two-placed r q s bs cs h (Abs A b) (Const c V) T U k l e = absurd (cc)
two-placed r q s bs cs h (Abs A b) (Free x V) T U k l e = absurd (cc)
two-placed r q s bs cs h (Abs A b) (Var x i V) T U k l e = absurd (cc)
two-placed r q s bs cs h (Abs A b) (Bound p) T U k l e = absurd (cc)
two-placed r q s bs cs h (Abs A b) (App f a) T U k l e = absurd (cc)
two-placed r q s bs cs h (App f a) (App g b) T U k l e =
    let functions : renaming r f ≡ renaming q g = cc in
    let arguments : renaming r a ≡ renaming q b = cc in
    λ i. App (two-placed r q s bs cs h f g _ _ k.1 l.1 functions i) (two-placed r q s bs cs h a b k.0 l.0 k.2 l.2 arguments i)
two-placed r q s bs cs h (App f a) (Const c V) T U k l e = absurd (cc)
two-placed r q s bs cs h (App f a) (Free x V) T U k l e = absurd (cc)
two-placed r q s bs cs h (App f a) (Var x i V) T U k l e = absurd (cc)
two-placed r q s bs cs h (App f a) (Bound p) T U k l e = absurd (cc)
two-placed r q s bs cs h (App f a) (Abs B c) T U k l e = absurd (cc)

-- Lists turned round.
pub reverse-two : {A B : Type 0} (R : A → B → Type 0) (xs us : List A) (ys vs : List B) → EachTwo R xs ys → EachTwo R us vs → EachTwo R (reverse_aux xs us) (reverse_aux ys vs)
reverse-two R [] us [] vs h k = k
reverse-two R [] us (y ∷ ys) vs h k = absurd h
reverse-two R (x ∷ xs) us [] vs h k = absurd h
reverse-two R (x ∷ xs) us (y ∷ ys) vs h k = reverse-two R xs (x ∷ us) ys (y ∷ vs) h.1 (h.0, k)

place-two : (R : ℕ → ℕ → Type 0) (ws vs : List ℕ) (i : ℕ) → EachTwo R ws vs → i < length ws → R (place_in ws i) (place_in vs i)
place-two R [] vs i h l = absurd (omega arith)
place-two R (w ∷ ws) [] i h l = absurd h
place-two R (w ∷ ws) (v ∷ vs) zero h l = h.0
place-two R (w ∷ ws) (v ∷ vs) (suc i) h l = place-two R ws vs i h.1 (omega arith)

pub in-reverse_aux : (x : ℕ) (zs ws : List ℕ) → IsIn x zs ⊎ IsIn x ws → IsIn x (reverse_aux zs ws)
in-reverse_aux x [] ws (inl m) = absurd m
in-reverse_aux x [] ws (inr m) = m
in-reverse_aux x (z ∷ zs) ws (inl (inl e)) = in-reverse_aux x zs (z ∷ ws) (inr (inl e))
in-reverse_aux x (z ∷ zs) ws (inl (inr m)) = in-reverse_aux x zs (z ∷ ws) (inl m)
in-reverse_aux x (z ∷ zs) ws (inr m) = in-reverse_aux x zs (z ∷ ws) (inr (inr m))

pub of-reverse_aux : (x : ℕ) (zs ws : List ℕ) → IsIn x (reverse_aux zs ws) → IsIn x zs ⊎ IsIn x ws
of-reverse_aux x [] ws m = inr m
of-reverse_aux x (z ∷ zs) ws m = elim (of-reverse_aux x zs (z ∷ ws) m) [ inl k ↦ inl (inr k) | inr k ↦ by_cases k ]
  where
    by_cases : IsIn x (z ∷ ws) → IsIn x (z ∷ zs) ⊎ IsIn x ws
    by_cases (inl e) = inl (inl e)
    by_cases (inr k) = inr k

-- The bound variables by which places are told, in order.
place-behind : (zs ws : List ℕ) (j : ℕ) → place_in (reverse_aux zs ws) (length zs + j) ≡ place_in ws j
place-behind [] ws j = ap (place_in ws) (omega arith)
place-behind (z ∷ zs) ws j = ap (place_in (reverse_aux zs (z ∷ ws))) (omega arith) ∙ place-behind zs (z ∷ ws) (suc j)

place-first : (zs ws : List ℕ) (z : ℕ) → place_in (reverse_aux zs (z ∷ ws)) (length zs) ≡ z
place-first zs ws z = ap (place_in (reverse_aux zs (z ∷ ws))) (omega arith) ∙ place-behind zs (z ∷ ws) 0

numbers-match : (zs ws : List ℕ) → EachTwo (λ z k. place_in (reverse_aux zs ws) k ≡ z) zs (numbers (length zs))
numbers-match [] ws = tt
numbers-match (z ∷ zs) ws = (place-first zs ws z, numbers-match zs (z ∷ ws))

pub two-with : {A B : Type 0} (R S : A → B → Type 0) (xs : List A) (ys : List B) → ((x : A) (y : B) → IsIn y ys → R x y → S x y) → EachTwo R xs ys → EachTwo S xs ys
two-with R S [] [] h k = tt
two-with R S [] (y ∷ ys) h k = absurd k
two-with R S (x ∷ xs) [] h k = absurd k
two-with R S (x ∷ xs) (y ∷ ys) h k = (h x y (inl refl) k.0, two-with R S xs ys (λ u v m r. h u v (inr m) r) k.1)

pub in-numbers : (n m : ℕ) → m < n → IsIn m (numbers n)
in-numbers zero m l = absurd (omega arith)
in-numbers (suc n) m l = by_cases (nat_eq m n) refl (λ k. in-numbers n m k)
  where
    by_cases : (b : Bool) → nat_eq m n ≡ b → (m < n → IsIn m (numbers n)) → IsIn m (numbers (suc n))
    by_cases true e rest = inl (eqb-true m n e)
    by_cases false e rest = inr (rest (grind (arith, nat_tests)))

-- the bound variable of its own abstractions by which a function tells the place at which it is applied to z
pub record IsOwn (zs : List ℕ) (z k : ℕ) : Type 0 where
  pub is : place_in (reverse zs) k ≡ z
  pub low : k < length zs

pub own-numbers : (zs : List ℕ) → EachTwo (IsOwn zs) zs (numbers (length zs))
own-numbers zs = two-with (λ z k. place_in (reverse zs) k ≡ z) (IsOwn zs) zs (numbers (length zs)) (λ z k m e. record { is = e; low = low-numbers (length zs) k m }) (numbers-match zs [])

pub bounds-are : (n : ℕ) → EachTwo (λ u k. u ≡ Bound k) (bounds n) (numbers n)
bounds-are zero = tt
bounds-are (suc n) = (refl, bounds-are n)

pub as-bounds : (us : List Term) (ks : List ℕ) → EachTwo (λ u k. u ≡ Bound k) us ks → us ≡ bound_terms ks
as-bounds [] [] h = refl
as-bounds [] (k ∷ ks) h = absurd h
as-bounds (u ∷ us) [] h = absurd h
as-bounds (u ∷ us) (k ∷ ks) h = λ l. h.0 l ∷ as-bounds us ks h.1 l

-- The term w under binders, and some of these binders with their types.
module _ (bs : List Typ) (w : Term) (R : Typ) (typed : HasType bs w R) (qs : List ℕ) (Us : List Typ) (types : EachTwo (λ q U. slice_get bs q ≡ Some U) qs Us) where
  -- the term under those binders alone, with other terms in place of the other bound variables
  abbrev pub common : Term
  common = placed (selected bs (reverse qs)) w

  pub common-typed : HasType [] (below Us common) (function_typ Us R)
  common-typed = below-typed Us [] common R (placed-typed (selected bs (reverse qs)) bs (under Us []) (selected-typed bs (under Us []) (reverse qs) (found-scoped Us qs bs [] [] types (λ q i V e f. absurd (cc)))) w R typed)

  -- It comes back where a function is applied to the variables for which those binders stood, if w is that function's body with all its variables renamed, and no other variables occur in the body.
  module _ (Ds : List Typ) (zs ks : List ℕ) (b : Term) (distinct : AreDistinct zs) (long : length zs ≡ length Ds) (is : renaming (place_in (reverse zs)) b ≡ w) (own : EachTwo (IsOwn zs) qs ks) where
    abbrev pub back : ℕ → Term
    back p = renaming (place_in (reverse ks)) (selected bs (reverse qs) (place_in (reverse zs) p))

    pub comes-back : (p : ℕ) (V : Typ) → slice_get (under Ds []) p ≡ Some V → IsIn (place_in (reverse zs) p) qs → back p ≡ Bound p
    comes-back p V e m =
        let q = place_in (reverse zs) p in
        let found = find-in q (reverse qs) (in-reverse_aux q qs [] (inl m)) in
        let at = find-is q (reverse qs) found.0 found.1 in
        let match = place-two (IsOwn zs) (reverse qs) (reverse ks) found.0 (reverse-two (IsOwn zs) qs [] ks [] own tt) at.1 in
        let low = low-place (under Ds []) p V e in
        let high = length-under Ds [] in
        let same : place_in (reverse ks) found.0 ≡ p = reverse-apart Ds zs distinct long (place_in (reverse ks) found.0) p (let l = match.low in omega arith) low (match.is ∙ at.0) in
        ap (λ o. renaming (place_in (reverse ks)) (selected_of bs q o)) found.1 ∙ ap Bound same

    pub common-applied : placed back b ≡ b → BetaReduces (applied (below Us common) (bound_terms ks)) b
    common-applied e =
        let many : length ks ≡ length Us = sym (two_long (IsOwn zs) qs ks own) ∙ two_long (λ q U. slice_get bs q ≡ Some U) qs Us types in
        let whole : renaming (place_in (reverse ks)) common ≡ b =
        renaming_after-placed (place_in (reverse ks)) (selected bs (reverse qs)) w ∙ (ap (placed (λ q. renaming (place_in (reverse ks)) (selected bs (reverse qs) q))) (sym is)
        ∙ (placed_after-renaming (λ q. renaming (place_in (reverse ks)) (selected bs (reverse qs) q)) (place_in (reverse zs)) b ∙ e)) in
        subst (BetaReduces (applied (below Us common) (bound_terms ks))) whole (below-renamed Us ks common many)

-- The places at which both lists have the same.
pub in-agreeing_places : (f g : ℕ → ℕ) (zs ws ks : List ℕ) (p : ℕ) → EachTwo (λ z k. f k ≡ z) zs ks → EachTwo (λ w k. g k ≡ w) ws ks → IsIn p ks → f p ≡ g p → IsIn (f p) (agreeing zs ws zs)
in-agreeing_places f g [] ws [] p h k m e = absurd m
in-agreeing_places f g [] ws (n ∷ ks) p h k m e = absurd h
in-agreeing_places f g (z ∷ zs) ws [] p h k m e = absurd h
in-agreeing_places f g (z ∷ zs) [] (n ∷ ks) p h k m e = absurd k
in-agreeing_places f g (z ∷ zs) (w ∷ ws) (n ∷ ks) p h k m e = by_cases (nat_eq z w) refl m (λ l. in-agreeing_places f g zs ws ks p h.1 k.1 l e)
  where
    by_cases : (b : Bool) → nat_eq z w ≡ b → IsIn p (n ∷ ks) → (IsIn p ks → IsIn (f p) (agreeing zs ws zs)) → IsIn (f p) (if b then (z ∷ agreeing zs ws zs) else agreeing zs ws zs)
    by_cases true t (inl s) rest = inl (ap f s ∙ h.0)
    by_cases true t (inr l) rest = inr (rest l)
    by_cases false t (inl s) rest =
        let same : z ≡ w = sym h.0 ∙ (ap f (sym s) ∙ (e ∙ (ap g s ∙ k.0))) in
        let yes : nat_eq z w ≡ true = eq-eqb z w same in
        absurd (cc)
    by_cases false t (inr l) rest = rest l

pub any-in : (z : ℕ) (ws : List ℕ) → IsIn z ws → list_any (nat_eq z) ws ≡ true
any-in z [] m = absurd m
any-in z (w ∷ ws) (inl e) = (let t = eq-eqb z w e in rw t refl)
any-in z (w ∷ ws) (inr m) = or_true (nat_eq z w) (list_any (nat_eq z) ws) (any-in z ws m)
  where
    or_true : (b c : Bool) → c ≡ true → (b || c) ≡ true
    or_true true c e = refl
    or_true false c e = e

pub in-shared : (zs ws : List ℕ) (z : ℕ) → IsIn z zs → IsIn z ws → IsIn z (shared_left zs ws zs)
in-shared [] ws z m k = absurd m
in-shared (x ∷ zs) ws z (inl e) k =
    let yes : list_any (nat_eq x) ws ≡ true = any-in x ws (subst (λ y. IsIn y ws) e k) in
    rw yes (inl e)
in-shared (x ∷ zs) ws z (inr m) k = behind (list_any (nat_eq x) ws) (in-shared zs ws z m k)
  where
    behind : (b : Bool) → IsIn z (shared_left zs ws zs) → IsIn z (if b then (x ∷ shared_left zs ws zs) else shared_left zs ws zs)
    behind true n = inr n
    behind false n = n
