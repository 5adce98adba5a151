-- The fault that a walk keeps is the one that decides.
use Rattle.std.proofs.Common.{◌≡◌, ◌<◌, ◌≤◌, ◌⊎◌, Bool, true, false, List, [], ◌∷◌, ◌++◌, Option, Some, None, nat_lt, if◌then◌else◌, inl, inr, refl, ap, sym, subst, arith}
use Rattle.std.proofs.lemmas.Bool.{ltb-true, ltb-false}
use Rattle.pure_text.specs.Lists.{Each}
use Rattle.pure_elab.specs.declared.fault.FaultAt.{FaultAt}
use Rattle.pure_elab.specs.Faults.{IsEarliest, kept, earliest}

pub earliest_append : (best : Option FaultAt) (xs ys : List FaultAt) → earliest best (xs ++ ys) ≡ earliest (earliest best xs) ys
earliest_append best [] ys = refl
earliest_append best (x ∷ xs) ys = earliest_append (kept best x) xs ys

-- What is found is the one from before, which is at or before all others; or the earliest of these, before that one.
abbrev Found : FaultAt → List FaultAt → FaultAt → Type 0
Found g fs f = ((g ≡ f) × Each (λ h. f.at ≤ h.at) fs) ⊎ (IsEarliest fs f × (f.at < g.at))

further : (h : FaultAt) (hs : List FaultAt) (f : FaultAt) → f.at < h.at → IsEarliest hs f → IsEarliest (h ∷ hs) f
further h hs f before e = record { front = h ∷ e.front; back = e.back; stands = ap (λ l. h ∷ l) e.stands; before = (before, e.before); behind = e.behind }

pub here : (f : FaultAt) (hs : List FaultAt) → Each (λ h. f.at ≤ h.at) hs → IsEarliest (f ∷ hs) f
here f hs behind = record { front = []; back = hs; stands = refl; before = tt; behind = behind }

found_sooner : (g h : FaultAt) (hs : List FaultAt) (f : FaultAt) → h.at < g.at → Found h hs f → Found g (h ∷ hs) f
found_sooner g h hs f l (inl same) =
    let first = subst (λ (x : FaultAt). IsEarliest (x ∷ hs) f) (sym same.0) (here f hs same.1) in
    let before = subst (λ (x : FaultAt). x.at < g.at) same.0 l in
    inr (first, before)
found_sooner g h hs f l (inr later) = let before = later.1 in inr (further h hs f later.1 later.0, omega (arith, before, l))

found_later : (g h : FaultAt) (hs : List FaultAt) (f : FaultAt) → g.at ≤ h.at → Found g hs f → Found g (h ∷ hs) f
found_later g h hs f l (inl same) = inl (same.0, (subst (λ (x : FaultAt). x.at ≤ h.at) same.0 l, same.1))
found_later g h hs f l (inr later) = let before = later.1 in inr (further h hs f (omega (arith, before, l)) later.0, later.1)

found_by : (q : Bool) (g h : FaultAt) (hs : List FaultAt) (f : FaultAt) → nat_lt h.at g.at ≡ q → (earliest (Some h) hs ≡ Some f → Found h hs f) → (earliest (Some g) hs ≡ Some f → Found g hs f)
    → earliest (if q then Some h else Some g) hs ≡ Some f → Found g (h ∷ hs) f
found_by true g h hs f t sooner later e = found_sooner g h hs f (ltb-true h.at g.at t) (sooner e)
found_by false g h hs f t sooner later e = found_later g h hs f (ltb-false h.at g.at t) (later e)

pub found : (fs : List FaultAt) (g f : FaultAt) → earliest (Some g) fs ≡ Some f → Found g fs f
found [] g f e = let same : g ≡ f = cc in inl (same, tt)
found (h ∷ hs) g f e = found_by (nat_lt h.at g.at) g h hs f refl (λ d. found hs h f d) (λ d. found hs g f d) e

-- What is found among faults is the one that decides.
pub earliest_decides : (fs : List FaultAt) (f : FaultAt) → earliest None fs ≡ Some f → IsEarliest fs f
earliest_decides [] f e = absurd (cc)
earliest_decides (h ∷ hs) f e = of_found (found hs h f e)
  where
    of_found : Found h hs f → IsEarliest (h ∷ hs) f
    of_found (inl same) = subst (λ (x : FaultAt). IsEarliest (x ∷ hs) f) (sym same.0) (here f hs same.1)
    of_found (inr later) = further h hs f later.1 later.0

stays_by : (q : Bool) (h g : FaultAt) (hs : List FaultAt) → (earliest (Some h) hs ≡ None → ⊥) → (earliest (Some g) hs ≡ None → ⊥) → earliest (if q then Some h else Some g) hs ≡ None → ⊥
stays_by true h g hs a b e = a e
stays_by false h g hs a b e = b e

pub some_stays : (fs : List FaultAt) (g : FaultAt) → earliest (Some g) fs ≡ None → ⊥
some_stays [] g e = absurd (cc)
some_stays (h ∷ hs) g e = stays_by (nat_lt h.at g.at) h g hs (λ d. some_stays hs h d) (λ d. some_stays hs g d) e

-- Where none is found there is none.
pub none_found : (fs : List FaultAt) → earliest None fs ≡ None → fs ≡ []
none_found [] e = refl
none_found (h ∷ hs) e = absurd (some_stays hs h e)
