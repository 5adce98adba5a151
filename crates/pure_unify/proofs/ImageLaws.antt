-- The first of the images from a number on.
use Rattle.std.proofs.Common.{◌≡◌, ◌≢◌, ℕ, zero, suc, ◌+◌, ◌-◌, ◌<◌, ◌≤◌, ◌^◌, List, [], ◌∷◌, ◌++◌, length, drop, length-drop, Bool, true, false, refl, ap, sym, subst, ◌∙◌, arith}
use Rattle.std.specs.Prelude.{Option, Some, None, Result, Ok, Err, IfOk, MatchOption, if◌then◌else◌}
use Rattle.pure_definitions.specs.Types.Typ.{Typ, typ_depth, typ_eq, arrow}
use Rattle.pure_definitions.specs.Terms.Term.{Term, Bound}
use Rattle.pure_unify_definitions.specs.Fronts.{domains, range}
use Rattle.pure_unify_definitions.specs.Children.{imitations, projections, images, image_of}
use Rattle.pure_unify_sides.proofs.ImageLaws.{domains-deep}
use Rattle.pure_unify.specs.declared.images.Taken.{Taken}
use Rattle.pure_unify.specs.Images.{images_from, IsFirstOf, HasNoFit, IsFirstFit}

-- The places of arguments are few.
pub places_few : (T rest : Typ) (from : ℕ) → typ_depth T < 2 ^ 32 → from < 2 ^ 32 → domains rest ≡ drop from (domains T) → from + length (domains rest) < 2 ^ 32
places_few T rest from few small left =
    let deep = domains-deep T in
    let left_there : length (domains rest) ≡ length (domains T) - from = ap length left ∙ length-drop from (domains T) in
    omega arith

pub place_within : (T rest : Typ) (from place : ℕ) → typ_depth T < 2 ^ 32 → domains rest ≡ drop from (domains T) → from ≤ place → place < from + length (domains rest) → (place < length (domains T)) × (place + 2 < 2 ^ 32)
place_within T rest from place few left above below =
    let deep = domains-deep T in
    let left_there : length (domains rest) ≡ length (domains T) - from = ap length left ∙ length-drop from (domains T) in
    (omega arith, omega arith)

-- What stands behind the first of what is left.
same-tail : {A : Type 0} {x y : A} {xs ys : List A} → x ∷ xs ≡ y ∷ ys → xs ≡ ys
same-tail {A = A} {xs = xs} e = ap rest e
  where
    rest : List A → List A
    rest [] = xs
    rest (z ∷ zs) = zs

dropped-next : {A : Type 0} (x : A) (xs ys : List A) (n : ℕ) → x ∷ xs ≡ drop n ys → xs ≡ drop (n + 1) ys
dropped-next x xs [] zero e = absurd (empty e)
  where
    empty : x ∷ xs ≡ [] → ⊥
    empty h = cc
dropped-next x xs [] (suc n) e = absurd (empty e)
  where
    empty : x ∷ xs ≡ [] → ⊥
    empty h = cc
dropped-next x xs (y ∷ ys) zero e = same-tail e
dropped-next x xs (y ∷ ys) (suc n) e = let next : suc n + 1 ≡ suc (n + 1) = omega arith in rw next (dropped-next x xs ys n e)

-- The first argument that ends in a type.
chosen : (R domain : Typ) (index : ℕ) (Ts : List Typ) (from : ℕ) (Us : List Typ) (b : Bool) → typ_eq (range domain) R ≡ b
    → projections index Ts R from (domain ∷ Us) ≡ (if b then (image_of index Ts (Bound (length Ts - (from + 1))) (domains domain) ∷ projections index Ts R (from + 1) Us) else projections index Ts R (from + 1) Us)
chosen R domain index Ts from Us b e =
    ap (λ (c : Bool). if c then (image_of index Ts (Bound (length Ts - (from + 1))) (domains domain) ∷ projections index Ts R (from + 1) Us) else projections index Ts R (from + 1) Us) e

pub fit_here : (R T domain more : Typ) (from : ℕ) → T ≡ arrow domain more → typ_eq (range domain) R ≡ true → IsFirstFit R from (domains T) from domain
fit_here R T domain more from e same index Ts h =
    ap (λ (U : Typ). projections index Ts R from (domains U)) e
    ∙ (chosen R domain index Ts from (domains more) true same
    ∙ ap (λ (Us : List Typ). image_of index Ts (Bound (length Ts - (from + 1))) (domains domain) ∷ projections index Ts R (from + 1) Us) (dropped-next domain (domains more) Ts from (ap domains (sym e) ∙ h)))

fit-later : (R T domain more : Typ) (from place : ℕ) (U : Typ) → T ≡ arrow domain more → typ_eq (range domain) R ≡ false → IsFirstFit R (from + 1) (domains more) place U → IsFirstFit R from (domains T) place U
fit-later R T domain more from place U e differ fit index Ts h =
    ap (λ (V : Typ). projections index Ts R from (domains V)) e
    ∙ (chosen R domain index Ts from (domains more) false differ ∙ fit index Ts (dropped-next domain (domains more) Ts from (ap domains (sym e) ∙ h)))

none-more : (R T domain more : Typ) → T ≡ arrow domain more → typ_eq (range domain) R ≡ false → HasNoFit R (domains more) → HasNoFit R (domains T)
none-more R T domain more e differ h index Ts from =
    ap (λ (U : Typ). projections index Ts R from (domains U)) e ∙ (chosen R domain index Ts from (domains more) false differ ∙ h index Ts (from + 1))

pub fit_behind : {A : Type 0} (o : Option A) (place : A → ℕ) (typ : A → Typ) (R T domain more : Typ) (from : ℕ) → T ≡ arrow domain more → typ_eq (range domain) R ≡ false
    → MatchOption o (HasNoFit R (domains more)) (λ a. IsFirstFit R (from + 1) (domains more) (place a) (typ a)) → MatchOption o (HasNoFit R (domains T)) (λ a. IsFirstFit R from (domains T) (place a) (typ a))
fit_behind (Some a) place typ R T domain more from e differ h = fit-later R T domain more from (place a) (typ a) e differ h
fit_behind None place typ R T domain more from e differ h = none-more R T domain more e differ h

-- The first image from a number on.
from-place : (index : ℕ) (T : Typ) (h : Term) (from : ℕ) → images_from index T h (from + 1) ≡ projections index (domains T) (range T) from (drop from (domains T))
from-place index T h from = let next : from + 1 ≡ suc from = omega arith in rw next refl

pub first_projection : (index : ℕ) (T rest domain : Typ) (h image : Term) (from place next : ℕ) → domains rest ≡ drop from (domains T) → IsFirstFit (range T) from (domains rest) place domain
    → image ≡ image_of index (domains T) (Bound (length (domains T) - (place + 1))) (domains domain) → next ≡ place + 2 → images_from index T h (from + 1) ≡ image ∷ images_from index T h next
first_projection index T rest domain h image from place next left fit made e =
    let same : next ≡ (place + 1) + 1 = omega arith in
    from-place index T h from
    ∙ (ap (projections index (domains T) (range T) from) (sym left)
    ∙ (fit index (domains T) left ∙ (λ l. sym made l ∷ (sym (from-place index T h (place + 1)) ∙ ap (images_from index T h) (sym same)) l)))

pub no_projection : (index : ℕ) (T rest : Typ) (h : Term) (from : ℕ) → domains rest ≡ drop from (domains T) → HasNoFit (range T) (domains rest) → images_from index T h (from + 1) ≡ []
no_projection index T rest h from left fit = from-place index T h from ∙ (ap (projections index (domains T) (range T) from) (sym left) ∙ fit index (domains T) from)

from-first : (index : ℕ) (T : Typ) (h : Term) → images_from index T h 1 ≡ projections index (domains T) (range T) 0 (domains T)
from-first index T h = refl

pub imitation_first : (index : ℕ) (T : Typ) (h image : Term) → imitations index (domains T) h ≡ image ∷ [] → images index T h ≡ image ∷ images_from index T h 1
imitation_first index T h image e = ap (λ (us : List Term). us ++ projections index (domains T) (range T) 0 (domains T)) e ∙ ap (λ (us : List Term). image ∷ us) (sym (from-first index T h))

no-imitation : (index : ℕ) (T : Typ) (h : Term) → imitations index (domains T) h ≡ [] → images index T h ≡ images_from index T h 1
no-imitation index T h e = ap (λ (us : List Term). us ++ projections index (domains T) (range T) 0 (domains T)) e ∙ sym (from-first index T h)

pub projections_first : {E : Type 0} (index : ℕ) (T : Typ) (h : Term) (r : Result (Option Taken) E) → imitations index (domains T) h ≡ [] → IfOk r (λ o. (k : Term) → IsFirstOf index T k (images_from index T k 1) o) → IfOk r (IsFirstOf index T h (images index T h))
projections_first index T h (Ok o) e first = subst (λ (us : List Term). IsFirstOf index T h us o) (sym (no-imitation index T h e)) (first h)
projections_first index T h (Err f) e first = tt

-- The first image from the number.
pub first_at : {E : Type 0} (index : ℕ) (T : Typ) (h : Term) (number : ℕ) (r : Result (Option Taken) E) → number ≡ 0 → IfOk r (IsFirstOf index T h (images index T h)) → IfOk r (IsFirstOf index T h (images_from index T h number))
first_at index T h number r e first = subst (λ n. IfOk r (IsFirstOf index T h (images_from index T h n))) (sym e) first

pub later_at : {E : Type 0} (index : ℕ) (T : Typ) (h : Term) (number : ℕ) (r : Result (Option Taken) E) → number ≢ 0 → IfOk r (λ o. (k : Term) → IsFirstOf index T k (images_from index T k ((number - 1) + 1)) o) → IfOk r (IsFirstOf index T h (images_from index T h number))
later_at index T h number (Ok o) e first = let same : (number - 1) + 1 ≡ number = omega arith in subst (λ n. IsFirstOf index T h (images_from index T h n) o) same (first h)
later_at index T h number (Err f) e first = tt
