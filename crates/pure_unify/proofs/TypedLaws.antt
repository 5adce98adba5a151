-- Images have their variable's type.
use Rattle.std.proofs.Common.{◌≡◌, ℕ, zero, suc, ◌+◌, ◌-◌, List, [], ◌∷◌, ◌++◌, length, Bool, true, false, refl, ap, sym, subst, ◌∙◌, arith, slice_get, Some, append_assoc}
use Rattle.std.specs.Prelude.{if◌then◌else◌}
use Rattle.std.proofs.lemmas.List.{length-append}
use Rattle.pure_text.specs.Lists.{Each, EachTwo}
use Rattle.pure_text.proofs.ListLaws.{each-append, each-right}
use Rattle.pure_definitions.specs.Types.Typ.{Typ, Con, none, also, arrow, typ_eq}
use Rattle.pure_definitions.specs.Terms.Term.{Term, Const, Free, Var, Bound, Abs, App}
use Rattle.pure_definitions.specs.Terms.Typing.{HasType}
use Rattle.pure_definitions.specs.Models.Equality.{typ_eq-same}
use Rattle.pure_logic.specs.Derivable.{Pair}
use Rattle.pure_unify_definitions.specs.Fronts.{front, head, below, domains, range, function_typ, applied, bounds}
use Rattle.pure_unify_definitions.specs.Children.{new_arguments, image_of, imitations, projections, images, HasFlexible, on_left, on_right, IsChoice}
use Rattle.pure_unify.specs.declared.branch.Branch.{Branch}
use Rattle.pure_unify.specs.Frames.{IsOpen, images_left, IsCountableBranch, IsTypedBranch}

-- the types of binders, with those of abstractions before them
under : List Typ → List Typ → List Typ
under [] cs = cs
under (T ∷ Ts) cs = under Ts (T ∷ cs)

function-of : (T : Typ) → T ≡ function_typ (domains T) (range T)
function-of (Con zero (also A (also B none))) = ap (arrow A) (function-of B)
function-of T = refl

behind-binders : (Ts cs : List Typ) (n k : ℕ) → n ≡ length Ts + k → slice_get (under Ts cs) n ≡ slice_get cs k
unfolding under
behind-binders [] cs n k e = let same : n ≡ k = omega arith in ap (slice_get cs) same
behind-binders (T ∷ Ts) cs n k e = behind-binders Ts (T ∷ cs) n (suc k) (omega arith)

under-append : (Ts Us cs : List Typ) → under (Ts ++ Us) cs ≡ under Us (under Ts cs)
unfolding under
under-append [] Us cs = refl
under-append (T ∷ Ts) Us cs = under-append Ts Us (T ∷ cs)

below-typed : (Ts bs : List Typ) (t : Term) (R : Typ) → HasType (under Ts bs) t R → HasType bs (below Ts t) (function_typ Ts R)
unfolding under
below-typed [] bs t R h = h
below-typed (T ∷ Ts) bs t R h = (function_typ Ts R, below-typed Ts (T ∷ bs) t R h, refl)

applied-typed : (bs Us : List Typ) (f : Term) (ts : List Term) (R : Typ) → HasType bs f (function_typ Us R) → EachTwo (HasType bs) ts Us → HasType bs (applied f ts) R
applied-typed bs [] f [] R h k = h
applied-typed bs [] f (t ∷ ts) R h k = absurd k
applied-typed bs (U ∷ Us) f [] R h k = absurd k
applied-typed bs (U ∷ Us) f (t ∷ ts) R h k = applied-typed bs Us (App f t) ts R (U, h, k.0) k.1

bounds-typed : (Ts cs : List Typ) (n : ℕ) → n ≡ length Ts → EachTwo (HasType (under Ts cs)) (bounds n) Ts
unfolding under
bounds-typed [] cs zero e = tt
bounds-typed [] cs (suc n) e = absurd (omega arith)
bounds-typed (T ∷ Ts) cs zero e = absurd (omega arith)
bounds-typed (T ∷ Ts) cs (suc n) e = (behind-binders Ts (T ∷ cs) n 0 (omega arith), bounds-typed Ts (T ∷ cs) n (omega arith))

new-typed : (index : ℕ) (Ts : List Typ) (name : ℕ) (Us : List Typ) → EachTwo (HasType (under Ts [])) (new_arguments index Ts name Us) Us
new-typed index Ts name [] = tt
new-typed index Ts name (U ∷ Us) = (
  applied-typed (under Ts []) Ts (Var name index (function_typ Ts U)) (bounds (length Ts)) U refl (bounds-typed Ts [] (length Ts) refl),
  new-typed index Ts (name + 1) Us,
)

image-typed : (index : ℕ) (T : Typ) (h : Term) (H : Typ) → HasType (under (domains T) []) h H → range H ≡ range T → HasType [] (image_of index (domains T) h (domains H)) T
image-typed index T h H k e =
    let Ts = domains T in
    let as_function : HasType (under Ts []) h (function_typ (domains H) (range H)) = subst (λ (U : Typ). HasType (under Ts []) h U) (function-of H) k in
    let inner = applied-typed (under Ts []) (domains H) h (new_arguments index Ts 0 (domains H)) (range H) as_function (new-typed index Ts 0 (domains H)) in
    let whole = below-typed Ts [] (applied h (new_arguments index Ts 0 (domains H))) (range H) inner in
    subst (λ (U : Typ). HasType [] (image_of index Ts h (domains H)) U) (ap (function_typ Ts) e ∙ sym (function-of T)) whole

placed-binder : (T : Typ) (front : List Typ) (U : Typ) (Us : List Typ) (from : ℕ) → domains T ≡ front ++ U ∷ Us → length front ≡ from → slice_get (under (domains T) []) (length (domains T) - (from + 1)) ≡ Some U
unfolding under
placed-binder T front U Us from e n =
    let many : length (front ++ U ∷ Us) ≡ length front + length (U ∷ Us) = length-append front (U ∷ Us) in
    let whole : length (domains T) ≡ length (front ++ U ∷ Us) = ap length e in
    let place : length (domains T) - (from + 1) ≡ length Us + 0 = omega arith in
    let scope : under (domains T) [] ≡ under Us (U ∷ under front []) = ap (λ Ts. under Ts []) e ∙ under-append front (U ∷ Us) [] in
    subst (λ (cs : List Typ). slice_get cs (length (domains T) - (from + 1)) ≡ Some U) (sym scope) (behind-binders Us (U ∷ under front []) (length (domains T) - (from + 1)) 0 place)

first-projection : (index : ℕ) (T U : Typ) (Us : List Typ) (from : ℕ) → slice_get (under (domains T) []) (length (domains T) - (from + 1)) ≡ Some U → (b : Bool) → typ_eq (range U) (range T) ≡ b
    → Each (λ u. HasType [] u T) (projections index (domains T) (range T) (from + 1) Us)
    → Each (λ u. HasType [] u T) (if b then (image_of index (domains T) (Bound (length (domains T) - (from + 1))) (domains U) ∷ projections index (domains T) (range T) (from + 1) Us) else projections index (domains T) (range T) (from + 1) Us)
first-projection index T U Us from there true e more = (image-typed index T (Bound (length (domains T) - (from + 1))) U there (typ_eq-same (range U) (range T) e), more)
first-projection index T U Us from there false e more = more

projections-typed : (index : ℕ) (T : Typ) (front Us : List Typ) (from : ℕ) → domains T ≡ front ++ Us → length front ≡ from → Each (λ u. HasType [] u T) (projections index (domains T) (range T) from Us)
projections-typed index T front [] from e n = tt
projections-typed index T front (U ∷ Us) from e n =
    first-projection index T U Us from (placed-binder T front U Us from e n) (typ_eq (range U) (range T)) refl
    (projections-typed index T (front ++ U ∷ []) Us (from + 1) (e ∙ sym (append_assoc front (U ∷ []) Us)) (length-append front (U ∷ []) ∙ ap (λ m. m + 1) n))

front-typed : (bs : List Typ) (t : Term) (X : Typ) → HasType bs t X → (F : Typ) × HasType bs (front t) F × (range F ≡ range X)
front-typed bs (App f a) X h = front-typed bs f (arrow h.0 X) h.1
front-typed bs (Const c T) X h = (X, h, refl)
front-typed bs (Free x T) X h = (X, h, refl)
front-typed bs (Var x i T) X h = (X, h, refl)
front-typed bs (Bound n) X h = (X, h, refl)
front-typed bs (Abs T b) X h = (X, h, refl)

head-typed : (bs : List Typ) (t : Term) (X : Typ) → HasType bs t X → (cs : List Typ) × (F : Typ) × HasType cs (head t) F × (range F ≡ range X)
head-typed bs (Abs V b) X h = let inner = head-typed (V ∷ bs) b h.0 h.1 in (inner.0, inner.1, inner.2, inner.3 ∙ ap range h.2)
head-typed bs (App f a) X h = let inner = front-typed bs (App f a) X h in (bs, inner.0, inner.1, inner.2)
head-typed bs (Const c T) X h = (bs, X, h, refl)
head-typed bs (Free x T) X h = (bs, X, h, refl)
head-typed bs (Var x i T) X h = (bs, X, h, refl)
head-typed bs (Bound n) X h = (bs, X, h, refl)

imitations-typed : (index : ℕ) (T : Typ) (h : Term) (cs : List Typ) (H : Typ) → HasType cs h H → range H ≡ range T → Each (λ u. HasType [] u T) (imitations index (domains T) h)
imitations-typed index T (Const c U) cs H k e = (image-typed index T (Const c U) U refl (ap range k ∙ e), tt)
imitations-typed index T (Free x U) cs H k e = (image-typed index T (Free x U) U refl (ap range k ∙ e), tt)
imitations-typed index T (Var x i U) cs H k e = tt
imitations-typed index T (Bound p) cs H k e = tt
imitations-typed index T (Abs U b) cs H k e = tt
imitations-typed index T (App f a) cs H k e = tt

images-typed : (index : ℕ) (T : Typ) (h : Term) (cs : List Typ) (H : Typ) → HasType cs h H → range H ≡ range T → Each (λ u. HasType [] u T) (images index T h)
images-typed index T h cs H k e =
    each-append (λ u. HasType [] u T) (imitations index (domains T) h) (projections index (domains T) (range T) 0 (domains T)) (imitations-typed index T h cs H k e) (projections-typed index T [] (domains T) 0 refl refl)

-- The images of a variable at the head of a side, whose pair's sides are of one type.
pub choice-typed : (ps : List Pair) (x i : ℕ) (T : Typ) (h : Term) (index : ℕ) → IsChoice ps (Var x i T) h → Each IsOpen ps → Each (λ u. HasType [] u T) (images index T h)
choice-typed ps x i T h index c sides = by c.heads (each-right IsOpen c.front (c.pair ∷ c.rest) (subst (λ (qs : List Pair). Each IsOpen qs) c.stands sides)).0
  where
    from : (l r : Term) (X : Typ) → HasType [] l X → HasType [] r X → Var x i T ≡ head l → h ≡ head r → Each (λ u. HasType [] u T) (images index T h)
    from l r X f g e k =
        let first = head-typed [] l X f in
        let second = head-typed [] r X g in
        let variable : HasType first.0 (Var x i T) first.1 = subst (λ (t : Term). HasType first.0 t first.1) (sym e) first.2 in
        let other : HasType second.0 h second.1 = subst (λ (t : Term). HasType second.0 t second.1) (sym k) second.2 in
        images-typed index T h second.0 second.1 other (second.3 ∙ (sym first.3 ∙ ap range (sym variable)))

    by : HasFlexible c.pair (Var x i T) h → IsOpen c.pair → Each (λ u. HasType [] u T) (images index T h)
    by (on_left a b e k) o = from c.pair.left c.pair.right o.typ o.left o.right e k
    by (on_right a b e k) o = from c.pair.right c.pair.left o.typ o.right o.left e k

pub typed_branch : (ps : List Pair) (v h : Term) (index : ℕ) (b : Branch) → IsChoice ps v h → v ≡ Var b.name b.index b.typ → images_left b ≡ images index b.typ h → IsCountableBranch b → Each IsOpen ps → IsTypedBranch b
typed_branch ps v h index b c is are countable sides = record {
  countable = countable;
  images =
      subst (λ (us : List Term). Each (λ u. HasType [] u b.typ) us) (sym are)
      (choice-typed ps b.name b.index b.typ h index (subst (λ (u : Term). IsChoice ps u h) is c) sides);
}
