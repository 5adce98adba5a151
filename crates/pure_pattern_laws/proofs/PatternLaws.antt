-- Images put into patterns by renaming: patterns.
use Rattle.std.proofs.Common.{◌≡◌, ℕ, zero, suc, ◌+◌, ◌<◌, inl, inr, List, [], ◌∷◌, ◌++◌, length, Bool, true, false, ap, refl, sym, subst, ◌∙◌, arith, slice_get, Some, map, reverse}
use Rattle.std.proofs.lemmas.List.{length-reverse}
use mathlib.Core.List.{reverse_aux}
use Rattle.pure_text.specs.Lists.{IsIn, Each, EachTwo, AreDistinct}
use Rattle.pure_definitions.specs.Types.Typ.{Typ, arrow}
use Rattle.pure_definitions.specs.Terms.Term.{Term, Const, Free, Var, Bound, Abs, App}
use Rattle.pure_definitions.specs.Terms.Typing.{HasType}
use Rattle.pure_eta.proofs.LongLaws.{IsFront, IsLong}
use Rattle.pure_unify_definitions.specs.Fronts.{front, arguments, is_schematic, below, domains, range}
use Rattle.pure_unify_laws.proofs.SplitLaws.{under}
use Rattle.pure_unify_final.proofs.SideLaws.{long_form-long}
use Rattle.pure_unify_final.proofs.BuiltLaws.{spine-typed}
use Rattle.pure_solutions.specs.Solutions.{IsLongMap}
use Rattle.pure_pattern_laws.specs.Patterns.{IsPlace, IsPattern, HasPlaces}
use Rattle.pure_pattern_laws.specs.Putting.{place_in, put_application, put_in}
use Rattle.pure_pattern_laws.specs.Laws.{PutInIsPattern}
use Rattle.pure_pattern_laws.proofs.PlacedLaws.{raised, renaming}
use Rattle.pure_pattern_laws.proofs.RenameLaws.{renaming-eta}
use Rattle.pure_pattern_laws.proofs.BuiltLaws.{body-long, long-front}
use Rattle.pure_pattern_laws.proofs.PutLaws.{schematic-is, chosen, typed-places, flexible-long, flexible-split, front-function}

-- The renaming keeps the first n bound variables apart.
abbrev pub IsApart : ℕ → (ℕ → ℕ) → Type 0
IsApart n r = (p q : ℕ) → p < n → q < n → r p ≡ r q → p ≡ q

apart-raised : (n : ℕ) (r : ℕ → ℕ) → IsApart n r → IsApart (suc n) (raised r)
apart-raised n r h zero zero lp lq e = refl
apart-raised n r h zero (suc q) lp lq e = absurd (omega arith)
apart-raised n r h (suc p) zero lp lq e = absurd (omega arith)
apart-raised n r h (suc p) (suc q) lp lq e = ap (λ m. suc m) (h p q (omega arith) (omega arith) (omega arith))

pub front-renaming : (r : ℕ → ℕ) (t : Term) → front (renaming r t) ≡ renaming r (front t)
front-renaming r (Const c V) = refl
front-renaming r (Free x V) = refl
front-renaming r (Var x i V) = refl
front-renaming r (Bound p) = refl
front-renaming r (Abs V b) = refl
front-renaming r (App f a) = front-renaming r f

schematic-renaming : (r : ℕ → ℕ) (t : Term) → is_schematic (renaming r t) ≡ is_schematic t
schematic-renaming r (Const c V) = refl
schematic-renaming r (Free x V) = refl
schematic-renaming r (Var x i V) = refl
schematic-renaming r (Bound p) = refl
schematic-renaming r (Abs V b) = refl
schematic-renaming r (App f a) = refl

pub front_test-renaming : (r : ℕ → ℕ) (t : Term) → is_schematic (front (renaming r t)) ≡ is_schematic (front t)
front_test-renaming r t = ap is_schematic (front-renaming r t) ∙ schematic-renaming r (front t)

map-snoc : (r : ℕ → ℕ) (ts : List Term) (a : Term) → map (renaming r) ts ++ renaming r a ∷ [] ≡ map (renaming r) (ts ++ a ∷ [])
map-snoc r [] a = refl
map-snoc r (t ∷ ts) a = ap (λ us. renaming r t ∷ us) (map-snoc r ts a)

pub arguments-renaming : (r : ℕ → ℕ) (t : Term) → arguments (renaming r t) ≡ map (renaming r) (arguments t)
arguments-renaming r (Const c V) = refl
arguments-renaming r (Free x V) = refl
arguments-renaming r (Var x i V) = refl
arguments-renaming r (Bound p) = refl
arguments-renaming r (Abs V b) = refl
arguments-renaming r (App f a) = ap (λ us. us ++ renaming r a ∷ []) (arguments-renaming r f) ∙ map-snoc r (arguments f) a

pub places-renaming : (r : ℕ → ℕ) (ts : List Term) (zs : List ℕ) → EachTwo IsPlace ts zs → EachTwo IsPlace (map (renaming r) ts) (map r zs)
places-renaming r [] [] h = tt
places-renaming r [] (z ∷ zs) h = absurd h
places-renaming r (t ∷ ts) [] h = absurd h
places-renaming r (t ∷ ts) (z ∷ zs) h = (renaming-eta r h.0, places-renaming r ts zs h.1)

pub low-place : (bs : List Typ) (z : ℕ) (U : Typ) → slice_get bs z ≡ Some U → z < length bs
low-place [] z U e = absurd (cc)
low-place (V ∷ bs) zero U e = omega arith
low-place (V ∷ bs) (suc z) U e = (let rest = low-place bs z U e in omega arith)

pub low-places : (bs : List Typ) (zs : List ℕ) (Us : List Typ) → EachTwo (λ z U. slice_get bs z ≡ Some U) zs Us → Each (λ z. z < length bs) zs
low-places bs [] [] h = tt
low-places bs [] (U ∷ Us) h = absurd h
low-places bs (z ∷ zs) [] h = absurd h
low-places bs (z ∷ zs) (U ∷ Us) h = (low-place bs z U h.0, low-places bs zs Us h.1)

in-back : (n : ℕ) (r : ℕ → ℕ) → IsApart n r → (z : ℕ) (zs : List ℕ) → z < n → Each (λ w. w < n) zs → IsIn (r z) (map r zs) → IsIn z zs
in-back n r h z [] l k m = m
in-back n r h z (w ∷ ws) l k (inl e) = inl (h z w l k.0 e)
in-back n r h z (w ∷ ws) l k (inr m) = inr (in-back n r h z ws l k.1 m)

distinct-renaming : (n : ℕ) (r : ℕ → ℕ) → IsApart n r → (zs : List ℕ) → Each (λ z. z < n) zs → AreDistinct zs → AreDistinct (map r zs)
distinct-renaming n r h [] l d = tt
distinct-renaming n r h (z ∷ zs) l d = (λ m. d.0 (in-back n r h z zs l.0 l.1 m), distinct-renaming n r h zs l.1 d.1)

-- A renaming that keeps the binders apart keeps patterns.
pub renaming-pattern : (r : ℕ → ℕ) (bs : List Typ) → IsApart (length bs) r → (t : Term) (T : Typ) → HasType bs t T → IsPattern t → IsPattern (renaming r t)
renaming-pattern r bs h (Const c V) T k p = tt
renaming-pattern r bs h (Free x V) T k p = tt
renaming-pattern r bs h (Var x i V) T k p = tt
renaming-pattern r bs h (Bound q) T k p = tt
renaming-pattern r bs h (Abs V b) T k p = renaming-pattern (raised r) (V ∷ bs) (apart-raised (length bs) r h) b k.0 k.1 p
renaming-pattern r bs h (App f a) T k p =
    (flexible, λ e. (let old = p.1 (sym (front_test-renaming r f) ∙ e) in (renaming-pattern r bs h f (arrow k.0 T) k.1 old.0, renaming-pattern r bs h a k.0 k.2 old.1)))
  where
    flexible : is_schematic (front (renaming r f)) ≡ true → (zs : List ℕ) × HasPlaces (App (renaming r f) (renaming r a)) zs
    flexible e =
        let old = p.0 (sym (front_test-renaming r f) ∙ e) in
        let spine = spine-typed bs (App f a) T k in
        let low = low-places bs old.0 spine.0 (typed-places bs (arguments (App f a)) old.0 spine.0 old.1.are spine.2) in
        (map r old.0, record { are = subst (λ us. EachTwo IsPlace us (map r old.0)) (sym (arguments-renaming r (App f a))) (places-renaming r (arguments (App f a)) old.0 old.1.are); distinct = distinct-renaming (length bs) r h old.0 low old.1.distinct })

-- Renaming by a list of distinct bound variables.
pub in-place : (ws : List ℕ) (p : ℕ) → p < length ws → IsIn (place_in ws p) ws
in-place [] p l = absurd (omega arith)
in-place (w ∷ ws) zero l = inl refl
in-place (w ∷ ws) (suc p) l = inr (in-place ws p (omega arith))

pub place-apart : (ws : List ℕ) → AreDistinct ws → IsApart (length ws) (place_in ws)
place-apart [] d p q lp lq e = absurd (omega arith)
place-apart (w ∷ ws) d zero zero lp lq e = refl
place-apart (w ∷ ws) d zero (suc q) lp lq e = absurd (d.0 (subst (λ x. IsIn x ws) (sym e) (in-place ws q (omega arith))))
place-apart (w ∷ ws) d (suc p) zero lp lq e = absurd (d.0 (subst (λ x. IsIn x ws) e (in-place ws p (omega arith))))
place-apart (w ∷ ws) d (suc p) (suc q) lp lq e = ap (λ m. suc m) (place-apart ws d.1 p q (omega arith) (omega arith) e)

distinct-reverse_aux : (zs ws : List ℕ) → AreDistinct zs → AreDistinct ws → ((x : ℕ) → IsIn x zs → ¬ IsIn x ws) → AreDistinct (reverse_aux zs ws)
distinct-reverse_aux [] ws d k h = k
distinct-reverse_aux (z ∷ zs) ws d k h = distinct-reverse_aux zs (z ∷ ws) d.1 (h z (inl refl), k) other
  where
    other : (x : ℕ) → IsIn x zs → ¬ IsIn x (z ∷ ws)
    other x m (inl e) = d.0 (subst (λ y. IsIn y zs) e m)
    other x m (inr n) = h x (inr m) n

pub distinct-reverse : (zs : List ℕ) → AreDistinct zs → AreDistinct (reverse zs)
distinct-reverse zs d = distinct-reverse_aux zs [] d tt (λ x m n. n)

pub length-under : (Us ds : List Typ) → length (under Us ds) ≡ length Us + length ds
length-under [] ds = omega arith
length-under (U ∷ Us) ds = (let rest = length-under Us (U ∷ ds) in omega arith)

pub reverse-apart : (Us : List Typ) (zs : List ℕ) → AreDistinct zs → length zs ≡ length Us → IsApart (length (under Us [])) (place_in (reverse zs))
reverse-apart Us zs d e =
    let long : length (reverse zs) ≡ length (under Us []) = (let l = length-reverse zs in let m = length-under Us [] in omega arith) in
    subst (λ n. IsApart n (place_in (reverse zs))) long (place-apart (reverse zs) (distinct-reverse zs d))

pub pattern-below : (Ts : List Typ) (c : Term) → IsPattern (below Ts c) → IsPattern c
pattern-below [] c p = p
pattern-below (T ∷ Ts) c p = pattern-below Ts c p

pub below-pattern : (Ts : List Typ) (c : Term) → IsPattern c → IsPattern (below Ts c)
below-pattern [] c p = p
below-pattern (T ∷ Ts) c p = below-pattern Ts c p

pub true-false : {A : Type 0} (b : Bool) → b ≡ true → b ≡ false → A
true-false true e f = absurd (cc)
true-false false e f = absurd (cc)

module _ (terms : Term → Term) (long : IsLongMap terms) where
  pub front-put : (t : Term) → is_schematic (front t) ≡ false → is_schematic (front (put_in terms t)) ≡ false
  front-put (Const c V) e = refl
  front-put (Free x V) e = refl
  front-put (Var x i V) e = absurd (cc)
  front-put (Bound p) e = refl
  front-put (Abs V b) e = refl
  front-put (App f a) e = chosen (λ u. is_schematic (front u) ≡ false) (is_schematic (front f)) (put_application (terms (front f)) (App f a)) (App (put_in terms f) (put_in terms a)) (λ k. true-false (is_schematic (front f)) k e) (λ k. front-put f e)

  module _ (patterns : (x i : ℕ) (T : Typ) → IsPattern (terms (Var x i T))) where
    flexible-pattern : (bs : List Typ) (f a : Term) (T : Typ) (x i : ℕ) (F : Typ) (zs : List ℕ) → IsLong bs (App f a) (App f a) T → IsPattern (App f a) → front f ≡ Var x i F → HasPlaces (App f a) zs → IsPattern (put_application (terms (front f)) (App f a))
    flexible-pattern bs f a T x i F zs h p e places =
        let flexible = flexible-long bs (App f a) T x i F zs h (sym h.count) e places.are in
        elim (flexible-split terms long bs f a T x i F zs flexible e places.are) [
          | inl k ↦ subst IsPattern (sym k.1) p
          | inr k ↦
              (let b = k.0 in
              let inner : IsPattern b.body = pattern-below (domains F) b.body (subst IsPattern b.is (patterns x i F)) in
              subst IsPattern (sym k.1) (renaming-pattern (place_in (reverse zs)) (under (domains F) []) (reverse-apart (domains F) zs places.distinct flexible.domains_long) b.body (range F) b.long.typed inner))
        ]

    rigid-pattern : (f a : Term) → is_schematic (front f) ≡ false → IsPattern (put_in terms f) → IsPattern (put_in terms a) → IsPattern (App (put_in terms f) (put_in terms a))
    rigid-pattern f a e h k = (λ o. true-false (is_schematic (front (put_in terms f))) o (front-put f e), λ o. (h, k))

    mutual
      pub put-pattern : (bs : List Typ) (t : Term) (T : Typ) → IsLong bs t t T → IsPattern t → IsPattern (put_in terms t)
      put-pattern bs (Const c V) T h p = tt
      put-pattern bs (Free x V) T h p = tt
      put-pattern bs (Var x i V) T h p = patterns x i V
      put-pattern bs (Bound q) T h p = tt
      put-pattern bs (Abs V b) T h p = let k = body-long bs V b T h in put-pattern (V ∷ bs) b k.0 k.1 p
      put-pattern bs (App f a) T h p =
          chosen IsPattern (is_schematic (front f)) (put_application (terms (front f)) (App f a)) (App (put_in terms f) (put_in terms a))
          (λ e. (let v = schematic-is (front f) e in let places = p.0 e in flexible-pattern bs f a T v.0 v.1 v.2 places.0 h p v.3 places.1))
          (λ e. (let k = front-function terms long bs f a T (long-front bs (App f a) T h (λ x. x)) in let q = p.1 e in
          rigid-pattern f a e (spine-pattern bs f (arrow k.0 T) k.1 e q.0) (put-pattern bs a k.0 k.2 q.1)))

      spine-pattern : (bs : List Typ) (t : Term) (T : Typ) → IsFront bs t t T → is_schematic (front t) ≡ false → IsPattern t → IsPattern (put_in terms t)
      spine-pattern bs (Const c V) T h e p = tt
      spine-pattern bs (Free x V) T h e p = tt
      spine-pattern bs (Var x i V) T h e p = absurd (cc)
      spine-pattern bs (Bound q) T h e p = tt
      spine-pattern bs (Abs V b) T h e p = absurd (h.applied tt)
      spine-pattern bs (App f a) T h e p =
          let k = front-function terms long bs f a T h in
          let q = p.1 e in
          rw e (rigid-pattern f a e (spine-pattern bs f (arrow k.0 T) k.1 e q.0) (put-pattern bs a k.0 k.2 q.1))

pub put_in_is_pattern : PutInIsPattern
put_in_is_pattern terms long patterns t h p = let own = long_form-long t t h in put-pattern terms long patterns [] t own.0 own.1 p
