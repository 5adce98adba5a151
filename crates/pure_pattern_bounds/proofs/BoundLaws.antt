-- The image of a variable that occurs in a pattern is hardly larger than the pattern with images put in.
use Rattle.std.proofs.Common.{◌≡◌, ◌⊎◌, ◌∙◌, ℕ, zero, suc, ◌+◌, ◌<◌, ◌≤◌, inl, inr, List, [], ◌∷◌, map, reverse, Bool, true, false, ap, refl, sym, subst, arith, slice_get, Some}
use Rattle.std.specs.Prelude.{if◌then◌else◌}
use Rattle.pure_text.specs.Lists.{IsIn, Each, EachTwo, AreDistinct}
use Rattle.pure_definitions.specs.Types.Typ.{Typ, typ_size, typ_depth, arrow}
use Rattle.pure_definitions.specs.Terms.Term.{Term, Const, Free, Var, Bound, Abs, App, term_size, term_depth, max_depth}
use Rattle.pure_definitions.specs.Terms.Bounds.{Occurs}
use Rattle.pure_eta.proofs.LongLaws.{IsFront, IsLong}
use Rattle.pure_unify_definitions.specs.Fronts.{front, arguments, is_schematic, below, domains, range, function_typ}
use Rattle.pure_solutions.specs.Solutions.{IsLongMap}
use Rattle.pure_pattern_laws.specs.Patterns.{IsPlace, IsPattern}
use Rattle.pure_pattern_laws.specs.Putting.{place_in, put_application, put_in}
use Rattle.pure_pattern_laws.proofs.PlacedLaws.{raised, renaming}
use Rattle.pure_pattern_laws.proofs.BuiltLaws.{body-long, long-front}
use Rattle.pure_pattern_laws.proofs.ImageLaws.{function-of}
use Rattle.pure_pattern_laws.proofs.PutLaws.{schematic-is, flexible-long, flexible-split, front-function}
use Rattle.pure_pattern_laws.proofs.PatternLaws.{true-false}
use Rattle.pure_pattern_laws.proofs.SolvedLaws.{places-lack}
use Rattle.pure_pattern_laws.proofs.FreeLaws.{of-below}
use Rattle.pure_pattern_bounds.specs.Covered.{IsBounded}

-- Weights at distinct places come to no more than all together.
abbrev at : ℕ → List ℕ → ℕ
at z [] = 0
at zero (w ∷ ws) = w
at (suc z) (w ∷ ws) = at z ws

abbrev total : List ℕ → ℕ
total [] = 0
total (w ∷ ws) = w + total ws

abbrev cleared : ℕ → List ℕ → List ℕ
cleared z [] = []
cleared zero (w ∷ ws) = 0 ∷ ws
cleared (suc z) (w ∷ ws) = w ∷ cleared z ws

abbrev picked : List ℕ → List ℕ → ℕ
picked [] ws = 0
picked (z ∷ zs) ws = at z ws + picked zs ws

total-cleared : (z : ℕ) (ws : List ℕ) → total ws ≡ at z ws + total (cleared z ws)
total-cleared zero [] = refl
total-cleared (suc z) [] = refl
total-cleared zero (w ∷ ws) = omega arith
total-cleared (suc z) (w ∷ ws) = (let rest = total-cleared z ws in omega arith)

at-cleared : (z y : ℕ) (ws : List ℕ) → (¬ (z ≡ y)) → at y (cleared z ws) ≡ at y ws
at-cleared zero y [] n = refl
at-cleared (suc z) y [] n = refl
at-cleared zero zero (w ∷ ws) n = absurd (n refl)
at-cleared zero (suc y) (w ∷ ws) n = refl
at-cleared (suc z) zero (w ∷ ws) n = refl
at-cleared (suc z) (suc y) (w ∷ ws) n = at-cleared z y ws (λ e. n (ap suc e))

picked-cleared : (z : ℕ) (zs ws : List ℕ) → (¬ IsIn z zs) → picked zs (cleared z ws) ≡ picked zs ws
picked-cleared z [] ws n = refl
picked-cleared z (y ∷ zs) ws n = (let first = at-cleared z y ws (λ e. n (inl e)) in let rest = picked-cleared z zs ws (λ m. n (inr m)) in omega arith)

picked-least : (zs ws : List ℕ) → AreDistinct zs → picked zs ws ≤ total ws
picked-least [] ws d = omega arith
picked-least (z ∷ zs) ws d =
    (let split = total-cleared z ws in let same = picked-cleared z zs ws d.0 in let rest = picked-least zs (cleared z ws) d.1 in omega arith)

-- Binders, weighed.
abbrev weighed : (Typ → ℕ) → List Typ → List ℕ
weighed weight bs = map weight bs

at-typ : (weight : Typ → ℕ) (bs : List Typ) (z : ℕ) (U : Typ) → slice_get bs z ≡ Some U → at z (weighed weight bs) ≡ weight U
at-typ weight [] z U e = absurd (cc)
at-typ weight (T ∷ bs) zero U e = ap weight (same T U e)
  where
    same : (T U : Typ) → Some T ≡ Some U → T ≡ U
    same T U k = cc
at-typ weight (T ∷ bs) (suc z) U e = at-typ weight bs z U e

picked-typs : (weight : Typ → ℕ) (bs : List Typ) (zs : List ℕ) (Us : List Typ) → EachTwo (λ z U. slice_get bs z ≡ Some U) zs Us → picked zs (weighed weight bs) ≡ total (weighed weight Us)
picked-typs weight bs [] [] h = refl
picked-typs weight bs [] (U ∷ Us) h = absurd h
picked-typs weight bs (z ∷ zs) [] h = absurd h
picked-typs weight bs (z ∷ zs) (U ∷ Us) h = (let first = at-typ weight bs z U h.0 in let rest = picked-typs weight bs zs Us h.1 in omega arith)

lighter : (weight : Typ → ℕ) (bs : List Typ) (zs : List ℕ) (Us : List Typ) → AreDistinct zs → EachTwo (λ z U. slice_get bs z ≡ Some U) zs Us → total (weighed weight Us) ≤ total (weighed weight bs)
lighter weight bs zs Us d h = (let same = picked-typs weight bs zs Us h in let least = picked-least zs (weighed weight bs) d in omega arith)

-- A term below abstractions.
abbrev binder : Typ → ℕ
binder T = 1 + typ_size T

abbrev one : Typ → ℕ
one T = 1

size-below : (Ts : List Typ) (c : Term) → term_size (below Ts c) ≡ total (weighed binder Ts) + term_size c
size-below [] c = omega arith
size-below (T ∷ Ts) c = (let rest = size-below Ts c in omega arith)

depth-below : (n e : ℕ) (Ts : List Typ) (R : Typ) (c : Term) → n + typ_depth (function_typ Ts R) ≤ e → n + (total (weighed one Ts) + term_depth c) ≤ e → n + term_depth (below Ts c) ≤ e
depth-below n e [] R c h k = omega arith
depth-below n e (T ∷ Ts) R c h k = (let rest = depth-below (n + 1) e Ts R c (omega arith) (omega arith) in omega arith)

renaming-size : (r : ℕ → ℕ) (t : Term) → term_size (renaming r t) ≡ term_size t
renaming-size r (Const c T) = refl
renaming-size r (Free x T) = refl
renaming-size r (Var x i T) = refl
renaming-size r (Bound p) = refl
renaming-size r (Abs T b) = (let rest = renaming-size (raised r) b in omega arith)
renaming-size r (App f a) = (let first = renaming-size r f in let rest = renaming-size r a in omega arith)

renaming-depth : (r : ℕ → ℕ) (t : Term) → term_depth (renaming r t) ≡ term_depth t
renaming-depth r (Const c T) = refl
renaming-depth r (Free x T) = refl
renaming-depth r (Var x i T) = refl
renaming-depth r (Bound p) = refl
renaming-depth r (Abs T b) = (let rest = renaming-depth (raised r) b in omega arith)
renaming-depth r (App f a) = (let first = renaming-depth r f in let rest = renaming-depth r a in omega arith)

front-size : (t : Term) → (term_size (front t) ≤ term_size t) × (term_depth (front t) ≤ term_depth t)
front-size (Const c T) = (omega arith, omega arith)
front-size (Free x T) = (omega arith, omega arith)
front-size (Var x i T) = (omega arith, omega arith)
front-size (Bound p) = (omega arith, omega arith)
front-size (Abs T b) = (omega arith, omega arith)
front-size (App f a) = (let rest = front-size f in let size = rest.0 in let depth = rest.1 in (omega arith, omega arith))

same_typ : (x i : ℕ) (V : Typ) (y j : ℕ) (F : Typ) → Var x i V ≡ Var y j F → V ≡ F
same_typ x i V y j F e = cc

-- Occurrences in what is put in.
occurs-renaming : (x i : ℕ) (T : Typ) (r : ℕ → ℕ) (t : Term) → Occurs (Var x i T) t → Occurs (Var x i T) (renaming r t)
occurs-renaming x i T r (Const c V) o = o
occurs-renaming x i T r (Free y V) o = o
occurs-renaming x i T r (Var y j V) o = o
occurs-renaming x i T r (Bound p) o = absurd (cc)
occurs-renaming x i T r (Abs V b) (inl e) = absurd (cc)
occurs-renaming x i T r (Abs V b) (inr o) = inr (occurs-renaming x i T (raised r) b o)
occurs-renaming x i T r (App f a) (inl e) = absurd (cc)
occurs-renaming x i T r (App f a) (inr (inl o)) = inr (inl (occurs-renaming x i T r f o))
occurs-renaming x i T r (App f a) (inr (inr o)) = inr (inr (occurs-renaming x i T r a o))

module _ (terms : Term → Term) (long : IsLongMap terms) (x i : ℕ) (V : Typ) where
  abbrev image : Term
  image = terms (Var x i V)

  -- Under binders there is so much room for what is put into a part.
  record Fits (n e : ℕ) (bs : List Typ) (u : Term) : Type 0 where
    size : total (weighed binder bs) + term_size u ≤ n
    depth : total (weighed one bs) + term_depth u ≤ e

  -- What is said of a part in which the variable occurs.
  record IsHeld (bs : List Typ) (u : Term) : Type 0 where
    room : (n e : ℕ) → typ_depth V ≤ e → Fits n e bs u → (term_size image ≤ n) × (term_depth image ≤ e)
    inside : (y j : ℕ) (W : Typ) → Occurs (Var y j W) image → Occurs (Var y j W) u

  itself-held : (bs : List Typ) (u : Term) → image ≡ u → IsHeld bs u
  itself-held bs u e = record {
    room = λ n d low h. (let size = h.size in let depth = h.depth in let same : term_size image ≡ term_size u = ap term_size e in let deep : term_depth image ≡ term_depth u = ap term_depth e in (omega arith, omega arith));
    inside = λ y j W o. subst (Occurs (Var y j W)) e o;
  }

  body-held : (bs : List Typ) (T : Typ) (u : Term) → IsHeld (T ∷ bs) u → IsHeld bs (Abs T u)
  body-held bs T u h = record {
    room = λ n e low k. h.room n e low (let size = k.size in let depth = k.depth in record { size = omega arith; depth = omega arith });
    inside = λ y j W o. inr (h.inside y j W o);
  }

  function-held : (bs : List Typ) (f a : Term) → IsHeld bs f → IsHeld bs (App f a)
  function-held bs f a h = record {
    room = λ n e low k. h.room n e low (let size = k.size in let depth = k.depth in record { size = omega arith; depth = omega arith });
    inside = λ y j W o. inr (inl (h.inside y j W o));
  }

  argument-held : (bs : List Typ) (f a : Term) → IsHeld bs a → IsHeld bs (App f a)
  argument-held bs f a h = record {
    room = λ n e low k. h.room n e low (let size = k.size in let depth = k.depth in record { size = omega arith; depth = omega arith });
    inside = λ y j W o. inr (inr (h.inside y j W o));
  }

  stays-held : (bs : List Typ) (t : Term) → image ≡ front t → Occurs (Var x i V) t → image ≡ Var x i V → IsHeld bs t
  stays-held bs t e o same = record {
    room = λ n d low h. (let fronts = front-size t in let small = fronts.0 in let shallow = fronts.1 in let size = h.size in let depth = h.depth in
        let own : term_size image ≡ term_size (front t) = ap term_size e in let deep : term_depth image ≡ term_depth (front t) = ap term_depth e in (omega arith, omega arith));
    inside = λ y j W p. subst (λ v. Occurs v t) (sym (variable y j W (subst (Occurs (Var y j W)) same p))) o;
  }
    where
      variable : (y j : ℕ) (W : Typ) → Occurs (Var y j W) (Var x i V) → Var y j W ≡ Var x i V
      variable y j W p = p

  set-held : (bs : List Typ) (zs : List ℕ) (Ts : List Typ) (R : Typ) (c : Term) (r : ℕ → ℕ) → V ≡ function_typ Ts R → image ≡ below Ts c → AreDistinct zs → EachTwo (λ z U. slice_get bs z ≡ Some U) zs Ts → IsHeld bs (renaming r c)
  set-held bs zs Ts R c r typ e d h = record {
    room = λ n most low k. (
      (let size = k.size in let whole : term_size image ≡ total (weighed binder Ts) + term_size c = ap term_size e ∙ size-below Ts c in let same = renaming-size r c in let light = lighter binder bs zs Ts d h in omega arith),
      (let depth = k.depth in let same = renaming-depth r c in let few = lighter one bs zs Ts d h in
          let shallow : typ_depth (function_typ Ts R) ≤ most = subst (λ T. typ_depth T ≤ most) typ low in
          let deep = depth-below 0 most Ts R c (omega arith) (omega arith) in
          let whole : term_depth image ≡ term_depth (below Ts c) = ap term_depth e in omega arith),
    );
    inside = λ y j W o. occurs-renaming y j W r c (of-below y j W Ts c (subst (Occurs (Var y j W)) e o));
  }

  flexible-held : (bs : List Typ) (f a : Term) (R : Typ) → IsLong bs (App f a) (App f a) R → (y j : ℕ) (F : Typ) → front f ≡ Var y j F → (zs : List ℕ) → EachTwo IsPlace (arguments (App f a)) zs → AreDistinct zs → Occurs (Var x i V) (App f a) → IsHeld bs (put_application (terms (front f)) (App f a))
  flexible-held bs f a R h y j F e zs p d o =
      let flexible = flexible-long bs (App f a) R y j F zs h (sym h.count) e p in
      let here : Var x i V ≡ front f = places-lack x i V (App f a) zs p (ap is_schematic e) o in
      let own : image ≡ terms (Var y j F) = ap terms (here ∙ e) in
      elim (flexible-split terms long bs f a R y j F zs flexible e p) [
        | inl k ↦ subst (IsHeld bs) (sym k.1) (stays-held bs (App f a) (own ∙ (k.0 ∙ sym e)) o (own ∙ (k.0 ∙ (sym e ∙ sym here))))
        | inr k ↦ (let b = k.0 in subst (IsHeld bs) (sym k.1) (set-held bs zs (domains F) (range F) b.body (place_in (reverse zs)) (same_typ x i V y j F (here ∙ e) ∙ function-of F) (own ∙ b.is) d flexible.types))
      ]

  by_test : (bs : List Typ) (f a : Term) (b : Bool) → (b ≡ true → IsHeld bs (put_application (terms (front f)) (App f a))) → (b ≡ false → IsHeld bs (App (put_in terms f) (put_in terms a))) → IsHeld bs (if b then put_application (terms (front f)) (App f a) else App (put_in terms f) (put_in terms a))
  by_test bs f a true h k = h refl
  by_test bs f a false h k = k refl

  mutual
    held-long : (bs : List Typ) (t : Term) (R : Typ) → IsLong bs t t R → IsPattern t → Occurs (Var x i V) t → IsHeld bs (put_in terms t)
    held-long bs (Const c W) R h p o = absurd (cc)
    held-long bs (Free y W) R h p o = absurd (cc)
    held-long bs (Bound q) R h p o = absurd (cc)
    held-long bs (Var y j W) R h p o = itself-held bs (terms (Var y j W)) (ap terms o)
    held-long bs (Abs W b) R h p (inl e) = absurd (cc)
    held-long bs (Abs W b) R h p (inr o) = (let k = body-long bs W b R h in body-held bs W (put_in terms b) (held-long (W ∷ bs) b k.0 k.1 p o))
    held-long bs (App f a) R h p (inl e) = absurd (cc)
    held-long bs (App f a) R h p (inr (inl o)) =
        by_test bs f a (is_schematic (front f)) (λ e. (let v = schematic-is (front f) e in let places = p.0 e in flexible-held bs f a R h v.0 v.1 v.2 v.3 places.0 places.1.are places.1.distinct (inr (inl o))))
        (λ e. (let k = front-function terms long bs f a R (long-front bs (App f a) R h (λ z. z)) in let q = p.1 e in function-held bs (put_in terms f) (put_in terms a) (held-front bs f (arrow k.0 R) k.1 e q.0 o)))
    held-long bs (App f a) R h p (inr (inr o)) =
        by_test bs f a (is_schematic (front f)) (λ e. (let v = schematic-is (front f) e in let places = p.0 e in flexible-held bs f a R h v.0 v.1 v.2 v.3 places.0 places.1.are places.1.distinct (inr (inr o))))
        (λ e. (let k = front-function terms long bs f a R (long-front bs (App f a) R h (λ z. z)) in let q = p.1 e in argument-held bs (put_in terms f) (put_in terms a) (held-long bs a k.0 k.2 q.1 o)))

    held-front : (bs : List Typ) (t : Term) (R : Typ) → IsFront bs t t R → is_schematic (front t) ≡ false → IsPattern t → Occurs (Var x i V) t → IsHeld bs (put_in terms t)
    held-front bs (Const c W) R h e p o = absurd (cc)
    held-front bs (Free y W) R h e p o = absurd (cc)
    held-front bs (Bound q) R h e p o = absurd (cc)
    held-front bs (Var y j W) R h e p o = absurd (cc)
    held-front bs (Abs W b) R h e p o = absurd (h.applied tt)
    held-front bs (App f a) R h e p (inl same) = absurd (cc)
    held-front bs (App f a) R h e p (inr (inl o)) =
        by_test bs f a (is_schematic (front f)) (λ d. true-false (is_schematic (front f)) d e)
        (λ d. (let k = front-function terms long bs f a R h in let q = p.1 d in function-held bs (put_in terms f) (put_in terms a) (held-front bs f (arrow k.0 R) k.1 d q.0 o)))
    held-front bs (App f a) R h e p (inr (inr o)) =
        by_test bs f a (is_schematic (front f)) (λ d. true-false (is_schematic (front f)) d e)
        (λ d. (let k = front-function terms long bs f a R h in let q = p.1 d in argument-held bs (put_in terms f) (put_in terms a) (held-long bs a k.0 k.2 q.1 o)))

  -- The image of a variable that occurs in a closed pattern is bounded by what is put into the pattern, and each variable in it occurs there.
  pub image-bounded : (t : Term) (R : Typ) → IsLong [] t t R → IsPattern t → Occurs (Var x i V) t → typ_depth V ≤ max_depth → IsBounded image (put_in terms t)
  image-bounded t R h p o low =
      let room = (held-long [] t R h p o).room in
      let most = term_size (put_in terms t) + (term_depth (put_in terms t) + max_depth) in record {
        size = (room (term_size (put_in terms t)) most (omega arith) (record { size = omega arith; depth = omega arith })).0;
        depth = λ deep. (room (term_size (put_in terms t)) max_depth low (record { size = omega arith; depth = omega arith })).1;
      }

  pub image-inside : (t : Term) (R : Typ) → IsLong [] t t R → IsPattern t → Occurs (Var x i V) t → (y j : ℕ) (W : Typ) → Occurs (Var y j W) image → Occurs (Var y j W) (put_in terms t)
  image-inside t R h p o y j W m = (held-long [] t R h p o).inside y j W m
