-- The images that treatments set: their types, and that they are patterns.
use Rattle.std.proofs.Common.{◌≡◌, ℕ, zero, suc, ◌+◌, inl, inr, List, [], ◌∷◌, ◌++◌, length, true, false, ap, refl, sym, subst, ◌∙◌, arith, slice_get, map}
use Rattle.std.proofs.lemmas.List.{append-nil}
use Rattle.pure_text.specs.Lists.{IsIn, Each, EachTwo, AreDistinct}
use Rattle.pure_text.proofs.ListLaws.{two-append, distinct-snoc}
use Rattle.pure_definitions.specs.Types.Typ.{Typ, Con, none, also, arrow}
use Rattle.pure_definitions.specs.Terms.Term.{Term, Const, Free, Var, Bound, Abs, App}
use Rattle.pure_definitions.specs.Terms.Typing.{HasType}
use Rattle.pure_definitions.specs.Reduction.Beta.{IsAbs, IsBetaNormal}
use Rattle.pure_definitions.specs.Reduction.Eta.{EtaStep, EtaReduces, IsLongForm}
use Rattle.pure_eta.proofs.EtaStepLaws.{reduces-then as eta-then}
use Rattle.pure_eta.proofs.KeptLaws.{steps_keep_type, steps_keep_beta_normal}
use Rattle.pure_unify_definitions.specs.Fronts.{front, arguments, is_schematic, domains, range, function_typ, applied, bounds}
use Rattle.pure_unify_definitions.specs.Children.{new_arguments, image_of}
use Rattle.pure_unify_laws.proofs.SplitLaws.{under}
use Rattle.pure_unify_final.proofs.ExtendLaws.{below-typed}
use Rattle.pure_pattern_laws.specs.Patterns.{IsPlace, IsPattern, HasPlaces}
use Rattle.pure_pattern_laws.specs.Treatment.{selection, own_bounds}
use Rattle.pure_pattern_laws.proofs.PlacedLaws.{renaming, lift-suc}
use Rattle.pure_pattern_laws.proofs.PatternLaws.{front_test-renaming, arguments-renaming, places-renaming, renaming-pattern, below-pattern, true-false}
use Rattle.pure_pattern_laws.proofs.ListLaws.{numbers, distinct-numbers}

-- Types.
pub function-of : (T : Typ) → T ≡ function_typ (domains T) (range T)
function-of (Con zero (also A (also B none))) = ap (arrow A) (function-of B)
function-of T = refl

behind-binders : (Ts cs : List Typ) (n k : ℕ) → n ≡ length Ts + k → slice_get (under Ts cs) n ≡ slice_get cs k
behind-binders [] cs n k e = let same : n ≡ k = omega arith in ap (slice_get cs) same
behind-binders (T ∷ Ts) cs n k e = behind-binders Ts (T ∷ cs) n (suc k) (omega arith)

pub applied-typed : (bs Us : List Typ) (f : Term) (ts : List Term) (R : Typ) → HasType bs f (function_typ Us R) → EachTwo (HasType bs) ts Us → HasType bs (applied f ts) R
applied-typed bs [] f [] R h k = h
applied-typed bs [] f (t ∷ ts) R h k = absurd k
applied-typed bs (U ∷ Us) f [] R h k = absurd k
applied-typed bs (U ∷ Us) f (t ∷ ts) R h k = applied-typed bs Us (App f t) ts R (U, h, k.0) k.1

pub bounds-typed : (Ts cs : List Typ) (n : ℕ) → n ≡ length Ts → EachTwo (HasType (under Ts cs)) (bounds n) Ts
bounds-typed [] cs zero e = tt
bounds-typed [] cs (suc n) e = absurd (omega arith)
bounds-typed (T ∷ Ts) cs zero e = absurd (omega arith)
bounds-typed (T ∷ Ts) cs (suc n) e = (behind-binders Ts (T ∷ cs) n 0 (omega arith), bounds-typed Ts (T ∷ cs) n (omega arith))

pub own-typed : (T : Typ) → EachTwo (HasType (under (domains T) [])) (own_bounds T) (domains T)
own-typed T = bounds-typed (domains T) [] (length (domains T)) refl

pub selection-typed : (index : ℕ) (T : Typ) (Us : List Typ) (us : List Term) → EachTwo (HasType (under (domains T) [])) us Us → HasType [] (selection index T Us us) T
selection-typed index T Us us h =
    let inner = applied-typed (under (domains T) []) Us (Var 0 index (function_typ Us (range T))) us (range T) refl h in
    subst (HasType [] (selection index T Us us)) (sym (function-of T)) (below-typed (domains T) [] (applied (Var 0 index (function_typ Us (range T))) us) (range T) inner)

new-typed : (index : ℕ) (Ts : List Typ) (name : ℕ) (Us : List Typ) → EachTwo (HasType (under Ts [])) (new_arguments index Ts name Us) Us
new-typed index Ts name [] = tt
new-typed index Ts name (U ∷ Us) = (
  applied-typed (under Ts []) Ts (Var name index (function_typ Ts U)) (bounds (length Ts)) U refl (bounds-typed Ts [] (length Ts) refl),
  new-typed index Ts (name + 1) Us,
)

pub image_of-typed : (index : ℕ) (T : Typ) (h : Term) (H : Typ) → HasType (under (domains T) []) h H → range H ≡ range T → HasType [] (image_of index (domains T) h (domains H)) T
image_of-typed index T h H k e =
    let Ts = domains T in
    let as_function : HasType (under Ts []) h (function_typ (domains H) (range H)) = subst (λ (U : Typ). HasType (under Ts []) h U) (function-of H) k in
    let inner = applied-typed (under Ts []) (domains H) h (new_arguments index Ts 0 (domains H)) (range H) as_function (new-typed index Ts 0 (domains H)) in
    let whole = below-typed Ts [] (applied h (new_arguments index Ts 0 (domains H))) (range H) inner in
    subst (λ (U : Typ). HasType [] (image_of index Ts h (domains H)) U) (ap (function_typ Ts) e ∙ sym (function-of T)) whole

-- Applications.
pub front-applied : (f : Term) (ts : List Term) → front (applied f ts) ≡ front f
front-applied f [] = refl
front-applied f (t ∷ ts) = front-applied (App f t) ts

append-one : {A : Type 0} (xs : List A) (a : A) (ys : List A) → (xs ++ a ∷ []) ++ ys ≡ xs ++ a ∷ ys
append-one [] a ys = refl
append-one (x ∷ xs) a ys = ap (λ zs. x ∷ zs) (append-one xs a ys)

pub arguments-applied : (f : Term) (ts : List Term) → arguments (applied f ts) ≡ arguments f ++ ts
arguments-applied f [] = sym (append-nil (arguments f))
arguments-applied f (t ∷ ts) = arguments-applied (App f t) ts ∙ append-one (arguments f) t ts

-- A term with a schematic variable at its front is a pattern exactly where its arguments are distinct bound variables.
pub flexible-is_pattern : (t : Term) (zs : List ℕ) → is_schematic (front t) ≡ true → HasPlaces t zs → IsPattern t
flexible-is_pattern (Const c V) zs e h = tt
flexible-is_pattern (Free x V) zs e h = tt
flexible-is_pattern (Var x i V) zs e h = tt
flexible-is_pattern (Bound p) zs e h = tt
flexible-is_pattern (Abs V b) zs e h = absurd (cc)
flexible-is_pattern (App f a) zs e h = (λ k. (zs, h), λ k. true-false (is_schematic (front f)) e k)

pub pattern-places : (t : Term) → is_schematic (front t) ≡ true → IsPattern t → (zs : List ℕ) × HasPlaces t zs
pattern-places (Const c V) e p = absurd (cc)
pattern-places (Free x V) e p = absurd (cc)
pattern-places (Var x i V) e p = ([], record { are = tt; distinct = tt })
pattern-places (Bound q) e p = absurd (cc)
pattern-places (Abs V b) e p = absurd (cc)
pattern-places (App f a) e p = p.0 e

pub bounds-numbers : (n : ℕ) → EachTwo IsPlace (bounds n) (numbers n)
bounds-numbers zero = tt
bounds-numbers (suc n) = (EtaReduces.done, bounds-numbers n)

pub variable-pattern : (x i : ℕ) (V : Typ) (ts : List Term) (zs : List ℕ) → EachTwo IsPlace ts zs → AreDistinct zs → IsPattern (applied (Var x i V) ts)
variable-pattern x i V ts zs h d =
    flexible-is_pattern (applied (Var x i V) ts) zs (ap is_schematic (front-applied (Var x i V) ts)) (record { are = subst (λ us. EachTwo IsPlace us zs) (sym (arguments-applied (Var x i V) ts)) h; distinct = d })

pub selection-pattern : (index : ℕ) (T : Typ) (Us : List Typ) (us : List Term) (ns : List ℕ) → EachTwo IsPlace us ns → AreDistinct ns → IsPattern (selection index T Us us)
selection-pattern index T Us us ns h d = below-pattern (domains T) (applied (Var 0 index (function_typ Us (range T))) us) (variable-pattern 0 index (function_typ Us (range T)) us ns h d)

rigid-applied : (f : Term) (ts : List Term) → is_schematic (front f) ≡ false → IsPattern f → Each IsPattern ts → IsPattern (applied f ts)
rigid-applied f [] e p h = p
rigid-applied f (t ∷ ts) e p h = rigid-applied (App f t) ts e (λ k. true-false (is_schematic (front f)) k e, λ k. (p, h.0)) h.1

new-patterns : (index : ℕ) (Ts : List Typ) (name : ℕ) (Us : List Typ) → Each IsPattern (new_arguments index Ts name Us)
new-patterns index Ts name [] = tt
new-patterns index Ts name (U ∷ Us) = (variable-pattern name index (function_typ Ts U) (bounds (length Ts)) (numbers (length Ts)) (bounds-numbers (length Ts)) (distinct-numbers (length Ts)), new-patterns index Ts (name + 1) Us)

pub image_of-pattern : (index : ℕ) (Ts : List Typ) (h : Term) (Us : List Typ) → is_schematic (front h) ≡ false → IsPattern h → IsPattern (image_of index Ts h Us)
image_of-pattern index Ts h Us e p = below-pattern Ts (applied h (new_arguments index Ts 0 Us)) (rigid-applied h (new_arguments index Ts 0 Us) e p (new-patterns index Ts 0 Us))

-- Eta steps backwards: what reduces to a pattern is one.
eta-front : {t u : Term} → EtaStep t u → IsBetaNormal t → ¬ IsAbs t → front t ≡ front u
eta-front (EtaStep.contract e) n o = absurd (o tt)
eta-front (EtaStep.body s) n o = absurd (o tt)
eta-front (EtaStep.function s) n o = eta-front s n.1 n.0
eta-front (EtaStep.argument s) n o = refl

same-arguments : (ts : List Term) → EachTwo EtaReduces ts ts
same-arguments [] = tt
same-arguments (t ∷ ts) = (EtaReduces.done, same-arguments ts)

eta-arguments : {t u : Term} → EtaStep t u → IsBetaNormal t → ¬ IsAbs t → EachTwo EtaReduces (arguments t) (arguments u)
eta-arguments (EtaStep.contract e) n o = absurd (o tt)
eta-arguments (EtaStep.body s) n o = absurd (o tt)
eta-arguments (EtaStep.function {f = f} {g = g} {a = a} s) n o = two-append EtaReduces (arguments f) (a ∷ []) (arguments g) (a ∷ []) (eta-arguments s n.1 n.0) (EtaReduces.done, tt)
eta-arguments (EtaStep.argument {f = f} {a = a} {b = b} s) n o = two-append EtaReduces (arguments f) (a ∷ []) (arguments f) (b ∷ []) (same-arguments (arguments f)) (EtaReduces.next s EtaReduces.done, tt)

places-before : (ts us : List Term) (zs : List ℕ) → EachTwo EtaReduces ts us → EachTwo IsPlace us zs → EachTwo IsPlace ts zs
places-before [] [] zs h k = k
places-before [] (u ∷ us) zs h k = absurd h
places-before (t ∷ ts) [] zs h k = absurd h
places-before (t ∷ ts) (u ∷ us) [] h k = absurd k
places-before (t ∷ ts) (u ∷ us) (z ∷ zs) h k = (eta-then h.0 k.0, places-before ts us zs h.1 k.1)

step-places : {t u : Term} → EtaStep t u → IsBetaNormal t → ¬ IsAbs t → (zs : List ℕ) → HasPlaces u zs → HasPlaces t zs
step-places {t = t} {u = u} s n o zs h = record { are = places-before (arguments t) (arguments u) zs (eta-arguments s n o) h.are; distinct = h.distinct }

in-raised : (z : ℕ) (zs : List ℕ) → IsIn (suc z) (map suc zs) → IsIn z zs
in-raised z [] m = m
in-raised z (w ∷ ws) (inl e) = inl (omega arith)
in-raised z (w ∷ ws) (inr m) = inr (in-raised z ws m)

distinct-raised : (zs : List ℕ) → AreDistinct zs → AreDistinct (map suc zs)
distinct-raised [] d = tt
distinct-raised (z ∷ zs) d = (λ m. d.0 (in-raised z zs m), distinct-raised zs d.1)

zero-raised : (zs : List ℕ) → ¬ IsIn zero (map suc zs)
zero-raised [] m = m
zero-raised (z ∷ zs) (inl e) = absurd (omega arith)
zero-raised (z ∷ zs) (inr m) = zero-raised zs m

-- `f x` below `%x` is a pattern where f is.
expanded-pattern : (bs : List Typ) (f : Term) (T : Typ) → HasType bs f T → IsPattern f → IsPattern (App (renaming suc f) (Bound 0))
expanded-pattern bs f T h p = (flexible, rigid)
  where
    flexible : is_schematic (front (renaming suc f)) ≡ true → (zs : List ℕ) × HasPlaces (App (renaming suc f) (Bound 0)) zs
    flexible e =
        let old = pattern-places f (sym (front_test-renaming suc f) ∙ e) p in
        let moved = subst (λ us. EachTwo IsPlace us (map suc old.0)) (sym (arguments-renaming suc f)) (places-renaming suc (arguments f) old.0 old.1.are) in (
          map suc old.0 ++ zero ∷ [],
          record {
            are = two-append IsPlace (arguments (renaming suc f)) (Bound 0 ∷ []) (map suc old.0) (zero ∷ []) moved (EtaReduces.done, tt);
            distinct = distinct-snoc (map suc old.0) zero (distinct-raised old.0 old.1.distinct) (zero-raised old.0);
          },
        )

    rigid : is_schematic (front (renaming suc f)) ≡ false → IsPattern (renaming suc f) × IsPattern (Bound 0)
    rigid e = (renaming-pattern suc bs (λ a b la lb same. omega arith) f T h p, tt)

pattern-step : (bs : List Typ) {t u : Term} (T : Typ) → EtaStep t u → IsBetaNormal t → HasType bs t T → IsPattern u → IsPattern t
pattern-step bs T (EtaStep.contract {T = V} {f = f} {g = g} e) n h p =
    subst (λ x. IsPattern (App x (Bound 0))) (sym (e ∙ lift-suc f)) (expanded-pattern bs f T (steps_keep_type bs (Abs V (App g (Bound 0))) f T (EtaReduces.next (EtaStep.contract e) EtaReduces.done) h) p)
pattern-step bs T (EtaStep.body {T = V} s) n h p = pattern-step (V ∷ bs) h.0 s n h.1 p
pattern-step bs T (EtaStep.function {f = f} {g = g} {a = a} s) n h p =
    let same : front f ≡ front g = eta-front s n.1 n.0 in
    let places : (zs : List ℕ) → HasPlaces (App g a) zs → HasPlaces (App f a) zs = λ zs k. step-places (EtaStep.function s) n (λ x. x) zs k in
    let inside : IsPattern g → IsPattern f = pattern-step bs (arrow h.0 T) s n.1 h.1 in
    (λ e. (let k = p.0 (sym (ap is_schematic same) ∙ e) in (k.0, places k.0 k.1)), λ e. (let k = p.1 (sym (ap is_schematic same) ∙ e) in (inside k.0, k.1)))
pattern-step bs T (EtaStep.argument {f = f} {a = a} {b = b} s) n h p =
    let places : (zs : List ℕ) → HasPlaces (App f b) zs → HasPlaces (App f a) zs = λ zs k. step-places (EtaStep.argument s) n (λ x. x) zs k in
    let inside : IsPattern b → IsPattern a = pattern-step bs h.0 s n.2 h.2 in
    (λ e. (let k = p.0 e in (k.0, places k.0 k.1)), λ e. (let k = p.1 e in (k.0, inside k.1)))

pub pattern-before : (bs : List Typ) {t u : Term} (T : Typ) → EtaReduces t u → IsBetaNormal t → HasType bs t T → IsPattern u → IsPattern t
pattern-before bs T EtaReduces.done n h p = p
pattern-before bs {t = t} T (EtaReduces.next {u = v} s r) n h p =
    let first = EtaReduces.next s EtaReduces.done in
    pattern-step bs T s n h (pattern-before bs T r (steps_keep_beta_normal t v first n) (steps_keep_type bs t v T first h) p)

-- The long form of a pattern is one.
pub long-pattern : (t u : Term) → IsLongForm t u → IsPattern t → IsPattern u
long-pattern t u h p = pattern-before [] h.typ h.reduces h.normal h.long_typed p
