-- Images put into patterns by renaming: long forms.
use Rattle.std.proofs.Common.{◌≡◌, ◌⊎◌, ℕ, zero, suc, inl, inr, List, [], ◌∷◌, ◌++◌, length, Bool, true, false, ap, refl, sym, subst, ◌∙◌, slice_get, Some, map, reverse}
use Rattle.std.specs.Prelude.{if◌then◌else◌}
use mathlib.Core.List.{reverse_aux}
use Rattle.pure_text.specs.Lists.{Each, EachTwo}
use Rattle.pure_text.proofs.ListLaws.{two_long}
use Rattle.pure_definitions.specs.Types.Typ.{Typ, arrow}
use Rattle.pure_definitions.specs.Terms.Term.{Term, Const, Free, Var, Bound, Abs, App}
use Rattle.pure_definitions.specs.Terms.Typing.{HasType}
use Rattle.pure_definitions.specs.Terms.Subst.{inst_term}
use Rattle.pure_definitions.specs.Reduction.Beta.{IsBetaNormal}
use Rattle.pure_definitions.specs.Reduction.Eta.{EtaReduces, arrow_count, IsLongForm}
use Rattle.pure_term_laws.proofs.TypingLaws.{typed-once}
use Rattle.pure_eta.proofs.EtaStepLaws.{reduces-body as eta-body, reduces-application as eta-application}
use Rattle.pure_eta.proofs.KeptLaws.{steps_keep_type}
use Rattle.pure_eta.proofs.LongLaws.{IsFront, IsLong}
use Rattle.pure_reduction.specs.Steps.{BetaReduces}
use Rattle.pure_reduction.specs.LongForms.{HasLongForm}
use Rattle.pure_reduction.proofs.StepLaws.{reduces-body, reduces-application}
use Rattle.pure_reduction.proofs.LongLaws.{long_form_of_eta_reduct}
use Rattle.pure_unify_definitions.specs.Fronts.{front, arguments, is_schematic, below, domains, range, function_typ, applied}
use Rattle.pure_unify_laws.proofs.SplitLaws.{under}
use Rattle.pure_unify_final.proofs.SideLaws.{IsLongIn, long_form-long, spine-long}
use Rattle.pure_unify_final.proofs.BuiltLaws.{applied-spine, spine-typed, head-domains}
use Rattle.pure_solutions.specs.Solutions.{IsTermSubstitution, IsLongMap}
use Rattle.pure_solutions.proofs.SolutionLaws.{image-typed, fixed-stays, instance-typed, eta-instance}
use Rattle.pure_pattern_laws.specs.Patterns.{IsPlace, IsPattern}
use Rattle.pure_pattern_laws.specs.Putting.{place_of, place_in, renamed, put_application, put_in}
use Rattle.pure_pattern_laws.specs.Laws.{PutInIsLongForm}
use Rattle.pure_pattern_laws.proofs.PlacedLaws.{renaming, placed-same, placed-renaming, with_term, with_terms, below-applied}
use Rattle.pure_pattern_laws.proofs.RenameLaws.{IsScoped, renaming-long, renamed-renaming, places-are}
use Rattle.pure_pattern_laws.proofs.BuiltLaws.{body-long, close-long, IsLongBelow, below-of, body-below, long-front, long-weaken, long-own, no_range}

-- Bound variables as terms.
abbrev pub bound_terms : List ℕ → List Term
bound_terms zs = map (λ z. Bound z) zs

with_terms-places : (zs ws : List ℕ) (s : ℕ → Term) → ((p : ℕ) → s p ≡ Bound (place_in ws p)) → (p : ℕ) → with_terms (bound_terms zs) s p ≡ Bound (place_in (reverse_aux zs ws) p)
with_terms-places [] ws s e p = e p
with_terms-places (z ∷ zs) ws s e p = with_terms-places zs (z ∷ ws) (with_term (Bound z) s) inner p
  where
    inner : (p : ℕ) → with_term (Bound z) s p ≡ Bound (place_in (z ∷ ws) p)
    inner zero = refl
    inner (suc p) = e p

bounds-length : (zs : List ℕ) → length (bound_terms zs) ≡ length zs
bounds-length [] = refl
bounds-length (z ∷ zs) = ap (λ n. suc n) (bounds-length zs)

-- Abstractions that are applied to bound variables reduce to the renamed body.
pub below-renamed : (Ts : List Typ) (zs : List ℕ) (c : Term) → length zs ≡ length Ts → BetaReduces (applied (below Ts c) (bound_terms zs)) (renaming (place_in (reverse zs)) c)
below-renamed Ts zs c e =
    subst (BetaReduces (applied (below Ts c) (bound_terms zs))) (placed-same (with_terms (bound_terms zs) (λ p. Bound p)) (λ p. Bound (place_in (reverse zs) p)) (with_terms-places zs [] (λ p. Bound p) (λ p. refl)) c ∙ placed-renaming (place_in (reverse zs)) c)
    (below-applied Ts (bound_terms zs) c (bounds-length zs ∙ e))

pub scoped-places : (Us : List Typ) (zs : List ℕ) (bs ds : List Typ) (ws : List ℕ) → EachTwo (λ z U. slice_get bs z ≡ Some U) zs Us → IsScoped (place_in ws) ds bs → IsScoped (place_in (reverse_aux zs ws)) (under Us ds) bs
scoped-places [] [] bs ds ws h k = k
scoped-places [] (z ∷ zs) bs ds ws h k = absurd h
scoped-places (U ∷ Us) [] bs ds ws h k = absurd h
scoped-places (U ∷ Us) (z ∷ zs) bs ds ws h k = scoped-places Us zs bs (U ∷ ds) (z ∷ ws) h.1 inner
  where
    inner : IsScoped (place_in (z ∷ ws)) (U ∷ ds) bs
    inner zero V e = h.0 ∙ e
    inner (suc p) V e = k p V e

pub typed-places : (bs : List Typ) (ts : List Term) (zs : List ℕ) (Us : List Typ) → EachTwo IsPlace ts zs → EachTwo (HasType bs) ts Us → EachTwo (λ z U. slice_get bs z ≡ Some U) zs Us
typed-places bs [] [] [] h k = tt
typed-places bs [] [] (U ∷ Us) h k = absurd k
typed-places bs [] (z ∷ zs) Us h k = absurd h
typed-places bs (t ∷ ts) [] Us h k = absurd h
typed-places bs (t ∷ ts) (z ∷ zs) [] h k = absurd k
typed-places bs (t ∷ ts) (z ∷ zs) (U ∷ Us) h k = (steps_keep_type bs t (Bound z) U h.0 k.0, typed-places bs ts zs Us h.1 k.1)

pub eta-applied : (ts : List Term) (zs : List ℕ) (f g : Term) → EtaReduces f g → EachTwo IsPlace ts zs → EtaReduces (applied f ts) (applied g (bound_terms zs))
eta-applied [] [] f g r h = r
eta-applied [] (z ∷ zs) f g r h = absurd h
eta-applied (t ∷ ts) [] f g r h = absurd h
eta-applied (t ∷ ts) (z ∷ zs) f g r h = eta-applied ts zs (App f t) (App g (Bound z)) (eta-application f g t (Bound z) r h.0) h.1

pub normal-places : (bs : List Typ) (ts : List Term) (zs : List ℕ) → EachTwo IsPlace ts zs → Each (IsLongIn bs) ts → EachTwo (λ t z. IsBetaNormal t) ts zs
normal-places bs [] [] h k = tt
normal-places bs [] (z ∷ zs) h k = absurd h
normal-places bs (t ∷ ts) [] h k = absurd h
normal-places bs (t ∷ ts) (z ∷ zs) h k = (k.0.1.normal, normal-places bs ts zs h.1 k.1)

bounds-instance : (terms : Term → Term) (zs : List ℕ) (f : Term) → inst_term terms (applied f (bound_terms zs)) ≡ applied (inst_term terms f) (bound_terms zs)
bounds-instance terms [] f = refl
bounds-instance terms (z ∷ zs) f = bounds-instance terms zs (App f (Bound z))

pub some_second : {A B : Type 0} (R : A → B → Type 0) (ts : List A) (a : A) (us : List B) → EachTwo R (ts ++ a ∷ []) us → (v : B) × (vs : List B) × (us ≡ v ∷ vs)
some_second R ts a (v ∷ vs) h = (v, vs, refl)
some_second R [] a [] h = absurd h
some_second R (t ∷ ts) a [] h = absurd h

pub some_typ : {A B : Type 0} (R : A → B → Type 0) (ts : List A) (a : A) (rest : List A) (us : List B) → ts ≡ a ∷ rest → EachTwo R ts us → (v : B) × (vs : List B) × (us ≡ v ∷ vs)
some_typ R (t ∷ ts) a rest (v ∷ vs) e h = (v, vs, refl)
some_typ R (t ∷ ts) a rest [] e h = absurd h
some_typ R [] a rest us e h = absurd (cc)

pub schematic-is : (v : Term) → is_schematic v ≡ true → (x i : ℕ) × (F : Typ) × (v ≡ Var x i F)
schematic-is (Var x i F) e = (x, i, F, refl)
schematic-is (Const c T) e = absurd (cc)
schematic-is (Free x T) e = absurd (cc)
schematic-is (Bound p) e = absurd (cc)
schematic-is (Abs T b) e = absurd (cc)
schematic-is (App f a) e = absurd (cc)

pub chosen : (P : Term → Type 0) (b : Bool) (u v : Term) → (b ≡ true → P u) → (b ≡ false → P v) → P (if b then u else v)
chosen P true u v h k = h refl
chosen P false u v h k = k refl

-- A flexible term in long form: its variable and its places, with their types.
pub record IsFlexibleLong (bs : List Typ) (t : Term) (T : Typ) (x i : ℕ) (F : Typ) (zs : List ℕ) : Type 0 where
  pub domains_long : length zs ≡ length (domains F)
  pub range_is : range F ≡ T
  pub types : EachTwo (λ z U. slice_get bs z ≡ Some U) zs (domains F)
  pub places : map place_of (arguments t) ≡ zs

pub flexible-long : (bs : List Typ) (t : Term) (T : Typ) (x i : ℕ) (F : Typ) (zs : List ℕ) → IsLong bs t t T → arrow_count T ≡ 0 → front t ≡ Var x i F → EachTwo IsPlace (arguments t) zs → IsFlexibleLong bs t T x i F zs
flexible-long bs t T x i F zs h none e p =
    let spine = spine-typed bs t T h.typed in
    let head : F ≡ function_typ spine.0 T = subst (λ v. HasType bs v (function_typ spine.0 T)) e spine.1 in
    let base = no_range T none in
    let ends = head-domains spine.0 T in
    let same : domains F ≡ spine.0 = ap domains (head ∙ ap (function_typ spine.0) (sym base)) ∙ ends.0 in
    let last : range F ≡ T = ap range (head ∙ ap (function_typ spine.0) (sym base)) ∙ (ends.1 ∙ base) in
    let typed = typed-places bs (arguments t) zs spine.0 p spine.2 in
    let typed_own : EachTwo (λ z U. slice_get bs z ≡ Some U) zs (domains F) = subst (EachTwo (λ z U. slice_get bs z ≡ Some U) zs) (sym same) typed in
    record {
      domains_long = two_long (λ z U. slice_get bs z ≡ Some U) zs (domains F) typed_own;
      range_is = last;
      types = typed_own;
      places = places-are (arguments t) zs p (normal-places bs (arguments t) zs p (spine-long bs t h.parts h.normal));
    }

-- The term comes to what is put: eta steps to a term whose instance beta steps lead to where eta steps lead from what is put.
pub record ComesToPut (terms : Term → Term) (t u : Term) : Type 0 where
  pub middle : Term
  pub low : Term
  pub to_middle : EtaReduces t middle
  pub reduces : BetaReduces (inst_term terms middle) low
  pub from_put : EtaReduces u low

module _ (terms : Term → Term) (long : IsLongMap terms) where
  abbrev s : IsTermSubstitution terms
  s = long.substitution

  comes-itself : (t : Term) → inst_term terms t ≡ t → ComesToPut terms t t
  comes-itself t e = record { middle = t; low = t; to_middle = EtaReduces.done; reduces = subst (λ u. BetaReduces u t) (sym e) BetaReduces.done; from_put = EtaReduces.done }

  abbrev IsPutLong : List Typ → Term → Typ → Term → Type 0
  IsPutLong bs t T u = IsLong bs u u T × ComesToPut terms t u

  abbrev IsPutFront : List Typ → Term → Typ → Term → Type 0
  IsPutFront bs t T u = IsFront bs u u T × ComesToPut terms t u

  variable-put : (bs : List Typ) (x i : ℕ) (F T : Typ) → IsLong bs (Var x i F) (Var x i F) T → IsPutLong bs (Var x i F) T (terms (Var x i F))
  variable-put bs x i F T h = (by_cases (long.images x i F), record { middle = Var x i F; low = terms (Var x i F); to_middle = EtaReduces.done; reduces = BetaReduces.done; from_put = EtaReduces.done })
    where
      by_cases : (terms (Var x i F) ≡ Var x i F) ⊎ IsLongForm (terms (Var x i F)) (terms (Var x i F)) → IsLong bs (terms (Var x i F)) (terms (Var x i F)) T
      by_cases (inl e) = subst (λ u. IsLong bs u u T) (sym e) h
      by_cases (inr k) =
          let own = long_form-long (terms (Var x i F)) (terms (Var x i F)) k in
          let same : own.0 ≡ T = typed-once [] (terms (Var x i F)) own.0 F own.1.typed (image-typed terms s x i F) ∙ h.typed in
          subst (IsLong bs (terms (Var x i F)) (terms (Var x i F))) same (long-weaken bs (terms (Var x i F)) own.0 own.1)

  -- the image of a variable that is set, of which an application is put
  pub set-is : (t : Term) (T : Typ) (bs : List Typ) (x i : ℕ) (F : Typ) (zs : List ℕ) → IsFlexibleLong bs t T x i F zs → (b : IsLongBelow [] (terms (Var x i F)) F) → (V : Typ) (Vs : List Typ) → domains F ≡ V ∷ Vs
      → put_application (terms (Var x i F)) t ≡ renaming (place_in (reverse zs)) b.body
  set-is t T bs x i F zs h b V Vs some =
      let image : terms (Var x i F) ≡ below (V ∷ Vs) b.body = b.is ∙ ap (λ Ts. below Ts b.body) some in
      ap (λ u. put_application u t) image ∙ ((λ l. renamed 0 (reverse (h.places l)) (body-below Vs b.body b.bare l)) ∙ renamed-renaming (reverse zs) b.body)

  to-bounds : (t : Term) (x i : ℕ) (F : Typ) (zs : List ℕ) → front t ≡ Var x i F → EachTwo IsPlace (arguments t) zs → EtaReduces t (applied (Var x i F) (bound_terms zs))
  to-bounds t x i F zs e p = subst (λ u. EtaReduces u (applied (Var x i F) (bound_terms zs))) (ap (λ u. applied u (arguments t)) (sym e) ∙ applied-spine t) (eta-applied (arguments t) zs (Var x i F) (Var x i F) EtaReduces.done p)

  set-put : (bs : List Typ) (t : Term) (T : Typ) (x i : ℕ) (F : Typ) (zs : List ℕ) → IsFlexibleLong bs t T x i F zs → front t ≡ Var x i F → EachTwo IsPlace (arguments t) zs → (b : IsLongBelow [] (terms (Var x i F)) F)
      → IsPutLong bs t T (renaming (place_in (reverse zs)) b.body)
  set-put bs t T x i F zs h e p b =
      let scoped : IsScoped (place_in (reverse zs)) (under (domains F) []) bs = scoped-places (domains F) zs bs [] [] h.types (λ q U z. absurd (cc)) in
      let long = renaming-long (place_in (reverse zs)) (under (domains F) []) bs scoped b.body (range F) b.long in
      let reduces : BetaReduces (inst_term terms (applied (Var x i F) (bound_terms zs))) (renaming (place_in (reverse zs)) b.body) =
      subst (λ u. BetaReduces u (renaming (place_in (reverse zs)) b.body)) (sym (bounds-instance terms zs (Var x i F) ∙ ap (λ u. applied u (bound_terms zs)) b.is)) (below-renamed (domains F) zs b.body h.domains_long) in (
        subst (IsLong bs (renaming (place_in (reverse zs)) b.body) (renaming (place_in (reverse zs)) b.body)) h.range_is long,
        record { middle = applied (Var x i F) (bound_terms zs); low = renaming (place_in (reverse zs)) b.body; to_middle = to-bounds t x i F zs e p; reduces = reduces; from_put = EtaReduces.done },
      )

  unset-put : (bs : List Typ) (t : Term) (T : Typ) (x i : ℕ) (F : Typ) (zs : List ℕ) → IsLong bs t t T → front t ≡ Var x i F → EachTwo IsPlace (arguments t) zs → terms (Var x i F) ≡ Var x i F → IsPutLong bs t T t
  unset-put bs t T x i F zs h e p same =
      let middle = applied (Var x i F) (bound_terms zs) in
      let stays : inst_term terms middle ≡ middle = bounds-instance terms zs (Var x i F) ∙ ap (λ u. applied u (bound_terms zs)) same in
      let to = to-bounds t x i F zs e p in
      (h, record { middle = middle; low = middle; to_middle = to; reduces = subst (λ u. BetaReduces u middle) (sym stays) BetaReduces.done; from_put = to })

  -- An application of a variable: it stays where the variable isn't set, or becomes the renamed body of the variable's image.
  pub flexible-split : (bs : List Typ) (f a : Term) (T : Typ) (x i : ℕ) (F : Typ) (zs : List ℕ) → IsFlexibleLong bs (App f a) T x i F zs → front f ≡ Var x i F → EachTwo IsPlace (arguments (App f a)) zs
      → ((terms (Var x i F) ≡ Var x i F) × (put_application (terms (front f)) (App f a) ≡ App f a))
      ⊎ ((b : IsLongBelow [] (terms (Var x i F)) F) × (put_application (terms (front f)) (App f a) ≡ renaming (place_in (reverse zs)) b.body))
  flexible-split bs f a T x i F zs h e p = by_cases (long.images x i F)
    where
      by_cases : (terms (Var x i F) ≡ Var x i F) ⊎ IsLongForm (terms (Var x i F)) (terms (Var x i F))
          → ((terms (Var x i F) ≡ Var x i F) × (put_application (terms (front f)) (App f a) ≡ App f a))
          ⊎ ((b : IsLongBelow [] (terms (Var x i F)) F) × (put_application (terms (front f)) (App f a) ≡ renaming (place_in (reverse zs)) b.body))
      by_cases (inl same) = inl (same, ap (λ v. put_application (terms v) (App f a)) e ∙ ap (λ u. put_application u (App f a)) same)
      by_cases (inr k) =
          let own = long_form-long (terms (Var x i F)) (terms (Var x i F)) k in
          let typ : own.0 ≡ F = typed-once [] (terms (Var x i F)) own.0 F own.1.typed (image-typed terms s x i F) in
          let b = below-of [] (terms (Var x i F)) F (subst (IsLong [] (terms (Var x i F)) (terms (Var x i F))) typ own.1) in
          let first = some_second IsPlace (arguments f) a zs p in
          let some = some_typ (λ z U. slice_get bs z ≡ Some U) zs first.0 first.1 (domains F) first.2 h.types in
          inr (b, ap (λ v. put_application (terms v) (App f a)) e ∙ set-is (App f a) T bs x i F zs h b some.0 some.1 some.2)

  flexible-put : (bs : List Typ) (f a : Term) (T : Typ) (x i : ℕ) (F : Typ) (zs : List ℕ) → IsLong bs (App f a) (App f a) T → front f ≡ Var x i F → EachTwo IsPlace (arguments (App f a)) zs → IsPutLong bs (App f a) T (put_application (terms (front f)) (App f a))
  flexible-put bs f a T x i F zs h e p =
      let flexible = flexible-long bs (App f a) T x i F zs h (sym h.count) e p in
      elim (flexible-split bs f a T x i F zs flexible e p) [
        | inl k ↦ subst (IsPutLong bs (App f a) T) (sym k.1) (unset-put bs (App f a) T x i F zs h e p k.0)
        | inr k ↦ subst (IsPutLong bs (App f a) T) (sym k.1) (set-put bs (App f a) T x i F zs flexible e p k.0)
      ]

  application-put : (bs : List Typ) (f a g b : Term) (V T : Typ) → IsPutFront bs f (arrow V T) g → IsPutLong bs a V b → IsPutFront bs (App f a) T (App g b)
  application-put bs f a g b V T h k = (
    record {
      typed = (V, h.0.typed, k.0.typed);
      reduces = EtaReduces.done;
      normal = (h.0.applied, h.0.normal, k.0.normal);
      applied = (λ x. x);
      parts = (h.0.parts, (V, k.0.typed, k.0.count), k.0.parts);
    },
    record {
      middle = App h.1.middle k.1.middle;
      low = App h.1.low k.1.low;
      to_middle = eta-application f h.1.middle a k.1.middle h.1.to_middle k.1.to_middle;
      reduces = reduces-application h.1.reduces k.1.reduces;
      from_put = eta-application g h.1.low b k.1.low h.1.from_put k.1.from_put;
    },
  )

  abstraction-put : (bs : List Typ) (V : Typ) (b c : Term) (B T : Typ) → arrow V B ≡ T → IsPutLong (V ∷ bs) b B c → IsPutLong bs (Abs V b) T (Abs V c)
  abstraction-put bs V b c B T e h = (
    close-long bs V c B T h.0 e,
    record { middle = Abs V h.1.middle; low = Abs V h.1.low; to_middle = eta-body V h.1.to_middle; reduces = reduces-body V h.1.reduces; from_put = eta-body V h.1.from_put },
  )

  pub front-function : (bs : List Typ) (f a : Term) (T : Typ) → IsFront bs (App f a) (App f a) T → (V : Typ) × IsFront bs f f (arrow V T) × IsLong bs a a V
  front-function bs f a T h =
      let same : h.parts.1.0 ≡ h.typed.0 = typed-once bs a h.parts.1.0 h.typed.0 h.parts.1.1 h.typed.2 in (
        h.typed.0,
        record { typed = h.typed.1; reduces = EtaReduces.done; normal = h.normal.1; applied = h.normal.0; parts = h.parts.0 },
        record { typed = h.typed.2; reduces = EtaReduces.done; normal = h.normal.2; count = h.parts.1.2 ∙ ap arrow_count same; parts = h.parts.2 },
      )

  -- A rigid application is long where its type has no arrows.
  front-long : (bs : List Typ) (f a : Term) (T : Typ) (u w : Term) → arrow_count T ≡ 0 → IsPutFront bs (App f a) T (App u w) → IsPutLong bs (App f a) T (App u w)
  front-long bs f a T u w none h = (record { typed = h.0.typed; reduces = EtaReduces.done; normal = h.0.normal; count = sym none; parts = h.0.parts }, h.1)

  mutual
    pub put-long : (bs : List Typ) (t : Term) (T : Typ) → IsLong bs t t T → IsPattern t → IsPutLong bs t T (put_in terms t)
    put-long bs (Const c V) T h p = (h, comes-itself (Const c V) refl)
    put-long bs (Free x V) T h p = (h, comes-itself (Free x V) (fixed-stays terms s x V))
    put-long bs (Var x i V) T h p = variable-put bs x i V T h
    put-long bs (Bound q) T h p = (h, comes-itself (Bound q) refl)
    put-long bs (Abs V b) T h p = let k = body-long bs V b T h in abstraction-put bs V b (put_in terms b) k.0 T k.2 (put-long (V ∷ bs) b k.0 k.1 p)
    put-long bs (App f a) T h p =
        chosen (IsPutLong bs (App f a) T) (is_schematic (front f)) (put_application (terms (front f)) (App f a)) (App (put_in terms f) (put_in terms a))
        (λ e. (let v = schematic-is (front f) e in let places = p.0 e in flexible-put bs f a T v.0 v.1 v.2 places.0 h v.3 places.1.are))
        (λ e. (let k = front-function bs f a T (long-front bs (App f a) T h (λ x. x)) in let q = p.1 e in
        front-long bs f a T (put_in terms f) (put_in terms a) (sym h.count) (application-put bs f a (put_in terms f) (put_in terms a) k.0 T (put-front bs f (arrow k.0 T) k.1 e q.0) (put-long bs a k.0 k.2 q.1))))

    put-front : (bs : List Typ) (t : Term) (T : Typ) → IsFront bs t t T → is_schematic (front t) ≡ false → IsPattern t → IsPutFront bs t T (put_in terms t)
    put-front bs (Const c V) T h e p = (h, comes-itself (Const c V) refl)
    put-front bs (Free x V) T h e p = (h, comes-itself (Free x V) (fixed-stays terms s x V))
    put-front bs (Var x i V) T h e p = absurd (cc)
    put-front bs (Bound q) T h e p = (h, comes-itself (Bound q) refl)
    put-front bs (Abs V b) T h e p = absurd (h.applied tt)
    put-front bs (App f a) T h e p =
        let k = front-function bs f a T h in
        let q = p.1 e in
        rw e (application-put bs f a (put_in terms f) (put_in terms a) k.0 T (put-front bs f (arrow k.0 T) k.1 e q.0) (put-long bs a k.0 k.2 q.1))

comes-long : (terms : Term → Term) → IsTermSubstitution terms → (t u : Term) (T : Typ) → HasType [] t T → IsLong [] u u T → ComesToPut terms t u → HasLongForm (inst_term terms t) u
comes-long terms s t u T h k comes =
    let low = steps_keep_type [] u comes.low T comes.from_put k.typed in
    let middle : HasLongForm (inst_term terms comes.middle) u = record { normal = comes.low; reduces = comes.reduces; long = long-own u comes.low T k comes.from_put low } in
    (long_form_of_eta_reduct (inst_term terms t) (inst_term terms comes.middle) u T (instance-typed terms s t T h) (eta-instance terms s t comes.middle comes.to_middle)).1 middle

pub put_in_is_long_form : PutInIsLongForm
put_in_is_long_form terms long t h p =
    let own = long_form-long t t h in
    let put = put-long terms long [] t own.0 own.1 p in
    comes-long terms long.substitution t (put_in terms t) own.0 own.1.typed put.0 put.1
