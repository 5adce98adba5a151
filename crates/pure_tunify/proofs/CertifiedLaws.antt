-- What unification sets, over certified pairs, is certified.
use Rattle.std.proofs.Common.{◌≡◌, ℕ, Bool, true, false, ◌&&◌, List, [], ◌∷◌, Option, Some, None, nat_eq, if◌then◌else◌, inl, inr, ⊎_elim, refl, sym, subst}
use Rattle.pure_text.specs.Lists.{IsIn, Each}
use Rattle.pure_text.proofs.ListLaws.{each-append, in_split, in-append_right}
use Rattle.pure_definitions.specs.Types.Typ.{Typ, TFree, TVar, Con, Typs, none, also, typs_count, typ_eq}
use Rattle.pure_definitions.specs.Declarations.Decl.{Decl, ConDecl, algebra_of, IsDeclaredClass}
use Rattle.pure_definitions.specs.Declarations.Certified.{IsCertifiedSort, IsCertifiedTyp, AreCertifiedTyps}
use Rattle.pure_definitions.specs.Terms.Subst.{TypBind, typ_variable, typ_image, typ_instance, typs_instance}
use Rattle.pure_definitions.proofs.EntryLemmas.{chosen}
use Rattle.pure_term_laws.proofs.MapLaws.{typs_count-instance}
use Rattle.pure_tunify.specs.declared.pair.TypPair.{TypPair}
use Rattle.pure_tunify.specs.Steps.{pair, setting, instance_pair}
use Rattle.pure_tunify.specs.Settings.{composed, bind}
use Rattle.pure_tunify.specs.Occurrences.{schematics, schematics_of}
use Rattle.pure_tunify.specs.Procedure.{sooner, difference, differences, Shows, left_side, right_side, Narrows, fits, replace, IsTreated, Equalises, equal, treat, Outcome, Unified, NotTyped, TooBig, Unifies, over, no_typing, big, next}
use Rattle.pure_tunify.specs.Closed.{AreClosed}
use Rattle.pure_tunify.proofs.DeclaredLaws.{HasDeclared, HaveDeclared, narrowed_sort}

module _ (ds : List Decl) (closed : AreClosed (algebra_of ds) (IsDeclaredClass ds)) where
  -- The sides of the pair are certified; and an entry's variable and image.
  abbrev pub IsCertifiedPair : TypPair → Type 0
  IsCertifiedPair p = IsCertifiedTyp ds p.left × IsCertifiedTyp ds p.right

  abbrev pub IsCertifiedBind : TypBind → Type 0
  IsCertifiedBind b = IsCertifiedSort ds b.sort × IsCertifiedTyp ds b.image

  mutual
    declared_in : (T : Typ) → IsCertifiedTyp ds T → HasDeclared (algebra_of ds) (IsDeclaredClass ds) closed T
    declared_in (TFree x s) h = h.1
    declared_in (TVar x i s) h = h.1
    declared_in (Con k ts) h = all_declared_in ts h.1

    all_declared_in : (ts : Typs) → AreCertifiedTyps ds ts → HaveDeclared (algebra_of ds) (IsDeclaredClass ds) closed ts
    all_declared_in none h = tt
    all_declared_in (also t ts) h = (declared_in t h.0, all_declared_in ts h.1)

  -- The images of certified variables are certified.
  pub record HasCertifiedImages (typs : Typ → Typ) : Type 0 where
    pub fixed : (x : ℕ) (s : List ℕ) → IsCertifiedSort ds s → IsCertifiedTyp ds (typs (TFree x s))
    pub schematic : (x i : ℕ) (s : List ℕ) → IsCertifiedSort ds s → IsCertifiedTyp ds (typs (TVar x i s))

  module _ (typs : Typ → Typ) (images : HasCertifiedImages typs) where
    mutual
      pub instance_certified : (T : Typ) → IsCertifiedTyp ds T → IsCertifiedTyp ds (typ_instance typs T)
      instance_certified (TFree x s) h = images.fixed x s h
      instance_certified (TVar x i s) h = images.schematic x i s h
      instance_certified (Con k ts) h = (subst (λ (n : ℕ). IsIn (ConDecl k n) ds) (sym (typs_count-instance typs ts)) h.0, instances_certified ts h.1)

      pub instances_certified : (ts : Typs) → AreCertifiedTyps ds ts → AreCertifiedTyps ds (typs_instance typs ts)
      instances_certified none h = tt
      instances_certified (also t ts) h = (instance_certified t h.0, instances_certified ts h.1)

  one_image : (b : TypBind) → IsCertifiedBind b → (v : Typ) → IsCertifiedTyp ds v → IsCertifiedTyp ds (typ_image (b ∷ []) v)
  one_image b h v c = chosen (IsCertifiedTyp ds) (typ_eq (typ_variable b) v) b.image v (λ e. h.1) c

  pub composed_certified : (sets : List TypBind) → Each IsCertifiedBind sets → HasCertifiedImages (composed sets)
  composed_certified [] h = record { fixed = λ x s c. c; schematic = λ x i s c. c }
  composed_certified (b ∷ bs) h =
      let rest = composed_certified bs h.1 in
      record {
        fixed = λ x s c. instance_certified (composed bs) rest (typ_image (b ∷ []) (TFree x s)) (one_image b h.0 (TFree x s) c);
        schematic = λ x i s c. instance_certified (composed bs) rest (typ_image (b ∷ []) (TVar x i s)) (one_image b h.0 (TVar x i s) c);
      }

  setting_certified : (y j : ℕ) (q : List ℕ) (t : Typ) → IsCertifiedSort ds q → IsCertifiedTyp ds t → HasCertifiedImages (setting y j q t)
  setting_certified y j q t h c = record {
    fixed = λ x s d. one_image (bind y j q t) (h, c) (TFree x s) d;
    schematic = λ x i s d. one_image (bind y j q t) (h, c) (TVar x i s) d;
  }

  mutual
    variable_certified : (x i : ℕ) (s : List ℕ) (T : Typ) → IsCertifiedTyp ds T → IsIn (TVar x i s) (schematics T) → IsCertifiedSort ds s
    variable_certified x i s (TFree y r) h m = absurd m
    variable_certified x i s (TVar y j r) h (inl e) = let same : s ≡ r = cc in subst (λ (q : List ℕ). IsCertifiedSort ds q) (sym same) h
    variable_certified x i s (TVar y j r) h (inr m) = absurd m
    variable_certified x i s (Con k ts) h m = variables_certified x i s ts h.1 m

    variables_certified : (x i : ℕ) (s : List ℕ) (ts : Typs) → AreCertifiedTyps ds ts → IsIn (TVar x i s) (schematics_of ts) → IsCertifiedSort ds s
    variables_certified x i s none h m = absurd m
    variables_certified x i s (also t ts) h m = ⊎_elim (λ first. variable_certified x i s t h.0 first) (λ rest. variables_certified x i s ts h.1 rest) (in_split (TVar x i s) (schematics t) (schematics_of ts) m)

  narrows_certified : (index : ℕ) (s : List ℕ) {n m : ℕ} {t u : Typ} {more : List TypBind} → Narrows (algebra_of ds) index s n t more m u → IsCertifiedTyp ds t → Each (IsDeclaredClass ds) s → Each IsCertifiedBind more × IsCertifiedTyp ds u
  narrows_certified index s (fits of) h d = (tt, h)
  narrows_certified index s (replace {n = n} {m = m} {t = t} {u = u} {more = more} y j q r first need rest) h d =
      let here : IsIn (TVar y j q) (schematics t) = subst (λ (vs : List Typ). IsIn (TVar y j q) vs) (sym first.stands) (in-append_right (TVar y j q) first.front (TVar y j q ∷ first.back) (inl refl)) in
      let own = variable_certified y j q t h here in
      let sort : IsCertifiedSort ds r = (need.ascend, narrowed_sort (algebra_of ds) (IsDeclaredClass ds) closed index s n m t u (bind y j q (TVar n index r) ∷ more) y j q r (declared_in t h) d own.1 need (replace y j q r first need rest)) in
      let images = setting_certified y j q (TVar n index r) own sort in
      let inside = narrows_certified index s rest (instance_certified (setting y j q (TVar n index r)) images t h) d in
      (((own, sort), inside.0), inside.1)

  shown_certified : {p : TypPair} {x i : ℕ} {s : List ℕ} {t : Typ} → Shows p x i s t → IsCertifiedPair p → IsCertifiedSort ds s × IsCertifiedTyp ds t
  shown_certified (left_side x i s t) h = (h.0, h.1)
  shown_certified (right_side x i s t not) h = (h.1, h.0)

  treated_certified : (index n m : ℕ) (p : TypPair) (more : List TypBind) → IsTreated (algebra_of ds) index n p more m → IsCertifiedPair p → Each IsCertifiedBind more
  treated_certified index n m p more h c =
      let parts = shown_certified h.shown c in
      let inside = narrows_certified index h.sort h.narrows parts.1 parts.0.1 in
      subst (λ (l : List TypBind). Each IsCertifiedBind l) (sym h.are) (each-append IsCertifiedBind h.narrowed (bind h.name h.number h.sort h.image ∷ []) inside.0 ((parts.0, inside.1), tt))

  whole_place : (q : Bool) (t u : Typ) (p : TypPair) → IsCertifiedPair (pair t u) → (if q then None else Some (pair t u)) ≡ Some p → IsCertifiedPair p
  whole_place true t u p h e = absurd (cc)
  whole_place false t u p h e = let same : pair t u ≡ p = cc in subst IsCertifiedPair same h

  sooner_certified : (o r : Option TypPair) (p : TypPair) → (o ≡ Some p → IsCertifiedPair p) → (r ≡ Some p → IsCertifiedPair p) → sooner o r ≡ Some p → IsCertifiedPair p
  sooner_certified None r p f g e = g e
  sooner_certified (Some x) r p f g e = f e

  inside_certified : (q : Bool) (t u : Typ) (ts us : Typs) (p : TypPair) → IsCertifiedPair (pair t u) → (differences ts us ≡ Some p → IsCertifiedPair p) → (if q then differences ts us else Some (pair t u)) ≡ Some p → IsCertifiedPair p
  inside_certified true t u ts us p h f e = f e
  inside_certified false t u ts us p h f e = let same : pair t u ≡ p = cc in subst IsCertifiedPair same h

  mutual
    difference_certified : (t u : Typ) (p : TypPair) → IsCertifiedTyp ds t → IsCertifiedTyp ds u → difference t u ≡ Some p → IsCertifiedPair p
    difference_certified (TFree x s) u p h c e = whole_place (typ_eq (TFree x s) u) (TFree x s) u p (h, c) e
    difference_certified (TVar x i s) u p h c e = whole_place (typ_eq (TVar x i s) u) (TVar x i s) u p (h, c) e
    difference_certified (Con k ts) (TFree y r) p h c e = whole_place (typ_eq (Con k ts) (TFree y r)) (Con k ts) (TFree y r) p (h, c) e
    difference_certified (Con k ts) (TVar y j r) p h c e = whole_place (typ_eq (Con k ts) (TVar y j r)) (Con k ts) (TVar y j r) p (h, c) e
    difference_certified (Con k ts) (Con l us) p h c e = inside_certified (nat_eq k l && nat_eq (typs_count ts) (typs_count us)) (Con k ts) (Con l us) ts us p (h, c) (λ f. differences_certified ts us p h.1 c.1 f) e

    differences_certified : (ts us : Typs) (p : TypPair) → AreCertifiedTyps ds ts → AreCertifiedTyps ds us → differences ts us ≡ Some p → IsCertifiedPair p
    differences_certified none us p h c e = absurd (cc)
    differences_certified (also t ts) none p h c e = absurd (cc)
    differences_certified (also t ts) (also u us) p h c e = sooner_certified (difference t u) (differences ts us) p (λ f. difference_certified t u p h.0 c.0 f) (λ f. differences_certified ts us p h.1 c.1 f) e

  under_certified : (sets : List TypBind) (p : TypPair) → Each IsCertifiedBind sets → IsCertifiedPair p → IsCertifiedPair (instance_pair (composed sets) p)
  under_certified sets p h c =
      let images = composed_certified sets h in
      (instance_certified (composed sets) images p.left c.0, instance_certified (composed sets) images p.right c.1)

  equalises_certified : (index : ℕ) {n m : ℕ} {p : TypPair} {more : List TypBind} → Equalises (algebra_of ds) index n p more m → IsCertifiedPair p → Each IsCertifiedBind more
  equalises_certified index (equal alike) c = tt
  equalises_certified index (treat {n = n} {k = k} {p = p} {first = first} {more = more} place at treated rest) c =
      let there = difference_certified p.left p.right place c.0 c.1 at in
      let set = treated_certified index n k place first treated there in
      each-append IsCertifiedBind first more set (equalises_certified index rest (under_certified first p set c))

  -- The settings that an outcome has are certified.
  abbrev pub IsCertifiedOutcome : Outcome → Type 0
  IsCertifiedOutcome (Unified sets m) = Each IsCertifiedBind sets
  IsCertifiedOutcome (NotTyped k) = Unit {0}
  IsCertifiedOutcome (TooBig k) = Unit {0}

  pub unifies_certified : (index : ℕ) {at n : ℕ} {sets : List TypBind} {ps : List TypPair} {outcome : Outcome} → Unifies (algebra_of ds) index at n sets ps outcome → Each IsCertifiedBind sets → Each IsCertifiedPair ps → IsCertifiedOutcome outcome
  unifies_certified index over h c = h
  unifies_certified index (no_typing b) h c = tt
  unifies_certified index (big e nope) h c = tt
  unifies_certified index (next {sets = sets} {more = more} {p = p} e within rest) h c =
      let set = equalises_certified index e (under_certified sets p h c.0) in
      unifies_certified index rest (each-append IsCertifiedBind sets more h set) c.1
