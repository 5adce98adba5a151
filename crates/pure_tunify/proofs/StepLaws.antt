-- Each step takes unifiers there and back; what the steps solve is most general, and what they refute has no unifier.
use Rattle.std.proofs.Common.{◌≡◌, ◌≢◌, ℕ, ◌+◌, ◌≤◌, List, ◌∷◌, ◌++◌, map, ◌⊎◌, inl, inr, refl, ap, sym, ◌∙◌, arith}
use Rattle.pure_text.specs.Lists.{Each}
use Rattle.pure_text.proofs.ListLaws.{each-append, each-left, each-right}
use Rattle.pure_definitions.specs.Types.Typ.{Typ, TFree, TVar, Con, Typs, none, also, typs_count, typ_size, typs_size}
use Rattle.pure_definitions.specs.Types.Occurs.{OccursInTyp, OccursInTyps}
use Rattle.pure_definitions.specs.Types.Order.{Algebra, IsOfSort}
use Rattle.pure_definitions.specs.Terms.Subst.{typ_instance, typs_instance}
use Rattle.pure_term_laws.specs.LawsOccurs.{IsTypVariable}
use Rattle.pure_term_laws.proofs.OccursLaws.{typ_instances-agree}
use Rattle.pure_term_laws.proofs.MapLaws.{typs_count-instance}
use Rattle.pure_tunify.specs.declared.pair.TypPair.{TypPair}
use Rattle.pure_tunify.specs.Unifiers.{IsSubstitution, Equates, IsUnifier, IsFresh, IsOld, IsOldPair, AreTogether, IsMostGeneral}
use Rattle.pure_tunify.specs.Asks.{IsMeet}
use Rattle.pure_tunify.specs.Steps.{pair, pairs_of, setting, instance_pair, Asks, Steps, drop, decompose, orient, narrow, eliminate, Fails, clash, fixed, fixed_left, fixed_right, occurs, occurs_left, sort, sort_left, Solves, solved, step, Refutes, failed, step_on, IsReduction}
use Rattle.pure_tunify.proofs.NodeLaws.{fixed_constructor, same_arguments, same_constructor}
use Rattle.pure_tunify.proofs.MapLaws.{identity_is_substitution, after_is_substitution, setting-cases, setting-itself, setting-other, setting_is_substitution, changed, changed-cases, changed-itself, changed_is_substitution, fresh-later, variable_is_old, old-instances, together, equates-forth, equates-back, equates-nothing_first}

-- A step that sets nothing, whose pairs have the same unifiers.
pub nothing_set : (A : Algebra) (index n : ℕ) (ps qs : List TypPair) → Each (IsOldPair index n) qs
    → ((typs : Typ → Typ) → Each (Equates typs) qs → Each (Equates typs) ps) → ((typs : Typ → Typ) → Each (Equates typs) ps → Each (Equates typs) qs) → IsReduction A index n ps (λ v. v) n qs
nothing_set A index n ps qs old back forth = record {
  substitution = identity_is_substitution A;
  left_old = old;
  images_old = λ x i s h. variable_is_old index n x i s h;
  back = λ second u. record {
    substitution = after_is_substitution A (λ v. v) second (identity_is_substitution A) u.substitution;
    equates = equates-nothing_first second ps (back second u.equates);
  };
  forth = λ typs u. (typs, record { substitution = u.substitution; equates = forth typs u.equates }, λ x i s h. refl);
}

old_arguments : (index n : ℕ) (ts us : Typs) → ((v : Typ) → OccursInTyps v ts → ¬ IsFresh index n v) → ((v : Typ) → OccursInTyps v us → ¬ IsFresh index n v) → Each (IsOldPair index n) (pairs_of ts us)
old_arguments index n none us h k = tt
old_arguments index n (also t ts) none h k = tt
old_arguments index n (also t ts) (also u us) h k = ((λ v o. h v (inl o), λ v o. k v (inl o)), old_arguments index n ts us (λ v o. h v (inr o)) (λ v o. k v (inr o)))

equates_arguments : (typs : Typ → Typ) (ts us : Typs) → typs_instance typs ts ≡ typs_instance typs us → Each (Equates typs) (pairs_of ts us)
equates_arguments typs none us e = tt
equates_arguments typs (also t ts) none e = tt
equates_arguments typs (also t ts) (also u us) e =
    let first : typ_instance typs t ≡ typ_instance typs u = cc in
    let rest : typs_instance typs ts ≡ typs_instance typs us = cc in
    (first, equates_arguments typs ts us rest)

arguments_equated : (typs : Typ → Typ) (ts us : Typs) → typs_count ts ≡ typs_count us → Each (Equates typs) (pairs_of ts us) → typs_instance typs ts ≡ typs_instance typs us
arguments_equated typs none none same e = refl
arguments_equated typs none (also u us) same e = absurd (omega arith)
arguments_equated typs (also t ts) none same e = absurd (omega arith)
arguments_equated typs (also t ts) (also u us) same e = let rest = arguments_equated typs ts us (omega arith) e.1 in λ l. also (e.0 l) (rest l)

is_fresh_of : (index n : ℕ) (v : Typ) (u : List ℕ) → TVar n index u ≡ v → IsFresh index n v
is_fresh_of index n v u e = rw (sym e) (refl, omega arith)

module _ (A : Algebra) (index n : ℕ) (ps : List TypPair) where
  decompose_is_reduction : (k : ℕ) (ts us : Typs) → typs_count ts ≡ typs_count us → Each (IsOldPair index n) (pair (Con k ts) (Con k us) ∷ ps)
      → IsReduction A index n (pair (Con k ts) (Con k us) ∷ ps) (λ v. v) n (pairs_of ts us ++ ps)
  decompose_is_reduction k ts us same old = nothing_set A index n (pair (Con k ts) (Con k us) ∷ ps) (pairs_of ts us ++ ps)
      (each-append (IsOldPair index n) (pairs_of ts us) ps (old_arguments index n ts us (λ v o. old.0.0 v (inr o)) (λ v o. old.0.1 v (inr o))) old.1)
      (λ typs e. (ap (Con k) (arguments_equated typs ts us same (each-left (Equates typs) (pairs_of ts us) ps e)), each-right (Equates typs) (pairs_of ts us) ps e))
      (λ typs e. each-append (Equates typs) (pairs_of ts us) ps (equates_arguments typs ts us (inner typs e.0)) e.1)
    where
      inner : (typs : Typ → Typ) → Con k (typs_instance typs ts) ≡ Con k (typs_instance typs us) → typs_instance typs ts ≡ typs_instance typs us
      inner typs e = cc

  eliminate_is_reduction : (x i : ℕ) (s : List ℕ) (t : Typ) → ¬ OccursInTyp (TVar x i s) t → IsOfSort A t s → Each (IsOldPair index n) (pair (TVar x i s) t ∷ ps)
      → IsReduction A index n (pair (TVar x i s) t ∷ ps) (setting x i s t) n (map (instance_pair (setting x i s t)) ps)
  eliminate_is_reduction x i s t free of old = record {
    substitution = sub;
    left_old = old-instances index n n first sub.keeps images ps old.1;
    images_old = images;
    back = λ second u. record {
      substitution = after_is_substitution A first second sub u.substitution;
      equates = (both second, equates-back first second ps u.equates);
    };
    forth = λ typs u. (
      typs,
      record { substitution = u.substitution; equates = equates-forth A index n first typs typs sub u.substitution u.substitution (same typs u.equates.0) ps old.1 u.equates.1 },
      same typs u.equates.0,
    );
  }
    where
      first : Typ → Typ
      first = setting x i s t

      sub : IsSubstitution A (setting x i s t)
      sub = setting_is_substitution A x i s t of

      images : (y j : ℕ) (q : List ℕ) → ¬ IsFresh index n (TVar y j q) → IsOld index n (setting x i s t (TVar y j q))
      images y j q h = setting-cases (IsOld index n) x i s t (TVar y j q) (λ e. old.0.1) (variable_is_old index n y j q h)

      same : (typs : Typ → Typ) → typs (TVar x i s) ≡ typ_instance typs t → AreTogether index n (setting x i s t) typs typs
      same typs e y j q h = setting-cases (λ T. typ_instance typs T ≡ typs (TVar y j q)) x i s t (TVar y j q) (λ v. sym e ∙ ap typs v) refl

      untouched : (second : Typ → Typ) (v : Typ) → IsTypVariable v → TVar x i s ≢ v → typ_instance second (setting x i s t v) ≡ second v
      untouched second (TFree y q) is other = refl
      untouched second (TVar y j q) is other = ap (typ_instance second) (setting-other x i s t (TVar y j q) other)
      untouched second (Con k ts) is other = absurd is

      both : (second : Typ → Typ) → typ_instance second (setting x i s t (TVar x i s)) ≡ typ_instance (λ v. typ_instance second (setting x i s t v)) t
      both second = ap (typ_instance second) (setting-itself x i s t)
          ∙ sym (typ_instances-agree (λ v. typ_instance second (setting x i s t v)) second t (λ v is o. untouched second v is (λ e. free (rw e o))))

  narrow_is_reduction : (x i : ℕ) (s : List ℕ) (t : Typ) (y j : ℕ) (q r u : List ℕ) → OccursInTyp (TVar y j q) t → Asks A t s (TVar y j q) r → IsMeet A q r u → Each (IsOldPair index n) (pair (TVar x i s) t ∷ ps)
      → IsReduction A index n (pair (TVar x i s) t ∷ ps) (setting y j q (TVar n index u)) (n + 1) (map (instance_pair (setting y j q (TVar n index u))) (pair (TVar x i s) t ∷ ps))
  narrow_is_reduction x i s t y j q r u there asks meet old = record {
    substitution = sub;
    left_old = old-instances index n (n + 1) first sub.keeps images (pair (TVar x i s) t ∷ ps) old;
    images_old = images;
    back = λ second v. record {
      substitution = after_is_substitution A first second sub v.substitution;
      equates = equates-back first second (pair (TVar x i s) t ∷ ps) v.equates;
    };
    forth = λ typs v. (let next = next_substitution typs v.substitution v.equates.0 in (
      further typs,
      record { substitution = next; equates = equates-forth A index n first (further typs) typs sub next v.substitution (same typs) (pair (TVar x i s) t ∷ ps) old v.equates },
      same typs,
    ));
  }
    where
      fresh : Typ
      fresh = TVar n index u

      first : Typ → Typ
      first = setting y j q (TVar n index u)

      sub : IsSubstitution A (setting y j q (TVar n index u))
      sub = setting_is_substitution A y j q (TVar n index u) meet.left_above

      not_fresh_later : ¬ IsFresh index (n + 1) (TVar n index u)
      not_fresh_later f = let h = f.1 in absurd (omega arith)

      images : (z k : ℕ) (p : List ℕ) → ¬ IsFresh index n (TVar z k p) → IsOld index (n + 1) (setting y j q (TVar n index u) (TVar z k p))
      images z k p h = setting-cases (IsOld index (n + 1)) y j q (TVar n index u) (TVar z k p)
          (λ e. variable_is_old index (n + 1) n index u not_fresh_later)
          (variable_is_old index (n + 1) z k p (fresh-later index n (n + 1) (TVar z k p) (omega arith) h))

      further : (Typ → Typ) → Typ → Typ
      further typs = changed (TVar n index u) (typs (TVar y j q)) typs

      next_substitution : (typs : Typ → Typ) → IsSubstitution A typs → typs (TVar x i s) ≡ typ_instance typs t → IsSubstitution A (changed (TVar n index u) (typs (TVar y j q)) typs)
      next_substitution typs v e =
          let of_sort : IsOfSort A (typ_instance typs t) s = rw (sym e) (v.respects.schematic x i s) in
          changed_is_substitution A n index u (typs (TVar y j q)) typs (meet.greatest (typs (TVar y j q)) (v.respects.schematic y j q) (asks typs v of_sort)) v

      same : (typs : Typ → Typ) → AreTogether index n (setting y j q (TVar n index u)) (changed (TVar n index u) (typs (TVar y j q)) typs) typs
      same typs z k p h = setting-cases (λ T. typ_instance (changed (TVar n index u) (typs (TVar y j q)) typs) T ≡ typs (TVar z k p)) y j q (TVar n index u) (TVar z k p)
          (λ e. changed-itself (TVar n index u) (typs (TVar y j q)) typs ∙ ap typs e)
          (changed-cases (λ T. T ≡ typs (TVar z k p)) (TVar n index u) (typs (TVar y j q)) typs (TVar z k p) (λ e. absurd (h (is_fresh_of index n (TVar z k p) u e))) refl)

pub step_is_reduction : (A : Algebra) (index n m : ℕ) (ps qs : List TypPair) (first : Typ → Typ) → Each (IsOldPair index n) ps → Steps A index n ps first m qs → IsReduction A index n ps first m qs
step_is_reduction A index n m ps qs first old (drop {ps = rest} t) = nothing_set A index n (pair t t ∷ rest) rest old.1 (λ typs e. (refl, e)) (λ typs e. e.1)
step_is_reduction A index n m ps qs first old (decompose {ps = rest} k ts us same) = decompose_is_reduction A index n rest k ts us same old
step_is_reduction A index n m ps qs first old (orient {ps = rest} t u) = nothing_set A index n (pair t u ∷ rest) (pair u t ∷ rest) ((old.0.1, old.0.0), old.1) (λ typs e. (sym e.0, e.1)) (λ typs e. (sym e.0, e.1))
step_is_reduction A index n m ps qs first old (narrow {ps = rest} x i s t y j q r u there asks meet) = narrow_is_reduction A index n rest x i s t y j q r u there asks meet old
step_is_reduction A index n m ps qs first old (eliminate {ps = rest} x i s t free of) = eliminate_is_reduction A index n rest x i s t free of old

pub most_general_along : (A : Algebra) (index n m : ℕ) (ps qs : List TypPair) (first second : Typ → Typ) → IsReduction A index n ps first m qs → IsMostGeneral A index m qs second
    → IsMostGeneral A index n ps (λ v. typ_instance second (first v))
most_general_along A index n m ps qs first second r g = record {
  unifier = r.back second g.unifier;
  general = λ other u. (
      let next = r.forth other u in
      let last = g.general next.0 next.1 in
      (last.0, last.1, λ x i s h. together A index m second last.0 next.0 g.unifier.substitution last.1 next.1.substitution last.2 (first (TVar x i s)) (r.images_old x i s h) ∙ next.2 x i s h));
}

pub solved_is_most_general : (A : Algebra) (index n : ℕ) (ps : List TypPair) (typs : Typ → Typ) → Each (IsOldPair index n) ps → Solves A index n ps typs → IsMostGeneral A index n ps typs
solved_is_most_general A index n ps typs old solved = record {
  unifier = record { substitution = identity_is_substitution A; equates = tt };
  general = λ other u. (other, u.substitution, λ x i s h. refl);
}
solved_is_most_general A index n ps typs old (step {m = m} {qs = qs} {first = first} {second = second} one rest) =
    let r = step_is_reduction A index n m ps qs first old one in
    most_general_along A index n m ps qs first second r (solved_is_most_general A index m qs second r.left_old rest)

mutual
  occurrence_in : (typs : Typ → Typ) (x i : ℕ) (s : List ℕ) (t : Typ) → OccursInTyp (TVar x i s) t → typ_size (typs (TVar x i s)) ≤ typ_size (typ_instance typs t)
  occurrence_in typs x i s (TFree y q) o = absurd (not_free o)
    where
      not_free : TVar x i s ≡ TFree y q → ⊥
      not_free e = cc
  occurrence_in typs x i s (TVar y j q) o = rw o (omega arith)
  occurrence_in typs x i s (Con k ts) (inl e) = absurd (not_con e)
    where
      not_con : TVar x i s ≡ Con k ts → ⊥
      not_con e = cc
  occurrence_in typs x i s (Con k ts) (inr o) = let inside = occurrence_among typs x i s ts o in omega arith

  occurrence_among : (typs : Typ → Typ) (x i : ℕ) (s : List ℕ) (ts : Typs) → OccursInTyps (TVar x i s) ts → typ_size (typs (TVar x i s)) ≤ typs_size (typs_instance typs ts)
  occurrence_among typs x i s none o = absurd o
  occurrence_among typs x i s (also t ts) (inl o) = let inside = occurrence_in typs x i s t o in omega arith
  occurrence_among typs x i s (also t ts) (inr o) = let inside = occurrence_among typs x i s ts o in omega arith

-- No map makes a variable equal to a constructor's type in which it occurs.
never_below : (typs : Typ → Typ) (x i k : ℕ) (s : List ℕ) (ts : Typs) → OccursInTyps (TVar x i s) ts → typs (TVar x i s) ≡ Con k (typs_instance typs ts) → ⊥
never_below typs x i k s ts o e =
    let inside = occurrence_among typs x i s ts o in
    let size = ap typ_size e in
    absurd (omega arith)

never_clash : (typs : Typ → Typ) (k l : ℕ) (ts us : Typs) → (k ≢ l) ⊎ (typs_count ts ≢ typs_count us) → Con k (typs_instance typs ts) ≡ Con l (typs_instance typs us) → ⊥
never_clash typs k l ts us (inl other) e = other (same_constructor k l (typs_instance typs ts) (typs_instance typs us) e)
never_clash typs k l ts us (inr other) e =
    other (sym (typs_count-instance typs ts) ∙ (ap typs_count (same_arguments k l (typs_instance typs ts) (typs_instance typs us) e) ∙ typs_count-instance typs us))

pub failed_has_no_unifier : (A : Algebra) (ps : List TypPair) (typs : Typ → Typ) → Fails A ps → ¬ IsUnifier A ps typs
failed_has_no_unifier A ps typs (clash k l ts us other) u = never_clash typs k l ts us other u.equates.0
failed_has_no_unifier A ps typs (fixed x y s r other) u = other (sym (u.substitution.keeps x s) ∙ (u.equates.0 ∙ u.substitution.keeps y r))
failed_has_no_unifier A ps typs (fixed_left x l s us) u = fixed_constructor x l s (typs_instance typs us) (sym (u.substitution.keeps x s) ∙ u.equates.0)
failed_has_no_unifier A ps typs (fixed_right x k s ts) u = fixed_constructor x k s (typs_instance typs ts) (sym (u.substitution.keeps x s) ∙ sym u.equates.0)
failed_has_no_unifier A ps typs (occurs x i k s ts o) u = never_below typs x i k s ts o u.equates.0
failed_has_no_unifier A ps typs (occurs_left x i k s ts o) u = never_below typs x i k s ts o (sym u.equates.0)
failed_has_no_unifier A ps typs (sort x i s t no_instance) u = no_instance typs u.substitution (rw (sym u.equates.0) (u.substitution.respects.schematic x i s))
failed_has_no_unifier A ps typs (sort_left x i s t no_instance) u = no_instance typs u.substitution (rw u.equates.0 (u.substitution.respects.schematic x i s))

pub refuted_has_no_unifier : (A : Algebra) (index n : ℕ) (ps : List TypPair) (typs : Typ → Typ) → Each (IsOldPair index n) ps → Refutes A index n ps → ¬ IsUnifier A ps typs
refuted_has_no_unifier A index n ps typs old (failed fails) u = failed_has_no_unifier A ps typs fails u
refuted_has_no_unifier A index n ps typs old (step_on {m = m} {qs = qs} {first = first} one rest) u =
    let r = step_is_reduction A index n m ps qs first old one in
    let next = r.forth typs u in
    refuted_has_no_unifier A index m qs next.0 r.left_old rest next.1
