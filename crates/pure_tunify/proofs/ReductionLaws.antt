-- What the procedure comes to is most general, and what it refuses has no unifier.
use Rattle.std.proofs.Common.{◌≡◌, ◌≢◌, ℕ, ◌+◌, List, [], ◌∷◌, ◌++◌, map, Some, inl, inr, refl, ap, sym, subst, ◌∙◌}
use Rattle.pure_text.specs.Lists.{Each}
use Rattle.pure_text.proofs.ListLaws.{each_of, each_at, any_of}
use Rattle.pure_definitions.specs.Types.Typ.{Typ, TFree, TVar, Con, typs_count}
use Rattle.pure_definitions.specs.Types.Occurs.{OccursInTyp}
use Rattle.pure_definitions.specs.Types.Order.{Algebra, IsClassBelow, itself, HasClassBelow, IsOfClass, IsOfSort}
use Rattle.pure_definitions.specs.Terms.Subst.{TypBind, typ_instance, typs_instance, KeepsFixedTyps}
use Rattle.pure_definitions.proofs.OrderLaws.{sort_below-itself}
use Rattle.pure_term_laws.specs.LawsOccurs.{IsTypVariable}
use Rattle.pure_term_laws.proofs.OccursLaws.{typ_instances-agree}
use Rattle.pure_term_laws.proofs.MapLaws.{typ_instance-again, typs_count-instance}
use Rattle.pure_tunify.specs.declared.pair.TypPair.{TypPair}
use Rattle.pure_tunify.specs.Unifiers.{IsSubstitution, Equates, IsUnifier, IsOld, IsOldPair}
use Rattle.pure_tunify.specs.Asks.{IsMeet}
use Rattle.pure_tunify.specs.Steps.{pair, setting, instance_pair, Asks, narrow, eliminate, occurs, sort, sort_left, IsReduction}
use Rattle.pure_tunify.specs.Settings.{composed, bind}
use Rattle.pure_tunify.specs.Procedure.{place_of, IsSchematic, Shows, left_side, right_side, IsNeededSort, Narrows, fits, replace, IsTreated, IsBlocked, rigid, occurring, sortless, Equalises, equal, treat, Blocks, blocked, later}
use Rattle.pure_tunify.proofs.NodeLaws.{fixed_constructor, same_arguments, same_constructor, variable_constructor, variable_fixed}
use Rattle.pure_tunify.proofs.MapLaws.{after_is_substitution, setting-other, old-instance, together}
use Rattle.pure_tunify.proofs.StepLaws.{nothing_set, step_is_reduction, failed_has_no_unifier}
use Rattle.pure_tunify.proofs.PlaceLaws.{DifferAtRoot, IsPlaceOf, difference_is_place, no_difference}
use Rattle.pure_tunify.proofs.SettingLaws.{instance-append, instance_pairs-append, instance_pairs-identity, as_variable, setting-new}
use Rattle.pure_tunify.proofs.NarrowLaws.{first_occurs, is_fresh_of}
use Rattle.pure_tunify.proofs.PursueLaws.{pairs_after}

-- Maps that agree at variables.
agree_substitution : (A : Algebra) (f g : Typ → Typ) → ((v : Typ) → IsTypVariable v → g v ≡ f v) → IsSubstitution A f → IsSubstitution A g
agree_substitution A f g same sub = record {
  respects = record {
    fixed = λ x s. subst (λ (T : Typ). IsOfSort A T s) (sym (same (TFree x s) tt)) (sub.respects.fixed x s);
    schematic = λ x i s. subst (λ (T : Typ). IsOfSort A T s) (sym (same (TVar x i s) tt)) (sub.respects.schematic x i s);
  };
  keeps = λ x s. same (TFree x s) tt ∙ sub.keeps x s;
}

agree_equates : (f g : Typ → Typ) → ((v : Typ) → IsTypVariable v → g v ≡ f v) → (ps : List TypPair) → Each (Equates f) ps → Each (Equates g) ps
agree_equates f g same [] e = tt
agree_equates f g same (p ∷ ps) e = (
  typ_instances-agree g f p.left (λ v is o. same v is) ∙ (e.0 ∙ sym (typ_instances-agree g f p.right (λ v is o. same v is))),
  agree_equates f g same ps e.1,
)

pub agree_unifier : (A : Algebra) (f g : Typ → Typ) → ((v : Typ) → IsTypVariable v → g v ≡ f v) → (ps : List TypPair) → IsUnifier A ps f → IsUnifier A ps g
agree_unifier A f g same ps u = record { substitution = agree_substitution A f g same u.substitution; equates = agree_equates f g same ps u.equates }

-- One reduction and then another.
pub reduction_along : (A : Algebra) (index n k m : ℕ) (ps qs rs : List TypPair) (f g h : Typ → Typ) → ((v : Typ) → IsTypVariable v → h v ≡ typ_instance g (f v)) → IsReduction A index n ps f k qs → IsReduction A index k qs g m rs → IsReduction A index n ps h m rs
reduction_along A index n k m ps qs rs f g h same r q = record {
  substitution = agree_substitution A (λ v. typ_instance g (f v)) h same (after_is_substitution A f g r.substitution q.substitution);
  left_old = q.left_old;
  images_old = λ x i s new. subst (IsOld index m) (sym (same (TVar x i s) tt)) (old-instance index k m g q.substitution.keeps q.images_old (f (TVar x i s)) (r.images_old x i s new));
  back = λ second u. agree_unifier A (λ v. typ_instance (λ w. typ_instance second (g w)) (f v)) (λ v. typ_instance second (h v))
      (λ v is. ap (typ_instance second) (same v is) ∙ typ_instance-again g second (f v)) ps (r.back (λ w. typ_instance second (g w)) (q.back second u));
  forth = λ typs u. (
      let one = r.forth typs u in
      let two = q.forth one.0 one.1 in (
        two.0,
        two.1,
        λ x i s new. ap (typ_instance two.0) (same (TVar x i s) tt)
            ∙ (together A index k g two.0 one.0 q.substitution two.1.substitution one.1.substitution two.2 (f (TVar x i s)) (r.images_old x i s new) ∙ one.2 x i s new),
      ));
}

-- Nothing is set, and the pairs stay.
pub stays : (A : Algebra) (index n : ℕ) (ps : List TypPair) → Each (IsOldPair index n) ps → IsReduction A index n ps (λ v. v) n ps
stays A index n ps old = nothing_set A index n ps ps old (λ typs e. e) (λ typs e. e)

-- A pair that the others imply is left out.
left_out : (A : Algebra) (index n m : ℕ) (d : TypPair) (ps qs : List TypPair) (f : Typ → Typ) → ((typs : Typ → Typ) → IsUnifier A ps typs → Equates typs d) → IsReduction A index n (d ∷ ps) f m qs → IsReduction A index n ps f m qs
left_out A index n m d ps qs f implied r = record {
  substitution = r.substitution;
  left_old = r.left_old;
  images_old = r.images_old;
  back = λ second u. (let w = r.back second u in record { substitution = w.substitution; equates = w.equates.1 });
  forth = λ typs u. r.forth typs (record { substitution = u.substitution; equates = (implied typs u, u.equates) });
}

variable_itself : (x i y j : ℕ) (s q : List ℕ) (t : Typ) → OccursInTyp (TVar y j q) t → ¬ OccursInTyp (TVar x i s) t → TVar y j q ≢ TVar x i s
variable_itself x i y j s q t there free e = free (subst (λ (v : Typ). OccursInTyp v t) e there)

-- Narrowing the other side, and then the variable.
module _ (A : Algebra) (index x i : ℕ) (s : List ℕ) where
  eliminated : (n : ℕ) (t : Typ) (ps : List TypPair) → IsOfSort A t s → ¬ OccursInTyp (TVar x i s) t → Each (IsOldPair index n) (pair (TVar x i s) t ∷ ps)
      → IsReduction A index n (pair (TVar x i s) t ∷ ps) (composed (bind x i s t ∷ [])) n (map (instance_pair (composed (bind x i s t ∷ []))) ps)
  eliminated n t ps of free old =
      let one = step_is_reduction A index n n (pair (TVar x i s) t ∷ ps) (map (instance_pair (setting x i s t)) ps) (setting x i s t) old (eliminate x i s t free of) in
      let both = reduction_along A index n n n (pair (TVar x i s) t ∷ ps) (map (instance_pair (setting x i s t)) ps) (map (instance_pair (setting x i s t)) ps) (setting x i s t) (λ v. v) (composed (bind x i s t ∷ [])) (λ v is. refl)
      one (stays A index n (map (instance_pair (setting x i s t)) ps) one.left_old) in
      subst (λ (qs : List TypPair). IsReduction A index n (pair (TVar x i s) t ∷ ps) (composed (bind x i s t ∷ [])) n qs)
      (sym (instance_pairs-identity (map (instance_pair (setting x i s t)) ps)) ∙ pairs_after (setting x i s t) (λ v. v) ps) both

  asked_of_first : (t : Typ) (y j : ℕ) (q r : List ℕ) → IsNeededSort A t s (TVar y j q) r → Asks A t s (TVar y j q) r
  asked_of_first t y j q r need typs sub of = each_of (IsOfClass A (typs (TVar y j q))) r (λ c m. (need.needed c).0 (any_of (λ b. IsClassBelow A b c) c r m itself) typs sub of)

  meet_of_first : (t : Typ) (y j : ℕ) (q r : List ℕ) → IsNeededSort A t s (TVar y j q) r → IsMeet A q r r
  meet_of_first t y j q r need = record {
    left_above = each_of (HasClassBelow A r) q (λ c m. (need.needed c).1 (λ typs sub of. each_at (IsOfClass A (typs (TVar y j q))) q (sub.respects.schematic y j q) c m));
    right_above = sort_below-itself A r;
    greatest = λ u h k. k;
  }

  narrowed : {n m : ℕ} {t u : Typ} {more : List TypBind} → Narrows A index s n t more m u → (ps : List TypPair) → ¬ OccursInTyp (TVar x i s) t → Each (IsOldPair index n) (pair (TVar x i s) t ∷ ps)
      → IsReduction A index n (pair (TVar x i s) t ∷ ps) (composed (more ++ bind x i s u ∷ [])) m (map (instance_pair (composed (more ++ bind x i s u ∷ []))) ps)
  narrowed (fits {n = n} {t = t} of) ps free old = eliminated n t ps of free old
  narrowed (replace {n = n} {m = m} {t = t} {u = u} {more = more} y j q r first need rest) ps free old =
      let there = first_occurs A t s (TVar y j q) first in
      let away = variable_itself x i y j s q t there free in
      let set = setting y j q (TVar n index r) in
      let one = step_is_reduction A index n (n + 1) (pair (TVar x i s) t ∷ ps) (map (instance_pair set) (pair (TVar x i s) t ∷ ps)) set old (narrow x i s t y j q r r there (asked_of_first t y j q r need) (meet_of_first t y j q r need)) in
      let front = subst (λ (v : Typ). IsReduction A index n (pair (TVar x i s) t ∷ ps) set (n + 1) (pair v (typ_instance set t) ∷ map (instance_pair set) ps)) (setting-other y j q (TVar n index r) (TVar x i s) away) one in
      let later_free = setting-new (TVar x i s) tt (bind y j q (TVar n index r)) t (λ o. old.0.0 (TVar x i s) refl (is_fresh_of index n (TVar x i s) r (sym o))) free in
      let two = narrowed rest (map (instance_pair set) ps) later_free front.left_old in
      let both = reduction_along A index n (n + 1) m (pair (TVar x i s) t ∷ ps) (pair (TVar x i s) (typ_instance set t) ∷ map (instance_pair set) ps) (map (instance_pair (composed (more ++ bind x i s u ∷ []))) (map (instance_pair set) ps))
      set (composed (more ++ bind x i s u ∷ [])) (composed (bind y j q (TVar n index r) ∷ (more ++ bind x i s u ∷ []))) (λ v is. refl) front two in
      subst (λ (qs : List TypPair). IsReduction A index n (pair (TVar x i s) t ∷ ps) (composed (bind y j q (TVar n index r) ∷ (more ++ bind x i s u ∷ []))) m qs) (pairs_after set (composed (more ++ bind x i s u ∷ [])) ps) both

-- The treatment of a place of the first pair.
module _ (A : Algebra) (index n m : ℕ) (p : TypPair) (ps : List TypPair) (old : Each (IsOldPair index n) (p ∷ ps)) where
  shown : (d : TypPair) (x i : ℕ) (s : List ℕ) (t u : Typ) (more : List TypBind) → Shows d x i s t → IsPlaceOf p.left p.right d → ¬ OccursInTyp (TVar x i s) t → Narrows A index s n t more m u
      → IsReduction A index n (p ∷ ps) (composed (more ++ bind x i s u ∷ [])) m (map (instance_pair (composed (more ++ bind x i s u ∷ []))) (p ∷ ps))
  shown d x i s t u more (left_side y j r w) is free narrows = left_out A index n m (pair (TVar x i s) t) (p ∷ ps) _ (composed (more ++ bind x i s u ∷ []))
      (λ typs v. is.equated typs v.equates.0)
      (narrowed A index x i s narrows (p ∷ ps) free ((λ v o. old.0.0 v (is.left_inside v o), λ v o. old.0.1 v (is.right_inside v o)), old))
  shown d x i s t u more (right_side y j r w nope) is free narrows = left_out A index n m (pair (TVar x i s) t) (p ∷ ps) _ (composed (more ++ bind x i s u ∷ []))
      (λ typs v. sym (is.equated typs v.equates.0))
      (narrowed A index x i s narrows (p ∷ ps) free ((λ v o. old.0.1 v (is.right_inside v o), λ v o. old.0.0 v (is.left_inside v o)), old))

  pub treated : (d : TypPair) (more : List TypBind) → place_of p ≡ Some d → IsTreated A index n d more m → IsReduction A index n (p ∷ ps) (composed more) m (map (instance_pair (composed more)) (p ∷ ps))
  treated d more place h = subst (λ (xs : List TypBind). IsReduction A index n (p ∷ ps) (composed xs) m (map (instance_pair (composed xs)) (p ∷ ps))) (sym h.are)
      (shown d h.name h.number h.sort h.other h.image h.narrowed h.shown (difference_is_place p.left p.right d place) h.free h.narrows)

pub composed-append : (xs ys : List TypBind) (v : Typ) → IsTypVariable v → composed (xs ++ ys) v ≡ typ_instance (composed ys) (composed xs v)
composed-append xs ys v is = sym (as_variable (composed (xs ++ ys)) v is) ∙ (instance-append xs ys v ∙ ap (typ_instance (composed ys)) (as_variable (composed xs) v is))

-- Making a pair equal takes it away.
pub equalised : (A : Algebra) (index : ℕ) {n m : ℕ} {p : TypPair} {more : List TypBind} → Equalises A index n p more m → (ps : List TypPair) → Each (IsOldPair index n) (p ∷ ps)
    → IsReduction A index n (p ∷ ps) (composed more) m (map (instance_pair (composed more)) ps)
equalised A index (equal {n = n} {p = p} nowhere) ps old =
    let same = no_difference p.left p.right nowhere in
    subst (λ (qs : List TypPair). IsReduction A index n (p ∷ ps) (λ v. v) n qs) (sym (instance_pairs-identity ps)) (nothing_set A index n (p ∷ ps) ps old.1 (λ typs e. (ap (typ_instance typs) same, e)) (λ typs e. e.1))
equalised A index (treat {n = n} {k = k} {m = m} {p = p} {first = first} {more = more} place at here rest) ps old =
    let one = treated A index n k p ps old place first at here in
    let two = equalised A index rest (map (instance_pair (composed first)) ps) one.left_old in
    subst (λ (qs : List TypPair). IsReduction A index n (p ∷ ps) (composed (first ++ more)) m qs) (instance_pairs-append first more ps)
    (reduction_along A index n k m (p ∷ ps) (map (instance_pair (composed first)) (p ∷ ps)) (map (instance_pair (composed more)) (map (instance_pair (composed first)) ps)) (composed first) (composed more) (composed (first ++ more)) (composed-append first more) one two)

-- No map makes types equal whose nodes differ, where neither is a schematic variable.
rigid_apart : (t u : Typ) → ¬ IsSchematic t → ¬ IsSchematic u → DifferAtRoot t u → (typs : Typ → Typ) → KeepsFixedTyps typs → typ_instance typs t ≡ typ_instance typs u → ⊥
rigid_apart (TVar x i s) u h k roots typs keeps e = h tt
rigid_apart (TFree x s) (TFree y r) h k roots typs keeps e = roots (sym (keeps x s) ∙ (e ∙ keeps y r))
rigid_apart (TFree x s) (TVar y j r) h k roots typs keeps e = k tt
rigid_apart (TFree x s) (Con l us) h k roots typs keeps e = fixed_constructor x l s (typs_instance typs us) (sym (keeps x s) ∙ e)
rigid_apart (Con m ts) (TFree y r) h k roots typs keeps e = fixed_constructor y m r (typs_instance typs ts) (sym (keeps y r) ∙ sym e)
rigid_apart (Con m ts) (TVar y j r) h k roots typs keeps e = k tt
rigid_apart (Con m ts) (Con l us) h k roots typs keeps e =
    roots (same_constructor m l (typs_instance typs ts) (typs_instance typs us) e)
    (sym (typs_count-instance typs ts) ∙ (ap typs_count (same_arguments m l (typs_instance typs ts) (typs_instance typs us) e) ∙ typs_count-instance typs us))

one_pair : (A : Algebra) (t u : Typ) (typs : Typ → Typ) → IsSubstitution A typs → typ_instance typs t ≡ typ_instance typs u → IsUnifier A (pair t u ∷ []) typs
one_pair A t u typs sub e = record { substitution = sub; equates = (e, tt) }

occurs_on_left : (A : Algebra) (x i : ℕ) (s : List ℕ) (t : Typ) (typs : Typ → Typ) → (TVar x i s ≡ t → ⊥) → OccursInTyp (TVar x i s) t → IsSubstitution A typs → typs (TVar x i s) ≡ typ_instance typs t → ⊥
occurs_on_left A x i s (TFree y r) typs roots o sub e = variable_fixed x i y s r o
occurs_on_left A x i s (TVar y j r) typs roots o sub e = roots o
occurs_on_left A x i s (Con k ts) typs roots (inl o) sub e = variable_constructor x i k s ts o
occurs_on_left A x i s (Con k ts) typs roots (inr o) sub e = failed_has_no_unifier A (pair (TVar x i s) (Con k ts) ∷ []) typs (occurs x i k s ts o) (one_pair A (TVar x i s) (Con k ts) typs sub e)

apart_of_roots : (t : Typ) (x i : ℕ) (s : List ℕ) → DifferAtRoot t (TVar x i s) → t ≡ TVar x i s → ⊥
apart_of_roots (TFree y r) x i s roots = roots
apart_of_roots (TVar y j r) x i s roots = roots
apart_of_roots (Con k ts) x i s roots = roots

-- A place that is blocked has no unifier.
blocked_place : (A : Algebra) (d : TypPair) (typs : Typ → Typ) → IsBlocked A d → DifferAtRoot d.left d.right → IsSubstitution A typs → Equates typs d → ⊥
blocked_place A d typs (rigid h k) roots sub e = rigid_apart d.left d.right h k roots typs sub.keeps e
blocked_place A d typs (occurring x i s t shows o) roots sub e = by d shows roots e
  where
    by : (d : TypPair) → Shows d x i s t → DifferAtRoot d.left d.right → Equates typs d → ⊥
    by d (left_side y j r w) roots e = occurs_on_left A x i s t typs roots o sub e
    by d (right_side y j r w nope) roots e = occurs_on_left A x i s t typs (λ f. apart_of_roots t x i s roots (sym f)) o sub (sym e)
blocked_place A d typs (sortless x i s t shows never) roots sub e = by d shows e
  where
    by : (d : TypPair) → Shows d x i s t → Equates typs d → ⊥
    by d (left_side y j r w) e = failed_has_no_unifier A (pair (TVar x i s) t ∷ []) typs (sort x i s t never) (one_pair A (TVar x i s) t typs sub e)
    by d (right_side y j r w nope) e = failed_has_no_unifier A (pair t (TVar x i s) ∷ []) typs (sort_left x i s t never) (one_pair A t (TVar x i s) typs sub e)

-- A pair that comes to such a place has none.
pub blocks_unifiers : (A : Algebra) (index : ℕ) {n : ℕ} {p : TypPair} → Blocks A index n p → Each (IsOldPair index n) (p ∷ []) → (typs : Typ → Typ) → ¬ IsUnifier A (p ∷ []) typs
blocks_unifiers A index (blocked {p = p} d place h) old typs u =
    let is = difference_is_place p.left p.right d place in
    blocked_place A d typs h is.roots u.substitution (is.equated typs u.equates.0)
blocks_unifiers A index (later {n = n} {k = k} {p = p} {first = first} d place here rest) old typs u =
    let one = treated A index n k p [] old d first place here in
    let next_unifier = one.forth typs u in
    blocks_unifiers A index rest one.left_old next_unifier.0 next_unifier.1
