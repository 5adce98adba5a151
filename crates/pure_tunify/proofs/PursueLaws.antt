-- What is left of a pair that is being made equal.
use Rattle.std.proofs.Common.{◌≡◌, ◌≢◌, ℕ, List, [], ◌∷◌, ◌++◌, map, length, Option, Some, None, inl, inr, ◌⊎◌, refl, ap, sym, subst, ◌∙◌, arith, Bool, true, false, append_assoc}
use Rattle.std.specs.Prelude.{MatchBool, reverse}
use Rattle.std.proofs.lemmas.List.{append-nil}
use Rattle.pure_text.specs.Lists.{IsIn, Each}
use Rattle.pure_text.proofs.ListLaws.{each_imply, each-append}
use Rattle.pure_definitions.specs.Types.Typ.{Typ, TFree, TVar, Con, Typs, typs_of, typs_count}
use Rattle.pure_definitions.specs.Types.Occurs.{OccursInTyp, OccursInTyps}
use Rattle.pure_definitions.specs.Types.Order.{Algebra}
use Rattle.pure_definitions.specs.Terms.Subst.{TypBind, typ_variable, typ_instance, typs_instance}
use Rattle.pure_term_laws.specs.LawsOccurs.{IsTypVariable}
use Rattle.pure_term_laws.proofs.SubstLaws.{typ_instance-identity}
use Rattle.pure_term_laws.proofs.MapLaws.{typ_instance-again, typs_count-instance}
use Rattle.pure_tunify.specs.declared.pair.TypPair.{TypPair}
use Rattle.pure_tunify.specs.Unifiers.{IsFresh, IsOld, IsOldPair}
use Rattle.pure_tunify.specs.Asks.{HasNoInstance}
use Rattle.pure_tunify.specs.Steps.{pair, instance_pair}
use Rattle.pure_tunify.specs.Settings.{composed, bind, Progress}
use Rattle.pure_tunify.specs.Procedure.{sooner, difference, differences, place_of, IsSchematic, left_side, right_side, IsTreated, IsBlocked, rigid, occurring, sortless, Equalises, equal, treat, Blocks, blocked, later}
use Rattle.pure_tunify.specs.Working.{IsFurther, IsSetTo, CannotBeSetTo, place_among, pairs_along, IsLeftOf, Pursues}
use Rattle.pure_tunify.specs.Meeting.{HaveArguments, HaveNoArguments, AreApart, GoesOn, Stops, IsTurn, HasLargeHead, IsTurned, IsTreating, IsPutBack}
use Rattle.pure_tunify.specs.declared.meeting.Turned.{Turned}
use Rattle.pure_tunify.specs.declared.meeting.Turned.TheVariants.{Further, Never, Large}
use Rattle.pure_tunify.proofs.NodeLaws.{variable_constructor, variable_fixed}
use Rattle.pure_tunify.proofs.SchematicLaws.{schematic_variable}
use Rattle.pure_tunify.proofs.PlaceLaws.{difference-itself, difference-arguments, difference-constructors, difference-left_variable, difference-left_fixed}
use Rattle.pure_tunify.proofs.SettingLaws.{instance-append, instance_pair-append, instance_pairs-identity, composed-fixed, composed-absent, old_pair-later}

sooner-none : (o : Option TypPair) → sooner o None ≡ o
sooner-none None = refl
sooner-none (Some p) = refl

sooner-assoc : (a b c : Option TypPair) → sooner (sooner a b) c ≡ sooner a (sooner b c)
sooner-assoc None b c = refl
sooner-assoc (Some p) b c = refl

place_among-append : (ps qs : List TypPair) → place_among (ps ++ qs) ≡ sooner (place_among ps) (place_among qs)
place_among-append [] qs = refl
place_among-append (p ∷ ps) qs = ap (sooner (place_of p)) (place_among-append ps qs) ∙ sym (sooner-assoc (place_of p) (place_among ps) (place_among qs))

-- The pairs of arguments, under a map, have the place of the arguments.
place_of_arguments : (f : Typ → Typ) (ts us : List Typ) → differences (typs_instance f (typs_of ts)) (typs_instance f (typs_of us)) ≡ place_among (map (instance_pair f) (pairs_along ts us))
place_of_arguments f [] us = refl
place_of_arguments f (t ∷ ts) [] = refl
place_of_arguments f (t ∷ ts) (u ∷ us) = ap (sooner (difference (typ_instance f t) (typ_instance f u))) (place_of_arguments f ts us)

count-instance : (f : Typ → Typ) (ts us : List Typ) → length ts ≡ length us → typs_count (typs_instance f (typs_of ts)) ≡ typs_count (typs_instance f (typs_of us))
count-instance f [] [] same = refl
count-instance f [] (u ∷ us) same = absurd (omega arith)
count-instance f (t ∷ ts) [] same = absurd (omega arith)
count-instance f (t ∷ ts) (u ∷ us) same = let rest = count-instance f ts us (omega arith) in omega arith

pub pairs_after : (f g : Typ → Typ) (ps : List TypPair) → map (instance_pair g) (map (instance_pair f) ps) ≡ map (instance_pair (λ v. typ_instance g (f v))) ps
pairs_after f g [] = refl
pairs_after f g (p ∷ ps) = λ l. pair (typ_instance-again f g p.left l) (typ_instance-again f g p.right l) ∷ pairs_after f g ps l

map-append_pairs : (f : TypPair → TypPair) (ps qs : List TypPair) → map f (ps ++ qs) ≡ map f ps ++ map f qs
map-append_pairs f [] qs = refl
map-append_pairs f (p ∷ ps) qs = ap (λ xs. f p ∷ xs) (map-append_pairs f ps qs)

-- At first the pair itself is left of it.
pub left_at_first : (sets : List TypBind) (p : TypPair) → IsLeftOf sets p (p ∷ [])
left_at_first sets p typs = sym (sooner-none (place_of (instance_pair typs (instance_pair (composed sets) p))))

-- The first pair may be exchanged for one with the same sides under the settings.
left_exchanged : (sets : List TypBind) (p q r : TypPair) (work : List TypPair) → instance_pair (composed sets) q ≡ instance_pair (composed sets) r → IsLeftOf sets p (r ∷ work) → IsLeftOf sets p (q ∷ work)
left_exchanged sets p q r work same h typs = h typs ∙ ap (λ x. sooner (place_of (instance_pair typs x)) (place_among (map (instance_pair typs) (map (instance_pair (composed sets)) work)))) (sym same)

-- Equal sides are dropped.
left_dropped : (sets : List TypBind) (p : TypPair) (t : Typ) (work : List TypPair) → IsLeftOf sets p (pair t t ∷ work) → IsLeftOf sets p work
left_dropped sets p t work h typs = h typs ∙ ap (λ o. sooner o (place_among (map (instance_pair typs) (map (instance_pair (composed sets)) work)))) (difference-itself (typ_instance typs (typ_instance (composed sets) t)))

-- A constructor's arguments are left.
left_arguments : (sets : List TypBind) (p : TypPair) (k : ℕ) (ts us : List Typ) (work : List TypPair) → length ts ≡ length us → IsLeftOf sets p (pair (Con k (typs_of ts)) (Con k (typs_of us)) ∷ work) → IsLeftOf sets p (pairs_along ts us ++ work)
left_arguments sets p k ts us work many h typs =
    h typs
    ∙ (ap (λ o. sooner o (place_among (map (instance_pair typs) (map (instance_pair (composed sets)) work)))) first
    ∙ (sym (place_among-append (map (instance_pair typs) (map (instance_pair (composed sets)) (pairs_along ts us))) (map (instance_pair typs) (map (instance_pair (composed sets)) work)))
    ∙ ap place_among (sym (ap (map (instance_pair typs)) (map-append_pairs (instance_pair (composed sets)) (pairs_along ts us) work)
    ∙ map-append_pairs (instance_pair typs) (map (instance_pair (composed sets)) (pairs_along ts us)) (map (instance_pair (composed sets)) work)))))
  where
    both : Typ → Typ
    both v = typ_instance typs (composed sets v)

    together : (t : Typ) → typ_instance typs (typ_instance (composed sets) t) ≡ typ_instance (λ v. typ_instance typs (composed sets v)) t
    together t = typ_instance-again (composed sets) typs t

    first : difference (typ_instance typs (typ_instance (composed sets) (Con k (typs_of ts)))) (typ_instance typs (typ_instance (composed sets) (Con k (typs_of us)))) ≡ place_among (map (instance_pair typs) (map (instance_pair (composed sets)) (pairs_along ts us)))
    first =
        ap (λ t. difference t (typ_instance typs (typ_instance (composed sets) (Con k (typs_of us))))) (together (Con k (typs_of ts)))
        ∙ (ap (difference (typ_instance (λ v. typ_instance typs (composed sets v)) (Con k (typs_of ts)))) (together (Con k (typs_of us)))
        ∙ (difference-arguments k k (typs_instance (λ v. typ_instance typs (composed sets v)) (typs_of ts)) (typs_instance (λ v. typ_instance typs (composed sets v)) (typs_of us)) refl (count-instance (λ v. typ_instance typs (composed sets v)) ts us many)
        ∙ (place_of_arguments (λ v. typ_instance typs (composed sets v)) ts us
        ∙ ap place_among (sym (pairs_after (composed sets) typs (pairs_along ts us))))))

-- The place of the pair now is the first among what is left of it.
pub place_now : (sets : List TypBind) (p : TypPair) (work : List TypPair) → IsLeftOf sets p work → place_of (instance_pair (composed sets) p) ≡ place_among (map (instance_pair (composed sets)) work)
place_now sets p work h =
    ap place_of (λ l. pair (sym (typ_instance-identity (typ_instance (composed sets) p.left)) l) (sym (typ_instance-identity (typ_instance (composed sets) p.right)) l))
    ∙ (h (λ v. v) ∙ ap place_among (instance_pairs-identity (map (instance_pair (composed sets)) work)))

-- Further settings behind the ones now.
behind : (sets more : List TypBind) (typs : Typ → Typ) (t : Typ) → typ_instance (λ v. typ_instance typs (composed more v)) (typ_instance (composed sets) t) ≡ typ_instance typs (typ_instance (composed (sets ++ more)) t)
behind sets more typs t = sym (typ_instance-again (composed more) typs (typ_instance (composed sets) t)) ∙ ap (typ_instance typs) (sym (instance-append sets more t))

pairs_behind : (sets more : List TypBind) (typs : Typ → Typ) (ps : List TypPair) → map (instance_pair (λ v. typ_instance typs (composed more v))) (map (instance_pair (composed sets)) ps) ≡ map (instance_pair typs) (map (instance_pair (composed (sets ++ more))) ps)
pairs_behind sets more typs [] = refl
pairs_behind sets more typs (p ∷ ps) = λ l. pair (behind sets more typs p.left l) (behind sets more typs p.right l) ∷ pairs_behind sets more typs ps l

-- Where further settings make the sides of the first pair equal, it is dropped.
left_set : (sets more : List TypBind) (p q : TypPair) (work : List TypPair) → typ_instance (composed more) (typ_instance (composed sets) q.left) ≡ typ_instance (composed more) (typ_instance (composed sets) q.right)
    → IsLeftOf sets p (q ∷ work) → IsLeftOf (sets ++ more) p work
left_set sets more p q work same h typs =
    sym (ap place_of (λ l. pair (behind sets more typs p.left l) (behind sets more typs p.right l)))
    ∙ (h (λ v. typ_instance typs (composed more v))
    ∙ (ap (λ o. sooner o (place_among (map (instance_pair (λ v. typ_instance typs (composed more v))) (map (instance_pair (composed sets)) work)))) none
    ∙ ap place_among (pairs_behind sets more typs work)))
  where
    sides : typ_instance (λ v. typ_instance typs (composed more v)) (typ_instance (composed sets) q.left) ≡ typ_instance (λ v. typ_instance typs (composed more v)) (typ_instance (composed sets) q.right)
    sides = sym (typ_instance-again (composed more) typs (typ_instance (composed sets) q.left)) ∙ (ap (typ_instance typs) same ∙ typ_instance-again (composed more) typs (typ_instance (composed sets) q.right))

    none : place_of (instance_pair (λ v. typ_instance typs (composed more v)) (instance_pair (composed sets) q)) ≡ None
    none = ap (difference (typ_instance (λ v. typ_instance typs (composed more v)) (typ_instance (composed sets) q.left))) (sym sides) ∙ difference-itself (typ_instance (λ v. typ_instance typs (composed more v)) (typ_instance (composed sets) q.left))

-- Nothing has been made of the pair yet.
pub pursuit_starts : (A : Algebra) (p : TypPair) (now : Progress) → Pursues A p now now (p ∷ [])
pursuit_starts A p now = record {
  more = [];
  further = record { sets = sym (append-nil now.sets); index = refl; later = omega arith };
  onward = λ m rest e. e;
  none = λ b. b;
  left = left_at_first now.sets p;
}

-- The pursuit goes on with other pairs, under the same settings.
pursue_on : (A : Algebra) (p : TypPair) (first now : Progress) (work rest : List TypPair) → (IsLeftOf now.sets p work → IsLeftOf now.sets p rest) → Pursues A p first now work → Pursues A p first now rest
pursue_on A p first now work rest goes h = record { more = h.more; further = h.further; onward = h.onward; none = h.none; left = goes h.left }

-- Where nothing is left, the pair has been made equal.
pub pursuit_ends : (A : Algebra) (p : TypPair) (first now : Progress) → (h : Pursues A p first now []) → Equalises A first.index first.next (instance_pair (composed first.sets) p) h.more now.next
pursuit_ends A p first now h = subst (λ (xs : List TypBind). Equalises A first.index first.next (instance_pair (composed first.sets) p) xs now.next) (append-nil h.more) (h.onward now.next [] (equal (place_now now.sets p [] h.left)))

-- The pursuit comes to a place without a unifier.
stopped_at : (A : Algebra) (now : Progress) (q d : TypPair) (work : List TypPair) → place_of (instance_pair (composed now.sets) q) ≡ Some d → IsBlocked A d → Stops A now (q ∷ work)
stopped_at A now q d work place nope p first h = h.none (blocked d (place_now now.sets p (q ∷ work) h.left ∙ ap (λ o. sooner o (place_among (map (instance_pair (composed now.sets)) work))) place) nope)

-- The pursuit treats a place.
module _ (A : Algebra) (now new : Progress) (q d : TypPair) (work : List TypPair) (more : List TypBind) (further : IsFurther now new more) (place : place_of (instance_pair (composed now.sets) q) ≡ Some d)
    (treated : IsTreated A now.index now.next d more new.next) (same : typ_instance (composed more) (typ_instance (composed now.sets) q.left) ≡ typ_instance (composed more) (typ_instance (composed now.sets) q.right)) where
  place_first : (p : TypPair) (first : Progress) → Pursues A p first now (q ∷ work) → place_of (instance_pair (composed now.sets) p) ≡ Some d
  place_first p first h = place_now now.sets p (q ∷ work) h.left ∙ ap (λ o. sooner o (place_among (map (instance_pair (composed now.sets)) work))) place

  pair_then : (p : TypPair) → instance_pair (composed new.sets) p ≡ instance_pair (composed more) (instance_pair (composed now.sets) p)
  pair_then p = ap (λ xs. instance_pair (composed xs) p) further.sets ∙ sym (instance_pair-append now.sets more p)

  treated_here : (p : TypPair) (first : Progress) → Pursues A p first now (q ∷ work) → IsTreated A first.index now.next d more new.next
  treated_here p first h = subst (λ (i : ℕ). IsTreated A i now.next d more new.next) h.further.index treated

  pub pursue_treated : (p : TypPair) (first : Progress) → Pursues A p first now (q ∷ work) → Pursues A p first new work
  pursue_treated p first h = record {
    more = h.more ++ more;
    further = record {
      sets = further.sets ∙ (ap (λ xs. xs ++ more) h.further.sets ∙ append_assoc first.sets h.more more);
      index = further.index ∙ h.further.index;
      later = (let a = h.further.later in let b = further.later in omega arith);
    };
    onward = λ m rest e. subst (λ (xs : List TypBind). Equalises A first.index first.next (instance_pair (composed first.sets) p) xs m) (sym (append_assoc h.more more rest))
        (h.onward m (more ++ rest) (treat d (place_first p first h) (treated_here p first h) (subst (λ (x : TypPair). Equalises A first.index new.next x rest m) (pair_then p) e)));
    none = λ b. h.none (later d (place_first p first h) (treated_here p first h) (subst (λ (x : TypPair). Blocks A first.index new.next x) (pair_then p) b));
    left = subst (λ (xs : List TypBind). IsLeftOf xs p work) (sym further.sets) (left_set now.sets more p q work same h.left);
  }

-- A type that isn't a schematic variable has an instance that isn't.
not_schematic-instance : (sets : List TypBind) (t : Typ) → ¬ IsSchematic t → ¬ IsSchematic (typ_instance (composed sets) t)
not_schematic-instance sets (TFree x s) h k = subst IsSchematic (composed-fixed sets x s) k
not_schematic-instance sets (TVar x i s) h k = h tt
not_schematic-instance sets (Con l ts) h k = k

-- A variable that isn't another type isn't its instance, where no set variable is that type.
pub other_instance : (sets : List TypBind) (x i : ℕ) (s : List ℕ) (t : Typ) → (TVar x i s ≢ t) → (IsTypVariable t → ¬ IsIn t (map typ_variable sets)) → TVar x i s ≢ typ_instance (composed sets) t
other_instance sets x i s (TFree y r) other free e = variable_fixed x i y s r (e ∙ composed-fixed sets y r)
other_instance sets x i s (TVar y j r) other free e = other (e ∙ composed-absent sets (TVar y j r) tt (free tt))
other_instance sets x i s (Con k ts) other free e = variable_constructor x i k s (typs_instance (composed sets) ts) e

difference-right_variable : (t : Typ) (x i : ℕ) (s : List ℕ) → ¬ IsSchematic t → difference t (TVar x i s) ≡ Some (pair t (TVar x i s))
difference-right_variable (TFree y r) x i s h = difference-left_fixed y r (TVar x i s) (λ e. variable_fixed x i y s r (sym e))
difference-right_variable (TVar y j r) x i s h = absurd (h tt)
difference-right_variable (Con k ts) x i s h = refl

kept_later : (now new : Progress) (more : List TypBind) (work : List TypPair) → IsFurther now new more → Each (IsOldPair now.index now.next) work → Each (IsOldPair new.index new.next) work
kept_later now new more work further each = each_imply (IsOldPair now.index now.next) (IsOldPair new.index new.next) work
    (λ p old. subst (λ (i : ℕ). IsOldPair i new.next p) (sym further.index) (old_pair-later now.index now.next new.next p further.later old)) each

pub left_place : (now : Progress) (x i : ℕ) (s : List ℕ) (right : Typ) → (¬ IsIn (TVar x i s) (map typ_variable now.sets)) → (TVar x i s ≢ typ_instance (composed now.sets) right)
    → place_of (instance_pair (composed now.sets) (pair (TVar x i s) right)) ≡ Some (pair (TVar x i s) (typ_instance (composed now.sets) right))
left_place now x i s right free other =
    ap (λ t. difference t (typ_instance (composed now.sets) right)) (composed-absent now.sets (TVar x i s) tt free) ∙ difference-left_variable x i s (typ_instance (composed now.sets) right) other

pub right_place : (now : Progress) (x i : ℕ) (s : List ℕ) (left : Typ) → ¬ IsSchematic left → (¬ IsIn (TVar x i s) (map typ_variable now.sets))
    → place_of (instance_pair (composed now.sets) (pair left (TVar x i s))) ≡ Some (pair (typ_instance (composed now.sets) left) (TVar x i s))
right_place now x i s left nope free =
    ap (difference (typ_instance (composed now.sets) left)) (composed-absent now.sets (TVar x i s) tt free) ∙ difference-right_variable (typ_instance (composed now.sets) left) x i s (not_schematic-instance now.sets left nope)

cannot_left : (A : Algebra) (x i : ℕ) (s : List ℕ) (t : Typ) → OccursInTyp (TVar x i s) t ⊎ HasNoInstance A t s → IsBlocked A (pair (TVar x i s) t)
cannot_left A x i s t (inl o) = occurring x i s t (left_side x i s t) o
cannot_left A x i s t (inr h) = sortless x i s t (left_side x i s t) h

cannot_right : (A : Algebra) (x i : ℕ) (s : List ℕ) (t : Typ) → ¬ IsSchematic t → OccursInTyp (TVar x i s) t ⊎ HasNoInstance A t s → IsBlocked A (pair t (TVar x i s))
cannot_right A x i s t nope (inl o) = occurring x i s t (right_side x i s t nope) o
cannot_right A x i s t nope (inr h) = sortless x i s t (right_side x i s t nope) h

module _ (A : Algebra) (now new : Progress) (work : List TypPair) where
  -- A variable on the left is set, or can't be.
  pub meet_left : (left right : Typ) (done : Bool) → IsSchematic left × (left ≢ right) → (IsTypVariable left → ¬ IsIn left (map typ_variable now.sets)) → (IsTypVariable right → ¬ IsIn right (map typ_variable now.sets))
      → MatchBool done (IsSetTo A now new left (typ_instance (composed now.sets) right)) (CannotBeSetTo A left (typ_instance (composed now.sets) right)) → IsTurn A now new (pair left right ∷ work) work done
  meet_left (TFree y r) right done is free free_right h = absurd is.0
  meet_left (Con k ts) right done is free free_right h = absurd is.0
  meet_left (TVar x i s) right true is free free_right h = record {
    pursued = pursue_treated A now new (pair (TVar x i s) right) (pair (TVar x i s) (typ_instance (composed now.sets) right)) work (h.narrowed ++ bind x i s h.image ∷ []) h.further
        (left_place now x i s right (free tt) (other_instance now.sets x i s right is.1 free_right))
        (record { name = x; number = i; sort = s; other = typ_instance (composed now.sets) right; image = h.image; narrowed = h.narrowed; shown = left_side x i s (typ_instance (composed now.sets) right); free = h.free; narrows = h.narrows; are = refl })
        (ap (typ_instance (composed (h.narrowed ++ bind x i s h.image ∷ []))) (composed-absent now.sets (TVar x i s) tt (free tt)) ∙ h.equated);
    kept = λ each. kept_later now new (h.narrowed ++ bind x i s h.image ∷ []) work h.further each.1;
  }
  meet_left (TVar x i s) right false is free free_right h =
      stopped_at A now (pair (TVar x i s) right) (pair (TVar x i s) (typ_instance (composed now.sets) right)) work (left_place now x i s right (free tt) (other_instance now.sets x i s right is.1 free_right))
      (cannot_left A x i s (typ_instance (composed now.sets) right) h)

  -- And one on the right.
  pub meet_right : (left right : Typ) (done : Bool) → (¬ IsSchematic left) × IsSchematic right → (IsTypVariable right → ¬ IsIn right (map typ_variable now.sets))
      → MatchBool done (IsSetTo A now new right (typ_instance (composed now.sets) left)) (CannotBeSetTo A right (typ_instance (composed now.sets) left)) → IsTurn A now new (pair left right ∷ work) work done
  meet_right left (TFree y r) done is free h = absurd is.1
  meet_right left (Con k ts) done is free h = absurd is.1
  meet_right left (TVar x i s) true is free h = record {
    pursued = pursue_treated A now new (pair left (TVar x i s)) (pair (typ_instance (composed now.sets) left) (TVar x i s)) work (h.narrowed ++ bind x i s h.image ∷ []) h.further
        (right_place now x i s left is.0 (free tt))
        (record { name = x; number = i; sort = s; other = typ_instance (composed now.sets) left; image = h.image; narrowed = h.narrowed; shown = right_side x i s (typ_instance (composed now.sets) left) (not_schematic-instance now.sets left is.0); free = h.free; narrows = h.narrows; are = refl })
        (sym (ap (typ_instance (composed (h.narrowed ++ bind x i s h.image ∷ []))) (composed-absent now.sets (TVar x i s) tt (free tt)) ∙ h.equated));
    kept = λ each. kept_later now new (h.narrowed ++ bind x i s h.image ∷ []) work h.further each.1;
  }
  meet_right left (TVar x i s) false is free h =
      stopped_at A now (pair left (TVar x i s)) (pair (typ_instance (composed now.sets) left) (TVar x i s)) work (right_place now x i s left is.0 (free tt))
      (cannot_right A x i s (typ_instance (composed now.sets) left) (not_schematic-instance now.sets left is.0) h)

-- Equal types are dropped.
pub meet_same : (A : Algebra) (now : Progress) (work : List TypPair) (left right : Typ) → left ≡ right → GoesOn A now now (pair left right ∷ work) work
meet_same A now work left right same = record {
  pursued = λ p first h. pursue_on A p first now (pair left right ∷ work) work (λ l. left_dropped now.sets p left work (subst (λ (t : Typ). IsLeftOf now.sets p (pair left t ∷ work)) (sym same) l)) h;
  kept = λ each. each.1;
}

-- Types that are apart stop the pursuit.
pub meet_apart : (A : Algebra) (now : Progress) (work : List TypPair) (left right : Typ) → (¬ IsSchematic left) × (¬ IsSchematic right) × AreApart left right → Stops A now (pair left right ∷ work)
meet_apart A now work left right h = stopped_at A now (pair left right) (pair (typ_instance (composed now.sets) left) (typ_instance (composed now.sets) right)) work (h.2 (composed now.sets) (composed-fixed now.sets))
    (rigid (not_schematic-instance now.sets left h.0) (not_schematic-instance now.sets right h.1))

old_along : (index n : ℕ) (ts us : List Typ) → ((v : Typ) → OccursInTyps v (typs_of ts) → ¬ IsFresh index n v) → ((v : Typ) → OccursInTyps v (typs_of us) → ¬ IsFresh index n v) → Each (IsOldPair index n) (pairs_along ts us)
old_along index n [] us h k = tt
old_along index n (t ∷ ts) [] h k = tt
old_along index n (t ∷ ts) (u ∷ us) h k = ((λ v o. h v (inl o), λ v o. k v (inl o)), old_along index n ts us (λ v o. h v (inr o)) (λ v o. k v (inr o)))

-- Of one constructor with as many arguments these are looked at.
pub meet_arguments : (A : Algebra) (now : Progress) (work after : List TypPair) (left right : Typ) (h : HaveArguments left right) → after ≡ pairs_along h.lefts h.rights ++ work → GoesOn A now now (pair left right ∷ work) after
meet_arguments A now work after left right h is = subst (GoesOn A now now (pair left right ∷ work)) (sym is) (record {
  pursued = λ p first g. pursue_on A p first now (pair left right ∷ work) (pairs_along h.lefts h.rights ++ work)
      (λ l. left_arguments now.sets p h.name h.lefts h.rights work h.many (subst (λ (t : Typ). IsLeftOf now.sets p (pair t (Con h.name (typs_of h.rights)) ∷ work)) h.left (subst (λ (u : Typ). IsLeftOf now.sets p (pair left u ∷ work)) h.right l))) g;
  kept = λ each. each-append (IsOldPair now.index now.next) (pairs_along h.lefts h.rights) work
      (old_along now.index now.next h.lefts h.rights (λ v o. each.0.0 v (subst (OccursInTyp v) (sym h.left) (inr o))) (λ v o. each.0.1 v (subst (OccursInTyp v) (sym h.right) (inr o)))) each.1;
})

-- The sides of the first pair may be exchanged for types with the same instances.
pub turn_opened : (A : Algebra) (now new : Progress) (work after : List TypPair) (left right heads others : Typ) (done : Bool) → typ_instance (composed now.sets) heads ≡ typ_instance (composed now.sets) left
    → typ_instance (composed now.sets) others ≡ typ_instance (composed now.sets) right → (IsOld now.index now.next left → IsOld now.index now.next heads) → (IsOld now.index now.next right → IsOld now.index now.next others)
    → IsTurn A now new (pair heads others ∷ work) after done → IsTurn A now new (pair left right ∷ work) after done
turn_opened A now new work after left right heads others done same_left same_right old_left old_right = by done
  where
    exchanged : (p : TypPair) → IsLeftOf now.sets p (pair left right ∷ work) → IsLeftOf now.sets p (pair heads others ∷ work)
    exchanged p l = left_exchanged now.sets p (pair heads others) (pair left right) work (λ i. pair (same_left i) (same_right i)) l

    by : (done : Bool) → IsTurn A now new (pair heads others ∷ work) after done → IsTurn A now new (pair left right ∷ work) after done
    by true g = record {
      pursued = λ p first h. g.pursued p first (pursue_on A p first now (pair left right ∷ work) (pair heads others ∷ work) (exchanged p) h);
      kept = λ each. g.kept ((old_left each.0.0, old_right each.0.1), each.1);
    }
    by false g = λ p first h. g p first (pursue_on A p first now (pair left right ∷ work) (pair heads others ∷ work) (exchanged p) h)

-- What is left may go on one after the other.
pub goes_same : (A : Algebra) (now : Progress) (work : List TypPair) → GoesOn A now now work work
goes_same A now work = record { pursued = λ p first h. h; kept = λ each. each }

pub goes_then : (A : Algebra) (a b c : Progress) (xs ys zs : List TypPair) → GoesOn A a b xs ys → GoesOn A b c ys zs → GoesOn A a c xs zs
goes_then A a b c xs ys zs g h = record { pursued = λ p first w. h.pursued p first (g.pursued p first w); kept = λ each. h.kept (g.kept each) }

pub goes_stops : (A : Algebra) (a b : Progress) (xs ys : List TypPair) → GoesOn A a b xs ys → Stops A b ys → Stops A a xs
goes_stops A a b xs ys g h = λ p first w. h p first (g.pursued p first w)

module _ (A : Algebra) (now new : Progress) (before after : List TypPair) (left right : Typ) where
  put_large : (new ≡ now) → reverse after ≡ pair left right ∷ reverse before → HasLargeHead now (pair left right ∷ reverse before) → GoesOn A now new (pair left right ∷ reverse before) (reverse after) × HasLargeHead new (reverse after)
  put_large same put head = (
    subst (λ (q : Progress). GoesOn A now q (pair left right ∷ reverse before) (reverse after)) (sym same) (subst (GoesOn A now now (pair left right ∷ reverse before)) (sym put) (goes_same A now (pair left right ∷ reverse before))),
    subst (λ (q : Progress). HasLargeHead q (reverse after)) (sym same) (subst (HasLargeHead now) (sym put) head),
  )

  pub met_left : (turned : Turned) → IsSchematic left × (left ≢ right) → (IsTypVariable left → ¬ IsIn left (map typ_variable now.sets)) → (IsTypVariable right → ¬ IsIn right (map typ_variable now.sets))
      → IsTreating A now new left (typ_instance (composed now.sets) right) turned → IsPutBack (pair left right) before after turned → IsTurned A now new (pair left right ∷ reverse before) (reverse after) turned
  met_left Further is free free_right h put = subst (λ (xs : List TypPair). GoesOn A now new (pair left right ∷ reverse before) (reverse xs)) (sym put) (meet_left A now new (reverse before) left right true is free free_right h)
  met_left Never is free free_right h put = meet_left A now new (reverse before) left right false is free free_right h
  met_left Large is free free_right h put = put_large h.0 put (inl (record { schematic = is.0; free = free (schematic_variable left is.0); beyond = h.1 }))

  pub met_right : (turned : Turned) → (¬ IsSchematic left) × IsSchematic right → (IsTypVariable right → ¬ IsIn right (map typ_variable now.sets))
      → IsTreating A now new right (typ_instance (composed now.sets) left) turned → IsPutBack (pair left right) before after turned → IsTurned A now new (pair left right ∷ reverse before) (reverse after) turned
  met_right Further is free h put = subst (λ (xs : List TypPair). GoesOn A now new (pair left right ∷ reverse before) (reverse xs)) (sym put) (meet_right A now new (reverse before) left right true is free h)
  met_right Never is free h put = meet_right A now new (reverse before) left right false is free h
  met_right Large is free h put = put_large h.0 put (inr (is.0, record { schematic = is.1; free = free (schematic_variable right is.1); beyond = h.1 }))

pub turned_opened : (A : Algebra) (now new : Progress) (work after : List TypPair) (left right heads others : Typ) (turned : Turned) → typ_instance (composed now.sets) heads ≡ typ_instance (composed now.sets) left
    → typ_instance (composed now.sets) others ≡ typ_instance (composed now.sets) right → (IsOld now.index now.next left → IsOld now.index now.next heads) → (IsOld now.index now.next right → IsOld now.index now.next others)
    → IsTurned A now new (pair heads others ∷ work) after turned → IsTurned A now new (pair left right ∷ work) after turned
turned_opened A now new work after left right heads others Further a b c d g = turn_opened A now new work after left right heads others true a b c d g
turned_opened A now new work after left right heads others Never a b c d g = turn_opened A now new work after left right heads others false a b c d g
turned_opened A now new work after left right heads others Large a b c d g = (turn_opened A now new work after left right heads others true a b c d g.0, g.1)

-- The pairs as one, of a constructor with their sides as its arguments.
abbrev pub as_pair : List TypPair → TypPair
as_pair work = pair (Con 0 (typs_of (map (λ q. q.left) work))) (Con 0 (typs_of (map (λ q. q.right) work)))

pub pairs_again : (work : List TypPair) → pairs_along (map (λ q. q.left) work) (map (λ q. q.right) work) ≡ work
pairs_again [] = refl
pairs_again (q ∷ work) = ap (λ ps. q ∷ ps) (pairs_again work)

sides_many : (work : List TypPair) → length (map (λ (q : TypPair). q.left) work) ≡ length (map (λ (q : TypPair). q.right) work)
sides_many [] = refl
sides_many (q ∷ work) = let rest = sides_many work in omega arith

pub left_as_pair : (sets : List TypBind) (work : List TypPair) → IsLeftOf sets (as_pair work) work
left_as_pair sets work = subst (IsLeftOf sets (as_pair work)) (append-nil (pairs_along (map (λ q. q.left) work) (map (λ q. q.right) work)) ∙ pairs_again work)
    (left_arguments sets (as_pair work) 0 (map (λ q. q.left) work) (map (λ q. q.right) work) [] (sides_many work) (left_at_first sets (as_pair work)))

-- They are pursued as one.
pub pursued_as_pair : (A : Algebra) (now : Progress) (work : List TypPair) → Pursues A (as_pair work) now now work
pursued_as_pair A now work = pursue_on A (as_pair work) now now (as_pair work ∷ []) work (λ l. left_as_pair now.sets work) (pursuit_starts A (as_pair work) now)

fixed_of_constructor : (x k : ℕ) (s : List ℕ) (ts : Typs) → TFree x s ≡ Con k ts → ⊥
fixed_of_constructor x k s ts e = cc

-- Types whose nodes differ: neither a schematic variable, nor one constructor with as many arguments, nor equal.
pub are_apart : (left right : Typ) → ¬ IsSchematic left → ¬ IsSchematic right → HaveNoArguments left right → (left ≢ right) → AreApart left right
are_apart (TVar x i s) right h k nope other typs keeps = absurd (h tt)
are_apart left (TVar y j r) h k nope other typs keeps = absurd (k tt)
are_apart (TFree x s) (TFree y r) h k nope other typs keeps = rw (keeps x s, keeps y r) (difference-left_fixed x s (TFree y r) other)
are_apart (TFree x s) (Con l us) h k nope other typs keeps = rw (keeps x s) (difference-left_fixed x s (Con l (typs_instance typs us)) (λ e. fixed_of_constructor x l s (typs_instance typs us) e))
are_apart (Con m ts) (TFree y r) h k nope other typs keeps = rw (keeps y r) refl
are_apart (Con m ts) (Con l us) h k nope other typs keeps = difference-constructors m l (typs_instance typs ts) (typs_instance typs us)
    (λ name count. nope m l ts us refl refl name (sym (typs_count-instance typs ts) ∙ (count ∙ typs_count-instance typs us)))
