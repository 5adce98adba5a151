-- A pair with a type that is too large to be written out passes the limits, where what is left of it has a unifier.
use Rattle.std.proofs.Common.{◌≡◌, ◌≢◌, ℕ, List, [], ◌∷◌, ◌++◌, map, Option, Some, None, inl, inr, refl, ap, sym, subst, ◌∙◌, arith, append_assoc}
use Rattle.std.specs.Prelude.{reverse}
use Rattle.pure_text.specs.Lists.{Each}
use Rattle.pure_definitions.specs.Types.Typ.{Typ, TFree, TVar, Con}
use Rattle.pure_definitions.specs.Types.Order.{Algebra, IsCoregular}
use Rattle.pure_definitions.specs.Terms.Subst.{TypBind, typ_instance}
use Rattle.pure_definitions.specs.Terms.Limits.{IsWithinTyp}
use Rattle.pure_term_laws.proofs.SubstLaws.{typ_instance-identity}
use Rattle.pure_tunify.specs.declared.pair.TypPair.{TypPair}
use Rattle.pure_tunify.specs.Unifiers.{HasUnifier, HasNoUnifier, Equates, IsUnifier, IsOldPair}
use Rattle.pure_tunify.specs.Steps.{pair, instance_pair}
use Rattle.pure_tunify.specs.Settings.{composed, AreWithinLimits, Progress, IsTidy}
use Rattle.pure_tunify.specs.Procedure.{sooner, difference, place_of, IsSchematic, Equalises, Blocks}
use Rattle.pure_tunify.specs.Working.{place_among, Pursues}
use Rattle.pure_tunify.specs.Meeting.{GoesOn, IsLargeAt, HasLargeHead}
use Rattle.pure_tunify.specs.Answers.{IsPassed}
use Rattle.pure_tunify.proofs.MapLaws.{identity_is_substitution}
use Rattle.pure_tunify.proofs.PlaceLaws.{difference_is_place, no_difference, difference-itself}
use Rattle.pure_tunify.proofs.SettingLaws.{instance-append, composed-absent, instance-old, old_pair-later}
use Rattle.pure_tunify.proofs.PursueLaws.{place_now, pursuit_starts, left_place, right_place}
use Rattle.pure_tunify.proofs.ReductionLaws.{agree_unifier, equalised, blocks_unifiers}
use Rattle.pure_tunify.proofs.OutcomeLaws.{equalisable_or_blocked}
use Rattle.pure_tunify.proofs.SizeLaws.{shrinks}

-- Pairs whose sides are equal under a map have no place under it, and the other way round.
nowhere : (f : Typ → Typ) (qs : List TypPair) → Each (Equates f) qs → place_among (map (instance_pair f) qs) ≡ None
nowhere f [] each = refl
nowhere f (q ∷ qs) each =
    ap (λ o. sooner o (place_among (map (instance_pair f) qs))) (ap (difference (typ_instance f q.left)) (sym each.0) ∙ difference-itself (typ_instance f q.left))
    ∙ nowhere f qs each.1

sooner_none : (a b : Option TypPair) → sooner a b ≡ None → (a ≡ None) × (b ≡ None)
sooner_none None b e = (refl, e)
sooner_none (Some p) b e = absurd (some_none p e)
  where
    some_none : (p : TypPair) → Some p ≡ None → ⊥
    some_none p e = cc

everywhere : (f : Typ → Typ) (qs : List TypPair) → place_among (map (instance_pair f) qs) ≡ None → Each (Equates f) qs
everywhere f [] e = tt
everywhere f (q ∷ qs) e =
    let parts = sooner_none (place_of (instance_pair f q)) (place_among (map (instance_pair f) qs)) e in
    (no_difference (typ_instance f q.left) (typ_instance f q.right) parts.0, everywhere f qs parts.1)

-- What is old stays so under tidy settings.
pair_old : (now : Progress) (p : TypPair) → IsTidy now → IsOldPair now.index now.next p → IsOldPair now.index now.next (instance_pair (composed now.sets) p)
pair_old now p tidy old = (instance-old now.index now.next now.sets p.left tidy.old old.0, instance-old now.index now.next now.sets p.right tidy.old old.1)

-- What makes a pair equal unifies it.
equalised_unifier : (A : Algebra) (index n m : ℕ) (p : TypPair) (more : List TypBind) → Equalises A index n p more m → IsOldPair index n p → IsUnifier A (p ∷ []) (composed more)
equalised_unifier A index n m p more e old =
    let r = equalised A index e [] (old, tt) in
    agree_unifier A (λ v. typ_instance (λ w. w) (composed more v)) (composed more) (λ v is. sym (typ_instance-identity (composed more v))) (p ∷ []) (r.back (λ w. w) (record { substitution = identity_is_substitution A; equates = tt }))

-- The pair at a type that is too large passes the limits.
module _ (A : Algebra) (coregular : IsCoregular A) (p : TypPair) (first mid : Progress) (after : List TypPair) (old : IsOldPair first.index first.next p) (tidy : IsTidy mid) (goes : GoesOn A first mid (p ∷ []) after) where
  so_far : Pursues A p first mid after
  so_far = goes.pursued p first (pursuit_starts A p first)

  abbrev now_pair : TypPair
  now_pair = instance_pair (composed mid.sets) p

  old_mid : IsOldPair mid.index mid.next p
  old_mid = subst (λ (i : ℕ). IsOldPair i mid.next p) (sym so_far.further.index) (old_pair-later first.index first.next mid.next p so_far.further.later old)

  old_now : IsOldPair first.index mid.next now_pair
  old_now = subst (λ (i : ℕ). IsOldPair i mid.next now_pair) so_far.further.index (pair_old mid p tidy old_mid)

  not_blocked : HasUnifier A (map (instance_pair (composed mid.sets)) after) → Blocks A first.index mid.next now_pair → ⊥
  not_blocked s b = blocks_unifiers A first.index b (old_now, tt) s.0 (record { substitution = s.1.substitution; equates = (unified, tt) })
    where
      unified : typ_instance s.0 now_pair.left ≡ typ_instance s.0 now_pair.right
      unified = no_difference (typ_instance s.0 now_pair.left) (typ_instance s.0 now_pair.right) (so_far.left s.0 ∙ nowhere s.0 (map (instance_pair (composed mid.sets)) after) s.1.equates)

  module _ (more : List TypBind) (m : ℕ) (e : Equalises A first.index mid.next now_pair more m) where
    equal_now : typ_instance (composed more) now_pair.left ≡ typ_instance (composed more) now_pair.right
    equal_now = (equalised_unifier A first.index mid.next m now_pair more e old_now).equates.0

    all_sets : first.sets ++ (so_far.more ++ more) ≡ mid.sets ++ more
    all_sets = sym (append_assoc first.sets so_far.more more) ∙ ap (λ xs. xs ++ more) (sym so_far.further.sets)

    large_at : (v t : Typ) → IsLargeAt mid v t → typ_instance (composed more) v ≡ typ_instance (composed more) (typ_instance (composed mid.sets) t) → ¬ AreWithinLimits (first.sets ++ (so_far.more ++ more)) m
    large_at (TFree x r) t l same w = absurd l.schematic
    large_at (Con k ts) t l same w = absurd l.schematic
    large_at (TVar x i r) t l same w = l.beyond (shrinks (composed more) (typ_instance (composed mid.sets) t) (subst IsWithinTyp (image ∙ same) (w.images x i r)))
      where
        image : composed (first.sets ++ (so_far.more ++ more)) (TVar x i r) ≡ typ_instance (composed more) (TVar x i r)
        image = ap (λ sets. typ_instance (composed sets) (TVar x i r)) all_sets ∙ (instance-append mid.sets more (TVar x i r) ∙ ap (typ_instance (composed more)) (composed-absent mid.sets (TVar x i r) tt l.free))

    variable_apart : (x i : ℕ) (r : List ℕ) (t : Typ) → IsLargeAt mid (TVar x i r) t → TVar x i r ≢ typ_instance (composed mid.sets) t
    variable_apart x i r t l same = l.beyond (subst IsWithinTyp same (record { size = omega arith; depth = omega arith }))

    head_left : (v t : Typ) (rest : List TypPair) → place_of now_pair ≡ place_among (map (instance_pair (composed mid.sets)) (pair v t ∷ rest)) → IsLargeAt mid v t → typ_instance (composed more) v ≡ typ_instance (composed more) (typ_instance (composed mid.sets) t)
    head_left (TFree x r) t rest place l = absurd l.schematic
    head_left (Con k ts) t rest place l = absurd l.schematic
    head_left (TVar x i r) t rest place l =
        (difference_is_place now_pair.left now_pair.right (pair (TVar x i r) (typ_instance (composed mid.sets) t))
        (place ∙ ap (λ o. sooner o (place_among (map (instance_pair (composed mid.sets)) rest))) (left_place mid x i r t l.free (variable_apart x i r t l)))).equated (composed more) equal_now

    head_right : (v t : Typ) (rest : List TypPair) → ¬ IsSchematic t → place_of now_pair ≡ place_among (map (instance_pair (composed mid.sets)) (pair t v ∷ rest)) → IsLargeAt mid v t
        → typ_instance (composed more) v ≡ typ_instance (composed more) (typ_instance (composed mid.sets) t)
    head_right (TFree x r) t rest nope place l = absurd l.schematic
    head_right (Con k ts) t rest nope place l = absurd l.schematic
    head_right (TVar x i r) t rest nope place l =
        sym ((difference_is_place now_pair.left now_pair.right (pair (typ_instance (composed mid.sets) t) (TVar x i r))
        (place ∙ ap (λ o. sooner o (place_among (map (instance_pair (composed mid.sets)) rest))) (right_place mid x i r t nope l.free))).equated (composed more) equal_now)

    beyond_head : (work : List TypPair) → place_of now_pair ≡ place_among (map (instance_pair (composed mid.sets)) work) → HasLargeHead mid work → ¬ AreWithinLimits (first.sets ++ (so_far.more ++ more)) m
    beyond_head [] place head = absurd head
    beyond_head (q ∷ rest) place (inl l) = large_at q.left q.right l (head_left q.left q.right rest place l)
    beyond_head (q ∷ rest) place (inr l) = large_at q.right q.left l.1 (head_right q.right q.left rest l.0 place l.1)

  -- What makes the pair equal unifies what is left of it.
  all_unified : (more : List TypBind) (m : ℕ) → Equalises A first.index mid.next now_pair more m → IsUnifier A (map (instance_pair (composed mid.sets)) after) (composed more)
  all_unified more m e = record {
    substitution = (equalised_unifier A first.index mid.next m now_pair more e old_now).substitution;
    equates = everywhere (composed more) (map (instance_pair (composed mid.sets)) after)
        (sym (so_far.left (composed more)) ∙ (ap (difference (typ_instance (composed more) now_pair.left)) (sym (equal_now more m e)) ∙ difference-itself (typ_instance (composed more) now_pair.left)));
  }

  pub refused : HasNoUnifier A (map (instance_pair (composed mid.sets)) after) → Blocks A first.index first.next (instance_pair (composed first.sets) p)
  refused none = elim (equalisable_or_blocked A coregular first.index mid.next now_pair old_now) [ inl e ↦ absurd (none (composed e.more) (all_unified e.more e.reached e.equalises)) | inr b ↦ so_far.none b ]

  pub passed : HasUnifier A (map (instance_pair (composed mid.sets)) after) → HasLargeHead mid after → IsPassed A first mid p
  passed s head = elim (equalisable_or_blocked A coregular first.index mid.next now_pair old_now) [
    | inl e ↦ record {
      found = so_far.more;
      further = so_far.further;
      more = so_far.more ++ e.more;
      next = e.reached;
      equalises = so_far.onward e.reached e.more e.equalises;
      beyond = beyond_head e.more e.reached e.equalises after (place_now mid.sets p after so_far.left) head;
    }
    | inr b ↦ absurd (not_blocked s b)
  ]

module _ (A : Algebra) (coregular : IsCoregular A) (p : TypPair) (first mid : Progress) (work after : List TypPair) (e : work ≡ p ∷ []) (old : IsOldPair first.index first.next p) (tidy : IsTidy mid) (goes : GoesOn A first mid (reverse work) after × HasLargeHead mid after) where
  goes_one : GoesOn A first mid (p ∷ []) after
  goes_one = subst (λ (xs : List TypPair). GoesOn A first mid (reverse xs) after) e goes.0

  pub one_passed : HasUnifier A (map (instance_pair (composed mid.sets)) after) → IsPassed A first mid p
  one_passed s = passed A coregular p first mid after old tidy goes_one s goes.1

  pub one_refused : HasNoUnifier A (map (instance_pair (composed mid.sets)) after) → Blocks A first.index first.next (instance_pair (composed first.sets) p)
  one_refused none = refused A coregular p first mid after old tidy goes_one none
