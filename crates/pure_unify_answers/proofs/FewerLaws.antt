-- A unification of two different types leaves fewer type variables, in all types.
use Rattle.std.proofs.Common.{◌≡◌, ℕ, ◌+◌, ◌<◌, ◌≤◌, List, [], ◌∷◌, ◌++◌, map, length, inl, inr, ◌⊎◌, refl, subst, arith}
use Rattle.pure_text.specs.Lists.{IsIn}
use Rattle.pure_definitions.specs.Types.Typ.{Typ, TVar, none, also, arrow}
use Rattle.pure_definitions.specs.Types.Occurs.{OccursInTyp}
use Rattle.pure_definitions.specs.Types.Order.{Algebra}
use Rattle.pure_definitions.specs.Terms.Subst.{TypBind, typ_instance}
use Rattle.pure_term_laws.proofs.SubstLaws.{typ_instance-identity}
use Rattle.pure_tunify.specs.declared.pair.TypPair.{TypPair}
use Rattle.pure_tunify.specs.Unifiers.{IsFresh, IsOld, IsOldPair}
use Rattle.pure_tunify.specs.Steps.{pair}
use Rattle.pure_tunify.specs.Settings.{composed}
use Rattle.pure_tunify.specs.Procedure.{IsSchematic, Shows, left_side, right_side, IsTreated, Equalises, equal, treat, Unified, Unifies, over, next}
use Rattle.pure_tunify.proofs.MapLaws.{old-instance}
use Rattle.pure_tunify.proofs.PlaceLaws.{IsPlaceOf, difference_is_place, no_difference}
use Rattle.pure_tunify.proofs.SettingLaws.{instance-append, composed-fixed}
use Rattle.pure_tunify.proofs.ReductionLaws.{treated, equalised}
use Rattle.pure_tunify.proofs.SchematicLaws.{constructor_schematic}
use Rattle.pure_tunify.proofs.FallingLaws.{split_at_member, shorter, of_type}
use Rattle.pure_unify_answers.proofs.PartLaws.{IsOfParts}

-- The schematic variables of the type are among these.
abbrev pub IsAmong : List Typ → Typ → Type 0
IsAmong vs T = (w : Typ) → IsSchematic w → OccursInTyp w T → IsIn w vs

-- Settings move types whose variables are among some to types whose variables are among no more, or among fewer.
record IsLess (vs : List Typ) (more : List TypBind) : Type 0 where
  left : List Typ
  few : length left ≤ length vs
  moves : (part : Typ) → IsAmong vs part → IsAmong left (typ_instance (composed more) part)

pub record IsFewer (vs : List Typ) (more : List TypBind) : Type 0 where
  pub left : List Typ
  pub fewer : length left < length vs
  pub moves : (part : Typ) → IsAmong vs part → IsAmong left (typ_instance (composed more) part)

weakened : (vs : List Typ) (more : List TypBind) → IsFewer vs more → IsLess vs more
weakened vs more h = record { left = h.left; few = at_most (length h.left) (length vs) h.fewer; moves = h.moves }
  where
    at_most : (a b : ℕ) → a < b → a ≤ b
    at_most a b h = omega arith

pub shown_inside : {d : TypPair} {x i : ℕ} {s : List ℕ} {t : Typ} (l r : Typ) → Shows d x i s t → IsPlaceOf l r d → (v : Typ) → OccursInTyp v t ⊎ (v ≡ TVar x i s) → OccursInTyp v l ⊎ OccursInTyp v r
shown_inside l r (left_side x i s t) is v (inl a) = inr (is.right_inside v a)
shown_inside l r (left_side x i s t) is v (inr e) = inl (is.left_inside v e)
shown_inside l r (right_side x i s t other) is v (inl a) = inl (is.left_inside v a)
shown_inside l r (right_side x i s t other) is v (inr e) = inr (is.right_inside v e)

module _ (A : Algebra) (index : ℕ) where
  -- a place that is treated
  module _ (n k : ℕ) (p d : TypPair) (first : List TypBind) (vs : List Typ) (old : IsOldPair index n p) (lefts : IsAmong vs p.left) (rights : IsAmong vs p.right) (place : IsPlaceOf p.left p.right d) (h : IsTreated A index n d first k) where
    inside : (v : Typ) → OccursInTyp v h.other ⊎ (v ≡ TVar h.name h.number h.sort) → OccursInTyp v p.left ⊎ OccursInTyp v p.right
    inside v o = shown_inside p.left p.right h.shown place v o

    in_pair : (v : Typ) → IsSchematic v → OccursInTyp v p.left ⊎ OccursInTyp v p.right → IsIn v vs
    in_pair v is (inl o) = lefts v is o
    in_pair v is (inr o) = rights v is o

    not_fresh : (v : Typ) → OccursInTyp v p.left ⊎ OccursInTyp v p.right → ¬ IsFresh index n v
    not_fresh v (inl o) = old.0 v o
    not_fresh v (inr o) = old.1 v o

    treated-fewer : IsFewer vs first
    treated-fewer = by (split_at_member (TVar h.name h.number h.sort) vs (in_pair (TVar h.name h.number h.sort) tt (inside (TVar h.name h.number h.sort) (inr refl))))
      where
        by : (front : List Typ) × (back : List Typ) × (vs ≡ front ++ TVar h.name h.number h.sort ∷ back) → IsFewer vs first
        by (front, back, e) = record {
          left = map (composed h.narrowed) (front ++ back);
          fewer = shorter (TVar h.name h.number h.sort) vs front back (composed h.narrowed) e;
          moves = λ part among w is o.
              of_type A index n k h.name h.number h.sort h.other h.image h.narrowed h.narrows (not_fresh (TVar h.name h.number h.sort) (inside (TVar h.name h.number h.sort) (inr refl))) h.free front back
              (λ v m l. subst (IsIn v) e (in_pair v m (inside v (inl l)))) part w (λ v m l. subst (IsIn v) e (among v m l)) is
              (subst (λ (xs : List TypBind). OccursInTyp w (typ_instance (composed xs) part)) h.are o);
        }

  joined : (vs : List Typ) (first more : List TypBind) (one : IsFewer vs first) → IsLess one.left more → IsFewer vs (first ++ more)
  joined vs first more one two = record {
    left = two.left;
    fewer = less (length two.left) (length one.left) (length vs) two.few one.fewer;
    moves = λ part among w is o. two.moves (typ_instance (composed first) part) (one.moves part among) w is (subst (OccursInTyp w) (instance-append first more part) o);
  }
    where
      less : (a b c : ℕ) → a ≤ b → b < c → a < c
      less a b c h k = omega arith

  equalised-less : {n m : ℕ} {p : TypPair} {more : List TypBind} → Equalises A index n p more m → (vs : List Typ) → IsOldPair index n p → IsAmong vs p.left → IsAmong vs p.right → IsLess vs more
  equalised-less (equal e) vs old lefts rights = record { left = vs; few = itself (length vs); moves = λ part among w is o. among w is (subst (OccursInTyp w) (typ_instance-identity part) o) }
    where
      itself : (a : ℕ) → a ≤ a
      itself a = omega arith
  equalised-less (treat {n = n} {k = k} {p = p} {first = first} {more = more} place e t rest) vs old lefts rights =
      let one = treated-fewer n k p place first vs old lefts rights (difference_is_place p.left p.right place e) t in
      let olds = (treated A index n k p [] (old, tt) place first e t).left_old in
      weakened vs (first ++ more) (joined vs first more one (equalised-less rest one.left olds.0 (one.moves p.left lefts) (one.moves p.right rights)))

  equalised-fewer : {n m : ℕ} {p : TypPair} {more : List TypBind} → Equalises A index n p more m → (vs : List Typ) → ¬ (p.left ≡ p.right) → IsOldPair index n p → IsAmong vs p.left → IsAmong vs p.right → IsFewer vs more
  equalised-fewer (equal {p = p} e) vs apart old lefts rights = absurd (apart (no_difference p.left p.right e))
  equalised-fewer (treat {n = n} {k = k} {p = p} {first = first} {more = more} place e t rest) vs apart old lefts rights =
      let one = treated-fewer n k p place first vs old lefts rights (difference_is_place p.left p.right place e) t in
      let olds = (treated A index n k p [] (old, tt) place first e t).left_old in
      joined vs first more one (equalised-less rest one.left olds.0 (one.moves p.left lefts) (one.moves p.right rights))

  -- Two types that are unified.
  pub unified-fewer : {n m : ℕ} {sets : List TypBind} (T U : Typ) → Unifies A index 0 n [] (pair T U ∷ []) (Unified sets m) → (vs : List Typ) → ¬ (T ≡ U) → IsOld index n T → IsOld index n U → IsAmong vs T → IsAmong vs U → IsFewer vs sets
  unified-fewer {n = n} {m = m} T U (next {more = more} e w over) vs apart old older lefts rights =
      equalised-fewer (subst (λ (q : TypPair). Equalises A index n q more m) (λ i. pair (typ_instance-identity T i) (typ_instance-identity U i)) e) vs apart (old, older) lefts rights

  -- What was without fresh variables is so after them.
  pub unified-old : {n m : ℕ} {sets : List TypBind} (T U : Typ) → Unifies A index 0 n [] (pair T U ∷ []) (Unified sets m) → IsOld index n T → IsOld index n U → (part : Typ) → IsOld index n part → IsOld index m (typ_instance (composed sets) part)
  unified-old {n = n} {m = m} T U (next {more = more} e w over) old older part h =
      let one = equalised A index (subst (λ (q : TypPair). Equalises A index n q more m) (λ i. pair (typ_instance-identity T i) (typ_instance-identity U i)) e) [] ((old, older), tt) in
      old-instance index n m (composed more) (composed-fixed more) one.images_old part h

-- Both hold of the parts of types of functions, and of functions.
functions_among : (vs : List Typ) (A B : Typ) → IsAmong vs A → IsAmong vs B → IsAmong vs (arrow A B)
functions_among vs A B h k w is (inl e) = absurd (constructor_schematic w 0 (also A (also B none)) e is)
functions_among vs A B h k w is (inr (inl o)) = h w is o
functions_among vs A B h k w is (inr (inr (inl o))) = k w is o
functions_among vs A B h k w is (inr (inr (inr o))) = absurd o

functions_old : (index from : ℕ) (A B : Typ) → IsOld index from A → IsOld index from B → IsOld index from (arrow A B)
functions_old index from A B h k v (inl e) f = subst (IsFresh index from) e f
functions_old index from A B h k v (inr (inl o)) f = h v o f
functions_old index from A B h k v (inr (inr (inl o))) f = k v o f
functions_old index from A B h k v (inr (inr (inr o))) f = o

-- The type is without fresh variables, and its variables are among these.
abbrev pub IsOldAmong : (index from : ℕ) → List Typ → Typ → Type 0
IsOldAmong index from vs T = IsOld index from T × IsAmong vs T

pub old_of_parts : (index from : ℕ) → IsOfParts (IsOld index from)
old_of_parts index from = record { domain = λ A B h v o. h v (inr (inl o)); range = λ A B h v o. h v (inr (inr (inl o))); functions = functions_old index from }

pub among_of_parts : (index from : ℕ) (vs : List Typ) → IsOfParts (IsOldAmong index from vs)
among_of_parts index from vs = record {
  domain = λ A B h. (λ v o. h.0 v (inr (inl o)), λ v is o. h.1 v is (inr (inl o)));
  range = λ A B h. (λ v o. h.0 v (inr (inr (inl o))), λ v is o. h.1 v is (inr (inr (inl o))));
  functions = λ A B h k. (functions_old index from A B h.0 k.0, functions_among vs A B h.1 k.1);
}
