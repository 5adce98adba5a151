-- Over a coregular algebra the procedure comes to an outcome: each place that is treated leaves a variable less.
use Rattle.std.proofs.Common.{◌≡◌, ℕ, ◌+◌, ◌<◌, ◌≤◌, List, [], ◌∷◌, ◌++◌, map, length, suc, zero, Option, Some, None, inl, inr, ◌⊎◌, refl, sym, subst, arith}
use Rattle.std.specs.Prelude.{◌^◌}
use Rattle.pure_text.specs.Lists.{IsIn, Each}
use Rattle.pure_text.proofs.ListLaws.{any_decided, any_some, each_of, each_at, each_decided, in-append_left, in-append_right}
use Rattle.pure_definitions.specs.Types.Typ.{Typ, TFree, TVar, Con, typ_size, typ_depth}
use Rattle.pure_definitions.specs.Types.Occurs.{OccursInTyp}
use Rattle.pure_definitions.specs.Types.Order.{Algebra, IsCoregular}
use Rattle.pure_definitions.specs.Terms.Subst.{TypBind, typ_variable, typ_instance}
use Rattle.pure_definitions.specs.Terms.Limits.{IsWithinTyp}
use Rattle.pure_definitions.specs.Terms.Term.{max_size, max_depth}
use Rattle.pure_tunify.specs.declared.pair.TypPair.{TypPair}
use Rattle.pure_tunify.specs.Unifiers.{IsFresh, IsOldPair}
use Rattle.pure_tunify.specs.Occurrences.{schematics}
use Rattle.pure_tunify.specs.Steps.{pair, instance_pair}
use Rattle.pure_tunify.specs.Settings.{composed, bind, AreWithinLimits}
use Rattle.pure_tunify.specs.Procedure.{place_of, IsSchematic, Shows, left_side, right_side, IsTreated, IsBlocked, rigid, occurring, sortless, Equalises, equal, treat, Blocks, blocked, later, Outcome, Unified, NotTyped, TooBig, Unifies, over, no_typing, big, next}
use Rattle.pure_tunify.proofs.PlaceLaws.{IsPlaceOf, difference_is_place}
use Rattle.pure_tunify.proofs.SettingLaws.{instance_pairs-append, composed-absent}
use Rattle.pure_tunify.proofs.WrittenLaws.{has_entry}
use Rattle.pure_tunify.proofs.ReductionLaws.{treated, equalised}
use Rattle.pure_tunify.proofs.DecidedLaws.{same_or_not, occurs_or_not}
use Rattle.pure_tunify.proofs.SchematicLaws.{occurs_schematics}
use Rattle.pure_tunify.proofs.FallingLaws.{split_at_member, shorter, of_type}
use Rattle.pure_tunify.proofs.NarrowableLaws.{IsNarrowable, narrowable_or_never}

-- The variables of a pair are among these.
abbrev AreAmong : List Typ → TypPair → Type 0
AreAmong vs p = (w : Typ) → IsSchematic w → OccursInTyp w p.left ⊎ OccursInTyp w p.right → IsIn w vs

module _ (A : Algebra) (coregular : IsCoregular A) (index : ℕ) where
  -- A pair is made equal, by some settings.
  pub record IsEqualisable (n : ℕ) (p : TypPair) : Type 0 where
    pub more : List TypBind
    pub reached : ℕ
    pub equalises : Equalises A index n p more reached

  -- A place is treated, and leaves a variable less.
  record IsTreatable (n : ℕ) (p d : TypPair) (fuel : ℕ) : Type 0 where
    more : List TypBind
    reached : ℕ
    treats : IsTreated A index n d more reached
    left : List Typ
    among : AreAmong left (instance_pair (composed more) p)
    fewer : length left < fuel

  module _ (n : ℕ) (p d : TypPair) (vs : List Typ) (among : AreAmong vs p) (old : IsOldPair index n p) (x i : ℕ) (s : List ℕ) (t : Typ) (shows : Shows d x i s t)
      (inside : (v : Typ) → OccursInTyp v t ⊎ (v ≡ TVar x i s) → OccursInTyp v p.left ⊎ OccursInTyp v p.right) where
    not_fresh : (v : Typ) → OccursInTyp v p.left ⊎ OccursInTyp v p.right → ¬ IsFresh index n v
    not_fresh v (inl o) = old.0 v o
    not_fresh v (inr o) = old.1 v o

    narrowed_then : ¬ OccursInTyp (TVar x i s) t → IsNarrowable A index s n t → IsTreatable n p d (length vs)
    narrowed_then away h = record {
      more = h.more ++ bind x i s h.image ∷ [];
      reached = h.later;
      treats = record { name = x; number = i; sort = s; other = t; image = h.image; narrowed = h.more; shown = shows; free = away; narrows = h.narrows; are = refl };
      left = map (composed h.more) (split.0 ++ split.1);
      among = λ w is o. elim o [ inl a ↦ on p.left (λ v k l. inl l) w is a | inr a ↦ on p.right (λ v k l. inr l) w is a ];
      fewer = shorter (TVar x i s) vs split.0 split.1 (composed h.more) split.2;
    }
      where
        split : (front : List Typ) × (back : List Typ) × (vs ≡ front ++ TVar x i s ∷ back)
        split = split_at_member (TVar x i s) vs (among (TVar x i s) tt (inside (TVar x i s) (inr refl)))

        within : (v : Typ) → IsSchematic v → OccursInTyp v p.left ⊎ OccursInTyp v p.right → IsIn v (split.0 ++ TVar x i s ∷ split.1)
        within v is o = subst (IsIn v) split.2 (among v is o)

        on : (part : Typ) → ((v : Typ) → IsSchematic v → OccursInTyp v part → OccursInTyp v p.left ⊎ OccursInTyp v p.right) → (w : Typ) → IsSchematic w → OccursInTyp w (typ_instance (composed (h.more ++ bind x i s h.image ∷ [])) part)
            → IsIn w (map (composed h.more) (split.0 ++ split.1))
        on part to w is o = of_type A index n h.later x i s t h.image h.more h.narrows (not_fresh (TVar x i s) (inside (TVar x i s) (inr refl))) away split.0 split.1
            (λ v k l. within v k (inside v (inl l))) part w (λ v k l. within v k (to v k l)) is o

    shown_or_blocked : IsTreatable n p d (length vs) ⊎ IsBlocked A d
    shown_or_blocked = elim (occurs_or_not (TVar x i s) t) [
      | inl o ↦ inr (occurring x i s t shows o)
      | inr away ↦ elim (narrowable_or_never A coregular index s n t (λ v o. not_fresh v (inside v (inl o)))) [ inl h ↦ inl (narrowed_then away h) | inr never ↦ inr (sortless x i s t shows never) ]
    ]

  -- At a place the left side is a schematic variable, or the right one is, or neither.
  treatable_or_blocked : (n : ℕ) (p : TypPair) (l r : Typ) (vs : List Typ) → AreAmong vs p → IsOldPair index n p → IsPlaceOf p.left p.right (pair l r) → IsTreatable n p (pair l r) (length vs) ⊎ IsBlocked A (pair l r)
  treatable_or_blocked n p (TVar x i s) r vs among old is = shown_or_blocked n p (pair (TVar x i s) r) vs among old x i s r (left_side x i s r) (λ v o. elim o [ inl a ↦ inr (is.right_inside v a) | inr e ↦ inl (is.left_inside v e) ])
  treatable_or_blocked n p (TFree y q) (TVar x i s) vs among old is = shown_or_blocked n p (pair (TFree y q) (TVar x i s)) vs among old x i s (TFree y q) (right_side x i s (TFree y q) (λ h. h)) (λ v o. elim o [ inl a ↦ inl (is.left_inside v a) | inr e ↦ inr (is.right_inside v e) ])
  treatable_or_blocked n p (Con k ts) (TVar x i s) vs among old is = shown_or_blocked n p (pair (Con k ts) (TVar x i s)) vs among old x i s (Con k ts) (right_side x i s (Con k ts) (λ h. h)) (λ v o. elim o [ inl a ↦ inl (is.left_inside v a) | inr e ↦ inr (is.right_inside v e) ])
  treatable_or_blocked n p (TFree y q) (TFree z o) vs among old is = inr (rigid (λ h. h) (λ h. h))
  treatable_or_blocked n p (TFree y q) (Con l us) vs among old is = inr (rigid (λ h. h) (λ h. h))
  treatable_or_blocked n p (Con k ts) (TFree z o) vs among old is = inr (rigid (λ h. h) (λ h. h))
  treatable_or_blocked n p (Con k ts) (Con l us) vs among old is = inr (rigid (λ h. h) (λ h. h))

  -- what comes of a pair whose variables are so few
  abbrev Settles : (fuel : ℕ) → Type 0
  Settles fuel = (n : ℕ) (p : TypPair) (vs : List Typ) → length vs < fuel → AreAmong vs p → IsOldPair index n p → IsEqualisable n p ⊎ Blocks A index n p

  treated_then : (fuel n : ℕ) (p d : TypPair) (vs : List Typ) → length vs < suc fuel → place_of p ≡ Some d → IsOldPair index n p → Settles fuel → IsTreatable n p d (length vs) ⊎ IsBlocked A d → IsEqualisable n p ⊎ Blocks A index n p
  treated_then fuel n p d vs few place old settles (inr nope) = inr (blocked d place nope)
  treated_then fuel n p d vs few place old settles (inl h) =
      let olds = (treated A index n h.reached p [] (old, tt) d h.more place h.treats).left_old in
      elim (settles h.reached (instance_pair (composed h.more) p) h.left (lower (length h.left) (length vs) fuel h.fewer few) h.among olds.0) [
        | inl e ↦ inl (record { more = h.more ++ e.more; reached = e.reached; equalises = treat d place h.treats e.equalises })
        | inr b ↦ inr (later d place h.treats b)
      ]
    where
      lower : (a b c : ℕ) → a < b → b < suc c → a < c
      lower a b c h k = omega arith

  placed_then : (fuel n : ℕ) (p : TypPair) (vs : List Typ) → length vs < suc fuel → AreAmong vs p → IsOldPair index n p → Settles fuel → (o : Option TypPair) → place_of p ≡ o → IsEqualisable n p ⊎ Blocks A index n p
  placed_then fuel n p vs few among old settles None e = inl (record { more = []; reached = n; equalises = equal e })
  placed_then fuel n p vs few among old settles (Some d) e = treated_then fuel n p d vs few e old settles (treatable_or_blocked n p d.left d.right vs among old (difference_is_place p.left p.right d e))

  settles : (fuel : ℕ) → Settles fuel
  settles zero n p vs few among old = absurd (below_none (length vs) few)
    where
      below_none : (a : ℕ) → a < zero → ⊥
      below_none a h = absurd (omega arith)
  settles (suc fuel) n p vs few among old = placed_then fuel n p vs few among old (settles fuel) (place_of p) refl

  pub equalisable_or_blocked : (n : ℕ) (p : TypPair) → IsOldPair index n p → IsEqualisable n p ⊎ Blocks A index n p
  equalisable_or_blocked n p old = settles (suc (length (schematics p.left ++ schematics p.right))) n p (schematics p.left ++ schematics p.right) (below_next (length (schematics p.left ++ schematics p.right)))
      (λ w is o. elim o [
        | inl a ↦ in-append_left w (schematics p.left) (schematics p.right) (occurs_schematics w p.left is a)
        | inr b ↦ in-append_right w (schematics p.left) (schematics p.right) (occurs_schematics w p.right is b)
      ])
      old
    where
      below_next : (a : ℕ) → a < suc a
      below_next a = omega arith

-- Settings are within the limits or not.
at_most_or_not : (a b : ℕ) → (a ≤ b) ⊎ ¬ (a ≤ b)
at_most_or_not a b = elim (at_most_or_above a b) [ inl h ↦ inl h | inr h ↦ inr (λ k. not_both a b h k) ]
  where
    at_most_or_above : (a b : ℕ) → (a ≤ b) ⊎ (b < a)
    at_most_or_above a b = grind arith

    not_both : (a b : ℕ) → b < a → a ≤ b → ⊥
    not_both a b h k = absurd (omega arith)

pub typ_within_or_not : (t : Typ) → IsWithinTyp t ⊎ ¬ IsWithinTyp t
typ_within_or_not t = elim (at_most_or_not (typ_size t) max_size) [
  | inl size ↦ elim (at_most_or_not (typ_depth t) max_depth) [ inl depth ↦ inl (record { size = size; depth = depth }) | inr deep ↦ inr (λ h. deep h.depth) ]
  | inr large ↦ inr (λ h. large h.size)
]

images_within_all : (sets : List TypBind) → Each (λ b. IsWithinTyp (composed sets (typ_variable b))) sets → (x i : ℕ) (s : List ℕ) → IsWithinTyp (composed sets (TVar x i s))
images_within_all sets each x i s = elim (any_decided (λ b. typ_variable b ≡ TVar x i s) (λ b. same_or_not (typ_variable b) (TVar x i s)) sets) [
  | inl found ↦ (let b = any_some (λ b. typ_variable b ≡ TVar x i s) sets found in
      subst (λ (v : Typ). IsWithinTyp (composed sets v)) b.2 (each_at (λ b. IsWithinTyp (composed sets (typ_variable b))) sets each b.0 b.1))
  | inr absent ↦ subst IsWithinTyp (sym (composed-absent sets (TVar x i s) tt (λ m. absent (has_entry sets (TVar x i s) m)))) (record { size = omega arith; depth = omega arith })
]

limits_or_not : (sets : List TypBind) (m : ℕ) → AreWithinLimits sets m ⊎ ¬ AreWithinLimits sets m
limits_or_not sets m = elim (each_decided (λ b. IsWithinTyp (composed sets (typ_variable b))) (λ b. typ_within_or_not (composed sets (typ_variable b))) sets) [
  | inl each ↦ elim (at_most_or_not m (2 ^ 31)) [ inl few ↦ inl (record { images = images_within_all sets each; names = few }) | inr many ↦ inr (λ h. many h.names) ]
  | inr beyond ↦ inr (λ h. beyond (each_of (λ b. IsWithinTyp (composed sets (typ_variable b))) sets (λ b m. h.images b.name b.index b.sort)))
]

module _ (A : Algebra) (coregular : IsCoregular A) (index : ℕ) where
  pub unifies_some : (ps : List TypPair) (at n : ℕ) (sets : List TypBind) → Each (IsOldPair index n) (map (instance_pair (composed sets)) ps) → (outcome : Outcome) × Unifies A index at n sets ps outcome
  unifies_some [] at n sets old = (Unified sets n, over)
  unifies_some (p ∷ ps) at n sets old = elim (equalisable_or_blocked A coregular index n (instance_pair (composed sets) p) old.0) [
    | inr b ↦ (NotTyped at, no_typing b)
    | inl h ↦ elim (limits_or_not (sets ++ h.more) h.reached) [
      | inr beyond ↦ (TooBig at, big h.equalises beyond)
      | inl within ↦ (
          let olds = (equalised A index h.equalises (map (instance_pair (composed sets)) ps) old).left_old in
          let rest = unifies_some ps (at + 1) h.reached (sets ++ h.more) (subst (Each (IsOldPair index h.reached)) (instance_pairs-append sets h.more ps) olds) in
          (rest.0, next h.equalises within rest.1))
    ]
  ]
