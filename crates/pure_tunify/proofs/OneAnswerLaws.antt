-- The procedure comes to one outcome at most.
use Rattle.std.proofs.Common.{◌≡◌, ℕ, ◌+◌, ◌<◌, List, [], ◌∷◌, ◌++◌, suc, Some, None, inl, inr, refl, sym, subst, ◌∙◌, arith}
use Rattle.std.specs.List.Sorted.{IsStrictlyIncreasing}
use Rattle.pure_text.specs.Lists.{IsIn, Each}
use Rattle.pure_text.proofs.ListLaws.{each_of, each_at, any_of, any_some}
use Rattle.pure_definitions.specs.Types.Typ.{Typ, TVar}
use Rattle.pure_definitions.specs.Types.Occurs.{OccursInTyp}
use Rattle.pure_definitions.specs.Types.Order.{Algebra, IsClassBelow, itself, HasClassBelow, IsOfClass, IsOfSort}
use Rattle.pure_definitions.specs.Terms.Subst.{TypBind, typ_instance}
use Rattle.pure_definitions.proofs.OrderLaws.{below-trans}
use Rattle.pure_order.specs.OrderTables.Classes.{IsAntisymmetric}
use Rattle.pure_term_laws.proofs.SubstLaws.{typ_instance-identity}
use Rattle.pure_term_laws.proofs.MapLaws.{typ_instance-again}
use Rattle.pure_tunify.specs.declared.pair.TypPair.{TypPair}
use Rattle.pure_tunify.specs.Unifiers.{IsSubstitution}
use Rattle.pure_tunify.specs.Asks.{HasNoInstance}
use Rattle.pure_tunify.specs.Steps.{setting, instance_pair}
use Rattle.pure_tunify.specs.Settings.{composed, bind, AreWithinLimits}
use Rattle.pure_tunify.specs.Procedure.{place_of, IsSchematic, Shows, left_side, right_side, NeedsNoMore, IsNeededSort, IsFirstToNarrow, Narrows, fits, replace, IsTreated, IsBlocked, rigid, occurring, sortless, Equalises, equal, treat, Blocks, blocked, later, Outcome, Unifies, over, no_typing, big, next}
use Rattle.pure_tunify.proofs.MapLaws.{identity_is_substitution, after_is_substitution, setting_is_substitution}

rises_behind : (x : ℕ) (xs : List ℕ) → IsStrictlyIncreasing (x ∷ xs) → IsStrictlyIncreasing xs
rises_behind x xs rises k within = let later : suc k + 1 ≡ suc (k + 1) = omega arith in rw later at (rises (suc k) (omega arith))

rises_first : (x y : ℕ) (xs : List ℕ) → IsStrictlyIncreasing (x ∷ xs) → IsIn y xs → x < y
rises_first x y [] rises m = absurd m
rises_first x y (z ∷ zs) rises (inl e) = let first = rises 0 (omega arith) in rw e first
rises_first x y (z ∷ zs) rises (inr m) = let first = rises 0 (omega arith) in let rest = rises_first z y zs (rises_behind x (z ∷ zs) rises) m in omega arith

-- Ascending lists with the same members are one.
same_members : (xs ys : List ℕ) → IsStrictlyIncreasing xs → IsStrictlyIncreasing ys → ((c : ℕ) → IsIn c xs → IsIn c ys) → ((c : ℕ) → IsIn c ys → IsIn c xs) → xs ≡ ys
same_members [] [] f g there back = refl
same_members [] (y ∷ ys) f g there back = absurd (back y (inl refl))
same_members (x ∷ xs) [] f g there back = absurd (there x (inl refl))
same_members (x ∷ xs) (y ∷ ys) f g there back =
    let first = same_first (there x (inl refl)) (back y (inl refl)) in
    let rest = same_members xs ys (rises_behind x xs f) (rises_behind y ys g)
    (λ c m. behind x y c xs ys first (rises_first x c xs f m) (there c (inr m)))
    (λ c m. behind y x c ys xs (sym first) (rises_first y c ys g m) (back c (inr m))) in
    λ i. first i ∷ rest i
  where
    same_first : IsIn x (y ∷ ys) → IsIn y (x ∷ xs) → x ≡ y
    same_first (inl e) m = e
    same_first (inr n) (inl e) = sym e
    same_first (inr n) (inr m) = let a = rises_first y x ys g n in let b = rises_first x y xs f m in absurd (omega arith)

    behind : (x y c : ℕ) (xs ys : List ℕ) → x ≡ y → x < c → IsIn c (y ∷ ys) → IsIn c ys
    behind x y c xs ys e above (inl f) = absurd (omega arith)
    behind x y c xs ys e above (inr m) = m

-- The sort that is needed of a variable is one.
needed_member : (A : Algebra) (t v : Typ) (s r q : List ℕ) → IsAntisymmetric A → IsNeededSort A t s v r → IsNeededSort A t s v q → (c : ℕ) → IsIn c r → IsIn c q
needed_member A t v s r q anti f g c m =
    let b = any_some (λ x. IsClassBelow A x c) q ((g.needed c).1 ((f.needed c).0 (any_of (λ x. IsClassBelow A x c) c r m itself))) in
    let a = any_some (λ x. IsClassBelow A x b.0) r ((f.needed b.0).1 ((g.needed b.0).0 (any_of (λ x. IsClassBelow A x b.0) b.0 q b.1 itself))) in
    let same = f.reduced a.0 c a.1 m (below-trans a.2 b.2) in
    let back = subst (λ (x : ℕ). IsClassBelow A x b.0) same a.2 in
    subst (λ (x : ℕ). IsIn x q) (anti b.0 c b.2 back) b.1

needed_one : (A : Algebra) (t v : Typ) (s r q : List ℕ) → IsAntisymmetric A → IsNeededSort A t s v r → IsNeededSort A t s v q → r ≡ q
needed_one A t v s r q anti f g = same_members r q f.ascend g.ascend (needed_member A t v s r q anti f g) (needed_member A t v s q r anti g f)

-- The first that doesn't have a property is one.
first_one : (P : Typ → Type 0) (xs ys : List Typ) (v w : Typ) (us ws : List Typ) → xs ++ v ∷ us ≡ ys ++ w ∷ ws → Each P xs → ¬ P v → Each P ys → ¬ P w → v ≡ w
first_one P [] [] v w us ws e f nope g none = cc
first_one P [] (y ∷ ys) v w us ws e f nope g none = let same : v ≡ y = cc in absurd (nope (subst P (sym same) g.0))
first_one P (x ∷ xs) [] v w us ws e f nope g none = let same : x ≡ w = cc in absurd (none (subst P same f.0))
first_one P (x ∷ xs) (y ∷ ys) v w us ws e f nope g none = let rest : xs ++ v ∷ us ≡ ys ++ w ∷ ws = cc in first_one P xs ys v w us ws rest f.1 nope g.1 none

first_to_narrow_one : (A : Algebra) (t v w : Typ) (s : List ℕ) → IsFirstToNarrow A t s v → IsFirstToNarrow A t s w → v ≡ w
first_to_narrow_one A t v w s f g = first_one (NeedsNoMore A t s) f.front g.front v w f.back g.back (sym f.stands ∙ g.stands) f.before f.here g.before g.here

-- Where a type is of the sort there is nothing to narrow.
nothing_first : (A : Algebra) (t v : Typ) (s : List ℕ) → IsOfSort A t s → IsFirstToNarrow A t s v → ⊥
nothing_first A t v s of first = first.here (λ c need. need (λ u. u) (identity_is_substitution A) (subst (λ (T : Typ). IsOfSort A T s) (sym (typ_instance-identity t)) of))

same_name : (x i y j : ℕ) (s r : List ℕ) → TVar x i s ≡ TVar y j r → x ≡ y
same_name x i y j s r e = cc

same_index : (x i y j : ℕ) (s r : List ℕ) → TVar x i s ≡ TVar y j r → i ≡ j
same_index x i y j s r e = cc

same_sort : (x i y j : ℕ) (s r : List ℕ) → TVar x i s ≡ TVar y j r → s ≡ r
same_sort x i y j s r e = cc

module _ (A : Algebra) (anti : IsAntisymmetric A) (index : ℕ) where
  narrows_one : (s : List ℕ) {n m k : ℕ} {t u w : Typ} {xs ys : List TypBind} → Narrows A index s n t xs m u → Narrows A index s n t ys k w → (xs ≡ ys) × (m ≡ k) × (u ≡ w)
  narrows_one s (fits of) (fits of_sort) = (refl, refl, refl)
  narrows_one s (fits {t = t} of) (replace y j q r first need rest) = absurd (nothing_first A t (TVar y j q) s of first)
  narrows_one s (replace {t = t} y j q r first need rest) (fits of) = absurd (nothing_first A t (TVar y j q) s of first)
  narrows_one s (replace {n = n} {m = m} {t = t} {u = u} {more = more} y j q r first need rest) (replace {m = k} {u = w} {more = others} z l o p second wanted further) =
      let same = first_to_narrow_one A t (TVar y j q) (TVar z l o) s first second in
      let name = same_name y j z l q o same in
      let number = same_index y j z l q o same in
      let sort = same_sort y j z l q o same in
      let narrowed = needed_one A t (TVar z l o) s r p anti (subst (λ (v : Typ). IsNeededSort A t s v r) same need) wanted in
      let types : typ_instance (setting y j q (TVar n index r)) t ≡ typ_instance (setting z l o (TVar n index p)) t = λ a. typ_instance (setting (name a) (number a) (sort a) (TVar n index (narrowed a))) t in
      let one = narrows_one s rest (subst (λ (T : Typ). Narrows A index s (n + 1) T others k w) (sym types) further) in
      (λ a. bind (name a) (number a) (sort a) (TVar n index (narrowed a)) ∷ one.0 a, one.1, one.2)

  -- What is narrowed has an instance of the sort.
  narrows_instance : (s : List ℕ) {n m : ℕ} {t u : Typ} {xs : List TypBind} → Narrows A index s n t xs m u → ¬ HasNoInstance A t s
  narrows_instance s (fits {t = t} of) never = never (λ v. v) (identity_is_substitution A) (subst (λ (T : Typ). IsOfSort A T s) (sym (typ_instance-identity t)) of)
  narrows_instance s (replace {n = n} {t = t} y j q r first need rest) never = narrows_instance s rest (λ typs sub of.
      never (λ v. typ_instance typs (setting y j q (TVar n index r) v)) (after_is_substitution A (setting y j q (TVar n index r)) typs set sub) (subst (λ (T : Typ). IsOfSort A T s) (typ_instance-again (setting y j q (TVar n index r)) typs t) of))
    where
      set : IsSubstitution A (setting y j q (TVar n index r))
      set = setting_is_substitution A y j q (TVar n index r) (each_of (HasClassBelow A r) q (λ c m. (need.needed c).1 (λ typs v of. each_at (IsOfClass A (typs (TVar y j q))) q (v.respects.schematic y j q) c m)))

shows_one : {d : TypPair} {x i y j : ℕ} {s r : List ℕ} {t u : Typ} → Shows d x i s t → Shows d y j r u → (TVar x i s ≡ TVar y j r) × (t ≡ u)
shows_one (left_side x i s t) (left_side y j r u) = (refl, refl)
shows_one (left_side x i s t) (right_side y j r u nope) = absurd (nope tt)
shows_one (right_side x i s t nope) (left_side y j r u) = absurd (nope tt)
shows_one (right_side x i s t nope) (right_side y j r u not) = (refl, refl)

module _ (A : Algebra) (anti : IsAntisymmetric A) (index : ℕ) where
  treated_one : (n m k : ℕ) (d : TypPair) (xs ys : List TypBind) → IsTreated A index n d xs m → IsTreated A index n d ys k → (xs ≡ ys) × (m ≡ k)
  treated_one n m k d xs ys f g =
      let shown = shows_one f.shown g.shown in
      let sort = same_sort f.name f.number g.name g.number f.sort g.sort shown.0 in
      let name = same_name f.name f.number g.name g.number f.sort g.sort shown.0 in
      let number = same_index f.name f.number g.name g.number f.sort g.sort shown.0 in
      let one = narrows_one A anti index f.sort f.narrows (subst (λ (r : List ℕ). Narrows A index r n f.other g.narrowed k g.image) (sym sort) (subst (λ (u : Typ). Narrows A index g.sort n u g.narrowed k g.image) (sym shown.1) g.narrows)) in
      let settings : f.narrowed ++ bind f.name f.number f.sort f.image ∷ [] ≡ g.narrowed ++ bind g.name g.number g.sort g.image ∷ [] = λ a. one.0 a ++ bind (name a) (number a) (sort a) (one.2 a) ∷ [] in
      (f.are ∙ (settings ∙ sym g.are), one.1)

  shown_schematic : (d : TypPair) (x i : ℕ) (s : List ℕ) (t : Typ) → Shows d x i s t → ¬ IsSchematic d.left → ¬ IsSchematic d.right → ⊥
  shown_schematic d x i s t (left_side y j r u) h k = h tt
  shown_schematic d x i s t (right_side y j r u nope) h k = k tt

  treated_not_blocked : (n m : ℕ) (d : TypPair) (xs : List TypBind) → IsTreated A index n d xs m → IsBlocked A d → ⊥
  treated_not_blocked n m d xs f (rigid h k) = shown_schematic d f.name f.number f.sort f.other f.shown h k
  treated_not_blocked n m d xs f (occurring x i s t shows o) =
      let shown = shows_one f.shown shows in
      f.free (subst (λ (v : Typ). OccursInTyp v f.other) (sym shown.0) (subst (OccursInTyp (TVar x i s)) (sym shown.1) o))
  treated_not_blocked n m d xs f (sortless x i s t shows never) =
      let shown = shows_one f.shown shows in
      narrows_instance A anti index f.sort f.narrows (subst (HasNoInstance A f.other) (sym (same_sort f.name f.number x i f.sort s shown.0)) (subst (λ (u : Typ). HasNoInstance A u s) (sym shown.1) never))

  some_one : (d e : TypPair) (p : TypPair) → place_of p ≡ Some d → place_of p ≡ Some e → d ≡ e
  some_one d e p f g = cc

  none_or_some : (d : TypPair) (p : TypPair) → place_of p ≡ None → place_of p ≡ Some d → ⊥
  none_or_some d p f g = cc

  equalises_one : {n m k : ℕ} {p : TypPair} {xs ys : List TypBind} → Equalises A index n p xs m → Equalises A index n p ys k → (xs ≡ ys) × (m ≡ k)
  equalises_one (equal f) (equal g) = (refl, refl)
  equalises_one (equal {p = p} f) (treat d g at rest) = absurd (none_or_some d p f g)
  equalises_one (treat {p = p} d g at rest) (equal f) = absurd (none_or_some d p f g)
  equalises_one (treat {n = n} {k = a} {p = p} {first = first} d f at rest) (treat {k = b} {m = c} {first = other} {more = others} e g there further) =
      let one = treated_one n a b d first other at (subst (λ (q : TypPair). IsTreated A index n q other b) (sym (some_one d e p f g)) there) in
      let both = equalises_one rest (subst (λ (x : ℕ). Equalises A index x (instance_pair (composed first) p) others c) (sym one.1) (subst (λ (sets : List TypBind). Equalises A index b (instance_pair (composed sets) p) others c) (sym one.0) further)) in
      (λ l. one.0 l ++ both.0 l, both.1)

  equalised_not_blocked : {n m : ℕ} {p : TypPair} {xs : List TypBind} → Equalises A index n p xs m → Blocks A index n p → ⊥
  equalised_not_blocked (equal {p = p} f) (blocked d g h) = none_or_some d p f g
  equalised_not_blocked (equal {p = p} f) (later d g at rest) = none_or_some d p f g
  equalised_not_blocked (treat {n = n} {k = k} {p = p} {first = first} d f at rest) (blocked e g h) = treated_not_blocked n k d first at (subst (IsBlocked A) (sym (some_one d e p f g)) h)
  equalised_not_blocked (treat {n = n} {k = a} {p = p} {first = first} d f at rest) (later {k = b} {first = other} e g there further) =
      let one = treated_one n a b d first other at (subst (λ (q : TypPair). IsTreated A index n q other b) (sym (some_one d e p f g)) there) in
      equalised_not_blocked rest (subst (λ (x : ℕ). Blocks A index x (instance_pair (composed first) p)) (sym one.1) (subst (λ (sets : List TypBind). Blocks A index b (instance_pair (composed sets) p)) (sym one.0) further))

  limits_same : (sets xs ys : List TypBind) (m k : ℕ) → (xs ≡ ys) × (m ≡ k) → AreWithinLimits (sets ++ xs) m → AreWithinLimits (sets ++ ys) k
  limits_same sets xs ys m k same h = subst (λ (x : ℕ). AreWithinLimits (sets ++ ys) x) same.1 (subst (λ (zs : List TypBind). AreWithinLimits (sets ++ zs) m) same.0 h)

  pub unifies_one : {at n : ℕ} {sets : List TypBind} {ps : List TypPair} {first second : Outcome} → Unifies A index at n sets ps first → Unifies A index at n sets ps second → first ≡ second
  unifies_one over over = refl
  unifies_one (no_typing b) (no_typing c) = refl
  unifies_one (no_typing b) (big e nope) = absurd (equalised_not_blocked e b)
  unifies_one (no_typing b) (next e within rest) = absurd (equalised_not_blocked e b)
  unifies_one (big e nope) (no_typing b) = absurd (equalised_not_blocked e b)
  unifies_one (big e nope) (big f none) = refl
  unifies_one (big {m = m} {sets = sets} {more = xs} e nope) (next {m = k} {more = ys} f within rest) = absurd (nope (limits_same sets ys xs k m (equalises_one f e) within))
  unifies_one (next e within rest) (no_typing b) = absurd (equalised_not_blocked e b)
  unifies_one (next {m = m} {sets = sets} {more = xs} e within rest) (big {m = k} {more = ys} f nope) = absurd (nope (limits_same sets xs ys m k (equalises_one e f) within))
  unifies_one (next {at = at} {m = m} {sets = sets} {more = xs} {ps = ps} e within rest) (next {m = k} {more = ys} {outcome = outcome} f limits further) =
      let same = equalises_one e f in
      unifies_one rest (subst (λ (x : ℕ). Unifies A index (at + 1) x (sets ++ xs) ps outcome) (sym same.1) (subst (λ (zs : List TypBind). Unifies A index (at + 1) k (sets ++ zs) ps outcome) (sym same.0) further))
