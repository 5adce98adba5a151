-- What is known of the variables of which more is asked than their own sorts.
use Rattle.std.proofs.Common.{◌≡◌, ℕ, ◌+◌, ◌<◌, ◌≤◌, List, [], ◌∷◌, length, get_or, take, take_all, inl, inr, ◌⊎◌, ◌↔◌, refl, ap, sym, subst, ◌∙◌, Bool, true, false, IsTrue, cond, Option, Some, None, arith}
use Rattle.std.specs.Prelude.{MatchOption}
use Rattle.std.specs.Bool.{OnTrue}
use Rattle.std.specs.BTreeMap.{BTreeMap, get, is_at}
use Rattle.std.specs.Map.{lookup}
use Rattle.std.specs.List.Sorted.{IsStrictlyIncreasing}
use Rattle.pure_text.specs.Lists.{IsIn, Each}
use Rattle.pure_text.proofs.ListLaws.{each_of, each_at, any_of, any_some, any_imply}
use Rattle.pure_text.proofs.LoopLaws.{any_turn}
use Rattle.pure_typ.specs.SortUnion.{IsSortUnion}
use Rattle.pure_definitions.specs.Types.Typ.{Typ, TVar, typ_eq}
use Rattle.pure_definitions.specs.Types.Order.{Algebra, IsClassBelow, itself, HasClassBelow, IsSortBelow}
use Rattle.pure_definitions.specs.Models.Equality.{typ_eq-same, typ_eq-itself}
use Rattle.pure_definitions.specs.Models.Comparison.{typ_cmp, typ_cmp-ties}
use Rattle.pure_definitions.proofs.OrderLaws.{below-trans}
use Rattle.pure_tunify.specs.declared.asks.Asked.{Asked}
use Rattle.pure_tunify.specs.Asking.{asked_variable, IsAskedClass, IsOwnOrAsked, AsksNoMore, IsAllAsked, AreKnown, classes_known, IsKnownHere, IsUnionAsked}

false_true : false ≡ true → ⊥
false_true e = cc

same_sort : (a v : Asked) → asked_variable a ≡ asked_variable v → a.sort ≡ v.sort
same_sort a v e = by a.name a.index v.name v.index a.sort v.sort e
  where
    by : (x i y j : ℕ) (s r : List ℕ) → TVar x i s ≡ TVar y j r → s ≡ r
    by x i y j s r e = cc

-- A class above one that is above a class of the sort.
class_above : (A : Algebra) (s : List ℕ) (b c : ℕ) → HasClassBelow A s b → IsClassBelow A b c → HasClassBelow A s c
class_above A s b c h below = any_imply (λ x. IsClassBelow A x b) (λ x. IsClassBelow A x c) s (λ x k. below-trans k below) h

own_class : (A : Algebra) (s : List ℕ) (c : ℕ) → IsIn c s → HasClassBelow A s c
own_class A s c m = any_of (λ b. IsClassBelow A b c) c s m itself

module _ (A : Algebra) (asked : List Asked) (v : Asked) (all : List ℕ) (are : IsAllAsked A asked v all) where
  -- Where its own sort is below all that is asked, no more is asked.
  pub no_more_asked : (b : Bool) → (IsTrue b ↔ IsSortBelow A v.sort all) → b ≡ true → AsksNoMore A asked v
  no_more_asked b test e c m = let found = any_some (λ x. IsClassBelow A x c) all (are.below c (inr m)) in
      class_above A v.sort found.0 c (each_at (HasClassBelow A v.sort) all (test.0 e) found.0 found.1) found.2

  -- Where it isn't, more is.
  pub more_asked : (b : Bool) → (IsTrue b ↔ IsSortBelow A v.sort all) → b ≡ false → ¬ AsksNoMore A asked v
  more_asked b test e h = false_true (sym e ∙ test.1 (each_of (HasClassBelow A v.sort) all (λ c m. from c (are.among c m))))
    where
      from : (c : ℕ) → IsOwnOrAsked asked v c → HasClassBelow A v.sort c
      from c (inl own) = own_class A v.sort c own
      from c (inr m) = h c m

  -- The reduced sort of all that is asked.
  pub union_of_asked : (u : List ℕ) → IsSortBelow A u all × IsSortBelow A all u → ((b c : ℕ) → IsIn b u → IsIn c u → IsClassBelow A b c → b ≡ c) → IsStrictlyIncreasing u → IsUnionAsked A asked v u
  union_of_asked u below least ascend = record {
    above = λ c h. (
        let b = any_some (λ x. IsClassBelow A x c) u h in
        let a = any_some (λ x. IsClassBelow A x b.0) all (each_at (HasClassBelow A all) u below.1 b.0 b.1) in
        (a.0, are.among a.0 a.1, below-trans a.2 b.2));
    below = λ b own. (
        let a = any_some (λ x. IsClassBelow A x b) all (are.below b own) in
        class_above A u a.0 b (each_at (HasClassBelow A u) all below.0 a.0 a.1) a.2);
    reduced = least;
    ascend = ascend;
  }

-- Nothing is known of any variable.
none_known : (known : BTreeMap Typ (List ℕ)) → known.entries ≡ [] → (v : Typ) → get typ_cmp known v ≡ None
none_known known empty v = ap (λ (es : List (Typ × List ℕ)). lookup (is_at (typ_cmp v)) es) empty

-- At first nothing is asked.
pub known_first : (A : Algebra) (asked : List Asked) (known : BTreeMap Typ (List ℕ)) → known.entries ≡ [] → AreKnown A (take 0 asked) known
known_first A asked known empty a = subst (λ (o : Option (List ℕ)). MatchOption o (AsksNoMore A (take 0 asked) a) (IsAllAsked A (take 0 asked) a)) (sym (none_known known empty (asked_variable a))) (λ c m. absurd m)

-- One place more.
module _ (A : Algebra) (asked : List Asked) (i : ℕ) (a : Asked) (within : i < length asked) (read : a ≡ get_or asked i a) where
  turn : (v : Asked) (c : ℕ) → IsAskedClass (asked_variable v) (take (i + 1) asked) c ↔ (IsAskedClass (asked_variable v) (take i asked) c ⊎ ((asked_variable a ≡ asked_variable v) × IsIn c a.asked))
  turn v c = any_turn (λ x. (asked_variable x ≡ asked_variable v) × IsIn c x.asked) asked i a within read

  -- Where what is asked here is above what is known, it stays.
  stays_known : (v : Asked) (o : Option (List ℕ)) → ((c : ℕ) → asked_variable a ≡ asked_variable v → IsIn c a.asked → HasClassBelow A v.sort c)
      → MatchOption o (AsksNoMore A (take i asked) v) (IsAllAsked A (take i asked) v) → MatchOption o (AsksNoMore A (take (i + 1) asked) v) (IsAllAsked A (take (i + 1) asked) v)
  stays_known v None here h = λ c m. elim ((turn v c).0 m) [ inl k ↦ h c k | inr p ↦ here c p.0 p.1 ]
  stays_known v (Some all) here h = record {
    among = λ c m. elim (h.among c m) [ inl own ↦ inl own | inr k ↦ inr ((turn v c).1 (inl k)) ];
    below = λ c w. elim w [ inl own ↦ h.below c (inl own) | inr m ↦ elim ((turn v c).0 m) [ inl k ↦ h.below c (inr k) | inr p ↦ lower c (here c p.0 p.1) ] ];
  }
    where
      lower : (c : ℕ) → HasClassBelow A v.sort c → HasClassBelow A all c
      lower c k = let b = any_some (λ x. IsClassBelow A x c) v.sort k in class_above A all b.0 c (h.below b.0 (inl b.1)) b.2

  -- What was known with what is asked here.
  joined_known : (v : Asked) (o : Option (List ℕ)) (all : List ℕ) → asked_variable a ≡ asked_variable v → IsSortUnion (classes_known a o) a.asked all
      → MatchOption o (AsksNoMore A (take i asked) v) (IsAllAsked A (take i asked) v) → IsAllAsked A (take (i + 1) asked) v all
  joined_known v o all same union h = record {
    among = λ c m. elim ((union.members c).0 m) [ inl k ↦ before c o h k | inr k ↦ inr ((turn v c).1 (inr (same, k))) ];
    below = λ c w. elim w [ inl own ↦ lower c (own_below c o h own) | inr m ↦ elim ((turn v c).0 m) [ inl k ↦ lower c (asked_below c o h k) | inr p ↦ own_class A all c ((union.members c).1 (inr p.1)) ] ];
  }
    where
      before : (c : ℕ) (o : Option (List ℕ)) → MatchOption o (AsksNoMore A (take i asked) v) (IsAllAsked A (take i asked) v) → IsIn c (classes_known a o) → IsOwnOrAsked (take (i + 1) asked) v c
      before c None h k = inl (subst (IsIn c) (same_sort a v same) k)
      before c (Some all) h k = elim (h.among c k) [ inl own ↦ inl own | inr m ↦ inr ((turn v c).1 (inl m)) ]

      own_below : (c : ℕ) (o : Option (List ℕ)) → MatchOption o (AsksNoMore A (take i asked) v) (IsAllAsked A (take i asked) v) → IsIn c v.sort → HasClassBelow A (classes_known a o) c
      own_below c None h own = own_class A a.sort c (subst (IsIn c) (sym (same_sort a v same)) own)
      own_below c (Some all) h own = h.below c (inl own)

      asked_below : (c : ℕ) (o : Option (List ℕ)) → MatchOption o (AsksNoMore A (take i asked) v) (IsAllAsked A (take i asked) v) → IsAskedClass (asked_variable v) (take i asked) c → HasClassBelow A (classes_known a o) c
      asked_below c None h k = subst (λ (s : List ℕ). HasClassBelow A s c) (sym (same_sort a v same)) (h c k)
      asked_below c (Some all) h k = h.below c (inr k)

      lower : (c : ℕ) → HasClassBelow A (classes_known a o) c → HasClassBelow A all c
      lower c k = let b = any_some (λ x. IsClassBelow A x c) (classes_known a o) k in any_of (λ x. IsClassBelow A x c) b.0 all ((union.members b.0).1 (inl b.1)) b.2

  pub known_turn : (old new : BTreeMap Typ (List ℕ)) → AreKnown A (take i asked) old → IsKnownHere A a old new → AreKnown A (take (i + 1) asked) new
  known_turn old new h (inl stays) v = subst (λ (known : BTreeMap Typ (List ℕ)). MatchOption (get typ_cmp known (asked_variable v)) (AsksNoMore A (take (i + 1) asked) v) (IsAllAsked A (take (i + 1) asked) v)) (sym stays.0)
      (stays_known v (get typ_cmp old (asked_variable v)) (λ c same k. subst (λ (s : List ℕ). HasClassBelow A s c) (same_sort a v same) (each_at (HasClassBelow A a.sort) a.asked stays.1 c k)) (h v))
  known_turn old new h (inr more) v = subst (λ (o : Option (List ℕ)). MatchOption o (AsksNoMore A (take (i + 1) asked) v) (IsAllAsked A (take (i + 1) asked) v)) (sym (more.2.0 (asked_variable v))) (by (is_at (typ_cmp (asked_variable a)) (asked_variable v)) refl)
    where
      by : (b : Bool) → is_at (typ_cmp (asked_variable a)) (asked_variable v) ≡ b → MatchOption (cond b (Some more.0) (get typ_cmp old (asked_variable v))) (AsksNoMore A (take (i + 1) asked) v) (IsAllAsked A (take (i + 1) asked) v)
      by true e =
          let same : asked_variable a ≡ asked_variable v = typ_eq-same (asked_variable a) (asked_variable v) (typ_cmp-ties (asked_variable a) (asked_variable v) ∙ e) in
          joined_known v (get typ_cmp old (asked_variable v)) more.0 same (subst (λ (u : Typ). IsSortUnion (classes_known a (get typ_cmp old u)) a.asked more.0) same more.1) (h v)
      by false e = stays_known v (get typ_cmp old (asked_variable v)) (λ c same k. absurd (false_true (sym e ∙ (sym (typ_cmp-ties (asked_variable a) (asked_variable v)) ∙ subst (λ (u : Typ). typ_eq (asked_variable a) u ≡ true) same (typ_eq-itself (asked_variable a)))))) (h v)

pub known_all : (A : Algebra) (asked : List Asked) (i : ℕ) (known : BTreeMap Typ (List ℕ)) → length asked ≤ i → AreKnown A (take i asked) known → AreKnown A asked known
known_all A asked i known full h = subst (λ (xs : List Asked). AreKnown A xs known) (take_all i asked full) h

-- What is found of a variable.
pub found_none : (A : Algebra) (asked : List Asked) (a : Asked) (o : Option (List ℕ)) → MatchOption o (AsksNoMore A asked a) (IsAllAsked A asked a) → None ≡ o → AsksNoMore A asked a
found_none A asked a o h e = subst (λ (x : Option (List ℕ)). MatchOption x (AsksNoMore A asked a) (IsAllAsked A asked a)) (sym e) h

pub found_some : (A : Algebra) (asked : List Asked) (a : Asked) (o : Option (List ℕ)) (all : List ℕ) → MatchOption o (AsksNoMore A asked a) (IsAllAsked A asked a) → Some all ≡ o → IsAllAsked A asked a all
found_some A asked a o all h e = subst (λ (x : Option (List ℕ)). MatchOption x (AsksNoMore A asked a) (IsAllAsked A asked a)) (sym e) h

pub nothing_asked : (A : Algebra) (asked : List Asked) (known : BTreeMap Typ (List ℕ)) → AreKnown A asked known → known.entries ≡ [] → Each (AsksNoMore A asked) asked
nothing_asked A asked known are empty = each_of (AsksNoMore A asked) asked (λ a m. found_none A asked a (get typ_cmp known (asked_variable a)) (are a) (sym (none_known known empty (asked_variable a))))

pub empty_known : (known : BTreeMap Typ (List ℕ)) (b : Bool) → (IsTrue b ↔ (length known.entries ≡ 0)) → OnTrue b (known.entries ≡ [])
empty_known known false test = tt
empty_known known true test = none known.entries (test.0 refl)
  where
    none : (es : List (Typ × List ℕ)) → length es ≡ 0 → es ≡ []
    none [] e = refl
    none (x ∷ xs) e = absurd (omega arith)
