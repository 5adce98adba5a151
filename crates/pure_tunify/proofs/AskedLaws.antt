-- Over a coregular algebra each sort asks something of the variables of a type, or no instance of the type is of the sort.
use Rattle.std.proofs.Common.{◌≡◌, ℕ, List, [], ◌∷◌, ◌++◌, map, length, suc, zero, inl, inr, ◌⊎◌, ◌↔◌, refl, ap, sym, ◌∙◌, arith}
use Rattle.std.proofs.lemmas.Bool.Decides.{eqb_tells}
use Rattle.std.proofs.lemmas.List.{map-append}
use Rattle.pure_text.specs.Lists.{Each}
use Rattle.pure_text.proofs.ListLaws.{each-append, each-left, each-right}
use Rattle.pure_definitions.specs.Types.Typ.{Typ, TFree, TVar, Con, Typs, none, also, typs_count}
use Rattle.pure_definitions.specs.Types.Order.{Algebra, IsSortBelow, IsOfClass, IsOfSort, AreOfSorts, IsCoregular}
use Rattle.pure_definitions.specs.Terms.Subst.{typs_instance}
use Rattle.pure_term_laws.proofs.MapLaws.{typs_count-instance}
use Rattle.pure_tunify.specs.declared.asks.Asked.{Asked}
use Rattle.pure_tunify.specs.Unifiers.{IsSubstitution}
use Rattle.pure_tunify.specs.Occurrences.{schematics, schematics_of}
use Rattle.pure_tunify.specs.Asking.{asked_variable}
use Rattle.pure_tunify.specs.Asks.{IsMet, AreAsked, HasNoInstance}
use Rattle.pure_tunify.proofs.DecidedLaws.{sort_below_or_not, domains_or_none}

-- so many sorts without classes, and the sorts of two lists put together at each place
abbrev no_sorts : ℕ → List (List ℕ)
no_sorts zero = []
no_sorts (suc n) = [] ∷ no_sorts n

no_sorts_long : (n : ℕ) → length (no_sorts n) ≡ n
no_sorts_long zero = refl
no_sorts_long (suc n) = ap suc (no_sorts_long n)

abbrev joined : List (List ℕ) → List (List ℕ) → List (List ℕ)
joined (s ∷ ss) (r ∷ rs) = (s ++ r) ∷ joined ss rs
joined _ _ = []

joined_long : (ss rs : List (List ℕ)) → length ss ≡ length rs → length (joined ss rs) ≡ length ss
joined_long [] [] same = refl
joined_long [] (r ∷ rs) same = absurd (omega arith)
joined_long (s ∷ ss) [] same = absurd (omega arith)
joined_long (s ∷ ss) (r ∷ rs) same = ap suc (joined_long ss rs (omega arith))

module _ (A : Algebra) where
  of_no_sorts : (ts : Typs) (n : ℕ) → typs_count ts ≡ n → AreOfSorts A ts (no_sorts n)
  of_no_sorts none zero same = tt
  of_no_sorts none (suc n) same = absurd (omega arith)
  of_no_sorts (also t ts) zero same = absurd (omega arith)
  of_no_sorts (also t ts) (suc n) same = (tt, of_no_sorts ts n (omega arith))

  of_joined : (ts : Typs) (ss rs : List (List ℕ)) → length ss ≡ length rs → AreOfSorts A ts (joined ss rs) ↔ (AreOfSorts A ts ss × AreOfSorts A ts rs)
  of_joined none [] [] same = (λ h. (tt, tt), λ w. tt)
  of_joined (also t ts) [] [] same = (λ h. absurd h, λ w. absurd w.0)
  of_joined ts [] (r ∷ rs) same = absurd (omega arith)
  of_joined ts (s ∷ ss) [] same = absurd (omega arith)
  of_joined none (s ∷ ss) (r ∷ rs) same = (λ h. absurd h, λ w. absurd w.0)
  of_joined (also t ts) (s ∷ ss) (r ∷ rs) same =
      let rest = of_joined ts ss rs (omega arith) in (
        λ h. ((each-left (IsOfClass A t) s r h.0, (rest.0 h.1).0), (each-right (IsOfClass A t) s r h.0, (rest.0 h.1).1)),
        λ w. (each-append (IsOfClass A t) s r w.0.0 w.1.0, rest.1 (w.0.1, w.1.1)),
      )

  of_sorts_long : (ts : Typs) (ss : List (List ℕ)) → AreOfSorts A ts ss → typs_count ts ≡ length ss
  of_sorts_long none [] h = refl
  of_sorts_long none (s ∷ ss) h = absurd h
  of_sorts_long (also t ts) [] h = absurd h
  of_sorts_long (also t ts) (s ∷ ss) h = let rest = of_sorts_long ts ss h.1 in omega arith

  -- A sort asks these sorts of so many arguments.
  record AsksArguments (k : ℕ) (s : List ℕ) (count : ℕ) : Type 0 where
    sorts : List (List ℕ)
    long : length sorts ≡ count
    exactly : (ts : Typs) → typs_count ts ≡ count → IsOfSort A (Con k ts) s ↔ AreOfSorts A ts sorts

  abbrev NoArguments : (k : ℕ) → List ℕ → (count : ℕ) → Type 0
  NoArguments k s count = (ts : Typs) → typs_count ts ≡ count → ¬ IsOfSort A (Con k ts) s

  -- What a sort asks of the variables of a type, in order.
  pub record WhatIsAsked (t : Typ) (s : List ℕ) : Type 0 where
    pub asked : List Asked
    pub are : AreAsked A t s asked
    pub order : map asked_variable asked ≡ schematics t

  -- the same of types, each with its own sort
  record WhatIsAskedOfEach (ts : Typs) (sorts : List (List ℕ)) : Type 0 where
    asked : List Asked
    are : (typs : Typ → Typ) → IsSubstitution A typs → AreOfSorts A (typs_instance typs ts) sorts ↔ Each (IsMet A typs) asked
    order : map asked_variable asked ≡ schematics_of ts

  abbrev HaveNone : Typs → List (List ℕ) → Type 0
  HaveNone ts sorts = (typs : Typ → Typ) → IsSubstitution A typs → ¬ AreOfSorts A (typs_instance typs ts) sorts

  module _ (coregular : IsCoregular A) where
    class_more : (k c : ℕ) (s : List ℕ) (count : ℕ) (before : AsksArguments k s count) (domains : List (List ℕ)) → ((ts : Typs) → IsOfClass A (Con k ts) c ↔ AreOfSorts A ts domains)
        → (length domains ≡ count) ⊎ ¬ (length domains ≡ count) → AsksArguments k (c ∷ s) count ⊎ NoArguments k (c ∷ s) count
    class_more k c s count before domains by (inl same) = inl (record {
      sorts = joined domains before.sorts;
      long = joined_long domains before.sorts (same ∙ sym before.long) ∙ same;
      exactly = λ ts many. (
          let each = of_joined ts domains before.sorts (same ∙ sym before.long) in
          (λ h. each.1 ((by ts).0 h.0, (before.exactly ts many).0 h.1), λ e. ((by ts).1 (each.0 e).0, (before.exactly ts many).1 (each.0 e).1)));
    })
    class_more k c s count before domains by (inr other) = inr (λ ts many h. other (sym (of_sorts_long ts domains ((by ts).0 h.0)) ∙ many))

    same_number : (m n : ℕ) → (m ≡ n) ⊎ ¬ (m ≡ n)
    same_number m n = elim (eqb_tells m n) [ inl w ↦ inl w.1 | inr w ↦ inr w.1 ]

    arguments_asked : (k : ℕ) (s : List ℕ) (count : ℕ) → AsksArguments k s count ⊎ NoArguments k s count
    arguments_asked k [] count = inl (record { sorts = no_sorts count; long = no_sorts_long count; exactly = λ ts many. (λ h. of_no_sorts ts count many, λ e. tt) })
    arguments_asked k (c ∷ s) count = elim (arguments_asked k s count) [
      | inr nope ↦ inr (λ ts many h. nope ts many h.1)
      | inl before ↦ elim (domains_or_none A coregular k c) [
        | inr never ↦ inr (λ ts many h. never ts h.0)
        | inl found ↦ class_more k c s count before found.0 found.1 (same_number (length found.0) count)
      ]
    ]

    fixed_asked : (x : ℕ) (own s : List ℕ) → IsSortBelow A own s ⊎ ¬ IsSortBelow A own s → WhatIsAsked (TFree x own) s ⊎ HasNoInstance A (TFree x own) s
    fixed_asked x own s (inl below) = inl (record { asked = []; are = λ typs sub. (λ h. tt, λ e. rw (sub.keeps x own) below); order = refl })
    fixed_asked x own s (inr nope) = inr (λ typs sub h. nope (rw (sub.keeps x own) at h))

    con_asked : (k : ℕ) (ts : Typs) (s : List ℕ) (args : AsksArguments k s (typs_count ts)) → WhatIsAskedOfEach ts args.sorts ⊎ HaveNone ts args.sorts → WhatIsAsked (Con k ts) s ⊎ HasNoInstance A (Con k ts) s
    con_asked k ts s args (inl found) = inl (record {
      asked = found.asked;
      are = λ typs sub. (
          let by = args.exactly (typs_instance typs ts) (typs_count-instance typs ts) in
          let all = found.are typs sub in
          (λ h. all.0 (by.0 h), λ e. by.1 (all.1 e)));
      order = found.order;
    })
    con_asked k ts s args (inr never) = inr (λ typs sub h. never typs sub ((args.exactly (typs_instance typs ts) (typs_count-instance typs ts)).0 h))

    both_asked : (t : Typ) (s : List ℕ) (ts : Typs) (sorts : List (List ℕ)) → WhatIsAsked t s ⊎ HasNoInstance A t s → WhatIsAskedOfEach ts sorts ⊎ HaveNone ts sorts → WhatIsAskedOfEach (also t ts) (s ∷ sorts) ⊎ HaveNone (also t ts) (s ∷ sorts)
    both_asked t s ts sorts (inr never) rest = inr (λ typs sub h. never typs sub h.0)
    both_asked t s ts sorts (inl first) (inr never) = inr (λ typs sub h. never typs sub h.1)
    both_asked t s ts sorts (inl first) (inl rest) = inl (record {
      asked = first.asked ++ rest.asked;
      are = λ typs sub. (
          let one = first.are typs sub in
          let others = rest.are typs sub in (
            λ h. each-append (IsMet A typs) first.asked rest.asked (one.0 h.0) (others.0 h.1),
            λ e. (one.1 (each-left (IsMet A typs) first.asked rest.asked e), others.1 (each-right (IsMet A typs) first.asked rest.asked e)),
          ));
      order = map-append asked_variable first.asked rest.asked ∙ (λ l. first.order l ++ rest.order l);
    })

    mutual
      pub what_is_asked : (t : Typ) (s : List ℕ) → WhatIsAsked t s ⊎ HasNoInstance A t s
      what_is_asked (TFree x own) s = fixed_asked x own s (sort_below_or_not A own s)
      what_is_asked (TVar x i own) s = inl (record { asked = record { name = x; index = i; sort = own; asked = s } ∷ []; are = λ typs sub. (λ h. (h, tt), λ e. e.0); order = refl })
      what_is_asked (Con k ts) s = elim (arguments_asked k s (typs_count ts)) [
        | inl args ↦ con_asked k ts s args (what_is_asked_of_each ts args.sorts (sym args.long))
        | inr nope ↦ inr (λ typs sub h. nope (typs_instance typs ts) (typs_count-instance typs ts) h)
      ]

      what_is_asked_of_each : (ts : Typs) (sorts : List (List ℕ)) → typs_count ts ≡ length sorts → WhatIsAskedOfEach ts sorts ⊎ HaveNone ts sorts
      what_is_asked_of_each none [] same = inl (record { asked = []; are = λ typs sub. (λ h. tt, λ e. tt); order = refl })
      what_is_asked_of_each none (s ∷ sorts) same = absurd (omega arith)
      what_is_asked_of_each (also t ts) [] same = absurd (omega arith)
      what_is_asked_of_each (also t ts) (s ∷ sorts) same = both_asked t s ts sorts (what_is_asked t s) (what_is_asked_of_each ts sorts (omega arith))
