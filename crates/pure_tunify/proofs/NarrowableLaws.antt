-- Over a coregular algebra each type can be narrowed to a sort, or has no instance of it.
use Rattle.std.proofs.Common.{◌≡◌, ℕ, ◌+◌, ◌<◌, List, [], ◌∷◌, ◌++◌, map, length, suc, zero, inl, inr, ◌⊎◌, ◌↔◌, refl, ap, sym, subst, ◌∙◌, arith}
use Rattle.std.proofs.lemmas.List.{map-append, length-append, length-map, append-nil, append_assoc}
use Rattle.pure_text.specs.Lists.{IsIn, Each}
use Rattle.pure_text.proofs.ListLaws.{each_of, each_at, each-append, each_decided, any_some, in_split, in-append_left, in-append_right}
use Rattle.pure_definitions.specs.Types.Typ.{Typ, TFree, TVar, Con, Typs, none, also}
use Rattle.pure_definitions.specs.Types.Occurs.{OccursInTyp}
use Rattle.pure_definitions.specs.Types.Order.{Algebra, IsClassBelow, HasClassBelow, IsCoregular}
use Rattle.pure_definitions.specs.Terms.Subst.{TypBind, typ_instance, typs_instance}
use Rattle.pure_tunify.specs.declared.asks.Asked.{Asked}
use Rattle.pure_tunify.specs.Unifiers.{IsOld}
use Rattle.pure_tunify.specs.Occurrences.{schematics, schematics_of}
use Rattle.pure_tunify.specs.Asks.{HasNoInstance}
use Rattle.pure_tunify.specs.Steps.{setting}
use Rattle.pure_tunify.specs.Settings.{bind, Progress, IsTidy}
use Rattle.pure_tunify.specs.Procedure.{NeedsNoMore, IsNeededSort, IsFirstToNarrow, Narrows, fits, replace}
use Rattle.pure_tunify.specs.Asking.{asked_variable, IsAskedClass, AsksNoMore, IsUnionAsked, IsFirstAsking}
use Rattle.pure_tunify.proofs.MapLaws.{setting-itself, setting-cases}
use Rattle.pure_tunify.proofs.NarrowLaws.{schematics_occur, replaced_narrowing, needed_later, needed_of_fresh, first_to_narrow, fits_as_asked}
use Rattle.pure_tunify.proofs.DecidedLaws.{has_class_below_or_not, same_or_not}
use Rattle.pure_tunify.proofs.ReducedLaws.{AreReduced, reduced_of, reduced_rises}
use Rattle.pure_tunify.proofs.AskedLaws.{what_is_asked}

-- the classes that are asked of a variable somewhere in the list
abbrev Gathered : Typ → List Asked → Type 0
Gathered v asked = (xs : List ℕ) × ((c : ℕ) → IsIn c xs ↔ IsAskedClass v asked c)

gathered : (v : Typ) (asked : List Asked) → Gathered v asked
gathered v [] = ([], λ c. (λ m. m, λ m. m))
gathered v (a ∷ asked) = by (gathered v asked) (same_or_not (asked_variable a) v)
  where
    by : Gathered v asked → (asked_variable a ≡ v) ⊎ ¬ (asked_variable a ≡ v) → Gathered v (a ∷ asked)
    by rest (inl e) = (
      a.asked ++ rest.0,
      λ c. (
        λ m. elim (in_split c a.asked rest.0 m) [ inl n ↦ inl (e, n) | inr n ↦ inr ((rest.1 c).0 n) ],
        λ w. elim w [ inl n ↦ in-append_left c a.asked rest.0 n.1 | inr n ↦ in-append_right c a.asked rest.0 ((rest.1 c).1 n) ],
      ),
    )
    by rest (inr other) = (rest.0, λ c. (λ m. inr ((rest.1 c).0 m), λ w. elim w [ inl n ↦ absurd (other n.0) | inr n ↦ (rest.1 c).1 n ]))

module _ (A : Algebra) (asked : List Asked) where
  asks_no_more_or_more : (a : Asked) → AsksNoMore A asked a ⊎ ¬ AsksNoMore A asked a
  asks_no_more_or_more a = by (gathered (asked_variable a) asked)
    where
      by : Gathered (asked_variable a) asked → AsksNoMore A asked a ⊎ ¬ AsksNoMore A asked a
      by g = elim (each_decided (HasClassBelow A a.sort) (has_class_below_or_not A a.sort) g.0) [
        | inl each ↦ inl (λ c m. each_at (HasClassBelow A a.sort) g.0 each c ((g.1 c).1 m))
        | inr nope ↦ inr (λ h. nope (each_of (HasClassBelow A a.sort) g.0 (λ c m. h c ((g.1 c).0 m))))
      ]

  union_asked : (a : Asked) → (u : List ℕ) × IsUnionAsked A asked a u
  union_asked a = by (gathered (asked_variable a) asked)
    where
      by : Gathered (asked_variable a) asked → (u : List ℕ) × IsUnionAsked A asked a u
      by g = reduced (reduced_of A (a.sort ++ g.0))
        where
          reduced : ((us : List ℕ) × AreReduced A (a.sort ++ g.0) us) → (u : List ℕ) × IsUnionAsked A asked a u
          reduced r = (
            r.0,
            record {
              above = λ c k. (
                  let b = any_some (λ b. IsClassBelow A b c) r.0 k in
                  (b.0, elim (in_split b.0 a.sort g.0 (r.1.among b.0 b.1)) [ inl m ↦ inl m | inr m ↦ inr ((g.1 b.0).0 m) ], b.2));
              below = λ b w. r.1.below b (elim w [ inl m ↦ in-append_left b a.sort g.0 m | inr m ↦ in-append_right b a.sort g.0 ((g.1 b).1 m) ]);
              reduced = r.1.apart;
              ascend = reduced_rises A (a.sort ++ g.0) r.0 r.1;
            },
          )

  abbrev with_union : Asked → List ℕ → Asked
  with_union a u = record { name = a.name; index = a.index; sort = a.sort; asked = u }

  abbrev FirstOrNone : Type 0
  FirstOrNone = Each (AsksNoMore A asked) asked ⊎ ((found : Asked) × IsFirstAsking A asked found)

  first_or_later : (front : List Asked) (a : Asked) (back : List Asked) → asked ≡ front ++ a ∷ back → Each (AsksNoMore A asked) front → (AsksNoMore A asked a → FirstOrNone) → AsksNoMore A asked a ⊎ ¬ AsksNoMore A asked a → FirstOrNone
  first_or_later front a back whole before on (inl no_more) = on no_more
  first_or_later front a back whole before on (inr more) = let u = union_asked a in inr (with_union a u.0, record { front = front; back = back; first = a; stands = whole; same = refl; before = before; here = more; union = u.1 })

  -- The first of which more is asked, from a place on.
  first_asking_from : (front back : List Asked) → asked ≡ front ++ back → Each (AsksNoMore A asked) front → FirstOrNone
  first_asking_from front [] whole before = inl (subst (Each (AsksNoMore A asked)) (sym (whole ∙ append-nil front)) before)
  first_asking_from front (a ∷ back) whole before = first_or_later front a back whole before
      (λ no_more. first_asking_from (front ++ a ∷ []) back (whole ∙ sym (append_assoc front (a ∷ []) back)) (each-append (AsksNoMore A asked) front (a ∷ []) before (no_more, tt)))
      (asks_no_more_or_more a)

-- A map from schematic variables to schematic variables takes the variables of a type to those of its instance.
abbrev pub Renames : (Typ → Typ) → Type 0
Renames f = ((x : ℕ) (s : List ℕ) → f (TFree x s) ≡ TFree x s) × ((x i : ℕ) (s : List ℕ) → schematics (f (TVar x i s)) ≡ f (TVar x i s) ∷ [])

mutual
  pub schematics_renamed : (f : Typ → Typ) → Renames f → (t : Typ) → schematics (typ_instance f t) ≡ map f (schematics t)
  schematics_renamed f h (TFree x s) = ap schematics (h.0 x s)
  schematics_renamed f h (TVar x i s) = h.1 x i s
  schematics_renamed f h (Con k ts) = schematics_of_renamed f h ts

  schematics_of_renamed : (f : Typ → Typ) → Renames f → (ts : Typs) → schematics_of (typs_instance f ts) ≡ map f (schematics_of ts)
  schematics_of_renamed f h none = refl
  schematics_of_renamed f h (also t ts) = (λ l. schematics_renamed f h t l ++ schematics_of_renamed f h ts l) ∙ sym (map-append f (schematics t) (schematics_of ts))

setting_renames : (y j n index : ℕ) (q r : List ℕ) → Renames (setting y j q (TVar n index r))
setting_renames y j n index q r = (λ x s. refl, λ x i s. setting-cases (λ T. schematics T ≡ T ∷ []) y j q (TVar n index r) (TVar x i s) (λ e. refl) refl)

-- Behind elements that all have a property the first that hasn't stands further on.
further_on : (P : Typ → Type 0) (xs ys front : List Typ) (v : Typ) (back : List Typ) → xs ++ ys ≡ front ++ v ∷ back → Each P xs → ¬ P v → length back < length ys
further_on P [] ys front v back e each nope =
    let long : length ys ≡ length front + length (v ∷ back) = ap length e ∙ length-append front (v ∷ back) in
    omega arith
further_on P (x ∷ xs) ys [] v back e each nope = let same : x ≡ v = cc in absurd (nope (subst P same each.0))
further_on P (x ∷ xs) ys (w ∷ front) v back e each nope = let rest : xs ++ ys ≡ front ++ v ∷ back = cc in further_on P xs ys front v back rest each.1 nope

-- The type is narrowed to the sort, by some settings.
pub record IsNarrowable (A : Algebra) (index : ℕ) (s : List ℕ) (n : ℕ) (t : Typ) : Type 0 where
  pub more : List TypBind
  pub later : ℕ
  pub image : Typ
  pub narrows : Narrows A index s n t more later image

-- So few variables stand behind the first one to narrow.
abbrev HasFewBehind : Algebra → (s : List ℕ) → Typ → (fuel : ℕ) → Type 0
HasFewBehind A s t fuel = (v : Typ) (h : IsFirstToNarrow A t s v) → length h.back < fuel

-- The first variable to narrow is replaced.
module _ (A : Algebra) (index : ℕ) (s : List ℕ) (n : ℕ) (t : Typ) (old : IsOld index n t) (y j : ℕ) (q r : List ℕ) (first : IsFirstToNarrow A t s (TVar y j q)) (need : IsNeededSort A t s (TVar y j q) r) where
  abbrev now : Progress
  now = record { sets = []; index = index; next = n }

  abbrev set : Typ → Typ
  set = setting y j q (TVar n index r)

  abbrev after : Typ
  after = typ_instance (setting y j q (TVar n index r)) t

  tidy : IsTidy now
  tidy = record { triangular = tt; old = tt }

  after_old : IsOld index (n + 1) after
  after_old = (replaced_narrowing A now t s y j q r tidy old tt first need).old_typ

  replaced_then : IsNarrowable A index s (n + 1) after ⊎ HasNoInstance A after s → IsNarrowable A index s n t ⊎ HasNoInstance A t s
  replaced_then (inl m) = inl (record { more = bind y j q (TVar n index r) ∷ m.more; later = m.later; image = m.image; narrows = replace y j q r first need m.narrows })
  replaced_then (inr never) = inr ((replaced_narrowing A now t s y j q r tidy old tt first need).none never)

  fresh_no_more : NeedsNoMore A after s (TVar n index r)
  fresh_no_more c k = (need.needed c).1 (needed_of_fresh A now t s y j q r tidy old tt first need c k)

  no_more_later : (v : Typ) → OccursInTyp v t → NeedsNoMore A t s v → NeedsNoMore A after s (set v)
  no_more_later v o h = setting-cases (NeedsNoMore A after s) y j q (TVar n index r) v
      (λ e. fresh_no_more)
      (λ c k. h c (needed_later A now t s y j q r tidy old tt first need v c (old v o) k))

  front_later : (xs : List Typ) → ((v : Typ) → IsIn v xs → OccursInTyp v t) → Each (NeedsNoMore A t s) xs → Each (NeedsNoMore A after s) (map set xs)
  front_later [] inside each = tt
  front_later (x ∷ xs) inside each = (no_more_later x (inside x (inl refl)) each.0, front_later xs (λ v m. inside v (inr m)) each.1)

  stands_later : schematics after ≡ (map set first.front ++ TVar n index r ∷ []) ++ map set first.back
  stands_later =
      schematics_renamed set (setting_renames y j n index q r) t
      ∙ (ap (map set) first.stands
      ∙ (map-append set first.front (TVar y j q ∷ first.back)
      ∙ (ap (λ v. map set first.front ++ v ∷ map set first.back) (setting-itself y j q (TVar n index r))
      ∙ sym (append_assoc (map set first.front) (TVar n index r ∷ []) (map set first.back)))))

  inside : (v : Typ) → IsIn v first.front → OccursInTyp v t
  inside v m = schematics_occur v t (subst (IsIn v) (sym first.stands) (in-append_left v first.front (TVar y j q ∷ first.back) m))

  fewer_behind : (v : Typ) (h : IsFirstToNarrow A after s v) → length h.back < length first.back
  fewer_behind v h =
      let less = further_on (NeedsNoMore A after s) (map set first.front ++ TVar n index r ∷ []) (map set first.back) h.front v h.back (sym stands_later ∙ h.stands)
      (each-append (NeedsNoMore A after s) (map set first.front) (TVar n index r ∷ []) (front_later first.front inside first.before) (fresh_no_more, tt)) h.here in
      let same = length-map first.back set in
      omega arith

-- What an other number is below.
lower : (a b c : ℕ) → a < b → b < suc c → a < c
lower a b c h k = omega arith

below_none : (a : ℕ) → a < zero → ⊥
below_none a h = absurd (omega arith)

module _ (A : Algebra) (coregular : IsCoregular A) (index : ℕ) (s : List ℕ) where
  -- Where the type isn't narrowed yet, what comes of the first variable to narrow comes of it.
  narrowed_with : (n : ℕ) (t : Typ) → ((y j : ℕ) (q r : List ℕ) → IsFirstToNarrow A t s (TVar y j q) → IsNeededSort A t s (TVar y j q) r → IsNarrowable A index s n t ⊎ HasNoInstance A t s) → IsNarrowable A index s n t ⊎ HasNoInstance A t s
  narrowed_with n t on = elim (what_is_asked A coregular t s) [
    | inr never ↦ inr never
    | inl w ↦ elim (first_asking_from A w.asked [] w.asked refl tt) [
      | inl each ↦ inl (record { more = []; later = n; image = t; narrows = fits (fits_as_asked A t s w.asked w.are each) })
      | inr found ↦ (let to = first_to_narrow A t s w.asked w.are found.0 w.order found.1 in on found.0.name found.0.index found.0.sort found.0.asked to.0 to.1)
    ]
  ]

  narrowed_from : (fuel n : ℕ) (t : Typ) → IsOld index n t → HasFewBehind A s t fuel → IsNarrowable A index s n t ⊎ HasNoInstance A t s
  narrowed_from zero n t old few = narrowed_with n t (λ y j q r first need. absurd (below_none (length first.back) (few (TVar y j q) first)))
  narrowed_from (suc fuel) n t old few = narrowed_with n t (λ y j q r first need.
      replaced_then A index s n t old y j q r first need (narrowed_from fuel (n + 1) (typ_instance (setting y j q (TVar n index r)) t) (after_old A index s n t old y j q r first need)
      (λ v h. lower (length h.back) (length first.back) fuel (fewer_behind A index s n t old y j q r first need v h) (few (TVar y j q) first))))

  pub narrowable_or_never : (n : ℕ) (t : Typ) → IsOld index n t → IsNarrowable A index s n t ⊎ HasNoInstance A t s
  narrowable_or_never n t old = narrowed_from (length (schematics t)) n t old (λ v h. (
      let long : length (schematics t) ≡ length h.front + length (v ∷ h.back) = ap length h.stands ∙ length-append h.front (v ∷ h.back) in
      omega arith))
