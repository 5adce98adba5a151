-- Narrowing: the first variable of which more is asked, and a type in which it is replaced by a fresh one.
use Rattle.std.proofs.Common.{◌≡◌, ◌≢◌, ℕ, ◌+◌, List, [], ◌∷◌, ◌++◌, map, inl, inr, ◌⊎◌, refl, ap, sym, subst, ◌∙◌, arith, Bool, true, false, cond, append_assoc, length, eqb-true, ◌==◌}
use Rattle.std.proofs.lemmas.List.{append-nil}
use Rattle.pure_text.specs.Lists.{IsIn, Each}
use Rattle.pure_text.proofs.ListLaws.{each_of, each_at, each_imply, each-append, any_of, any_some, any_imply, in_split, in-append_right}
use Rattle.pure_definitions.specs.Types.Typ.{Typ, TFree, TVar, Con, Typs, none, also, typ_eq}
use Rattle.pure_definitions.specs.Types.Occurs.{OccursInTyp, OccursInTyps}
use Rattle.pure_definitions.specs.Types.Order.{Algebra, IsClassBelow, itself, HasClassBelow, IsSortBelow, IsOfClass, IsOfSort}
use Rattle.pure_definitions.specs.Terms.Subst.{TypBind, typ_variable, typ_instance}
use Rattle.pure_definitions.specs.Models.Equality.{typ_eq-same}
use Rattle.pure_definitions.proofs.OrderLaws.{below-trans, of_class_up}
use Rattle.pure_term_laws.specs.LawsOccurs.{IsTypVariable}
use Rattle.pure_term_laws.proofs.MapLaws.{typ_instance-again}
use Rattle.pure_tunify.specs.declared.asks.Asked.{Asked}
use Rattle.pure_tunify.specs.Unifiers.{IsSubstitution, IsFresh, IsOld, AreTogether}
use Rattle.pure_tunify.specs.Occurrences.{schematics, schematics_of}
use Rattle.pure_tunify.specs.Asks.{AreAsked, HasNoInstance}
use Rattle.pure_tunify.specs.Steps.{setting}
use Rattle.pure_tunify.specs.Settings.{bind, IsOldBind, Progress, IsTidy}
use Rattle.pure_tunify.specs.Procedure.{IsNeeded, NeedsNoMore, IsNeededSort, IsFirstToNarrow, Narrows, fits, replace}
use Rattle.pure_tunify.specs.Asking.{asked_variable, IsAskedClass, IsOwnOrAsked, AsksNoMore, IsUnionAsked, IsFirstAsking}
use Rattle.pure_tunify.specs.Working.{IsFreeOf, IsNarrowing, IsNarrowed}
use Rattle.pure_tunify.specs.NarrowingStep.{IsToNarrow}
use Rattle.pure_tunify.proofs.MapLaws.{setting-cases, setting-other, setting_is_substitution, after_is_substitution, changed, changed-cases, changed-itself, changed_is_substitution, fresh-later, variable_is_old, old-instance, together}
use Rattle.pure_tunify.proofs.MeetLaws.{each_is_asked, nothing_to_narrow, asked_classes, meeting, meeting_is_substitution, meeting_meets}
use Rattle.pure_tunify.proofs.SettingLaws.{as_variable, setting-new, setting-away, tidy-snoc}

-- A class among those that are asked of a variable is asked of it somewhere.
asked_somewhere : (v : Typ) (asked : List Asked) (c : ℕ) → IsIn c (asked_classes v asked) → IsAskedClass v asked c
asked_somewhere v [] c m = m
asked_somewhere v (a ∷ asked) c m = by (typ_eq v (asked_variable a)) refl m (asked_somewhere v asked c)
  where
    by : (b : Bool) → typ_eq v (asked_variable a) ≡ b → IsIn c (cond b (a.asked ++ asked_classes v asked) (asked_classes v asked)) → (IsIn c (asked_classes v asked) → IsAskedClass v asked c) → IsAskedClass v (a ∷ asked) c
    by true e m rest = elim (in_split c a.asked (asked_classes v asked) m) [ inl k ↦ inl (sym (typ_eq-same v (asked_variable a) e), k) | inr k ↦ inr (rest k) ]
    by false e m rest = inr (rest m)

variables-append : (xs : List Asked) (x : Asked) (ys : List Asked) → map asked_variable (xs ++ x ∷ ys) ≡ map asked_variable xs ++ asked_variable x ∷ map asked_variable ys
variables-append [] x ys = refl
variables-append (z ∷ xs) x ys = ap (λ zs. asked_variable z ∷ zs) (variables-append xs x ys)

module _ (A : Algebra) (t : Typ) (s : List ℕ) (asked : List Asked) (are : AreAsked A t s asked) where
  -- What is needed of a variable is above its own sort or what is asked of it.
  above_asked : (a : Asked) (c : ℕ) → IsNeeded A t s (asked_variable a) c → (b : ℕ) × IsOwnOrAsked asked a b × IsClassBelow A b c
  above_asked a c need =
      let met = need (meeting asked) (meeting_is_substitution A asked) (meeting_meets A t s asked are) in
      let found = any_some (λ b. IsClassBelow A b c) (a.sort ++ asked_classes (asked_variable a) asked) met in
      (found.0, from found.0 (in_split found.0 a.sort (asked_classes (asked_variable a) asked) found.1), found.2)
    where
      from : (b : ℕ) → IsIn b a.sort ⊎ IsIn b (asked_classes (asked_variable a) asked) → IsOwnOrAsked asked a b
      from b (inl m) = inl m
      from b (inr m) = inr (asked_somewhere (asked_variable a) asked b m)

  -- What is above its own sort or what is asked of it is needed.
  needed_above : (a : Asked) (b c : ℕ) → IsOwnOrAsked asked a b → IsClassBelow A b c → IsNeeded A t s (asked_variable a) c
  needed_above a b c (inl own) below typs sub of =
      of_class_up A (typs (asked_variable a)) b c (each_at (IsOfClass A (typs (asked_variable a))) a.sort (sub.respects.schematic a.name a.index a.sort) b own) below
  needed_above a b c (inr m) below typs sub of =
      let found = any_some (λ x. (asked_variable x ≡ asked_variable a) × IsIn b x.asked) asked m in
      let is = each_at (IsOfClass A (typs (asked_variable found.0))) found.0.asked (each_is_asked A t s asked found.0 are found.1 typs sub of) b found.2.1 in
      of_class_up A (typs (asked_variable a)) b c (subst (λ (v : Typ). IsOfClass A (typs v) b) found.2.0 is) below

  pub needs_no_more : (a : Asked) → AsksNoMore A asked a → NeedsNoMore A t s (asked_variable a)
  needs_no_more a h c need = let found = above_asked a c need in by found.0 found.1 found.2
    where
      by : (b : ℕ) → IsOwnOrAsked asked a b → IsClassBelow A b c → HasClassBelow A a.sort c
      by b (inl own) below = any_of (λ x. IsClassBelow A x c) b a.sort own below
      by b (inr m) below = any_imply (λ x. IsClassBelow A x b) (λ x. IsClassBelow A x c) a.sort (λ x k. below-trans k below) (h b m)

  pub asks_no_more : (a : Asked) → NeedsNoMore A t s (asked_variable a) → AsksNoMore A asked a
  asks_no_more a h c m = h c (needed_above a c c (inr m) itself)

  pub needed_sort : (a : Asked) (u : List ℕ) → IsUnionAsked A asked a u → IsNeededSort A t s (asked_variable a) u
  needed_sort a u h = record {
    needed = λ c. (
      λ k. (let found = h.above c k in needed_above a found.0 c found.1 found.2),
      λ need. (let found = above_asked a c need in any_imply (λ x. IsClassBelow A x found.0) (λ x. IsClassBelow A x c) u (λ x k. below-trans k found.2) (h.below found.0 found.1)),
    );
    reduced = h.reduced;
    ascend = h.ascend;
  }

  -- Where no more is asked of any variable, the type is of the sort.
  pub fits_as_asked : Each (AsksNoMore A asked) asked → IsOfSort A t s
  fits_as_asked each = nothing_to_narrow A t s asked are (each_of (λ a. IsSortBelow A a.sort a.asked) asked (λ a m. each_of (HasClassBelow A a.sort) a.asked (λ c k.
      each_at (AsksNoMore A asked) asked each a m c (any_of (λ x. (asked_variable x ≡ asked_variable a) × IsIn c x.asked) a asked m (refl, k)))))

  each_variable : (xs : List Asked) → Each (AsksNoMore A asked) xs → Each (NeedsNoMore A t s) (map asked_variable xs)
  each_variable [] each = tt
  each_variable (x ∷ xs) each = (needs_no_more x each.0, each_variable xs each.1)

  -- The first variable of which more is asked is the first to narrow.
  pub first_to_narrow : (found : Asked) → map asked_variable asked ≡ schematics t → IsFirstAsking A asked found → IsToNarrow A t s found
  first_to_narrow found order h = subst (λ (v : Typ). IsFirstToNarrow A t s v × IsNeededSort A t s v found.asked) (sym h.same) (first, needed_sort h.first found.asked h.union)
    where
      first : IsFirstToNarrow A t s (asked_variable h.first)
      first = record {
        front = map asked_variable h.front;
        back = map asked_variable h.back;
        stands = sym order ∙ (ap (map asked_variable) h.stands ∙ variables-append h.front h.first h.back);
        before = each_variable h.front h.before;
        here = λ k. h.here (asks_no_more h.first k);
      }

-- A schematic variable of a type occurs in it.
mutual
  pub schematics_occur : (v t : Typ) → IsIn v (schematics t) → OccursInTyp v t
  schematics_occur v (TFree x s) m = absurd m
  schematics_occur v (TVar x i s) (inl e) = e
  schematics_occur v (TVar x i s) (inr m) = absurd m
  schematics_occur v (Con k ts) m = inr (schematics_of_occur v ts m)

  schematics_of_occur : (v : Typ) (ts : Typs) → IsIn v (schematics_of ts) → OccursInTyps v ts
  schematics_of_occur v none m = absurd m
  schematics_of_occur v (also t ts) m = elim (in_split v (schematics t) (schematics_of ts) m) [ inl k ↦ inl (schematics_occur v t k) | inr k ↦ inr (schematics_of_occur v ts k) ]

pub first_occurs : (A : Algebra) (t : Typ) (s : List ℕ) (v : Typ) → IsFirstToNarrow A t s v → OccursInTyp v t
first_occurs A t s v h = schematics_occur v t (subst (IsIn v) (sym h.stands) (in-append_right v h.front (v ∷ h.back) (inl refl)))

pub is_fresh_of : (index n : ℕ) (v : Typ) (r : List ℕ) → TVar n index r ≡ v → IsFresh index n v
is_fresh_of index n v r e = rw (sym e) (refl, omega arith)

pub not_fresh_later : (index n : ℕ) (r : List ℕ) → ¬ IsFresh index (n + 1) (TVar n index r)
not_fresh_later index n r f = let h = f.1 in absurd (omega arith)

-- A variable that isn't fresh is set to one that is.
module _ (p : Progress) (y j : ℕ) (q r : List ℕ) (tidy : IsTidy p) (not_fresh : ¬ IsFresh p.index p.next (TVar y j q)) where
  pub other_than_fresh : (v : Typ) → ¬ IsFresh p.index p.next v → ¬ OccursInTyp v (TVar p.next p.index r)
  other_than_fresh v new o = new (is_fresh_of p.index p.next v r (sym o))

  fresh_old : IsOld p.index (p.next + 1) (TVar p.next p.index r)
  fresh_old = variable_is_old p.index (p.next + 1) p.next p.index r (not_fresh_later p.index p.next r)

  sets_free : Each (λ c. ¬ OccursInTyp (typ_variable c) (TVar p.next p.index r)) p.sets
  sets_free = each_imply (IsOldBind p.index p.next) (λ c. ¬ OccursInTyp (typ_variable c) (TVar p.next p.index r)) p.sets (λ c h. other_than_fresh (typ_variable c) h.variable) tidy.old

  pub after_tidy : IsTidy (record { sets = p.sets ++ bind y j q (TVar p.next p.index r) ∷ []; index = p.index; next = p.next + 1 })
  after_tidy = tidy-snoc p (bind y j q (TVar p.next p.index r)) (p.next + 1) tidy (omega arith) (fresh-later p.index p.next (p.next + 1) (TVar y j q) (omega arith) not_fresh) fresh_old sets_free (other_than_fresh (TVar y j q) not_fresh)

-- One variable of a type is replaced by a fresh one.
module _ (A : Algebra) (p : Progress) (t : Typ) (s : List ℕ) (y j : ℕ) (q r : List ℕ) (tidy : IsTidy p) (old : IsOld p.index p.next t) (free : IsFreeOf p.sets t)
    (first : IsFirstToNarrow A t s (TVar y j q)) (need : IsNeededSort A t s (TVar y j q) r) where
  abbrev fresh : Typ
  fresh = TVar p.next p.index r

  abbrev set : TypBind
  set = bind y j q (TVar p.next p.index r)

  abbrev after : Progress
  after = record { sets = p.sets ++ set ∷ []; index = p.index; next = p.next + 1 }

  abbrev replaced : Typ
  replaced = typ_instance (setting y j q (TVar p.next p.index r)) t

  occurs : OccursInTyp (TVar y j q) t
  occurs = first_occurs A t s (TVar y j q) first

  not_fresh : ¬ IsFresh p.index p.next (TVar y j q)
  not_fresh = old (TVar y j q) occurs

  pub sub : IsSubstitution A (setting y j q (TVar p.next p.index r))
  sub = setting_is_substitution A y j q fresh (each_of (HasClassBelow A r) q (λ c m. (need.needed c).1 (λ typs v of. each_at (IsOfClass A (typs (TVar y j q))) q (v.respects.schematic y j q) c m)))

  images : (z k : ℕ) (o : List ℕ) → ¬ IsFresh p.index p.next (TVar z k o) → IsOld p.index (p.next + 1) (setting y j q fresh (TVar z k o))
  images z k o h = setting-cases (IsOld p.index (p.next + 1)) y j q fresh (TVar z k o) (λ e. fresh_old p y j q r tidy not_fresh)
      (variable_is_old p.index (p.next + 1) z k o (fresh-later p.index p.next (p.next + 1) (TVar z k o) (omega arith) h))

  -- A substitution under which the type is of the sort makes one under which the replaced type is.
  further : (Typ → Typ) → Typ → Typ
  further typs = changed (TVar p.next p.index r) (typs (TVar y j q)) typs

  further_substitution : (typs : Typ → Typ) → IsSubstitution A typs → IsOfSort A (typ_instance typs t) s → IsSubstitution A (changed (TVar p.next p.index r) (typs (TVar y j q)) typs)
  further_substitution typs v of = changed_is_substitution A p.next p.index r (typs (TVar y j q)) typs
      (each_of (IsOfClass A (typs (TVar y j q))) r (λ c m. (need.needed c).0 (any_of (λ b. IsClassBelow A b c) c r m itself) typs v of)) v

  same : (typs : Typ → Typ) → AreTogether p.index p.next (setting y j q fresh) (changed (TVar p.next p.index r) (typs (TVar y j q)) typs) typs
  same typs z k o h = setting-cases (λ T. typ_instance (changed (TVar p.next p.index r) (typs (TVar y j q)) typs) T ≡ typs (TVar z k o)) y j q fresh (TVar z k o)
      (λ e. changed-itself fresh (typs (TVar y j q)) typs ∙ ap typs e)
      (changed-cases (λ T. T ≡ typs (TVar z k o)) fresh (typs (TVar y j q)) typs (TVar z k o) (λ e. absurd (h (is_fresh_of p.index p.next (TVar z k o) r e))) refl)

  -- Of a variable that isn't fresh no more is needed than before, and of the fresh one what was needed of the one that it replaces.
  of_sort_later : (typs : Typ → Typ) → (v : IsSubstitution A typs) → (of : IsOfSort A (typ_instance typs t) s) → IsOfSort A (typ_instance (changed (TVar p.next p.index r) (typs (TVar y j q)) typs) replaced) s
  of_sort_later typs v of = subst (λ (T : Typ). IsOfSort A T s) (sym (together A p.index p.next (setting y j q fresh) (changed (TVar p.next p.index r) (typs (TVar y j q)) typs) typs sub (further_substitution typs v of) v (same typs) t old)) of

  pub needed_later : (v : Typ) (c : ℕ) → ¬ IsFresh p.index p.next v → IsNeeded A replaced s v c → IsNeeded A t s v c
  needed_later v c new k typs sub_of of = subst (λ (T : Typ). IsOfClass A T c)
      (changed-cases (λ T. T ≡ typs v) fresh (typs (TVar y j q)) typs v (λ e. absurd (new (is_fresh_of p.index p.next v r e))) refl)
      (k (changed (TVar p.next p.index r) (typs (TVar y j q)) typs) (further_substitution typs sub_of of) (of_sort_later typs sub_of of))

  pub needed_of_fresh : (c : ℕ) → IsNeeded A replaced s fresh c → IsNeeded A t s (TVar y j q) c
  needed_of_fresh c k typs sub_of of = subst (λ (T : Typ). IsOfClass A T c) (changed-itself fresh (typs (TVar y j q)) typs)
      (k (changed (TVar p.next p.index r) (typs (TVar y j q)) typs) (further_substitution typs sub_of of) (of_sort_later typs sub_of of))

  -- Of another variable as much is needed as before.
  pub needed_kept : (v : Typ) (c : ℕ) → TVar y j q ≢ v → IsTypVariable v → IsNeeded A t s v c → IsNeeded A replaced s v c
  needed_kept v c other is k typs typs_sub of = subst (λ (T : Typ). IsOfClass A T c) (ap (typ_instance typs) (setting-other y j q fresh v other) ∙ as_variable typs v is)
      (k (λ w. typ_instance typs (setting y j q (TVar p.next p.index r) w)) (after_is_substitution A (setting y j q fresh) typs sub typs_sub)
      (subst (λ (T : Typ). IsOfSort A T s) (typ_instance-again (setting y j q fresh) typs t) of))

  none_before : HasNoInstance A replaced s → HasNoInstance A t s
  none_before never typs v of = never (changed (TVar p.next p.index r) (typs (TVar y j q)) typs) (further_substitution typs v of) (of_sort_later typs v of)

  pub replaced_narrowing : IsNarrowing A s p after t replaced
  replaced_narrowing = record {
    more = set ∷ [];
    further = record { sets = refl; index = refl; later = omega arith };
    onward = λ m rest v n. replace y j q r first need n;
    none = none_before;
    old_typ = old-instance p.index p.next (p.next + 1) (setting y j q fresh) sub.keeps images t old;
    free = each-append (λ b. ¬ OccursInTyp (typ_variable b) replaced) p.sets (set ∷ []) (sets_free_after p.sets free tidy.old) (setting-away set t (other_than_fresh p y j q r tidy not_fresh (TVar y j q) not_fresh), tt);
    absent = λ v is new away m. elim m [ inl e ↦ away (subst (λ (w : Typ). OccursInTyp w t) (sym e) occurs) | inr n ↦ absurd n ];
    kept = λ v is new away. setting-new v is set t (other_than_fresh p y j q r tidy not_fresh v new) away;
  }
    where
      sets_free_after : (sets : List TypBind) → IsFreeOf sets t → Each (IsOldBind p.index p.next) sets → Each (λ b. ¬ OccursInTyp (typ_variable b) replaced) sets
      sets_free_after [] each olds = tt
      sets_free_after (b ∷ bs) each olds = (setting-new (typ_variable b) tt set t (other_than_fresh p y j q r tidy not_fresh (typ_variable b) olds.0.variable) each.0, sets_free_after bs each.1 olds.1)

-- Nothing has been narrowed yet.
pub narrowing_start : (A : Algebra) (s : List ℕ) (p : Progress) (t : Typ) → IsOld p.index p.next t → IsFreeOf p.sets t → IsNarrowing A s p p t t
narrowing_start A s p t old free = record {
  more = [];
  further = record { sets = sym (append-nil p.sets); index = refl; later = omega arith };
  onward = λ m rest v n. n;
  none = λ h. h;
  old_typ = old;
  free = free;
  absent = λ v is new away m. m;
  kept = λ v is new away. away;
}

-- One narrowing and then another.
pub narrowing_then : (A : Algebra) (s : List ℕ) (p mid new : Progress) (t u w : Typ) → IsNarrowing A s p mid t u → IsNarrowing A s mid new u w → IsNarrowing A s p new t w
narrowing_then A s p mid new t u w f g = record {
  more = f.more ++ g.more;
  further = record {
    sets = g.further.sets ∙ (ap (λ xs. xs ++ g.more) f.further.sets ∙ append_assoc p.sets f.more g.more);
    index = g.further.index ∙ f.further.index;
    later = (let a = f.further.later in let b = g.further.later in omega arith);
  };
  onward = λ m rest v n. subst (λ (xs : List TypBind). Narrows A p.index s p.next t xs m v) (sym (append_assoc f.more g.more rest))
      (f.onward m (g.more ++ rest) v (subst (λ (i : ℕ). Narrows A i s mid.next u (g.more ++ rest) m v) f.further.index (g.onward m rest v (subst (λ (i : ℕ). Narrows A i s new.next w rest m v) (sym f.further.index) n))));
  none = λ h. f.none (g.none h);
  old_typ = g.old_typ;
  free = g.free;
  absent = λ v is new away m. elim (in_map_split f.more g.more v m) [ inl a ↦ f.absent v is new away a | inr b ↦ g.absent v is (new_later v new) (f.kept v is new away) b ];
  kept = λ v is new away. g.kept v is (new_later v new) (f.kept v is new away);
}
  where
    in_map_split : (xs ys : List TypBind) (v : Typ) → IsIn v (map typ_variable (xs ++ ys)) → IsIn v (map typ_variable xs) ⊎ IsIn v (map typ_variable ys)
    in_map_split [] ys v m = inr m
    in_map_split (x ∷ xs) ys v (inl e) = inl (inl e)
    in_map_split (x ∷ xs) ys v (inr m) = elim (in_map_split xs ys v m) [ inl a ↦ inl (inr a) | inr b ↦ inr b ]

    new_later : (v : Typ) → ¬ IsFresh p.index p.next v → ¬ IsFresh mid.index mid.next v
    new_later v fresh = subst (λ (i : ℕ). ¬ IsFresh i mid.next v) (sym f.further.index) (fresh-later p.index p.next mid.next v f.further.later fresh)

-- The type that narrowing has come to is of the sort.
pub narrowed_fits : (A : Algebra) (s : List ℕ) (p mid new : Progress) (t w u : Typ) → IsNarrowing A s p mid t w → (u ≡ w) × (new ≡ mid) × IsOfSort A w s → IsNarrowed A s p new t u
narrowed_fits A s p mid new t w u h is = subst (λ (q : Progress). IsNarrowed A s p q t u) (sym is.1) (subst (IsNarrowed A s p mid t) (sym is.0) (record {
  narrowing = h;
  narrows = subst (λ (xs : List TypBind). Narrows A p.index s p.next t xs mid.next w) (append-nil h.more) (h.onward mid.next [] w (fits is.2));
}))

-- Each type is of a sort without classes.
pub of_no_classes : (A : Algebra) (s : List ℕ) (t : Typ) (classes : List ℕ) (b : Bool) → classes ≡ s → b ≡ (length classes == 0) → b ≡ true → IsOfSort A t s
of_no_classes A s t classes b are test empty = subst (IsOfSort A t) are (of_none classes (eqb-true (length classes) 0 (sym test ∙ empty)))
  where
    of_none : (r : List ℕ) → length r ≡ 0 → IsOfSort A t r
    of_none [] e = tt
    of_none (c ∷ r) e = absurd (omega arith)

-- A type is of a sort without classes as it stands.
pub narrowed_at_once : (A : Algebra) (s : List ℕ) (p : Progress) (t : Typ) → IsOld p.index p.next t → IsFreeOf p.sets t → (classes : List ℕ) (b : Bool) → classes ≡ s → b ≡ (length classes == 0) → b ≡ true → IsNarrowed A s p p t t
narrowed_at_once A s p t old free classes b are test empty = narrowed_fits A s p p p t t t (narrowing_start A s p t old free) (refl, refl, of_no_classes A s t classes b are test empty)
