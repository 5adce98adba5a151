-- A variable is set to a type that has been narrowed to its sort.
use Rattle.std.proofs.Common.{◌≡◌, ℕ, ◌≤◌, List, [], ◌∷◌, ◌++◌, map, inl, inr, ◌⊎◌, refl, ap, sym, subst, ◌∙◌, arith, append_assoc, ◌↔◌, Bool, true, false, not, IsTrue, length, Option, Some, None}
use Rattle.std.specs.Prelude.{MatchOption, is_some}
use Rattle.std.specs.Bool.{OnTrue}
use Rattle.std.proofs.lemmas.List.{length-map}
use Rattle.pure_text.specs.Lists.{IsIn}
use Rattle.pure_definitions.specs.Types.Typ.{Typ, TVar, Con, Typs, typs_of, typ_size, typ_depth}
use Rattle.pure_definitions.specs.Types.Occurs.{OccursInTyp}
use Rattle.pure_definitions.specs.Types.Order.{Algebra}
use Rattle.pure_definitions.specs.Terms.Subst.{TypBind, typ_variable, typ_instance}
use Rattle.pure_definitions.specs.Terms.Term.{max_size, max_depth}
use Rattle.pure_definitions.specs.Terms.Limits.{Leaves, IsWithinTyp}
use Rattle.pure_definitions.proofs.InstanceLemmas.{typs_instance-of}
use Rattle.pure_term_laws.proofs.SubstLaws.{typ_instance-identity}
use Rattle.pure_term_laws.proofs.MapLaws.{typ_instance-again}
use Rattle.pure_tunify.specs.Unifiers.{IsFresh, IsOld, IsOldPair}
use Rattle.pure_tunify.specs.Asks.{HasNoSuchArguments, HasNoInstance}
use Rattle.pure_tunify.specs.Steps.{pair, setting}
use Rattle.pure_tunify.specs.Settings.{composed, bind, Progress, IsTidy}
use Rattle.pure_tunify.specs.Procedure.{Narrows, fits, replace}
use Rattle.pure_tunify.specs.Working.{IsFreeOf, IsNarrowed, IsSet, IsSetTo, CannotBeSetTo}
use Rattle.pure_tunify.proofs.AskLaws.{ask_none}
use Rattle.pure_tunify.proofs.MapLaws.{setting-itself, fresh-later}
use Rattle.pure_tunify.proofs.SettingLaws.{instance-append, composed-absent, instance-untouched, instance-free, instance-old, tidy-snoc}

-- In a type with all set variables replaced there are neither fresh nor set ones.
pub resolved_old : (p : Progress) (t : Typ) → IsTidy p → IsOld p.index p.next t → IsOld p.index p.next (typ_instance (composed p.sets) t)
resolved_old p t tidy old = instance-old p.index p.next p.sets t tidy.old old

pub resolved_free : (p : Progress) (t : Typ) → IsTidy p → IsFreeOf p.sets (typ_instance (composed p.sets) t)
resolved_free p t tidy = instance-free p.sets tidy.triangular t

-- What has no room for the most nodes, on the longest paths, is beyond the limits.
without_room : (left room size depth : ℕ) → Leaves left room size depth None → size ≤ left → depth ≤ room → ⊥
without_room left room size depth beyond small flat = let deeper = beyond small in absurd (omega arith)

pub beyond_limits : (t : Typ) → Leaves max_size max_depth (typ_size t) (typ_depth t) None → ¬ IsWithinTyp t
beyond_limits t beyond within = without_room max_size max_depth (typ_size t) (typ_depth t) beyond within.size within.depth

-- What a type has been narrowed to is its instance by the settings.
pub narrows_image : (A : Algebra) (index : ℕ) (s : List ℕ) {n m : ℕ} {t u : Typ} {more : List TypBind} → Narrows A index s n t more m u → typ_instance (composed more) t ≡ u
narrows_image A index s (fits {t = t} of) = typ_instance-identity t
narrows_image A index s (replace {n = n} {t = t} {more = more} y j q r first need rest) = sym (typ_instance-again (setting y j q (TVar n index r)) (composed more) t) ∙ narrows_image A index s rest

pub in_map_split : (xs ys : List TypBind) (v : Typ) → IsIn v (map typ_variable (xs ++ ys)) → IsIn v (map typ_variable xs) ⊎ IsIn v (map typ_variable ys)
in_map_split [] ys v m = inr m
in_map_split (x ∷ xs) ys v (inl e) = inl (inl e)
in_map_split (x ∷ xs) ys v (inr m) = elim (in_map_split xs ys v m) [ inl a ↦ inl (inr a) | inr b ↦ inr b ]

module _ (A : Algebra) (p mid : Progress) (x i : ℕ) (s : List ℕ) (t image : Typ) (tidy : IsTidy mid) (absent : ¬ IsIn (TVar x i s) (map typ_variable p.sets)) (new : ¬ IsFresh p.index p.next (TVar x i s))
    (free : ¬ OccursInTyp (TVar x i s) t) (h : IsNarrowed A s p mid t image) where
  abbrev set : TypBind
  set = bind x i s image

  absent_in_more : ¬ IsIn (TVar x i s) (map typ_variable h.narrowing.more)
  absent_in_more = h.narrowing.absent (TVar x i s) tt new free

  away : ¬ OccursInTyp (TVar x i s) image
  away = h.narrowing.kept (TVar x i s) tt new free

  pub set_absent : ¬ IsIn (TVar x i s) (map typ_variable mid.sets)
  set_absent m = elim (in_map_split p.sets h.narrowing.more (TVar x i s) (subst (λ (xs : List TypBind). IsIn (TVar x i s) (map typ_variable xs)) h.narrowing.further.sets m)) [ inl a ↦ absent a | inr b ↦ absent_in_more b ]

  pub set_tidy : IsTidy (record { sets = mid.sets ++ bind x i s image ∷ []; index = mid.index; next = mid.next })
  set_tidy = tidy-snoc mid (bind x i s image) mid.next tidy (omega arith)
      (subst (λ (k : ℕ). ¬ IsFresh k mid.next (TVar x i s)) (sym h.narrowing.further.index) (fresh-later p.index p.next mid.next (TVar x i s) h.narrowing.further.later new))
      h.narrowing.old_typ h.narrowing.free away

  on_variable : composed (h.narrowing.more ++ set ∷ []) (TVar x i s) ≡ image
  on_variable =
      instance-append h.narrowing.more (set ∷ []) (TVar x i s)
      ∙ (ap (typ_instance (composed (set ∷ []))) (composed-absent h.narrowing.more (TVar x i s) tt absent_in_more)
      ∙ (typ_instance-identity (setting x i s image (TVar x i s)) ∙ setting-itself x i s image))

  on_type : typ_instance (composed (h.narrowing.more ++ set ∷ [])) t ≡ image
  on_type =
      instance-append h.narrowing.more (set ∷ []) t
      ∙ (ap (typ_instance (composed (set ∷ []))) (narrows_image A p.index s h.narrows)
      ∙ (instance-untouched set [] image away ∙ typ_instance-identity image))

  pub is_set : IsSet A p (record { sets = mid.sets ++ bind x i s image ∷ []; index = mid.index; next = mid.next }) x i s t
  is_set = record {
    image = image;
    narrowed = h.narrowing.more;
    further = record {
      sets = ap (λ xs. xs ++ set ∷ []) h.narrowing.further.sets ∙ append_assoc p.sets h.narrowing.more (set ∷ []);
      index = h.narrowing.further.index;
      later = h.narrowing.further.later;
    };
    free = free;
    narrows = h.narrows;
    equated = on_variable ∙ sym on_type;
  }

module _ (A : Algebra) (p mid : Progress) (variable other t image : Typ) (x i : ℕ) (s own : List ℕ) (next : ℕ) (tidy_mid : IsTidy mid) (whole : TVar x i s ≡ variable) (absent : ¬ IsIn variable (map typ_variable p.sets))
    (old : IsOldPair p.index p.next (pair variable other)) (is_own : own ≡ s) (is_t : t ≡ typ_instance (composed p.sets) other) (b : Bool) (test : IsTrue b ↔ OccursInTyp variable t) (not_there : b ≡ false) (h : IsNarrowed A s p mid t image) (is_next : next ≡ mid.next) where
  here_absent : ¬ IsIn (TVar x i s) (map typ_variable p.sets)
  here_absent = subst (λ (v : Typ). ¬ IsIn v (map typ_variable p.sets)) (sym whole) absent

  here_new : ¬ IsFresh p.index p.next (TVar x i s)
  here_new = let olds = subst (IsOld p.index p.next) (sym whole) old.0 in olds (TVar x i s) refl

  here_free : ¬ OccursInTyp (TVar x i s) t
  here_free o = false_true (sym not_there ∙ test.1 (subst (λ (v : Typ). OccursInTyp v t) whole o))
    where
      false_true : false ≡ true → ⊥
      false_true e = cc

  progress : ◌≡◌ {A = Progress} (record { sets = mid.sets ++ bind x i own image ∷ []; index = mid.index; next = next }) (record { sets = mid.sets ++ bind x i s image ∷ []; index = mid.index; next = mid.next })
  progress = λ l. record { sets = mid.sets ++ bind x i (is_own l) image ∷ []; index = mid.index; next = is_next l }

  pub treated_absent : ¬ IsIn (TVar x i own) (map typ_variable mid.sets)
  treated_absent = subst (λ (r : List ℕ). ¬ IsIn (TVar x i r) (map typ_variable mid.sets)) (sym is_own) (set_absent A p mid x i s t image tidy_mid here_absent here_new here_free h)

  pub treated_tidy : IsTidy (record { sets = mid.sets ++ bind x i own image ∷ []; index = mid.index; next = next })
  treated_tidy = subst IsTidy (sym progress) (set_tidy A p mid x i s t image tidy_mid here_absent here_new here_free h)

  pub treated_set : (new : Progress) → new ≡ record { sets = mid.sets ++ bind x i own image ∷ []; index = mid.index; next = next } → IsSetTo A p new variable (typ_instance (composed p.sets) other)
  treated_set new e =
      subst (λ (v : Typ). IsSetTo A p new v (typ_instance (composed p.sets) other)) whole
      (subst (IsSet A p new x i s) is_t (subst (λ (q : Progress). IsSet A p q x i s t) (sym (e ∙ progress)) (is_set A p mid x i s t image tidy_mid here_absent here_new here_free h)))

-- A constructor's type stays one under a map, so that no instance of it is of a sort of which no such type is.
pub out_of_sort : (A : Algebra) (k : ℕ) (s : List ℕ) (ts : List Typ) (typs : Typ → Typ) → HasNoSuchArguments A k s (length ts) → HasNoInstance A (typ_instance typs (Con k (typs_of ts))) s
out_of_sort A k s ts typs none = subst (λ (us : Typs). HasNoInstance A (Con k us) s) (sym (typs_instance-of typs ts)) (ask_none A k s (map (typ_instance typs) ts) (subst (HasNoSuchArguments A k s) (sym (length-map ts (typ_instance typs))) none))

pub out_answer : {X : Type 0} (Q : X → Type 0) (A : Algebra) (k : ℕ) (s : List ℕ) (ts : List Typ) (typs : Typ → Typ) (found : Option X) (none : Bool) → MatchOption found (HasNoSuchArguments A k s (length ts)) Q → is_some found ≡ not none
    → OnTrue none (HasNoInstance A (typ_instance typs (Con k (typs_of ts))) s)
out_answer Q A k s ts typs found false h e = tt
out_answer Q A k s ts typs None true h e = out_of_sort A k s ts typs h
out_answer Q A k s ts typs (Some x) true h e = absurd (true_false e)
  where
    true_false : true ≡ false → ⊥
    true_false e = cc

-- A variable that occurs in the type, or is of a sort that no instance of it has, can't be set to it.
pub occurs_unset : (A : Algebra) (variable t : Typ) (x i : ℕ) (s : List ℕ) → TVar x i s ≡ variable → OccursInTyp variable t → CannotBeSetTo A variable t
occurs_unset A variable t x i s whole o = subst (λ (v : Typ). OccursInTyp v t → CannotBeSetTo A v t) whole (λ here. inl here) o

pub sortless_unset : (A : Algebra) (variable t : Typ) (x i : ℕ) (s : List ℕ) → TVar x i s ≡ variable → HasNoInstance A t s → CannotBeSetTo A variable t
sortless_unset A variable t x i s whole none = subst (λ (v : Typ). CannotBeSetTo A v t) whole (inr none)
