-- Narrowing variable by variable: a map renames those that have had their turn, and the type is written at the end.
use Rattle.std.proofs.Common.{◌≡◌, ℕ, ◌+◌, ◌<◌, ◌≤◌, List, [], ◌∷◌, ◌++◌, map, inl, inr, ◌⊎◌, refl, ap, sym, subst, ◌∙◌, arith, Bool, true, false, cond, length, get_or, take, take_all, drop, append_assoc}
use Rattle.std.proofs.lemmas.List.{append-nil, map-append}
use Rattle.pure_text.specs.Lists.{IsIn, Each}
use Rattle.pure_text.proofs.ListLaws.{each_of, each_at, each_imply, each-append, split_at, read_in, in-append_left}
use Rattle.pure_text.proofs.LoopLaws.{each_turn}
use Rattle.pure_typ.specs.TypBound.{IsTypBound}
use Rattle.pure_definitions.specs.Types.Typ.{Typ, TFree, TVar, Con, typ_eq}
use Rattle.pure_definitions.specs.Types.Occurs.{OccursInTyp}
use Rattle.pure_definitions.specs.Types.Order.{Algebra, IsOfClass, IsOfSort}
use Rattle.pure_definitions.specs.Terms.Subst.{TypBind, typ_variable, typ_image, typ_instance}
use Rattle.pure_definitions.proofs.EntryLemmas.{chosen, typ_image-absent}
use Rattle.pure_term_laws.specs.LawsOccurs.{IsTypVariable}
use Rattle.pure_term_laws.proofs.OccursLaws.{typ_instances-agree}
use Rattle.pure_term_laws.proofs.SubstLaws.{typ_instance-identity}
use Rattle.pure_term_laws.proofs.MapLaws.{typ_instance-again}
use Rattle.pure_tunify.specs.declared.asks.Asked.{Asked}
use Rattle.pure_tunify.specs.Unifiers.{IsSubstitution, IsFresh, IsOld}
use Rattle.pure_tunify.specs.Occurrences.{schematics}
use Rattle.pure_tunify.specs.Asks.{AreAsked}
use Rattle.pure_tunify.specs.Steps.{setting}
use Rattle.pure_tunify.specs.Settings.{bind, Progress, IsTidy}
use Rattle.pure_tunify.specs.Procedure.{IsNeeded, NeedsNoMore, IsNeededSort, IsFirstToNarrow}
use Rattle.pure_tunify.specs.Asking.{asked_variable, AsksNoMore, IsUnionAsked}
use Rattle.pure_tunify.specs.Working.{IsFreeOf, IsNarrowing, IsNarrowed}
use Rattle.pure_tunify.specs.NarrowingStep.{fresh_bind, IsFreshlySet, IsTurn}
use Rattle.pure_tunify.proofs.MapLaws.{identity_is_substitution, after_is_substitution, fresh-later, fresh_is_variable}
use Rattle.pure_tunify.proofs.SettingLaws.{as_variable, other_variable}
use Rattle.pure_tunify.proofs.MeetLaws.{each_is_asked}
use Rattle.pure_tunify.proofs.NarrowLaws.{not_fresh_later, schematics_occur, needs_no_more, asks_no_more, needed_sort, after_tidy, sub, needed_later, needed_of_fresh, needed_kept, replaced_narrowing, narrowing_start, narrowing_then, narrowed_fits}
use Rattle.pure_tunify.proofs.NarrowableLaws.{schematics_renamed}
use Rattle.pure_tunify.proofs.TreatLaws.{in_map_split}

-- What holds of all images holds of a variable's that is set, and of each variable's, where it holds of the variable.
image_set : (P : Typ → Type 0) (bs : List TypBind) (v : Typ) → Each (λ b. P b.image) bs → IsIn v (map typ_variable bs) → P (typ_image bs v)
image_set P [] v each m = absurd m
image_set P (b ∷ bs) v each m = by (typ_eq (typ_variable b) v) refl m (image_set P bs v each.1)
  where
    by : (c : Bool) → typ_eq (typ_variable b) v ≡ c → IsIn v (map typ_variable (b ∷ bs)) → (IsIn v (map typ_variable bs) → P (typ_image bs v)) → P (cond c b.image (typ_image bs v))
    by true e m rest = each.0
    by false e (inl same) rest = absurd (other_variable b v e (sym same))
    by false e (inr m) rest = rest m

image_any : (P : Typ → Type 0) (bs : List TypBind) (v : Typ) → Each (λ b. P b.image) bs → P v → P (typ_image bs v)
image_any P [] v each h = h
image_any P (b ∷ bs) v each h = chosen P (typ_eq (typ_variable b) v) b.image (typ_image bs v) (λ e. each.0) (image_any P bs v each.1 h)

untouched : (b : TypBind) (t : Typ) → (¬ OccursInTyp (typ_variable b) t) → typ_instance (typ_image (b ∷ [])) t ≡ t
untouched b t away =
    typ_instances-agree (typ_image (b ∷ [])) (λ v. v) t (λ v is o. typ_image-absent (b ∷ []) v (λ m. elim m [ inl e ↦ away (subst (λ (w : Typ). OccursInTyp w t) e o) | inr n ↦ absurd n ]))
    ∙ typ_instance-identity t

-- A map with one entry more is the map and then the entry, where the entry's variable stands in no image.
image_then : (bs : List TypBind) (b : TypBind) (v : Typ) → IsTypVariable v → Each (λ c. ¬ OccursInTyp (typ_variable b) c.image) bs → typ_instance (typ_image (b ∷ [])) (typ_image bs v) ≡ typ_image (bs ++ b ∷ []) v
image_then [] b v is each = as_variable (typ_image (b ∷ [])) v is
image_then (c ∷ cs) b v is each = by (typ_eq (typ_variable c) v) (image_then cs b v is each.1)
  where
    by : (d : Bool) → typ_instance (typ_image (b ∷ [])) (typ_image cs v) ≡ typ_image (cs ++ b ∷ []) v → typ_instance (typ_image (b ∷ [])) (cond d c.image (typ_image cs v)) ≡ cond d c.image (typ_image (cs ++ b ∷ []) v)
    by true rest = untouched b c.image each.0
    by false rest = rest

free_unset : (sets : List TypBind) (v t : Typ) → IsFreeOf sets t → OccursInTyp v t → ¬ IsIn v (map typ_variable sets)
free_unset [] v t each o m = m
free_unset (b ∷ bs) v t each o (inl e) = each.0 (subst (λ (w : Typ). OccursInTyp w t) e o)
free_unset (b ∷ bs) v t each o (inr m) = free_unset bs v t each.1 o m

in_map_left : (xs ys : List TypBind) (v : Typ) → IsIn v (map typ_variable xs) → IsIn v (map typ_variable (xs ++ ys))
in_map_left [] ys v m = absurd m
in_map_left (x ∷ xs) ys v (inl e) = inl e
in_map_left (x ∷ xs) ys v (inr m) = inr (in_map_left xs ys v m)

in_map_last : (xs : List TypBind) (b : TypBind) → IsIn (typ_variable b) (map typ_variable (xs ++ b ∷ []))
in_map_last [] b = inl refl
in_map_last (x ∷ xs) b = inr (in_map_last xs b)

in_variables : (asked : List Asked) (a : Asked) → IsIn a asked → IsIn (asked_variable a) (map asked_variable asked)
in_variables [] a m = absurd m
in_variables (x ∷ xs) a (inl e) = inl (ap asked_variable e)
in_variables (x ∷ xs) a (inr m) = inr (in_variables xs a m)

fresh_schematic : (index n : ℕ) (v : Typ) → IsFresh index n v → schematics v ≡ v ∷ []
fresh_schematic index n (TVar x i s) f = refl
fresh_schematic index n (TFree x s) f = absurd f
fresh_schematic index n (Con k ts) f = absurd f

fresh_occurs : (index n : ℕ) (v w : Typ) → IsFresh index n w → OccursInTyp v w → IsFresh index n v
fresh_occurs index n v (TVar x i s) f o = subst (IsFresh index n) (sym o) f
fresh_occurs index n v (TFree x s) f o = absurd f
fresh_occurs index n v (Con k ts) f o = absurd f

-- No variable of the type is set or fresh, and this is what a sort asks of its variables, in order.
pub record IsAskedOf (A : Algebra) (s : List ℕ) (old : Progress) (t : Typ) (asked : List Asked) : Type 0 where
  pub are : AreAsked A t s asked
  pub in_order : map asked_variable asked ≡ schematics t
  pub old_typ : IsOld old.index old.next t
  pub free : IsFreeOf old.sets t

-- The variable was fresh at first, and isn't any longer.
pub record IsUsed (old now : Progress) (v : Typ) : Type 0 where
  pub fresh : IsFresh old.index old.next v
  pub used : ¬ IsFresh now.index now.next v

-- So many of the variables have had their turns: a map renames those that are narrowed, and of those that it made no more is needed.
pub record HasRenamed (A : Algebra) (s : List ℕ) (old now : Progress) (t : Typ) (asked : List Asked) (i : ℕ) (renamed : List TypBind) : Type 0 where
  pub typ : Typ
  pub is : typ ≡ typ_instance (typ_image renamed) t
  pub narrowing : IsNarrowing A s old now t typ
  pub sets : now.sets ≡ old.sets ++ renamed
  pub tidy : IsTidy now
  pub substitution : IsSubstitution A (typ_image renamed)
  pub images : Each (λ b. IsUsed old now b.image) renamed
  pub settled : Each (λ b. NeedsNoMore A typ s b.image) renamed
  pub still : (v : Typ) (c : ℕ) → ¬ IsFresh old.index old.next v → IsNeeded A typ s v c → IsNeeded A t s v c
  pub kept : (v : Typ) (c : ℕ) → IsTypVariable v → (¬ IsIn v (map typ_variable renamed)) → IsNeeded A t s v c → IsNeeded A typ s v c
  pub passed : Each (λ a. AsksNoMore A asked a ⊎ IsIn (asked_variable a) (map typ_variable renamed)) (take i asked)

pub renamed_first : (A : Algebra) (s : List ℕ) (old : Progress) (t : Typ) (asked : List Asked) (renamed : List TypBind) → IsOld old.index old.next t → IsFreeOf old.sets t → IsTidy old → renamed ≡ [] → HasRenamed A s old old t asked 0 renamed
renamed_first A s old t asked renamed old_typ free tidy empty =
    let start : HasRenamed A s old old t asked 0 [] = record {
      typ = t;
      is = sym (typ_instance-identity t);
      narrowing = narrowing_start A s old t old_typ free;
      sets = sym (append-nil old.sets);
      tidy = tidy;
      substitution = identity_is_substitution A;
      images = tt;
      settled = tt;
      still = λ v c new k. k;
      kept = λ v c is absent k. k;
      passed = tt;
    } in
    subst (HasRenamed A s old old t asked 0) (sym empty) start

-- What the map makes of a variable needs no more, where no more is asked of it or the map sets it.
module _ (A : Algebra) (s : List ℕ) (old now : Progress) (t : Typ) (asked : List Asked) (i : ℕ) (renamed : List TypBind) (of : IsAskedOf A s old t asked) (h : HasRenamed A s old now t asked i renamed) where
  occurs_there : (a : Asked) → IsIn a asked → OccursInTyp (asked_variable a) t
  occurs_there a m = schematics_occur (asked_variable a) t (subst (IsIn (asked_variable a)) of.in_order (in_variables asked a m))

  not_fresh_at_first : (a : Asked) → IsIn a asked → ¬ IsFresh old.index old.next (asked_variable a)
  not_fresh_at_first a m = of.old_typ (asked_variable a) (occurs_there a m)

  pub not_fresh_now : (a : Asked) → IsIn a asked → ¬ IsFresh now.index now.next (asked_variable a)
  not_fresh_now a m = subst (λ (k : ℕ). ¬ IsFresh k now.next (asked_variable a)) (sym h.narrowing.further.index) (fresh-later old.index old.next now.next (asked_variable a) h.narrowing.further.later (not_fresh_at_first a m))

  pub unset_now : (a : Asked) → IsIn a asked → (¬ IsIn (asked_variable a) (map typ_variable renamed)) → ¬ IsIn (asked_variable a) (map typ_variable now.sets)
  unset_now a m absent n = elim (in_map_split old.sets renamed (asked_variable a) (subst (λ (xs : List TypBind). IsIn (asked_variable a) (map typ_variable xs)) h.sets n)) [
    | inl k ↦ free_unset old.sets (asked_variable a) t of.free (occurs_there a m) k
    | inr k ↦ absent k
  ]

  needs_no_more_now : (a : Asked) → IsIn a asked → AsksNoMore A asked a ⊎ IsIn (asked_variable a) (map typ_variable renamed) → NeedsNoMore A h.typ s (typ_image renamed (asked_variable a))
  needs_no_more_now a m (inr k) = image_set (NeedsNoMore A h.typ s) renamed (asked_variable a) h.settled k
  needs_no_more_now a m (inl none) = image_any (NeedsNoMore A h.typ s) renamed (asked_variable a) h.settled
      (λ c k. needs_no_more A t s asked of.are a none c (h.still (asked_variable a) c (not_fresh_at_first a m) k))

  each_before : (xs : List Asked) → ((x : Asked) → IsIn x xs → IsIn x asked) → Each (λ a. AsksNoMore A asked a ⊎ IsIn (asked_variable a) (map typ_variable renamed)) xs → Each (NeedsNoMore A h.typ s) (map (typ_image renamed) (map asked_variable xs))
  each_before [] among each = tt
  each_before (x ∷ xs) among each = (needs_no_more_now x (among x (inl refl)) each.0, each_before xs (λ y m. among y (inr m)) each.1)

  variables_now : schematics h.typ ≡ map (typ_image renamed) (map asked_variable asked)
  variables_now =
      ap schematics h.is
      ∙ schematics_renamed (typ_image renamed) (λ x q. h.substitution.keeps x q, λ x k q. image_any (λ T. schematics T ≡ T ∷ []) renamed (TVar x k q) (each_imply (λ b. IsUsed old now b.image) (λ b. schematics b.image ≡ b.image ∷ []) renamed (λ b u. fresh_schematic old.index old.next b.image u.fresh) h.images) refl) t
      ∙ ap (map (typ_image renamed)) (sym of.in_order)

  -- When all have had their turns, the type is of the sort.
  fits_at_last : Each (λ a. AsksNoMore A asked a ⊎ IsIn (asked_variable a) (map typ_variable renamed)) asked → IsOfSort A h.typ s
  fits_at_last each = subst (λ (T : Typ). IsOfSort A T s) (sym h.is) ((of.are (typ_image renamed) h.substitution).1 (each_of (λ a. IsOfSort A (typ_image renamed (asked_variable a)) a.asked) asked (λ a m.
      each_of (IsOfClass A (typ_image renamed (asked_variable a))) a.asked (λ c k. needs_no_more_now a m (each_at (λ x. AsksNoMore A asked x ⊎ IsIn (asked_variable x) (map typ_variable renamed)) asked each a m) c (needed a m c k)))))
    where
      image_variable : (a : Asked) → IsTypVariable (typ_image renamed (asked_variable a))
      image_variable a = image_any IsTypVariable renamed (asked_variable a) (each_imply (λ b. IsUsed old now b.image) (λ b. IsTypVariable b.image) renamed (λ b u. fresh_is_variable old.index old.next b.image u.fresh) h.images) tt

      needed : (a : Asked) → IsIn a asked → (c : ℕ) → IsIn c a.asked → IsNeeded A h.typ s (typ_image renamed (asked_variable a)) c
      needed a m c k typs typs_sub is = each_at (IsOfClass A (typs (typ_image renamed (asked_variable a)))) a.asked
          (subst (λ (T : Typ). IsOfSort A T a.asked) (as_variable typs (typ_image renamed (asked_variable a)) (image_variable a))
          (each_is_asked A t s asked a of.are m (λ v. typ_instance typs (typ_image renamed v)) (after_is_substitution A (typ_image renamed) typs h.substitution typs_sub)
          (subst (λ (T : Typ). IsOfSort A T s) (ap (typ_instance typs) h.is ∙ typ_instance-again (typ_image renamed) typs t) is))) c k

  pub renamed_last : (u : Typ) → length asked ≤ i → u ≡ typ_instance (typ_image renamed) t → IsNarrowed A s old now t u
  renamed_last u full e = narrowed_fits A s old now now t h.typ u h.narrowing (e ∙ sym h.is, refl, fits_at_last (subst (Each (λ a. AsksNoMore A asked a ⊎ IsIn (asked_variable a) (map typ_variable renamed))) (take_all i asked full) h.passed))

  -- The turn of one variable.
  module _ (a : Asked) (within : i < length asked) (read : a ≡ get_or asked i a) where
    there : IsIn a asked
    there = read_in asked i a within read

    stays_renamed : AsksNoMore A asked a ⊎ IsIn (asked_variable a) (map typ_variable renamed) → HasRenamed A s old now t asked (i + 1) renamed
    stays_renamed done = record {
      typ = h.typ;
      is = h.is;
      narrowing = h.narrowing;
      sets = h.sets;
      tidy = h.tidy;
      substitution = h.substitution;
      images = h.images;
      settled = h.settled;
      still = h.still;
      kept = h.kept;
      passed = each_turn (λ x. AsksNoMore A asked x ⊎ IsIn (asked_variable x) (map typ_variable renamed)) asked i a within read h.passed done;
    }

    module _ (union : List ℕ) (unset : ¬ IsIn (asked_variable a) (map typ_variable renamed)) (more : ¬ AsksNoMore A asked a) (is_union : IsUnionAsked A asked a union) where
      needed_now : (c : ℕ) → IsNeeded A t s (asked_variable a) c → IsNeeded A h.typ s (asked_variable a) c
      needed_now c k = h.kept (asked_variable a) c tt unset k

      needed_before : (c : ℕ) → IsNeeded A h.typ s (asked_variable a) c → IsNeeded A t s (asked_variable a) c
      needed_before c k = h.still (asked_variable a) c (not_fresh_at_first a there) k

      need : IsNeededSort A h.typ s (asked_variable a) union
      need = let start : IsNeededSort A t s (asked_variable a) union = needed_sort A t s asked of.are a union is_union in record {
        needed = λ c. (λ k. needed_now c ((start.needed c).0 k), λ k. (start.needed c).1 (needed_before c k));
        reduced = start.reduced;
        ascend = start.ascend;
      }

      split_variables : map asked_variable asked ≡ map asked_variable (take i asked) ++ asked_variable a ∷ map asked_variable (drop (i + 1) asked)
      split_variables = ap (map asked_variable) (split_at asked i a within read) ∙ map-append asked_variable (take i asked) (a ∷ drop (i + 1) asked)

      first : IsFirstToNarrow A h.typ s (asked_variable a)
      first = record {
        front = map (typ_image renamed) (map asked_variable (take i asked));
        back = map (typ_image renamed) (map asked_variable (drop (i + 1) asked));
        stands = variables_now ∙ (ap (map (typ_image renamed)) split_variables ∙ (map-append (typ_image renamed) (map asked_variable (take i asked)) (asked_variable a ∷ map asked_variable (drop (i + 1) asked))
            ∙ ap (λ v. map (typ_image renamed) (map asked_variable (take i asked)) ++ v ∷ map (typ_image renamed) (map asked_variable (drop (i + 1) asked))) (typ_image-absent renamed (asked_variable a) unset)));
        before = each_before (take i asked) (λ x m. subst (IsIn x) (sym (split_at asked i a within read)) (in-append_left x (take i asked) (a ∷ drop (i + 1) asked) m)) h.passed;
        here = λ k. more (asks_no_more A t s asked of.are a (λ c n. k c (needed_now c n)));
      }

      not_fresh : ¬ IsFresh now.index now.next (asked_variable a)
      not_fresh = not_fresh_now a there

      abbrev entry : TypBind
      entry = bind a.name a.index a.sort (TVar now.next now.index union)

      abbrev after : Progress
      after = record { sets = now.sets ++ entry ∷ []; index = now.index; next = now.next + 1 }

      abbrev made : Typ
      made = typ_instance (setting a.name a.index a.sort (TVar now.next now.index union)) h.typ

      away : Each (λ c. ¬ OccursInTyp (asked_variable a) c.image) renamed
      away = each_imply (λ b. IsUsed old now b.image) (λ c. ¬ OccursInTyp (asked_variable a) c.image) renamed (λ b u o. not_fresh_at_first a there (fresh_occurs old.index old.next (asked_variable a) b.image u.fresh o)) h.images

      joined : (v : Typ) → IsTypVariable v → typ_instance (typ_image (entry ∷ [])) (typ_image renamed v) ≡ typ_image (renamed ++ entry ∷ []) v
      joined v is = image_then renamed entry v is away

      made_is : made ≡ typ_instance (typ_image (renamed ++ entry ∷ [])) t
      made_is = ap (typ_instance (typ_image (entry ∷ []))) h.is ∙ (typ_instance-again (typ_image renamed) (typ_image (entry ∷ [])) t
          ∙ typ_instances-agree (λ v. typ_instance (typ_image (entry ∷ [])) (typ_image renamed v)) (typ_image (renamed ++ entry ∷ [])) t (λ v is o. joined v is))

      pub renamed_more : HasRenamed A s old after t asked (i + 1) (renamed ++ entry ∷ [])
      renamed_more = record {
        typ = made;
        is = made_is;
        narrowing = narrowing_then A s old now after t h.typ made h.narrowing (replaced_narrowing A now h.typ s a.name a.index a.sort union h.tidy h.narrowing.old_typ h.narrowing.free first need);
        sets = ap (λ xs. xs ++ entry ∷ []) h.sets ∙ append_assoc old.sets renamed (entry ∷ []);
        tidy = after_tidy now a.name a.index a.sort union h.tidy not_fresh;
        substitution = record {
          respects = record {
            fixed = λ x q. subst (λ (T : Typ). IsOfSort A T q) (joined (TFree x q) tt) (both.respects.fixed x q);
            schematic = λ x k q. subst (λ (T : Typ). IsOfSort A T q) (joined (TVar x k q) tt) (both.respects.schematic x k q);
          };
          keeps = λ x q. sym (joined (TFree x q) tt) ∙ both.keeps x q;
        };
        images = each-append (λ b. IsUsed old after b.image) renamed (entry ∷ []) (each_imply (λ b. IsUsed old now b.image) (λ b. IsUsed old after b.image) renamed
            (λ b u. record { fresh = u.fresh; used = fresh-later now.index now.next (now.next + 1) b.image (omega arith) u.used }) h.images)
            (record { fresh = new_fresh; used = not_fresh_later now.index now.next union }, tt);
        settled = each-append (λ b. NeedsNoMore A made s b.image) renamed (entry ∷ []) (settled_on renamed h.images h.settled) (new_settled, tt);
        still = λ v c new k. h.still v c new (needed_later A now h.typ s a.name a.index a.sort union h.tidy h.narrowing.old_typ h.narrowing.free first need v c (later v new) k);
        kept = λ v c is absent k. needed_kept A now h.typ s a.name a.index a.sort union h.tidy h.narrowing.old_typ h.narrowing.free first need v c
            (λ e. absent (subst (λ (w : Typ). IsIn w (map typ_variable (renamed ++ entry ∷ []))) e (in_map_last renamed entry))) is (h.kept v c is (λ m. absent (in_map_left renamed (entry ∷ []) v m)) k);
        passed = each_turn (λ x. AsksNoMore A asked x ⊎ IsIn (asked_variable x) (map typ_variable (renamed ++ entry ∷ []))) asked i a within read
            (each_imply (λ x. AsksNoMore A asked x ⊎ IsIn (asked_variable x) (map typ_variable renamed)) (λ x. AsksNoMore A asked x ⊎ IsIn (asked_variable x) (map typ_variable (renamed ++ entry ∷ []))) (take i asked)
            (λ x d. elim d [ inl none ↦ inl none | inr m ↦ inr (in_map_left renamed (entry ∷ []) (asked_variable x) m) ]) h.passed) (inr (in_map_last renamed entry));
      }
        where
          both : IsSubstitution A (λ v. typ_instance (typ_image (entry ∷ [])) (typ_image renamed v))
          both = after_is_substitution A (typ_image renamed) (typ_image (entry ∷ [])) h.substitution (sub A now h.typ s a.name a.index a.sort union h.tidy h.narrowing.old_typ h.narrowing.free first need)

          later : (v : Typ) → ¬ IsFresh old.index old.next v → ¬ IsFresh now.index now.next v
          later v new = subst (λ (k : ℕ). ¬ IsFresh k now.next v) (sym h.narrowing.further.index) (fresh-later old.index old.next now.next v h.narrowing.further.later new)

          new_fresh : IsFresh old.index old.next (TVar now.next now.index union)
          new_fresh = (h.narrowing.further.index, h.narrowing.further.later)

          new_settled : NeedsNoMore A made s (TVar now.next now.index union)
          new_settled c k = (need.needed c).1 (needed_of_fresh A now h.typ s a.name a.index a.sort union h.tidy h.narrowing.old_typ h.narrowing.free first need c k)

          settled_on : (bs : List TypBind) → Each (λ b. IsUsed old now b.image) bs → Each (λ b. NeedsNoMore A h.typ s b.image) bs → Each (λ b. NeedsNoMore A made s b.image) bs
          settled_on [] used each = tt
          settled_on (b ∷ bs) used each = (λ c k. each.0 c (needed_later A now h.typ s a.name a.index a.sort union h.tidy h.narrowing.old_typ h.narrowing.free first need b.image c used.0.used k), settled_on bs used.1 each.1)

    pub renamed_turn : (new : Progress) (grown : List TypBind) → IsTurn A asked a now new renamed grown → HasRenamed A s old new t asked (i + 1) grown
    renamed_turn new grown (inr same) = subst (λ (p : Progress). HasRenamed A s old p t asked (i + 1) grown) (sym same.0) (subst (HasRenamed A s old now t asked (i + 1)) (sym same.1) (stays_renamed same.2))
    renamed_turn new grown (inl made) = subst (λ (p : Progress). HasRenamed A s old p t asked (i + 1) grown) (sym made.set.settings) (subst (λ (bs : List TypBind). HasRenamed A s old (after made.union made.unset made.more made.is) t asked (i + 1) bs) (sym made.set.renamed)
        (renamed_more made.union made.unset made.more made.is))

-- A variable that isn't fresh is set to a fresh one.
pub freshly_tidy : (a : Asked) (s : List ℕ) (p : Progress) (b : TypBind) (next later : ℕ) → IsTidy p → (¬ IsFresh p.index p.next (asked_variable a)) → b ≡ fresh_bind a s p → next ≡ p.next → later ≡ next + 1
    → IsTidy (record { sets = p.sets ++ b ∷ []; index = p.index; next = later })
freshly_tidy a s p b next later tidy old made now beyond =
    let same : ◌≡◌ {A = Progress} (record { sets = p.sets ++ b ∷ []; index = p.index; next = later }) (record { sets = p.sets ++ fresh_bind a s p ∷ []; index = p.index; next = p.next + 1 }) = (λ l. record { sets = p.sets ++ made l ∷ []; index = p.index; next = (beyond ∙ ap (λ n. n + 1) now) l }) in
    subst IsTidy (sym same) (after_tidy p a.name a.index a.sort s tidy old)

pub freshly_set : (a : Asked) (s : List ℕ) (p new : Progress) (old_map new_map : List TypBind) (b pushed : TypBind) (next later : ℕ) → b ≡ fresh_bind a s p → pushed ≡ b → next ≡ p.next → later ≡ next + 1 → new_map ≡ old_map ++ pushed ∷ []
    → new ≡ record { sets = p.sets ++ b ∷ []; index = p.index; next = later } → IsFreshlySet a s p new old_map new_map
freshly_set a s p new old_map new_map b pushed next later made copy now beyond grown put = record {
  settings = put ∙ (λ l. record { sets = p.sets ++ made l ∷ []; index = p.index; next = (beyond ∙ ap (λ n. n + 1) now) l });
  renamed = grown ∙ ap (λ e. old_map ++ e ∷ []) (copy ∙ made);
}

pub bound_in : (bs : List TypBind) (a : Asked) (image : Typ) → IsTypBound bs (asked_variable a) image → IsIn (asked_variable a) (map typ_variable bs)
bound_in bs a image h = by bs h.0 h.1 h.2
  where
    by : (xs : List TypBind) (b : TypBind) → IsIn b xs → typ_variable b ≡ asked_variable a → IsIn (asked_variable a) (map typ_variable xs)
    by [] b m e = absurd m
    by (x ∷ xs) b (inl same) e = inl (sym e ∙ ap typ_variable same)
    by (x ∷ xs) b (inr m) e = inr (by xs b m e)
