-- Settings as pairs: what unifies them and pairs unifies the pairs in which the set variables are replaced; and the other way round, where the images are of their sorts.
use Rattle.std.proofs.Common.{◌≡◌, ℕ, List, [], ◌∷◌, ◌++◌, map, inl, inr, refl, ap, sym, subst, ◌∙◌, Bool, true, false, cond}
use Rattle.std.specs.Prelude.{reverse, MatchBool, Result, Ok, Err, IfOk}
use Rattle.std.proofs.lemmas.List.{reverse-reverse}
use Rattle.std.proofs.lemmas.Grind.{reverse_onto}
use Rattle.pure_text.specs.Lists.{IsIn, Each}
use Rattle.pure_text.proofs.ListLaws.{each-append}
use Rattle.pure_definitions.specs.Types.Typ.{Typ, TFree, TVar, Con, Typs, also, typs_of, typ_eq}
use Rattle.pure_definitions.specs.Types.Occurs.{OccursInTyp}
use Rattle.pure_definitions.specs.Types.Order.{Algebra, IsOfSort}
use Rattle.pure_definitions.specs.Terms.Subst.{TypBind, IsTypMap, typ_variable, typ_image, typ_instance, typs_instance}
use Rattle.pure_definitions.specs.Models.Equality.{typ_eq-same}
use Rattle.pure_definitions.proofs.OrderLaws.{sort_below-itself}
use Rattle.pure_definitions.proofs.EntryLemmas.{chosen, typ_image-entry}
use Rattle.pure_term_laws.specs.LawsOccurs.{IsTypVariable}
use Rattle.pure_term_laws.proofs.OccursLaws.{typ_instances-agree}
use Rattle.pure_term_laws.proofs.MapLaws.{typ_instance-again}
use Rattle.pure_tunify.specs.declared.pair.TypPair.{TypPair}
use Rattle.pure_tunify.specs.Unifiers.{IsSubstitution, Equates, IsUnifier, HasUnifier, HasNoUnifier}
use Rattle.pure_tunify.specs.Steps.{pair, instance_pair}
use Rattle.pure_tunify.specs.Settings.{composed, AreTriangular}
use Rattle.pure_tunify.proofs.MapLaws.{after_is_substitution, equates-back}
use Rattle.pure_tunify.proofs.NodeLaws.{same_arguments}
use Rattle.pure_tunify.proofs.SettingLaws.{as_variable, composed-image, instance-free}
use Rattle.pure_tunify.proofs.SortLaws.{composed-substitution}

-- The map makes each setting equal.
abbrev EquatesSettings : (Typ → Typ) → List TypBind → Type 0
EquatesSettings typs sets = Each (λ b. typs (typ_variable b) ≡ typ_instance typs b.image) sets

-- the map but at the set variables, which stay
abbrev but_set : List TypBind → (Typ → Typ) → Typ → Typ
but_set [] typs v = typs v
but_set (b ∷ bs) typs v = cond (typ_eq (typ_variable b) v) v (but_set bs typs v)

but_set-cases : (P : Typ → Type 0) (sets : List TypBind) (typs : Typ → Typ) (v : Typ) → P v → P (typs v) → P (but_set sets typs v)
but_set-cases P [] typs v h k = k
but_set-cases P (b ∷ bs) typs v h k = chosen P (typ_eq (typ_variable b) v) v (but_set bs typs v) (λ e. h) (but_set-cases P bs typs v h k)

but_set-absent : (sets : List TypBind) (typs : Typ → Typ) (v : Typ) → (¬ IsIn v (map typ_variable sets)) → but_set sets typs v ≡ typs v
but_set-absent [] typs v absent = refl
but_set-absent (b ∷ bs) typs v absent =
    chosen (λ T. T ≡ typs v) (typ_eq (typ_variable b) v) v (but_set bs typs v) (λ e. absurd (absent (inl (sym (typ_eq-same (typ_variable b) v e))))) (but_set-absent bs typs v (λ m. absent (inr m)))

absent_in : (sets : List TypBind) (v t : Typ) → Each (λ b. ¬ OccursInTyp (typ_variable b) t) sets → OccursInTyp v t → ¬ IsIn v (map typ_variable sets)
absent_in [] v t each o m = m
absent_in (b ∷ bs) v t each o (inl e) = each.0 (subst (λ (w : Typ). OccursInTyp w t) e o)
absent_in (b ∷ bs) v t each o (inr n) = absent_in bs v t each.1 o n

-- A map that makes settings equal doesn't tell a type from that with the set variables replaced.
replaced-variable : (typs : Typ → Typ) (sets : List TypBind) → EquatesSettings typs sets → (v : Typ) → IsTypVariable v → typ_instance typs (composed sets v) ≡ typs v
replaced-variable typs [] each v is = as_variable typs v is
replaced-variable typs (b ∷ bs) each v is =
    (typ_instance-again (composed bs) typs (typ_image (b ∷ []) v) ∙ typ_instances-agree (λ w. typ_instance typs (composed bs w)) typs (typ_image (b ∷ []) v) (λ w at o. replaced-variable typs bs each.1 w at))
    ∙ one
  where
    one : typ_instance typs (typ_image (b ∷ []) v) ≡ typs v
    one = chosen (λ T. typ_instance typs T ≡ typs v) (typ_eq (typ_variable b) v) b.image v (λ e. sym each.0 ∙ ap typs (typ_eq-same (typ_variable b) v e)) (as_variable typs v is)

replaced : (typs : Typ → Typ) (sets : List TypBind) → EquatesSettings typs sets → (t : Typ) → typ_instance typs (typ_instance (composed sets) t) ≡ typ_instance typs t
replaced typs sets each t = typ_instance-again (composed sets) typs t ∙ typ_instances-agree (λ v. typ_instance typs (composed sets v)) typs t (λ v is o. replaced-variable typs sets each v is)

module _ (A : Algebra) (sets : List TypBind) (ps : List TypPair) (tri : AreTriangular sets) where
  module _ (typs : Typ → Typ) (sub : IsSubstitution A typs) (settings : EquatesSettings typs sets) (each : Each (Equates typs) ps) where
    there_substitution : IsSubstitution A (but_set sets typs)
    there_substitution = record {
      respects = record {
        fixed = λ x s. but_set-cases (λ T. IsOfSort A T s) sets typs (TFree x s) (sort_below-itself A s) (sub.respects.fixed x s);
        schematic = λ x i s. but_set-cases (λ T. IsOfSort A T s) sets typs (TVar x i s) (sort_below-itself A s) (sub.respects.schematic x i s);
      };
      keeps = λ x s. but_set-cases (λ T. T ≡ TFree x s) sets typs (TFree x s) refl (sub.keeps x s);
    }

    there_is : (t : Typ) → typ_instance (but_set sets typs) (typ_instance (composed sets) t) ≡ typ_instance typs t
    there_is t =
        typ_instances-agree (but_set sets typs) typs (typ_instance (composed sets) t) (λ v is o. but_set-absent sets typs v (absent_in sets v (typ_instance (composed sets) t) (instance-free sets tri t) o))
        ∙ replaced typs sets settings t

    there_equates : (qs : List TypPair) → Each (Equates typs) qs → Each (Equates (but_set sets typs)) (map (instance_pair (composed sets)) qs)
    there_equates [] all = tt
    there_equates (q ∷ qs) all = (there_is q.left ∙ (all.0 ∙ sym (there_is q.right)), there_equates qs all.1)

    -- What unifies settings and pairs unifies the replaced pairs, but at the set variables.
    replaced_unifier : IsUnifier A (map (instance_pair (composed sets)) ps) (but_set sets typs)
    replaced_unifier = record { substitution = there_substitution; equates = there_equates ps each }

  module _ (distinct : IsTypMap sets) (sorts : Each (λ b. IsOfSort A b.image b.sort) sets) (typs : Typ → Typ) (u : IsUnifier A (map (instance_pair (composed sets)) ps) typs) where
    abbrev behind : Typ → Typ
    behind v = typ_instance typs (composed sets v)

    behind-image : (b : TypBind) → IsIn b sets → behind (typ_variable b) ≡ typ_instance behind b.image
    behind-image b m =
        ap (typ_instance typs) (composed-image sets (typ_variable b) tri tt ∙ ap (typ_instance (composed sets)) (typ_image-entry sets b distinct m))
        ∙ typ_instance-again (composed sets) typs b.image

    behind_settings : (bs : List TypBind) → ((b : TypBind) → IsIn b bs → behind (typ_variable b) ≡ typ_instance behind b.image) → EquatesSettings behind bs
    behind_settings [] h = tt
    behind_settings (b ∷ bs) h = (h b (inl refl), behind_settings bs (λ c m. h c (inr m)))

    -- What unifies the replaced pairs, behind the settings, unifies settings and pairs.
    settings_unifier : IsSubstitution A behind × EquatesSettings behind sets × Each (Equates behind) ps
    settings_unifier = (
      after_is_substitution A (composed sets) typs (composed-substitution A sets sorts) u.substitution,
      behind_settings sets behind-image,
      equates-back (composed sets) typs ps u.equates,
    )

-- Settings and pairs as one pair, of two constructors' types.
abbrev settings_pair : ℕ → List TypBind → List TypPair → TypPair
settings_pair k sets work = pair (Con k (typs_of (map typ_variable sets ++ map (λ p. p.left) work))) (Con k (typs_of (map (λ b. b.image) sets ++ map (λ p. p.right) work)))

first_same : (t u : Typ) (ts us : Typs) → also t ts ≡ also u us → t ≡ u
first_same t u ts us e = cc

rest_same : (t u : Typ) (ts us : Typs) → also t ts ≡ also u us → ts ≡ us
rest_same t u ts us e = cc

module _ (typs : Typ → Typ) where
  sides_there : (work : List TypPair) → typs_instance typs (typs_of (map (λ p. p.left) work)) ≡ typs_instance typs (typs_of (map (λ p. p.right) work)) → Each (Equates typs) work
  sides_there [] e = tt
  sides_there (q ∷ work) e = (first_same _ _ _ _ e, sides_there work (rest_same _ _ _ _ e))

  sides_back : (work : List TypPair) → Each (Equates typs) work → typs_instance typs (typs_of (map (λ p. p.left) work)) ≡ typs_instance typs (typs_of (map (λ p. p.right) work))
  sides_back [] each = refl
  sides_back (q ∷ work) each = λ l. also (each.0 l) (sides_back work each.1 l)

  all_there : (sets : List TypBind) (work : List TypPair) → typs_instance typs (typs_of (map typ_variable sets ++ map (λ p. p.left) work)) ≡ typs_instance typs (typs_of (map (λ b. b.image) sets ++ map (λ p. p.right) work))
      → EquatesSettings typs sets × Each (Equates typs) work
  all_there [] work e = (tt, sides_there work e)
  all_there (b ∷ bs) work e = let rest = all_there bs work (rest_same _ _ _ _ e) in ((first_same _ _ _ _ e, rest.0), rest.1)

  all_back : (sets : List TypBind) (work : List TypPair) → EquatesSettings typs sets → Each (Equates typs) work
      → typs_instance typs (typs_of (map typ_variable sets ++ map (λ p. p.left) work)) ≡ typs_instance typs (typs_of (map (λ b. b.image) sets ++ map (λ p. p.right) work))
  all_back [] work settings each = sides_back work each
  all_back (b ∷ bs) work settings each = λ l. also (settings.0 l) (all_back bs work settings.1 each l)

each_reversed : (P : TypPair → Type 0) (xs : List TypPair) → Each P xs → Each P (reverse xs)
each_reversed P [] each = tt
each_reversed P (x ∷ xs) each = subst (Each P) (sym (reverse_onto xs x [])) (each-append P (reverse xs) (x ∷ []) (each_reversed P xs each.1) (each.0, tt))

-- Whether the replaced pairs have a unifier, by whether settings and pairs as one pair have one.
solvable_answer : (A : Algebra) (sets : List TypBind) (work : List TypPair) (k : ℕ) (can : Bool) → AreTriangular sets → IsTypMap sets → Each (λ b. IsOfSort A b.image b.sort) sets
    → MatchBool can (HasUnifier A (settings_pair k sets work ∷ [])) (HasNoUnifier A (settings_pair k sets work ∷ []))
    → MatchBool can (HasUnifier A (map (instance_pair (composed sets)) (reverse work))) (HasNoUnifier A (map (instance_pair (composed sets)) (reverse work)))
solvable_answer A sets work k true tri distinct sorts h =
    let all = all_there h.0 sets work (same_arguments k k _ _ h.1.equates.0) in
    (but_set sets h.0, replaced_unifier A sets (reverse work) tri h.0 h.1.substitution all.0 (each_reversed (Equates h.0) work all.1))
solvable_answer A sets work k false tri distinct sorts h = λ typs u.
    let found = settings_unifier A sets (reverse work) tri distinct sorts typs u in
    let each : Each (Equates (λ v. typ_instance typs (composed sets v))) work = subst (Each (Equates (λ v. typ_instance typs (composed sets v)))) (reverse-reverse work) (each_reversed (Equates (λ v. typ_instance typs (composed sets v))) (reverse work) found.2) in
    h (λ v. typ_instance typs (composed sets v)) (record {
      substitution = found.0;
      equates = (ap (Con k) (all_back (λ v. typ_instance typs (composed sets v)) sets work found.1 each), tt);
    })

pub solvable_result : {E : Type 0} (A : Algebra) (sets : List TypBind) (work : List TypPair) (k : ℕ) (left right : Typ) (lefts rights : List Typ) (answer : Result Bool E) → AreTriangular sets → IsTypMap sets → Each (λ b. IsOfSort A b.image b.sort) sets
    → lefts ≡ map typ_variable sets ++ map (λ p. p.left) work → rights ≡ map (λ b. b.image) sets ++ map (λ p. p.right) work → left ≡ Con k (typs_of lefts) → right ≡ Con k (typs_of rights)
    → IfOk answer (λ can. MatchBool can (HasUnifier A (pair left right ∷ [])) (HasNoUnifier A (pair left right ∷ [])))
    → IfOk answer (λ can. MatchBool can (HasUnifier A (map (instance_pair (composed sets)) (reverse work))) (HasNoUnifier A (map (instance_pair (composed sets)) (reverse work))))
solvable_result A sets work k left right lefts rights (Ok can) tri distinct sorts at_lefts at_rights at_left at_right h =
    let same : pair left right ≡ settings_pair k sets work = λ l. pair ((at_left ∙ ap (λ ts. Con k (typs_of ts)) at_lefts) l) ((at_right ∙ ap (λ ts. Con k (typs_of ts)) at_rights) l) in
    solvable_answer A sets work k can tri distinct sorts (subst (λ (p : TypPair). MatchBool can (HasUnifier A (p ∷ [])) (HasNoUnifier A (p ∷ []))) same h)
solvable_result A sets work k left right lefts rights (Err e) tri distinct sorts at_lefts at_rights at_left at_right h = tt
