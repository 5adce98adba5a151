-- A unifier solves the given pairs: each setting on its path is absorbed by it.
use Rattle.std.proofs.Common.{◌≡◌, ℕ, ◌+◌, ◌≤◌, List, [], ◌∷◌, ◌++◌, map, Bool, true, false, cond, inl, inr, refl, ap, sym, subst, ◌∙◌, arith}
use Rattle.pure_text.specs.Lists.{IsIn, Each, AreDistinct}
use Rattle.pure_text.proofs.ListLaws.{each-left, each-right, each_of, each_at}
use Rattle.pure_definitions.specs.Types.Typ.{Typ, TFree, TVar, Con, typ_eq}
use Rattle.pure_definitions.specs.Types.Order.{Algebra, IsOfSort}
use Rattle.pure_definitions.specs.Types.Occurs.{OccursInTyp}
use Rattle.pure_definitions.specs.Terms.Term.{Term, Const, Free, Var, Bound, Abs, App, term_eq}
use Rattle.pure_definitions.specs.Terms.Bounds.{Occurs}
use Rattle.pure_definitions.specs.Terms.Conditions.{IsVariable}
use Rattle.pure_definitions.specs.Terms.Typing.{HasType}
use Rattle.pure_definitions.specs.Terms.Subst.{TypBind, TermBind, typ_variable, term_variable, typ_image, term_image, typ_instance, retyped_variable, term_instance, IsTypMap}
use Rattle.pure_definitions.specs.Reduction.Eta.{EtaReduces, IsLongForm}
use Rattle.pure_definitions.specs.Declarations.Decl.{algebra_of, IsDeclaredClass}
use Rattle.pure_definitions.specs.Declarations.Certified.{IsCertifiedTyp, HasCertifiedParts}
use Rattle.pure_definitions.specs.Models.Equality.{term_eq-itself}
use Rattle.pure_definitions.proofs.EntryLemmas.{chosen, term_image-entry, term_image-absent}
use Rattle.pure_definitions.proofs.InstanceLemmas.{term_image-fixed}
use Rattle.pure_term_laws.specs.LawsOccurs.{IsTypVariable, TypOccurs}
use Rattle.pure_term_laws.proofs.MapLaws.{instance-instance}
use Rattle.pure_term_laws.proofs.OccursLaws.{typ_instances-agree, agreeing_instance}
use Rattle.pure_term_laws.proofs.SubstLaws.{typ_instance-identity, entries-respect_types, entries-respect_sorts_exactly}
use Rattle.pure_logic.specs.Content.{Content}
use Rattle.pure_logic.specs.Concludes.{AreRespecting}
use Rattle.pure_logic.specs.Derivable.{Pair}
use Rattle.pure_logic.specs.Laws.Substitution.{pair_instance}
use Rattle.pure_logic.proofs.ConnectiveLaws.{certified_of}
use Rattle.pure_equation_laws.specs.Equated.{AreEquated, IsPairEquated}
use Rattle.pure_equation_laws.proofs.KeptLaws.{equated_of_instance}
use Rattle.pure_tunify.specs.Unifiers.{IsFresh, IsSubstitution}
use Rattle.pure_tunify.specs.Settings.{composed}
use Rattle.pure_tunify.proofs.MapLaws.{identity_is_substitution, after_is_substitution}
use Rattle.pure_tunify.proofs.ReductionLaws.{composed-append}
use Rattle.pure_tunify.proofs.SettingLaws.{composed-fixed, as_variable}
use Rattle.pure_unify_definitions.specs.Fronts.{pair}
use Rattle.pure_unify_definitions.specs.Node.{Setting, Typs, Single, Node, bind, with_setting, typ_settings, typ_after, term_after, written_typs, resolved}
use Rattle.pure_unify_definitions.specs.Treatment.{left}
use Rattle.pure_unify_definitions.specs.Simplification.{IsLeft}
use Rattle.pure_unify_definitions.specs.Children.{IsFlexFlex}
use Rattle.pure_unify_definitions.specs.Search.{unifier_of}
use Rattle.pure_unify_laws.specs.Reached.{IsRespecting, pair_after, Leads, at_once, by_child, IsReached}
use Rattle.pure_tunify.specs.Closed.{AreClosed}
use Rattle.pure_unify_laws.specs.Condition.{HasIndexesUpTo, AreIndexesUpTo, IsUnifyContent, AreUnifiable}
use Rattle.pure_tunify.proofs.CertifiedLaws.{HasCertifiedImages, instance_certified}
use Rattle.pure_tunify.proofs.ClosedLaws.{declared_closed}
use Rattle.pure_unify_laws.proofs.SettingLaws.{setting-instance}
use Rattle.pure_unify_laws.proofs.SplitLaws.{IsLongIn, AreSidesLong}
use Rattle.pure_unify_laws.proofs.SolvedLaws.{visit-solves}
use Rattle.pure_unify_laws.proofs.ReachedLaws.{unifier_is_reached}
use Rattle.pure_unify_laws.proofs.RespectLaws.{leads-kept, all_settings_equate}
use Rattle.pure_unify_answers.specs.Maps.{unifier_typs, unifier_terms, IsLeftPair, Solves, IsFiniteUnifier}
use Rattle.pure_unify_answers.specs.Laws.{UnifierSolves, UnifierIsFinite}
use Rattle.pure_unify_answers.proofs.PartLaws.{HasParts}
use Rattle.pure_unify_answers.proofs.SpineLaws.{HavePartsIn}
use Rattle.pure_unify_answers.proofs.TreatmentLaws.{terms_same_or_not}
use Rattle.pure_unify_answers.proofs.OnceLaws.{IsAbsent, AreSetOnce, free_stays, absorbed}
use Rattle.pure_unify_answers.proofs.PathLaws.{keys}
use Rattle.pure_unify_answers.proofs.TidyLaws.{IsPlain, IsUnset, IsTidyEntry, IsTidyNode, leads-tidy}

-- The written type map is the settings, one after the other, at each variable.
written_is : (sets : List TypBind) (v : Typ) → IsTypVariable v → typ_image (written_typs sets) v ≡ composed sets v
written_is [] v is = refl
written_is (b ∷ bs) v is = by (typ_eq (typ_variable b) v) (written_is bs v is)
  where
    by : (c : Bool) → typ_image (written_typs bs) v ≡ composed bs v → cond c (typ_instance (composed bs) b.image) (typ_image (written_typs bs) v) ≡ typ_instance (composed bs) (cond c b.image v)
    by true rest = refl
    by false rest = rest ∙ sym (as_variable (composed bs) v is)

-- No type variable is set twice.
written_keys : (sets : List TypBind) → map typ_variable (written_typs sets) ≡ map typ_variable sets
written_keys [] = refl
written_keys (b ∷ bs) = ap (λ vs. typ_variable b ∷ vs) (written_keys bs)

not_later : (w : Typ) (sets : List TypBind) → IsAbsent w sets → ¬ IsIn w (map typ_variable sets)
not_later w [] h m = m
not_later w (b ∷ bs) h (inl e) = h.0.0 e
not_later w (b ∷ bs) h (inr m) = not_later w bs h.1 m

once_distinct : (sets : List TypBind) → AreSetOnce sets → AreDistinct (map typ_variable sets)
once_distinct [] h = tt
once_distinct (b ∷ bs) h = (not_later (typ_variable b) bs h.1, once_distinct bs h.2)

written_once : (sets : List TypBind) → AreSetOnce sets → IsTypMap (written_typs sets)
written_once sets h = subst (λ (vs : List Typ). AreDistinct vs) (sym (written_keys sets)) (once_distinct sets h)

-- Maps that are equal at variables respect the content alike.
same_respecting : (Q : Content) (typs others : Typ → Typ) (terms more : Term → Term) → ((v : Typ) → IsTypVariable v → others v ≡ typs v) → ((v : Term) → IsVariable v → more v ≡ terms v) → AreRespecting Q typs terms → AreRespecting Q others more
same_respecting Q typs others terms more same equal r = record {
  sorts = record {
    fixed = λ x s. subst (λ (T : Typ). IsOfSort (algebra_of Q.declarations) T s) (sym (same (TFree x s) tt)) (r.sorts.fixed x s);
    schematic = λ x i s. subst (λ (T : Typ). IsOfSort (algebra_of Q.declarations) T s) (sym (same (TVar x i s) tt)) (r.sorts.schematic x i s);
  };
  types = record {
    fixed = λ x T. typed (Free x T) T tt (r.types.fixed x T);
    schematic = λ x i T. typed (Var x i T) T tt (r.types.schematic x i T);
  };
  certified = record {
    fixed_typ = λ x s c. subst (λ (T : Typ). IsCertifiedTyp Q.declarations T) (sym (same (TFree x s) tt)) (r.certified.fixed_typ x s c);
    schematic_typ = λ x i s c. subst (λ (T : Typ). IsCertifiedTyp Q.declarations T) (sym (same (TVar x i s) tt)) (r.certified.schematic_typ x i s c);
    fixed = λ x T c. subst (λ (t : Term). HasCertifiedParts Q.declarations t) (sym (equal (Free x T) tt)) (r.certified.fixed x T c);
    schematic = λ x i T c. subst (λ (t : Term). HasCertifiedParts Q.declarations t) (sym (equal (Var x i T) tt)) (r.certified.schematic x i T c);
  };
}
  where
    typed : (v : Term) (T : Typ) → IsVariable v → HasType [] (terms v) (typ_instance typs T) → HasType [] (more v) (typ_instance others T)
    typed v T is h =
        subst (λ (X : Typ). HasType [] (more v) X) (sym (typ_instances-agree others typs T (λ w variable o. same w variable)))
        (subst (λ (t : Term). HasType [] t (typ_instance typs T)) (sym (equal v is)) h)

-- The sides of the given pairs are plain.
plain_typ : (maxidx : ℕ) (whole : Term) → HasIndexesUpTo maxidx whole → (T : Typ) → ((v : Typ) → OccursInTyp v T → TypOccurs v whole) → IsPlain (maxidx + 65) 0 [] T
plain_typ maxidx whole h T up = ((λ v o. by v (up v o)), tt)
  where
    apart : (i : ℕ) → i ≤ maxidx → i ≡ maxidx + 65 → ⊥
    apart i k e = absurd (omega arith)

    by : (v : Typ) → TypOccurs v whole → ¬ IsFresh (maxidx + 65) 0 v
    by (TVar x i s) m f = apart i (h.typs x i s m) f.0
    by (TFree x s) m f = f
    by (Con k ts) m f = f

side_plain : (maxidx : ℕ) (whole : Term) → HasIndexesUpTo maxidx whole → (t : Term) → ((v : Typ) → TypOccurs v t → TypOccurs v whole) → ((v : Term) → Occurs v t → Occurs v whole) → HasParts (IsPlain (maxidx + 65) 0 []) (IsUnset [] (maxidx + 0)) t
side_plain maxidx whole h (Const c T) up in_whole = plain_typ maxidx whole h T up
side_plain maxidx whole h (Free x T) up in_whole = plain_typ maxidx whole h T up
side_plain maxidx whole h (Var x i T) up in_whole = (plain_typ maxidx whole h T up, ((λ m. m), within i maxidx (h.terms x i T (in_whole (Var x i T) refl))))
  where
    within : (a b : ℕ) → a ≤ b → a ≤ b + 0
    within a b h = omega arith
side_plain maxidx whole h (Bound n) up in_whole = tt
side_plain maxidx whole h (Abs T b) up in_whole = (plain_typ maxidx whole h T (λ v o. up v (inl o)), side_plain maxidx whole h b (λ v o. up v (inr o)) (λ v o. in_whole v (inr o)))
side_plain maxidx whole h (App f a) up in_whole = (side_plain maxidx whole h f (λ v o. up v (inl o)) (λ v o. in_whole v (inr (inl o))), side_plain maxidx whole h a (λ v o. up v (inr o)) (λ v o. in_whole v (inr (inr o))))

sides_plain : (maxidx : ℕ) (ps : List Pair) → Each (AreIndexesUpTo maxidx) ps → Each (HavePartsIn (IsPlain (maxidx + 65) 0 []) (IsUnset [] (maxidx + 0))) ps
sides_plain maxidx [] h = tt
sides_plain maxidx (p ∷ ps) h = ((side_plain maxidx p.left h.0.0 p.left (λ v o. o) (λ v o. o), side_plain maxidx p.right h.0.1 p.right (λ v o. o) (λ v o. o)), sides_plain maxidx ps h.1)

-- A side in long form is its own long form.
own_long : (Q : Content) (t : Term) → IsLongIn Q.declarations [] t → IsLongForm t t
own_long Q t h = record { typ = h.typ; typed = h.typed.typed; long_typed = h.typed.typed; reduces = EtaReduces.done; normal = h.normal; saturated = (h.typ, h.typed.typed, h.count); parts = h.parts }

module _ (Q : Content) (u : IsUnifyContent Q) (maxidx : ℕ) where
  abbrev A : Algebra
  A = algebra_of Q.declarations

  leads-lefts : {n m : Node} → Leads A maxidx n m → Each IsLeft m.pairs
  leads-lefts {n = n} {m = m} (at_once v) = (visit-solves Q u.content u.above A maxidx n m v).lefts
  leads-lefts (by_child f g v choice i l) = leads-lefts l

  left_pair : (p : Pair) → AreSidesLong Q.declarations p → IsLeft p → IsFlexFlex p → IsLeftPair Q p
  left_pair p h (left past e) flexible = record {
    certified = (past.typed.typ, certified_of Q p.left past.typed.typ h.0.typed.parts past.typed.left, certified_of Q p.right past.typed.typ h.1.typed.parts past.typed.right);
    left_long = own_long Q p.left h.0;
    right_long = own_long Q p.right h.1;
    flexible = flexible;
  }

  left_pairs : (ps : List Pair) → Each (AreSidesLong Q.declarations) ps → Each IsLeft ps → Each IsFlexFlex ps → Each (IsLeftPair Q) ps
  left_pairs [] h k f = tt
  left_pairs (p ∷ ps) h k f = (left_pair p h.0 k.0 f.0, left_pairs ps h.1 k.1 f.1)

  is_closed : AreClosed A (IsDeclaredClass Q.declarations)
  is_closed = declared_closed Q.declarations u.declared

  -- The settings of types, one after the other, respect sorts, and their images are certified.
  settings_sorts : (ss : List Setting) → Each (IsRespecting Q) ss → IsSubstitution A (composed (typ_settings ss))
  settings_sorts [] r = identity_is_substitution A
  settings_sorts (Single b ∷ ss) r = settings_sorts ss r.1
  settings_sorts (Typs bs ∷ ss) r = by (after_is_substitution A (composed bs) (composed (typ_settings ss)) (record { respects = r.0.sorts; keeps = composed-fixed bs }) (settings_sorts ss r.1))
    where
      by : IsSubstitution A (λ v. typ_instance (composed (typ_settings ss)) (composed bs v)) → IsSubstitution A (composed (bs ++ typ_settings ss))
      by sub = record {
        respects = record {
          fixed = λ x s. subst (λ (T : Typ). IsOfSort A T s) (sym (composed-append bs (typ_settings ss) (TFree x s) tt)) (sub.respects.fixed x s);
          schematic = λ x i s. subst (λ (T : Typ). IsOfSort A T s) (sym (composed-append bs (typ_settings ss) (TVar x i s) tt)) (sub.respects.schematic x i s);
        };
        keeps = composed-fixed (bs ++ typ_settings ss);
      }

  settings_certified : (ss : List Setting) → Each (IsRespecting Q) ss → HasCertifiedImages Q.declarations is_closed (composed (typ_settings ss))
  settings_certified [] r = record { fixed = λ x s c. c; schematic = λ x i s c. c }
  settings_certified (Single b ∷ ss) r = settings_certified ss r.1
  settings_certified (Typs bs ∷ ss) r = record {
    fixed = λ x s c. subst (λ (T : Typ). IsCertifiedTyp Q.declarations T) (sym (composed-append bs (typ_settings ss) (TFree x s) tt)) (instance_certified Q.declarations is_closed (composed (typ_settings ss)) (settings_certified ss r.1) (composed bs (TFree x s)) (r.0.certified.fixed_typ x s c));
    schematic = λ x i s c. subst (λ (T : Typ). IsCertifiedTyp Q.declarations T) (sym (composed-append bs (typ_settings ss) (TVar x i s) tt)) (instance_certified Q.declarations is_closed (composed (typ_settings ss)) (settings_certified ss r.1) (composed bs (TVar x i s)) (r.0.certified.schematic_typ x i s c));
  }

  module _ (ps : List Pair) (h : AreUnifiable Q maxidx ps) (m : Node) (reached : IsReached A maxidx ps m) where
    abbrev S : List TypBind
    S = typ_settings m.path.settings

    abbrev E : List TermBind
    E = resolved m.path.settings

    abbrev P : Typ → Type 0
    P = IsPlain (maxidx + 65) m.path.fresh S

    abbrev V : Term → Type 0
    V = IsUnset (keys E) (maxidx + m.path.choices)

    kept : Each (IsRespecting Q) m.path.settings × Each (AreSidesLong Q.declarations) m.pairs
    kept = leads-kept Q u maxidx reached.leads tt h.certified

    tidy : IsTidyNode Q u maxidx m
    tidy = leads-tidy Q u maxidx reached.leads tt h.certified (record { once = tt; known = tt; distinct = tt; pairs = sides_plain maxidx ps h.indexes; entries = tt })

    -- the maps, all at once
    abbrev on_term : Term → Term
    on_term v = term_image E (retyped_variable (composed S) v)

    abbrev all : Term → Term
    all t = term_instance (composed S) on_term t

    -- Plain terms stay.
    plain_stays : (t : Term) → HasParts P V t → all t ≡ t
    plain_stays (Const c T) k = ap (Const c) (free_stays S T k.1)
    plain_stays (Free x T) k = term_image-fixed E x (typ_instance (composed S) T) ∙ ap (Free x) (free_stays S T k.1)
    plain_stays (Var x i T) k = ap (λ X. term_image E (Var x i X)) (free_stays S T k.0.1) ∙ term_image-absent E (Var x i T) k.1.0
    plain_stays (Bound n) k = refl
    plain_stays (Abs T b) k = λ l. Abs (free_stays S T k.0.1 l) (plain_stays b k.1 l)
    plain_stays (App f a) k = λ l. App (plain_stays f k.0 l) (plain_stays a k.1 l)

    variable_all : (v : Term) → IsVariable v → all v ≡ on_term v
    variable_all (Free x T) is = refl
    variable_all (Var x i T) is = refl
    variable_all (Const c T) is = absurd is
    variable_all (Bound n) is = absurd is
    variable_all (Abs T b) is = absurd is
    variable_all (App f a) is = absurd is

    -- a setting of type variables
    typs_absorbed : (bs : List TypBind) → Each (λ b. IsIn b S) bs → (t : Term) → all (with_setting (Typs bs) t) ≡ all t
    typs_absorbed bs members t =
        instance-instance (composed bs) (composed S) (retyped_variable (composed bs)) on_term t
        ∙ agreeing_instance (λ v. typ_instance (composed S) (composed bs v)) (composed S) (λ v. all (retyped_variable (composed bs) v)) on_term t (record { on_typs = λ v is o. at_typ v is; on_terms = λ v is o. at_term v is })
      where
        at_typ : (v : Typ) → IsTypVariable v → typ_instance (composed S) (composed bs v) ≡ composed S v
        at_typ v is = ap (typ_instance (composed S)) (sym (as_variable (composed bs) v is)) ∙ (absorbed S tidy.once bs members v ∙ as_variable (composed S) v is)

        at_term : (v : Term) → IsVariable v → all (retyped_variable (composed bs) v) ≡ on_term v
        at_term (Free x T) is = ap (λ X. term_image E (Free x X)) (absorbed S tidy.once bs members T)
        at_term (Var x i T) is = ap (λ X. term_image E (Var x i X)) (absorbed S tidy.once bs members T)
        at_term (Const c T) is = absurd is
        at_term (Bound n) is = absurd is
        at_term (Abs T b) is = absurd is
        at_term (App f a) is = absurd is

    -- a setting of a variable whose image comes to the same
    single_absorbed : (b : TermBind) → all b.image ≡ all (term_variable b) → (t : Term) → all (with_setting (Single b) t) ≡ all t
    single_absorbed b same t =
        ap (term_instance (composed S) on_term) (setting-instance (Single b) t)
        ∙ (instance-instance (λ v. v) (composed S) (term_image (b ∷ [])) on_term t
        ∙ agreeing_instance (λ v. typ_instance (composed S) v) (composed S) (λ v. all (term_image (b ∷ []) v)) on_term t (record { on_typs = λ v is o. as_variable (composed S) v is; on_terms = λ v is o. at_term v is }))
      where
        itself : term_image (b ∷ []) (term_variable b) ≡ b.image
        itself = rw (term_eq-itself (term_variable b)) refl

        at_term : (v : Term) → IsVariable v → all (term_image (b ∷ []) v) ≡ on_term v
        at_term v is = elim (terms_same_or_not (term_variable b) v) [
          | inl e ↦ subst (λ (w : Term). all (term_image (b ∷ []) w) ≡ on_term w) e (ap (term_instance (composed S) on_term) itself ∙ same)
          | inr other ↦ ap (term_instance (composed S) on_term) (term_image-absent (b ∷ []) v (λ n. elim n [ inl e ↦ other (sym e) | inr no_more ↦ no_more ])) ∙ variable_all v is
        ]

    -- What is left of the settings is absorbed.
    settings_absorbed : (rs : List Setting) → ((e : TermBind) → IsIn e (resolved rs) → IsIn e E) → Each (λ b. IsIn b S) (typ_settings rs) → (t : Term) → all (term_after rs t) ≡ all t
    settings_absorbed [] in_e in_s t = refl
    settings_absorbed (Typs bs ∷ rs) in_e in_s t =
        settings_absorbed rs in_e (each-right (λ b. IsIn b S) bs (typ_settings rs) in_s) (with_setting (Typs bs) t) ∙ typs_absorbed bs (each-left (λ b. IsIn b S) bs (typ_settings rs) in_s) t
    settings_absorbed (Single b ∷ rs) in_e in_s t =
        let rest = settings_absorbed rs (λ e i. in_e e (inr i)) in_s in
        rest (with_setting (Single b) t) ∙ single_absorbed b (same (rest b.image)) t
      where
        there : IsIn (bind b.name b.index (typ_after rs b.typ) (term_after rs b.image)) E
        there = in_e (bind b.name b.index (typ_after rs b.typ) (term_after rs b.image)) (inl refl)

        known : IsTidyEntry Q u maxidx S m.path.fresh (keys E) (maxidx + m.path.choices) (bind b.name b.index (typ_after rs b.typ) (term_after rs b.image))
        known = each_at (IsTidyEntry Q u maxidx S m.path.fresh (keys E) (maxidx + m.path.choices)) E tidy.entries (bind b.name b.index (typ_after rs b.typ) (term_after rs b.image)) there

        typ_same : typ_instance (composed S) b.typ ≡ typ_after rs b.typ
        typ_same = sym (absorbed S tidy.once (typ_settings rs) in_s b.typ) ∙ free_stays S (typ_after rs b.typ) known.typ.1

        key_image : term_image E (Var b.name b.index (typ_after rs b.typ)) ≡ term_after rs b.image
        key_image = term_image-entry E (bind b.name b.index (typ_after rs b.typ) (term_after rs b.image)) tidy.distinct there

        same : all (term_after rs b.image) ≡ all b.image → all b.image ≡ all (term_variable b)
        same rest = sym rest ∙ (plain_stays (term_after rs b.image) known.image ∙ (sym key_image ∙ ap (λ X. term_image E (Var b.name b.index X)) (sym typ_same)))

    in_itself : (xs ys : List TypBind) → ((b : TypBind) → IsIn b xs → IsIn b ys) → Each (λ b. IsIn b ys) xs
    in_itself xs ys f = each_of (λ b. IsIn b ys) xs f

    path_absorbed : (t : Term) → all (term_after m.path.settings t) ≡ all t
    path_absorbed t = settings_absorbed m.path.settings (λ e i. i) (in_itself S S (λ b i. i)) t

    -- The maps respect the content.
    entries_typed : (es : List TermBind) → Each (IsTidyEntry Q u maxidx S m.path.fresh (keys E) (maxidx + m.path.choices)) es → Each (λ e. HasType [] e.image e.typ) es
    entries_typed [] k = tt
    entries_typed (e ∷ es) k = (k.0.typed.typed, entries_typed es k.1)

    entries_parts : (es : List TermBind) → Each (IsTidyEntry Q u maxidx S m.path.fresh (keys E) (maxidx + m.path.choices)) es → (v : Term) → HasCertifiedParts Q.declarations v → HasCertifiedParts Q.declarations (term_image es v)
    entries_parts [] k v c = c
    entries_parts (e ∷ es) k v c = chosen (λ t. HasCertifiedParts Q.declarations t) (term_eq (term_variable e) v) e.image (term_image es v) (λ same. k.0.typed.parts) (entries_parts es k.1 v c)

    maps_respect : AreRespecting Q (composed S) on_term
    maps_respect = record {
      sorts = (settings_sorts m.path.settings kept.0).respects;
      types = record {
        fixed = λ x T. subst (λ (t : Term). HasType [] t (typ_instance (composed S) T)) (sym (term_image-fixed E x (typ_instance (composed S) T))) refl;
        schematic = λ x i T. subst (λ (X : Typ). HasType [] (term_image E (Var x i (typ_instance (composed S) T))) X) (typ_instance-identity (typ_instance (composed S) T))
            ((entries-respect_types E (entries_typed E tidy.entries)).schematic x i (typ_instance (composed S) T));
      };
      certified = record {
        fixed_typ = images.fixed;
        schematic_typ = images.schematic;
        fixed = λ x T c. entries_parts E tidy.entries (Free x (typ_instance (composed S) T)) (instance_certified Q.declarations is_closed (composed S) images T c);
        schematic = λ x i T c. entries_parts E tidy.entries (Var x i (typ_instance (composed S) T)) (instance_certified Q.declarations is_closed (composed S) images T c);
      };
    }
      where
        images : HasCertifiedImages Q.declarations is_closed (composed (typ_settings m.path.settings))
        images = settings_certified m.path.settings kept.0

    -- The pairs that are left stay.
    pairs_stay : (qs : List Pair) → Each (HavePartsIn P V) qs → map (pair_instance (composed S) on_term) qs ≡ qs
    pairs_stay [] k = refl
    pairs_stay (q ∷ qs) k = λ l. pair (plain_stays q.left k.0.0 l) (plain_stays q.right k.0.1 l) ∷ pairs_stay qs k.1 l

    -- the unifier's own maps
    same_typs : (v : Typ) → IsTypVariable v → unifier_typs (unifier_of m) v ≡ composed S v
    same_typs v is = written_is S v is

    same_terms : (v : Term) → IsVariable v → unifier_terms (unifier_of m) v ≡ on_term v
    same_terms (Free x T) is = ap (λ X. term_image E (Free x X)) (typ_instances-agree (unifier_typs (unifier_of m)) (composed S) T (λ v variable o. same_typs v variable))
    same_terms (Var x i T) is = ap (λ X. term_image E (Var x i X)) (typ_instances-agree (unifier_typs (unifier_of m)) (composed S) T (λ v variable o. same_typs v variable))
    same_terms (Const c T) is = absurd is
    same_terms (Bound n) is = absurd is
    same_terms (Abs T b) is = absurd is
    same_terms (App f a) is = absurd is

    unifier_instance : (t : Term) → term_instance (unifier_typs (unifier_of m)) (unifier_terms (unifier_of m)) t ≡ all t
    unifier_instance t = agreeing_instance (unifier_typs (unifier_of m)) (composed S) (unifier_terms (unifier_of m)) on_term t (record { on_typs = λ v is o. same_typs v is; on_terms = λ v is o. same_terms v is })

    -- After the settings the sides are equated, so they are under the maps.
    pair_solved : (p : Pair) → IsPairEquated Q.declarations m.pairs (pair_after m.path.settings p) → IsPairEquated Q.declarations m.pairs (pair_instance (unifier_typs (unifier_of m)) (unifier_terms (unifier_of m)) p)
    pair_solved p (T, e) =
        let moved = equated_of_instance Q u.content (composed S) on_term maps_respect m.pairs [] T (term_after m.path.settings p.left) (term_after m.path.settings p.right) e in
        let X = typ_instance (composed S) T in
        let here : AreEquated Q.declarations m.pairs [] X (all (term_after m.path.settings p.left)) (all (term_after m.path.settings p.right)) =
        subst (λ (qs : List Pair). AreEquated Q.declarations qs [] X (all (term_after m.path.settings p.left)) (all (term_after m.path.settings p.right))) (pairs_stay m.pairs tidy.pairs) moved in
        let lefts : AreEquated Q.declarations m.pairs [] X (term_instance (unifier_typs (unifier_of m)) (unifier_terms (unifier_of m)) p.left) (all (term_after m.path.settings p.right)) =
        subst (λ (t : Term). AreEquated Q.declarations m.pairs [] X t (all (term_after m.path.settings p.right))) (path_absorbed p.left ∙ sym (unifier_instance p.left)) here in
        (X, subst (λ (t : Term). AreEquated Q.declarations m.pairs [] X (term_instance (unifier_typs (unifier_of m)) (unifier_terms (unifier_of m)) p.left) t) (path_absorbed p.right ∙ sym (unifier_instance p.right)) lefts)

    all_solved : (qs : List Pair) → Each (λ p. IsPairEquated Q.declarations m.pairs (pair_after m.path.settings p)) qs → Each (IsPairEquated Q.declarations m.pairs) (map (pair_instance (unifier_typs (unifier_of m)) (unifier_terms (unifier_of m))) qs)
    all_solved [] k = tt
    all_solved (q ∷ qs) k = (pair_solved q k.0, all_solved qs k.1)

    success_solves : Solves Q ps (unifier_of m)
    success_solves = record {
      respecting = same_respecting Q (composed S) (unifier_typs (unifier_of m)) on_term (unifier_terms (unifier_of m)) same_typs same_terms maps_respect;
      flexflex = left_pairs m.pairs kept.1 (leads-lefts reached.leads) reached.flexible;
      equated = all_solved ps (all_settings_equate Q u maxidx ps h.certified m reached);
    }

    -- Applied again the maps change nothing.
    all_again : (t : Term) → all (all t) ≡ all t
    all_again t =
        instance-instance (composed S) (composed S) on_term on_term t
        ∙ agreeing_instance (λ v. typ_instance (composed S) (composed S v)) (composed S) (λ v. all (on_term v)) on_term t (record { on_typs = λ v is o. at_typ v is; on_terms = λ v is o. at_term v is })
      where
        in_own : Each (λ b. IsIn b S) S
        in_own = in_itself S S (λ b i. i)

        at_typ : (v : Typ) → IsTypVariable v → typ_instance (composed S) (composed S v) ≡ composed S v
        at_typ v is = ap (typ_instance (composed S)) (sym (as_variable (composed S) v is)) ∙ (absorbed S tidy.once S in_own v ∙ as_variable (composed S) v is)

        -- what an entry gives is plain, and else the variable stays
        given : (w : Term) → all w ≡ term_image E w → (es : List TermBind) → Each (IsTidyEntry Q u maxidx S m.path.fresh (keys E) (maxidx + m.path.choices)) es → term_image es w ≡ term_image E w → all (term_image es w) ≡ term_image es w
        given w stays [] k same = stays ∙ sym same
        given w stays (e ∷ es) k same = by (term_eq (term_variable e) w) (given w stays es k.1) same
          where
            by : (b : Bool) → (term_image es w ≡ term_image E w → all (term_image es w) ≡ term_image es w) → cond b e.image (term_image es w) ≡ term_image E w → all (cond b e.image (term_image es w)) ≡ cond b e.image (term_image es w)
            by true rest same = plain_stays e.image k.0.image
            by false rest same = rest same

        at_term : (v : Term) → IsVariable v → all (on_term v) ≡ on_term v
        at_term (Free x T) is = given (Free x (typ_instance (composed S) T)) (ap (λ X. term_image E (Free x X)) (absorbed S tidy.once S in_own T)) E tidy.entries refl
        at_term (Var x i T) is = given (Var x i (typ_instance (composed S) T)) (ap (λ X. term_image E (Var x i X)) (absorbed S tidy.once S in_own T)) E tidy.entries refl
        at_term (Const c T) is = absurd is
        at_term (Bound n) is = absurd is
        at_term (Abs T b) is = absurd is
        at_term (App f a) is = absurd is

    success_is_finite : IsFiniteUnifier Q (unifier_of m)
    success_is_finite = record {
      typs = once;
      terms = tidy.distinct;
      sorts = (entries-respect_sorts_exactly A (written_typs S) once).1 (success_solves.respecting.sorts);
      types = entries_typed E tidy.entries;
      again = λ t. unifier_instance (term_instance (unifier_typs (unifier_of m)) (unifier_terms (unifier_of m)) t) ∙ (ap (term_instance (composed S) on_term) (unifier_instance t) ∙ (all_again t ∙ sym (unifier_instance t)));
    }
      where
        once : IsTypMap (written_typs (typ_settings m.path.settings))
        once = written_once (typ_settings m.path.settings) tidy.once

pub unifier_solves : UnifierSolves
unifier_solves Q u maxidx ps h v answer =
    let found = unifier_is_reached (algebra_of Q.declarations) maxidx ps v answer in
    subst (Solves Q ps) (sym found.2) (success_solves Q u maxidx ps h found.0 found.1)

pub unifier_is_finite : UnifierIsFinite
unifier_is_finite Q u maxidx ps h v answer =
    let found = unifier_is_reached (algebra_of Q.declarations) maxidx ps v answer in
    subst (IsFiniteUnifier Q) (sym found.2) (success_is_finite Q u maxidx ps h found.0 found.1)
