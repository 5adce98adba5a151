-- Settings, put in one after the other, keep terms equated.
use Rattle.std.proofs.Common.{◌≡◌, List, [], ◌∷◌, ◌++◌, map, refl, ap, sym, subst, ◌∙◌}
use Rattle.pure_text.specs.Lists.{Each}
use Rattle.pure_definitions.specs.Types.Typ.{Typ}
use Rattle.pure_definitions.specs.Terms.Term.{Term, Abs, App}
use Rattle.pure_definitions.specs.Terms.Subst.{term_image, typ_instance, term_instance}
use Rattle.pure_term_laws.proofs.TypingLaws.{typed-once}
use Rattle.pure_term_laws.proofs.SubstLaws.{inst_term-alone}
use Rattle.pure_definitions.specs.Declarations.Decl.{Decl}
use Rattle.pure_logic.specs.Content.{Content, IsContent, IsBelow}
use Rattle.pure_logic.specs.PureContent.{pure_content}
use Rattle.pure_logic.specs.Derivable.{Pair}
use Rattle.pure_logic.specs.Laws.Substitution.{pair_instance}
use Rattle.pure_tunify.specs.Settings.{composed}
use Rattle.pure_equation_laws.specs.Equated.{IsTypedUnder, AreEquated}
use Rattle.pure_equation_laws.proofs.SidesLaws.{equated_are_typed}
use Rattle.pure_equation_laws.proofs.KeptLaws.{equated_of_instance, equated_modulo_others}
use Rattle.pure_equation_laws.proofs.ReductionLaws.{beta_normal_form_is_equated, long_form_is_equated}
use Rattle.pure_unify_definitions.specs.Fronts.{pair}
use Rattle.pure_unify_definitions.specs.Node.{Setting, Typs, Single, with_setting, with_setting_put, term_after}
use Rattle.pure_unify_definitions.specs.LongSides.{Long, ComesTo, is_long}
use Rattle.pure_unify_laws.specs.Reached.{setting_typs, setting_terms, IsRespecting, AreSidesCertified, pair_after}

-- A setting put into a term is an instance of it.
pub setting-instance : (s : Setting) (t : Term) → with_setting s t ≡ term_instance (setting_typs s) (setting_terms s) t
setting-instance (Typs bs) t = refl
setting-instance (Single b) t = inst_term-alone (term_image (b ∷ [])) t

pub after-more : (ss rs : List Setting) (t : Term) → term_after (ss ++ rs) t ≡ term_after rs (term_after ss t)
after-more [] rs t = refl
after-more (s ∷ ss) rs t = after-more ss rs (with_setting s t)

-- what a setting, and settings, make of a binder's type
abbrev pub on_typ : Setting → Typ → Typ
on_typ (Typs bs) T = typ_instance (composed bs) T
on_typ (Single b) T = T

abbrev pub typ_through : List Setting → Typ → Typ
typ_through [] T = T
typ_through (s ∷ ss) T = typ_through ss (on_typ s T)

pub setting-abs : (s : Setting) (T : Typ) (b : Term) → with_setting s (Abs T b) ≡ Abs (on_typ s T) (with_setting s b)
setting-abs (Typs bs) T b = refl
setting-abs (Single c) T b = refl

pub setting-app : (s : Setting) (f a : Term) → with_setting s (App f a) ≡ App (with_setting s f) (with_setting s a)
setting-app (Typs bs) f a = refl
setting-app (Single c) f a = refl

pub after-abs : (ss : List Setting) (T : Typ) (b : Term) → term_after ss (Abs T b) ≡ Abs (typ_through ss T) (term_after ss b)
after-abs [] T b = refl
after-abs (s ∷ ss) T b = ap (term_after ss) (setting-abs s T b) ∙ after-abs ss (on_typ s T) (with_setting s b)

pub after-app : (ss : List Setting) (f a : Term) → term_after ss (App f a) ≡ App (term_after ss f) (term_after ss a)
after-app [] f a = refl
after-app (s ∷ ss) f a = ap (term_after ss) (setting-app s f a) ∙ after-app ss (with_setting s f) (with_setting s a)

-- The pairs after the settings.
pub pairs-more : (ss rs : List Setting) (p : Pair) → pair_after (ss ++ rs) p ≡ pair_after rs (pair_after ss p)
pairs-more ss rs p = λ i. pair (after-more ss rs p.left i) (after-more ss rs p.right i)

module _ (ds : List Decl) (ms : List Pair) where
  -- Equations at two types, one after the other.
  pub join : (bs : List Typ) (t u v : Term) → (T : Typ) × AreEquated ds ms bs T t u → (U : Typ) × AreEquated ds ms bs U u v → (T : Typ) × AreEquated ds ms bs T t v
  join bs t u v (T, e) (U, f) =
      let same : U ≡ T = typed-once bs u U T (equated_are_typed ds ms bs U u v f).0.typed (equated_are_typed ds ms bs T t u e).1.typed in
      (T, AreEquated.through e (rw same at f))

  pub turned : (bs : List Typ) (t u : Term) → (T : Typ) × AreEquated ds ms bs T t u → (T : Typ) × AreEquated ds ms bs T u t
  turned bs t u (T, e) = (T, AreEquated.back e)

  pub modulo : (bs : List Typ) (t u : Term) → (T : Typ) × AreEquated ds [] bs T t u → (T : Typ) × AreEquated ds ms bs T t u
  modulo bs t u (T, e) = (T, equated_modulo_others ds [] ms tt bs T t u e)

module _ (Q : Content) (q : IsContent Q) (above : IsBelow pure_content Q) where
  -- Equated terms are equated with a setting put in, modulo the pairs with it.
  setting-equated : (s : Setting) → IsRespecting Q s → (ps : List Pair) (t u : Term) → (T : Typ) × AreEquated Q.declarations ps [] T t u
      → (T : Typ) × AreEquated Q.declarations (map (pair_instance (setting_typs s) (setting_terms s)) ps) [] T (with_setting s t) (with_setting s u)
  setting-equated s r ps t u (T, e) =
      let moved = equated_of_instance Q q (setting_typs s) (setting_terms s) r ps [] T t u e in
      (typ_instance (setting_typs s) T, rw (setting-instance s t, setting-instance s u) moved)

  -- So they are after settings.
  pub after-equated : (ss : List Setting) → Each (IsRespecting Q) ss → (ps : List Pair) (t u : Term) → (T : Typ) × AreEquated Q.declarations ps [] T t u
      → (T : Typ) × AreEquated Q.declarations (map (pair_after ss) ps) [] T (term_after ss t) (term_after ss u)
  after-equated [] r ps t u e = (e.0, subst (λ (qs : List Pair). AreEquated Q.declarations qs [] e.0 t u) (sym (map-itself ps)) e.1)
    where
      map-itself : (qs : List Pair) → map (pair_after []) qs ≡ qs
      map-itself [] = refl
      map-itself (p ∷ qs) = ap (λ os. p ∷ os) (map-itself qs)
  after-equated (s ∷ ss) r ps t u e =
      let put = setting-equated s r.0 ps t u e in
      let rest = after-equated ss r.1 (map (pair_instance (setting_typs s) (setting_terms s)) ps) (with_setting s t) (with_setting s u) put in
      (rest.0, subst (λ (qs : List Pair). AreEquated Q.declarations qs [] rest.0 (term_after ss (with_setting s t)) (term_after ss (with_setting s u))) (together ps) rest.1)
    where
      one : (p : Pair) → pair_after ss (pair_instance (setting_typs s) (setting_terms s) p) ≡ pair_after (s ∷ ss) p
      one p = λ i. pair (term_after ss (sym (setting-instance s p.left) i)) (term_after ss (sym (setting-instance s p.right) i))

      together : (qs : List Pair) → map (pair_after ss) (map (pair_instance (setting_typs s) (setting_terms s)) qs) ≡ map (pair_after (s ∷ ss)) qs
      together [] = refl
      together (p ∷ qs) = λ i. one p i ∷ together qs i

  -- Terms that are equated modulo no pairs are so after settings, modulo any.
  pub after-reduced : (ss : List Setting) → Each (IsRespecting Q) ss → (ms : List Pair) (t u : Term) → (T : Typ) × AreEquated Q.declarations [] [] T t u
      → (T : Typ) × AreEquated Q.declarations ms [] T (term_after ss t) (term_after ss u)
  after-reduced ss r ms t u e = modulo Q.declarations ms [] (term_after ss t) (term_after ss u) (after-equated ss r [] t u e)

  pub setting-typed : (s : Setting) → IsRespecting Q s → (t : Term) → (T : Typ) × IsTypedUnder Q.declarations [] t T → (T : Typ) × IsTypedUnder Q.declarations [] (with_setting s t) T
  setting-typed s r t (T, h) =
      let put = setting-equated s r [] t t (T, AreEquated.same h) in
      (put.0, (equated_are_typed Q.declarations [] [] put.0 (with_setting s t) (with_setting s t) put.1).0)

  pub settings-typed : (s : Setting) → IsRespecting Q s → (ps : List Pair) → Each (AreSidesCertified Q.declarations) ps → Each (AreSidesCertified Q.declarations) (with_setting_put s ps)
  settings-typed s r [] h = tt
  settings-typed s r (p ∷ ps) h = ((setting-typed s r p.left h.0.0, setting-typed s r p.right h.0.1), settings-typed s r ps h.1)

  -- A side comes to a term with which it is equated, and which is in long form.
  pub comes-equated : (t u : Term) → (T : Typ) × IsTypedUnder Q.declarations [] t T → ComesTo t (Long u) → (T : Typ) × AreEquated Q.declarations [] [] T t u
  comes-equated t u (T, h) (is_long {n = n} b l w) =
      let reduced = beta_normal_form_is_equated Q.declarations [] [] T t n h b in
      let normal = (equated_are_typed Q.declarations [] [] T t n reduced).1 in
      (T, AreEquated.through reduced (long_form_is_equated Q above [] T n u normal l))
