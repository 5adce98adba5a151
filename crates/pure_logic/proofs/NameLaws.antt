-- Over a content above Pure's the name of a connective tells its type.
use Rattle.std.proofs.Common.{◌≡◌, ◌∙◌, ap, sym, refl, inl, inr, ℕ, List}
use Rattle.pure_text.specs.Lists.{IsIn}
use Rattle.pure_definitions.specs.Names.{all_name, imp_name, eq_name, protect_name}
use Rattle.pure_definitions.specs.Types.Typ.{Typ}
use Rattle.pure_definitions.specs.Terms.Term.{Free}
use Rattle.pure_definitions.specs.Terms.Subst.{TypBind, TermBind, typ_image, typ_instance, KeepsFixedTerms}
use Rattle.pure_definitions.specs.Declarations.Decl.{ConstDecl}
use Rattle.pure_definitions.specs.Declarations.Certified.{IsCertifiedConst}
use Rattle.pure_term_laws.proofs.SubstLaws.{entries-keep_fixed, typ_instance-identity}
use Rattle.pure_logic.specs.Connectives.{all_typ, imp_typ, eq_typ, protect_typ}
use Rattle.pure_logic.specs.Content.{Content, IsContent, IsBelow}
use Rattle.pure_logic.specs.PureContent.{pure_content, any_typ}
use Rattle.pure_logic.specs.Tree.{joined_terms}

module _ (Q : Content) (q : IsContent Q) (above : IsBelow pure_content Q) where
  -- The type of a certified constant is an instance of the one type that is declared for its name.
  instance-of_declared : (c : ℕ) (declared T : Typ) → IsIn (ConstDecl c declared) Q.declarations → (h : IsCertifiedConst Q.declarations c T) → T ≡ typ_instance h.2.typs declared
  instance-of_declared c declared T m h =
      let once : ConstDecl c h.0 ≡ ConstDecl c declared = q.named_once (ConstDecl c h.0) (ConstDecl c declared) h.1 m refl in
      let same : h.0 ≡ declared = cc in
      sym h.2.matches.is ∙ ap (typ_instance h.2.typs) same

  pub implication_by_name : (T : Typ) → IsCertifiedConst Q.declarations imp_name T → T ≡ imp_typ
  implication_by_name T h = instance-of_declared imp_name imp_typ T (above (ConstDecl imp_name imp_typ) (inr (inr (inr (inl refl))))) h

  pub mark_by_name : (T : Typ) → IsCertifiedConst Q.declarations protect_name T → T ≡ protect_typ
  mark_by_name T h = instance-of_declared protect_name protect_typ T (above (ConstDecl protect_name protect_typ) (inr (inr (inr (inr (inr (inl refl))))))) h

  pub quantification_by_name : (T : Typ) → IsCertifiedConst Q.declarations all_name T → (U : Typ) × (T ≡ all_typ U)
  quantification_by_name T h = (h.2.typs any_typ, instance-of_declared all_name (all_typ any_typ) T (above (ConstDecl all_name (all_typ any_typ)) (inr (inr (inl refl)))) h)

  pub equality_by_name : (T : Typ) → IsCertifiedConst Q.declarations eq_name T → (U : Typ) × (T ≡ eq_typ U)
  equality_by_name T h = (h.2.typs any_typ, instance-of_declared eq_name (eq_typ any_typ) T (above (ConstDecl eq_name (eq_typ any_typ)) (inr (inr (inr (inr (inl refl)))))) h)

pub joined_maps_keep_fixed : (typs : List TypBind) (terms : List TermBind) → KeepsFixedTerms (typ_image typs) (joined_terms typs terms)
joined_maps_keep_fixed typs terms x T = entries-keep_fixed terms x (typ_instance (typ_image typs) T) ∙ ap (Free x) (typ_instance-identity (typ_instance (typ_image typs) T))
