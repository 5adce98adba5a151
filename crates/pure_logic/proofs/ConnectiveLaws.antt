-- Connectives of certified terms are certified, over each content above Pure's.
use Rattle.std.proofs.Common.{[], ◌∷◌, inl, inr, refl}
use Rattle.pure_definitions.specs.Names.{fun_name, prop_name, all_name, imp_name, eq_name, protect_name}
use Rattle.pure_definitions.specs.Types.Typ.{Typ, arrow, prop}
use Rattle.pure_definitions.specs.Terms.Term.{Term, Const}
use Rattle.pure_definitions.specs.Terms.Typing.{HasType}
use Rattle.pure_definitions.specs.Terms.Subst.{TypBind, typ_image}
use Rattle.pure_definitions.specs.Declarations.Decl.{ConDecl, ConstDecl, algebra_of}
use Rattle.pure_definitions.specs.Declarations.Certified.{IsCertifiedTyp, IsInstance, HasCertifiedParts}
use Rattle.pure_term_laws.proofs.SubstLaws.{entries-respect_sorts, entries-keep_fixed_typs, identity-respects_sorts, typ_instance-identity}
use Rattle.pure_logic.specs.Connectives.{all_typ, imp_typ, eq_typ, protect_typ, all, imp, eq, protect}
use Rattle.pure_logic.specs.Content.{Content, IsCertifiedOf, IsBelow}
use Rattle.pure_logic.specs.PureContent.{pure_content, any_typ}

pub pure-below_itself : IsBelow pure_content pure_content
pure-below_itself d m = m

pub certified_of : (Q : Content) (t : Term) (T : Typ) → HasCertifiedParts Q.declarations t → HasType [] t T → IsCertifiedOf Q t T
certified_of Q t T p h = record { certified = record { parts = p; typ = T; typed = h }; typed = h }

-- each type is an instance of itself
pub itself-instance : (Q : Content) (T : Typ) → IsInstance Q.declarations T T
itself-instance Q T = record {
  typs = λ v. v;
  matches = record { fixed = λ x s. refl; is = typ_instance-identity T };
  respecting = identity-respects_sorts (algebra_of Q.declarations);
}

-- the entry that puts a type for `?'a`
abbrev pub at_typ : Typ → TypBind
at_typ T = record { name = 0; index = 0; sort = []; image = T }

module _ (Q : Content) (above : IsBelow pure_content Q) where
  pub arrow-certified : (T U : Typ) → IsCertifiedTyp Q.declarations T → IsCertifiedTyp Q.declarations U → IsCertifiedTyp Q.declarations (arrow T U)
  arrow-certified T U h k = (above (ConDecl fun_name 2) (inl refl), (h, (k, tt)))

  pub prop-certified : IsCertifiedTyp Q.declarations prop
  prop-certified = (above (ConDecl prop_name 0) (inr (inl refl)), tt)

  pub imp-parts : (A B : Term) → HasCertifiedParts Q.declarations A → HasCertifiedParts Q.declarations B → HasCertifiedParts Q.declarations (imp A B)
  imp-parts A B h k = ((const, h), k)
    where
      typ : IsCertifiedTyp Q.declarations imp_typ
      typ = arrow-certified prop (arrow prop prop) prop-certified (arrow-certified prop prop prop-certified prop-certified)

      const : HasCertifiedParts Q.declarations (Const imp_name imp_typ)
      const = (typ, (imp_typ, above (ConstDecl imp_name imp_typ) (inr (inr (inr (inl refl)))), itself-instance Q imp_typ))

  pub protect-parts : (A : Term) → HasCertifiedParts Q.declarations A → HasCertifiedParts Q.declarations (protect A)
  protect-parts A h = (const, h)
    where
      const : HasCertifiedParts Q.declarations (Const protect_name protect_typ)
      const = (arrow-certified prop prop prop-certified prop-certified, (protect_typ, above (ConstDecl protect_name protect_typ) (inr (inr (inr (inr (inr (inl refl)))))), itself-instance Q protect_typ))

  pub eq-parts : (T : Typ) (t u : Term) → IsCertifiedTyp Q.declarations T → HasCertifiedParts Q.declarations t → HasCertifiedParts Q.declarations u → HasCertifiedParts Q.declarations (eq T t u)
  eq-parts T t u c h k = ((const, h), k)
    where
      instance : IsInstance Q.declarations (eq_typ any_typ) (eq_typ T)
      instance = record {
        typs = typ_image (at_typ T ∷ []);
        matches = record { fixed = entries-keep_fixed_typs (at_typ T ∷ []); is = refl };
        respecting = entries-respect_sorts (algebra_of Q.declarations) (at_typ T ∷ []) (tt, tt);
      }

      const : HasCertifiedParts Q.declarations (Const eq_name (eq_typ T))
      const = (arrow-certified T (arrow T prop) c (arrow-certified T prop c prop-certified), (eq_typ any_typ, above (ConstDecl eq_name (eq_typ any_typ)) (inr (inr (inr (inr (inl refl))))), instance))

  pub all-parts : (T : Typ) (B : Term) → IsCertifiedTyp Q.declarations T → HasCertifiedParts Q.declarations B → HasCertifiedParts Q.declarations (all T B)
  all-parts T B c h = (const, (c, h))
    where
      instance : IsInstance Q.declarations (all_typ any_typ) (all_typ T)
      instance = record {
        typs = typ_image (at_typ T ∷ []);
        matches = record { fixed = entries-keep_fixed_typs (at_typ T ∷ []); is = refl };
        respecting = entries-respect_sorts (algebra_of Q.declarations) (at_typ T ∷ []) (tt, tt);
      }

      const : HasCertifiedParts Q.declarations (Const all_name (all_typ T))
      const = (arrow-certified (arrow T prop) prop (arrow-certified T prop c prop-certified) prop-certified, (all_typ any_typ, above (ConstDecl all_name (all_typ any_typ)) (inr (inr (inl refl))), instance))
