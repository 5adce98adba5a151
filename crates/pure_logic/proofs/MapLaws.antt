-- Maps that respect a content: the identity, and the finite maps of a call, joined.
use Rattle.std.proofs.Common.{◌≡◌, ℕ, List, [], ◌∷◌, ap, refl}
use Rattle.pure_text.specs.Lists.{Each}
use Rattle.pure_text.proofs.ListLaws.{each_imply}
use Rattle.pure_definitions.specs.Types.Typ.{Typ, TFree, TVar, typ_eq}
use Rattle.pure_definitions.specs.Terms.Term.{Term, Const, Free, Var, Bound, Abs, App, term_eq}
use Rattle.pure_definitions.specs.Terms.Typing.{HasType}
use Rattle.pure_definitions.specs.Terms.Subst.{TypBind, TermBind, typ_variable, term_variable, typ_image, term_image, typ_instance, term_instance, inst_typ, inst_term, AreSortRespecting, IsTypeRespecting}
use Rattle.pure_definitions.specs.Terms.Conditions.{variable_typ}
use Rattle.pure_definitions.specs.Models.Equality.{term_eq-same}
use Rattle.pure_definitions.specs.Declarations.Decl.{Decl, algebra_of}
use Rattle.pure_definitions.specs.Declarations.Certified.{IsCertifiedSort, IsCertifiedTyp, HasCertifiedParts, AreImagesCertified}
use Rattle.pure_definitions.proofs.EntryLemmas.{chosen}
use Rattle.pure_term_laws.specs.LawsMaps.{sent}
use Rattle.pure_term_laws.proofs.SubstLaws.{identity-respects_sorts, identity-respects_types, entries-respect_sorts, entries-respect_types, typ_instance-identity}
use Rattle.pure_logic.specs.Content.{Content, IsCertifiedOf}
use Rattle.pure_logic.specs.Tree.{joined_terms}
use Rattle.pure_logic.specs.Concludes.{AreRespecting}
use Rattle.pure_logic.proofs.WeakeningLaws.{typ_instance-certified}

pub identity_respects : (Q : Content) → AreRespecting Q (λ T. T) (λ t. t)
identity_respects Q = record {
  sorts = identity-respects_sorts (algebra_of Q.declarations);
  types = identity-respects_types;
  certified = record { fixed_typ = λ x s c. c; schematic_typ = λ x i s c. c; fixed = λ x T c. c; schematic = λ x i T c. c };
}

typ_image-certified : (ds : List Decl) (binds : List TypBind) → Each (λ b. IsCertifiedTyp ds b.image) binds → (v : Typ) → IsCertifiedTyp ds v → IsCertifiedTyp ds (typ_image binds v)
typ_image-certified ds [] h v c = c
typ_image-certified ds (b ∷ bs) h v c = chosen (IsCertifiedTyp ds) (typ_eq (typ_variable b) v) b.image (typ_image bs v) (λ e. h.0) (typ_image-certified ds bs h.1 v c)

term_image-parts : (ds : List Decl) (binds : List TermBind) → Each (λ b. HasCertifiedParts ds b.image) binds → (v : Term) → HasCertifiedParts ds v → HasCertifiedParts ds (term_image binds v)
term_image-parts ds [] h v c = c
term_image-parts ds (b ∷ bs) h v c = chosen (HasCertifiedParts ds) (term_eq (term_variable b) v) b.image (term_image bs v) (λ e. h.0) (term_image-parts ds bs h.1 v c)

module _ (Q : Content) (typs : List TypBind) (terms : List TermBind) where
  joined-types : Each (λ b. IsCertifiedOf Q b.image b.typ) terms → IsTypeRespecting (typ_image typs) (joined_terms typs terms)
  joined-types h =
      let respecting = entries-respect_types terms (each_imply (λ b. IsCertifiedOf Q b.image b.typ) (λ b. HasType [] b.image b.typ) terms (λ b k. k.typed) h) in
      record {
        fixed = λ x T. rw (typ_instance-identity (typ_instance (typ_image typs) T)) at (respecting.fixed x (typ_instance (typ_image typs) T));
        schematic = λ x i T. rw (typ_instance-identity (typ_instance (typ_image typs) T)) at (respecting.schematic x i (typ_instance (typ_image typs) T));
      }

  joined-certified : Each (λ b. IsCertifiedTyp Q.declarations b.image) typs → Each (λ b. IsCertifiedOf Q b.image b.typ) terms → AreImagesCertified Q.declarations (typ_image typs) (joined_terms typs terms)
  joined-certified g h =
      let fixed_typ = λ (x : ℕ) (s : List ℕ) (c : IsCertifiedSort Q.declarations s). typ_image-certified Q.declarations typs g (TFree x s) c in
      let schematic_typ = λ (x i : ℕ) (s : List ℕ) (c : IsCertifiedSort Q.declarations s). typ_image-certified Q.declarations typs g (TVar x i s) c in
      let typ = typ_instance-certified Q.declarations (typ_image typs) fixed_typ schematic_typ in
      let parts = term_image-parts Q.declarations terms (each_imply (λ b. IsCertifiedOf Q b.image b.typ) (λ b. HasCertifiedParts Q.declarations b.image) terms (λ b k. k.certified.parts) h) in
      record {
        fixed_typ = fixed_typ;
        schematic_typ = schematic_typ;
        fixed = λ x T c. parts (Free x (typ_instance (typ_image typs) T)) (typ T c);
        schematic = λ x i T c. parts (Var x i (typ_instance (typ_image typs) T)) (typ T c);
      }

pub joined_respect : (Q : Content) (typs : List TypBind) (terms : List TermBind) → AreSortRespecting (algebra_of Q.declarations) typs → Each (λ b. IsCertifiedTyp Q.declarations b.image) typs
    → Each (λ b. IsCertifiedOf Q b.image b.typ) terms → AreRespecting Q (typ_image typs) (joined_terms typs terms)
joined_respect Q typs terms s g h = record {
  sorts = entries-respect_sorts (algebra_of Q.declarations) typs s;
  types = joined-types Q typs terms h;
  certified = joined-certified Q typs terms g h;
}

pub joined_instance : (typs : List TypBind) (terms : List TermBind) (t : Term)
    → term_instance (typ_image typs) (joined_terms typs terms) t ≡ inst_term (term_image terms) (inst_typ (typ_image typs) t)
joined_instance typs terms (Const c T) = refl
joined_instance typs terms (Free x T) = refl
joined_instance typs terms (Var x i T) = refl
joined_instance typs terms (Bound n) = refl
joined_instance typs terms (Abs T b) = ap (Abs (typ_instance (typ_image typs) T)) (joined_instance typs terms b)
joined_instance typs terms (App f a) = λ l. App (joined_instance typs terms f l) (joined_instance typs terms a l)

-- Respecting maps stay so where one variable is given another certified image of its type under the type map.
pub sent-respects : (Q : Content) (typs : Typ → Typ) (terms : Term → Term) (v image : Term) → AreRespecting Q typs terms → IsCertifiedOf Q image (typ_instance typs (variable_typ v)) → AreRespecting Q typs (sent v image terms)
sent-respects Q typs terms v image r h = record {
  sorts = r.sorts;
  types = record {
    fixed = λ x T. chosen (λ t. HasType [] t (typ_instance typs T)) (term_eq v (Free x T)) image (terms (Free x T)) (λ e. rw (ap variable_typ (term_eq-same v (Free x T) e)) at h.typed) (r.types.fixed x T);
    schematic = λ x i T. chosen (λ t. HasType [] t (typ_instance typs T)) (term_eq v (Var x i T)) image (terms (Var x i T)) (λ e. rw (ap variable_typ (term_eq-same v (Var x i T) e)) at h.typed) (r.types.schematic x i T);
  };
  certified = record {
    fixed_typ = r.certified.fixed_typ;
    schematic_typ = r.certified.schematic_typ;
    fixed = λ x T c. chosen (HasCertifiedParts Q.declarations) (term_eq v (Free x T)) image (terms (Free x T)) (λ e. h.certified.parts) (r.certified.fixed x T c);
    schematic = λ x i T c. chosen (HasCertifiedParts Q.declarations) (term_eq v (Var x i T)) image (terms (Var x i T)) (λ e. h.certified.parts) (r.certified.schematic x i T c);
  };
}
