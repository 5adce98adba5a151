-- What a tree concludes is a proposition of the content, and so are its hypotheses.
use Rattle.std.proofs.Common.{◌≡◌, List, [], ◌∷◌, refl}
use Rattle.pure_text.specs.Lists.{Each}
use Rattle.pure_text.proofs.ListLaws.{each_at, each-append}
use Rattle.pure_definitions.specs.Types.Typ.{Typ, arrow, prop}
use Rattle.pure_definitions.specs.Terms.Term.{Term, Const, Free, Var, Bound, Abs, App}
use Rattle.pure_definitions.specs.Terms.Typing.{HasType}
use Rattle.pure_definitions.specs.Terms.Bounds.{subst_bound, abstract_over, bind_under}
use Rattle.pure_definitions.specs.Terms.Subst.{term_instance}
use Rattle.pure_definitions.specs.Declarations.Decl.{AxiomDecl, PromiseDecl}
use Rattle.pure_definitions.specs.Declarations.Certified.{IsCertifiedTyp, HasCertifiedParts}
use Rattle.pure_definitions.specs.Terms.Conditions.{IsVariable}
use Rattle.pure_term_laws.proofs.TypingBoundLaws.{typing-subst, typing-weaken, typing-bind, typing-instance}
use Rattle.pure_term_laws.proofs.CertifiedLaws.{parts-subst, parts-bind}
use Rattle.pure_logic.specs.Connectives.{all_typ, imp_typ, all_of, all, imp, eq}
use Rattle.pure_logic.specs.Content.{Content, IsContent, IsBelow, IsWellFormed, IsCertifiedOf, IsProposition}
use Rattle.pure_logic.specs.PureContent.{pure_content}
use Rattle.pure_logic.specs.Tree.{Tree, Axiom, Promise, Assume, AllIntro, AllElim, ImpliesIntro, ImpliesElim, Beta, Refl, Subst, Ext, Iff, hyps_of}
use Rattle.pure_logic.specs.Concludes.{AreRespecting, extensionality, Concludes}
use Rattle.pure_logic.specs.Derivable.{Pair, Theorem, IsUnderPairs, IsDerivable, IsDerivableAlone}
use Rattle.pure_logic.proofs.ConnectiveLaws.{certified_of, imp-parts, eq-parts, all-parts}
use Rattle.pure_logic.proofs.InstanceLaws.{parts-instance}
use Rattle.pure_logic.proofs.PartsLaws.{typ-certified}
use Rattle.pure_logic.proofs.DischargeLaws.{each-without}

-- In what is of type prop, the premise and the conclusion of an implication and the body of a quantification are of type prop.
conclusion-typed : (A B : Term) → HasType [] (imp A B) prop → HasType [] B prop
conclusion-typed A B h =
    let connective : imp_typ ≡ arrow h.1.0 (arrow h.0 prop) = h.1.1 in
    let same : h.0 ≡ prop = cc in
    rw same at h.2

premise-typed : (A B : Term) → HasType [] (imp A B) prop → HasType [] A prop
premise-typed A B h =
    let connective : imp_typ ≡ arrow h.1.0 (arrow h.0 prop) = h.1.1 in
    let same : h.1.0 ≡ prop = cc in
    rw same at h.1.2

pub body-typed : (T : Typ) (B : Term) → HasType [] (all T B) prop → HasType (T ∷ []) B prop
body-typed T B h =
    let connective : all_typ T ≡ arrow h.0 prop = h.1 in
    let function : arrow T h.2.0 ≡ h.0 = h.2.2 in
    let same : h.2.0 ≡ prop = cc in
    rw same at h.2.1

module _ (Q : Content) (above : IsBelow pure_content Q) where
  pub imp-proposition : (A B : Term) → IsProposition Q A → IsProposition Q B → IsProposition Q (imp A B)
  imp-proposition A B h k = certified_of Q (imp A B) prop (imp-parts Q above A B h.certified.parts k.certified.parts) (prop, (prop, refl, h.typed), k.typed)

  pub premise-proposition : (A B : Term) → IsProposition Q (imp A B) → IsProposition Q A
  premise-proposition A B h = certified_of Q A prop h.certified.parts.0.1 (premise-typed A B h.typed)

  pub conclusion-proposition : (A B : Term) → IsProposition Q (imp A B) → IsProposition Q B
  conclusion-proposition A B h = certified_of Q B prop h.certified.parts.1 (conclusion-typed A B h.typed)

  pub typ-of_certified : (t : Term) (T : Typ) → IsCertifiedOf Q t T → IsCertifiedTyp Q.declarations T
  typ-of_certified t T h = typ-certified Q above [] t T tt h.certified.parts h.typed

  pub eq-proposition : (T : Typ) (t u : Term) → IsCertifiedOf Q t T → IsCertifiedOf Q u T → IsProposition Q (eq T t u)
  eq-proposition T t u h k = certified_of Q (eq T t u) prop (eq-parts Q above T t u (typ-of_certified t T h) h.certified.parts k.certified.parts) (T, (T, refl, h.typed), k.typed)

  -- A body of type prop under one binder makes a quantification.
  pub all-proposition : (T : Typ) (B : Term) → IsCertifiedTyp Q.declarations T → HasCertifiedParts Q.declarations B → HasType (T ∷ []) B prop → IsProposition Q (all T B)
  all-proposition T B c p h = certified_of Q (all T B) prop (all-parts Q above T B c p) (arrow T prop, refl, (prop, h, refl))

  -- A body with an argument in its bound variable's place has the body's type.
  subst-certified : (T U : Typ) (b a : Term) → HasCertifiedParts Q.declarations b → HasType (T ∷ []) b U → IsCertifiedOf Q a T → IsCertifiedOf Q (subst_bound b a) U
  subst-certified T U b a p h k = certified_of Q (subst_bound b a) U (parts-subst Q.declarations 0 a b k.certified.parts p) (typing-subst [] [] 0 a b T U refl k.typed h)

  abstraction-proposition : (x B : Term) (T : Typ) → IsVariable x → IsCertifiedOf Q x T → IsProposition Q B → IsProposition Q (all_of T (abstract_over B x))
  abstraction-proposition (Free y V) B T is c h =
      rw (← c.typed)
      (all-proposition V (bind_under 0 (Free y V) B) c.certified.parts (parts-bind Q.declarations 0 (Free y V) B h.certified.parts) (typing-bind [] [] 0 (Free y V) B prop refl h.typed))
  abstraction-proposition (Var y i V) B T is c h =
      rw (← c.typed)
      (all-proposition V (bind_under 0 (Var y i V) B) c.certified.parts (parts-bind Q.declarations 0 (Var y i V) B h.certified.parts) (typing-bind [] [] 0 (Var y i V) B prop refl h.typed))
  abstraction-proposition (Const y V) B T is c h = absurd is
  abstraction-proposition (Bound n) B T is c h = absurd is
  abstraction-proposition (Abs V b) B T is c h = absurd is
  abstraction-proposition (App f a) B T is c h = absurd is

  elimination-proposition : (T : Typ) (B t : Term) → IsProposition Q (all T B) → IsCertifiedOf Q t T → IsProposition Q (subst_bound B t)
  elimination-proposition T B t h k = subst-certified T prop B t h.certified.parts.1.1 (body-typed T B h.typed) k

  beta-proposition : (T U : Typ) (b a : Term) → IsCertifiedOf Q (App (Abs T b) a) U → IsProposition Q (eq U (App (Abs T b) a) (subst_bound b a))
  beta-proposition T U b a h =
      let typed : HasType [] (App (Abs T b) a) U = h.typed in
      let function : arrow T typed.1.0 ≡ arrow typed.0 U = typed.1.2 in
      let body : typed.1.0 ≡ U = cc in
      let argument : typed.0 ≡ T = cc in
      let result = subst-certified T U b a h.certified.parts.0.1 (rw body at typed.1.1) (certified_of Q a T h.certified.parts.1 (rw argument at typed.2)) in
      eq-proposition U (App (Abs T b) a) (subst_bound b a) h result

  subst-proposition : (T : Typ) (B x y : Term) → IsCertifiedOf Q (Abs T B) (arrow T prop) → IsCertifiedOf Q x T → IsCertifiedOf Q y T
      → IsProposition Q (imp (eq T x y) (imp (subst_bound B x) (subst_bound B y)))
  subst-proposition T B x y f h k =
      let typed : HasType [] (Abs T B) (arrow T prop) = f.typed in
      let function : arrow T typed.0 ≡ arrow T prop = typed.2 in
      let same : typed.0 ≡ prop = cc in
      let body : HasType (T ∷ []) B prop = rw same at typed.1 in
      imp-proposition (eq T x y) (imp (subst_bound B x) (subst_bound B y)) (eq-proposition T x y h k)
      (imp-proposition (subst_bound B x) (subst_bound B y) (subst-certified T prop B x f.certified.parts.1 body h) (subst-certified T prop B y f.certified.parts.1 body k))

  extensionality-proposition : (T U : Typ) (f g : Term) → IsCertifiedOf Q f (arrow T U) → IsCertifiedOf Q g (arrow T U) → IsProposition Q (extensionality T U f g)
  extensionality-proposition T U f g h k =
      let typ = typ-of_certified f (arrow T U) h in
      let left : HasType (T ∷ []) (App f (Bound 0)) U = (T, typing-weaken [] (T ∷ []) f (arrow T U) h.typed, refl) in
      let right : HasType (T ∷ []) (App g (Bound 0)) U = (T, typing-weaken [] (T ∷ []) g (arrow T U) k.typed, refl) in
      let body = eq-parts Q above U (App f (Bound 0)) (App g (Bound 0)) typ.1.1.0 (h.certified.parts, tt) (k.certified.parts, tt) in
      imp-proposition (all T (eq U (App f (Bound 0)) (App g (Bound 0)))) (eq (arrow T U) f g)
      (all-proposition T (eq U (App f (Bound 0)) (App g (Bound 0))) typ.1.0 body (U, (U, refl, left), right))
      (eq-proposition (arrow T U) f g h k)

  iff-proposition : (A B : Term) → IsProposition Q A → IsProposition Q B → IsProposition Q (imp (imp A B) (imp (imp B A) (eq prop A B)))
  iff-proposition A B h k =
      imp-proposition (imp A B) (imp (imp B A) (eq prop A B)) (imp-proposition A B h k)
      (imp-proposition (imp B A) (eq prop A B) (imp-proposition B A k h) (eq-proposition prop A B h k))

module _ (Q : Content) (q : IsContent Q) (above : IsBelow pure_content Q) where
  instance-proposition : (typs : Typ → Typ) (terms : Term → Term) (A : Term) → AreRespecting Q typs terms → IsProposition Q A → IsProposition Q (term_instance typs terms A)
  instance-proposition typs terms A r h =
      certified_of Q (term_instance typs terms A) prop (parts-instance Q q typs terms r A h.certified.parts) (typing-instance typs terms r.types [] A prop h.typed)

  pub concluded-proposition : (d : Tree) (C : Term) → Concludes Q d C → IsProposition Q C
  concluded-proposition (Axiom n typs terms) C h =
      let statement = each_at (IsWellFormed Q) Q.declarations q.well_formed (AxiomDecl n h.0) h.1 in
      rw h.3 (instance-proposition typs terms h.0 h.2 statement.proposition)
  concluded-proposition (Promise l typs terms) C h =
      let statement = each_at (IsWellFormed Q) Q.declarations q.well_formed (PromiseDecl h.0 l h.1) h.2 in
      rw h.4 (instance-proposition typs terms h.1 h.3 statement.proposition)
  concluded-proposition (Assume A) C h = rw h.1 h.0
  concluded-proposition (AllIntro x d) C h = rw h.6 (abstraction-proposition Q above x h.1 h.0 h.3 h.4 (concluded-proposition d h.1 h.2))
  concluded-proposition (AllElim t d) C h = rw h.4 (elimination-proposition Q above h.0 h.1 t (concluded-proposition d (all h.0 h.1) h.2) h.3)
  concluded-proposition (ImpliesIntro A d) C h = rw h.3 (imp-proposition Q above A h.0 h.2 (concluded-proposition d h.0 h.1))
  concluded-proposition (ImpliesElim d e) C h = conclusion-proposition Q above h.0 C (concluded-proposition d (imp h.0 C) h.1)
  concluded-proposition (Beta redex) C h = rw (h.6, h.4) (beta-proposition Q above h.0 h.1 h.2 h.3 (rw h.4 at h.5))
  concluded-proposition (Refl t) C h = rw h.2 (eq-proposition Q above h.0 t t h.1 h.1)
  concluded-proposition (Subst f x y) C h = rw h.6 (subst-proposition Q above h.0 h.1 x y (rw h.2 at h.3) h.4 h.5)
  concluded-proposition (Ext f g) C h = rw h.4 (extensionality-proposition Q above h.0 h.1 f g h.2 h.3)
  concluded-proposition (Iff A B) C h = rw h.2 (iff-proposition Q above A B h.0 h.1)

  hyps-propositions : (d : Tree) (C : Term) → Concludes Q d C → Each (IsProposition Q) (hyps_of d)
  hyps-propositions (Axiom n typs terms) C h = tt
  hyps-propositions (Promise l typs terms) C h = tt
  hyps-propositions (Assume A) C h = (h.0, tt)
  hyps-propositions (AllIntro x d) C h = hyps-propositions d h.1 h.2
  hyps-propositions (AllElim t d) C h = hyps-propositions d (all h.0 h.1) h.2
  hyps-propositions (ImpliesIntro A d) C h = each-without (IsProposition Q) A (hyps_of d) (hyps-propositions d h.0 h.1)
  hyps-propositions (ImpliesElim d e) C h = each-append (IsProposition Q) (hyps_of d) (hyps_of e) (hyps-propositions d (imp h.0 C) h.1) (hyps-propositions e h.0 h.2)
  hyps-propositions (Beta redex) C h = tt
  hyps-propositions (Refl t) C h = tt
  hyps-propositions (Subst f x y) C h = tt
  hyps-propositions (Ext f g) C h = tt
  hyps-propositions (Iff A B) C h = tt

pub conclusion_is_proposition : (Q : Content) → IsContent Q → IsBelow pure_content Q → (d : Tree) (A : Term) → Concludes Q d A → IsProposition Q A × Each (IsProposition Q) (hyps_of d)
conclusion_is_proposition Q q above d A h = (concluded-proposition Q q above d A h, hyps-propositions Q q above d A h)

under_pairs-proposition : (Q : Content) → IsBelow pure_content Q → (pairs : List Pair) (A C : Term) → IsUnderPairs pairs A C → IsProposition Q C → IsProposition Q A
under_pairs-proposition Q above [] A C h k = rw (← h) k
under_pairs-proposition Q above (p ∷ ps) A C h k =
    under_pairs-proposition Q above ps A h.1 h.3 (conclusion-proposition Q above (eq h.0 p.left p.right) h.1 (rw h.4 at k))

pub derivable_is_proposition : (Q : Content) → IsContent Q → IsBelow pure_content Q → (th : Theorem) → IsDerivable Q th → IsProposition Q th.prop
derivable_is_proposition Q q above th h = under_pairs-proposition Q above th.pairs th.prop h.conclusion h.under_pairs (concluded-proposition Q q above h.tree h.conclusion h.concludes)

pub derivable_alone_is_proposition : (Q : Content) → IsContent Q → IsBelow pure_content Q → (A : Term) → IsDerivableAlone Q A → IsProposition Q A
derivable_alone_is_proposition Q q above A h = derivable_is_proposition Q q above (record { hyps = []; pairs = []; prop = A; rests = [] }) h
