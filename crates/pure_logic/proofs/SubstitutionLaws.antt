-- Substitution is admissible: what a tree concludes, a tree concludes of each instance.
use Rattle.std.proofs.Common.{◌≡◌, ◌≤◌, ℕ, List, [], ◌∷◌, ◌++◌, map, inl, inr, refl, ap, ◌∙◌, arith}
use Rattle.std.proofs.lemmas.List.{map-append}
use Rattle.pure_text.specs.Lists.{IsIn, Each}
use Rattle.pure_text.proofs.ListLaws.{in-map, in-append_left, in-append_right, each_imply, each_at, each-append}
use Rattle.pure_definitions.specs.Names.{Label}
use Rattle.pure_definitions.specs.Types.Typ.{Typ, TFree, TVar, arrow, prop}
use Rattle.pure_definitions.specs.Terms.Term.{Term, Const, Free, Var, Bound, Abs, App}
use Rattle.pure_definitions.specs.Terms.Typing.{HasType}
use Rattle.pure_definitions.specs.Terms.Bounds.{Occurs}
use Rattle.pure_definitions.specs.Terms.Conditions.{IsVariable, variable_typ}
use Rattle.pure_definitions.specs.Terms.Subst.{typ_instance, term_instance}
use Rattle.pure_definitions.specs.Declarations.Decl.{algebra_of}
use Rattle.pure_definitions.specs.Declarations.Certified.{IsCertifiedTyp}
use Rattle.pure_definitions.proofs.BindLemmas.{abstract_over-variable}
use Rattle.pure_definitions.proofs.OrderLaws.{of_sort-instance}
use Rattle.pure_term_laws.specs.LawsMaps.{AreImagesClosed, sent}
use Rattle.pure_term_laws.proofs.MapLaws.{typ_instance-again, instance-instance, instance-subst}
use Rattle.pure_term_laws.proofs.TypingLaws.{typed-closed}
use Rattle.pure_term_laws.proofs.TypingBoundLaws.{typing-instance}
use Rattle.pure_logic.specs.Connectives.{all_of, all, imp, eq}
use Rattle.pure_logic.specs.Content.{Content, IsContent, IsCertifiedOf}
use Rattle.pure_logic.specs.Tree.{Tree, Axiom, Promise, Assume, AllIntro, AllElim, ImpliesIntro, ImpliesElim, Beta, Refl, Subst, Ext, Iff, hyps_of}
use Rattle.pure_logic.specs.Concludes.{AreRespecting, Concludes}
use Rattle.pure_logic.specs.Derivable.{Pair, Theorem, IsUnderPairs, IsDerivable}
use Rattle.pure_logic.specs.Proves.{Proves}
use Rattle.pure_logic.specs.Laws.Substitution.{IsInstanceTree, pair_instance, theorem_instance}
use Rattle.pure_logic.proofs.WeakeningLaws.{typ_instance-certified}
use Rattle.pure_logic.proofs.InstanceLaws.{parts-instance}
use Rattle.pure_logic.proofs.MapLaws.{sent-respects}
use Rattle.pure_logic.proofs.FreshLaws.{above_all, fresh-above_all, instance-renamed, instances-unchanged}
use Rattle.pure_logic.proofs.DischargeLaws.{discharged}

pub images_closed : (Q : Content) (typs : Typ → Typ) (terms : Term → Term) → AreRespecting Q typs terms → AreImagesClosed terms
images_closed Q typs terms r = record {
  fixed = λ x T. typed-closed (terms (Free x T)) (typ_instance typs T) (r.types.fixed x T);
  schematic = λ x i T. typed-closed (terms (Var x i T)) (typ_instance typs T) (r.types.schematic x i T);
}

variable-typed : (x : Term) (T : Typ) → IsVariable x → HasType [] x T → variable_typ x ≡ T
variable-typed (Free y V) T is h = h
variable-typed (Var y i V) T is h = h
variable-typed (Const c V) T is h = absurd is
variable-typed (Bound n) T is h = absurd is
variable-typed (Abs V b) T is h = absurd is
variable-typed (App f a) T is h = absurd is

-- The instances of the hypotheses of two trees are those of the one and of the other.
joined : (f : Term → Term) (hyps others Bs Cs : List Term) → Each (λ B. IsIn B (map f hyps)) Bs → Each (λ B. IsIn B (map f others)) Cs → Each (λ B. IsIn B (map f (hyps ++ others))) (Bs ++ Cs)
joined f hyps others Bs Cs h k =
    rw (map-append f hyps others)
    (each-append (λ B. IsIn B (map f hyps ++ map f others)) Bs Cs
    (each_imply (λ B. IsIn B (map f hyps)) (λ B. IsIn B (map f hyps ++ map f others)) Bs (λ B m. in-append_left B (map f hyps) (map f others) m) h)
    (each_imply (λ B. IsIn B (map f others)) (λ B. IsIn B (map f hyps ++ map f others)) Cs (λ B m. in-append_right B (map f hyps) (map f others) m) k))

module _ (Q : Content) (q : IsContent Q) where
  pub certified_of-instance : (typs : Typ → Typ) (terms : Term → Term) → AreRespecting Q typs terms → (t : Term) (T : Typ) → IsCertifiedOf Q t T → IsCertifiedOf Q (term_instance typs terms t) (typ_instance typs T)
  certified_of-instance typs terms r t T h =
      let typed = typing-instance typs terms r.types [] t T h.typed in
      record { certified = record { parts = parts-instance Q q typs terms r t h.certified.parts; typ = typ_instance typs T; typed = typed }; typed = typed }

  -- Respecting maps one after the other are respecting.
  module _ (first typs : Typ → Typ) (inner terms : Term → Term) (s : AreRespecting Q first inner) (r : AreRespecting Q typs terms) where
    pub composed-respects : AreRespecting Q (λ v. typ_instance typs (first v)) (λ v. term_instance typs terms (inner v))
    composed-respects = record {
      sorts = record {
        fixed = λ x c. of_sort-instance (algebra_of Q.declarations) typs r.sorts (first (TFree x c)) c (s.sorts.fixed x c);
        schematic = λ x i c. of_sort-instance (algebra_of Q.declarations) typs r.sorts (first (TVar x i c)) c (s.sorts.schematic x i c);
      };
      types = record {
        fixed = λ x T. rw (typ_instance-again first typs T) at (typing-instance typs terms r.types [] (inner (Free x T)) (typ_instance first T) (s.types.fixed x T));
        schematic = λ x i T. rw (typ_instance-again first typs T) at (typing-instance typs terms r.types [] (inner (Var x i T)) (typ_instance first T) (s.types.schematic x i T));
      };
      certified = record {
        fixed_typ = λ x c k. typ_instance-certified Q.declarations typs r.certified.fixed_typ r.certified.schematic_typ (first (TFree x c)) (s.certified.fixed_typ x c k);
        schematic_typ = λ x i c k. typ_instance-certified Q.declarations typs r.certified.fixed_typ r.certified.schematic_typ (first (TVar x i c)) (s.certified.schematic_typ x i c k);
        fixed = λ x T k. parts-instance Q q typs terms r (inner (Free x T)) (s.certified.fixed x T k);
        schematic = λ x i T k. parts-instance Q q typs terms r (inner (Var x i T)) (s.certified.schematic x i T k);
      };
    }

  -- The quantification: the variable is sent to one whose name is above all in the instances.
  module _ (x : Term) (d : Tree) (C : Term) (h : Concludes Q (AllIntro x d) C) (typs : Typ → Typ) (terms : Term → Term) (r : AreRespecting Q typs terms) where
    abbrev name : ℕ
    name = above_all (term_instance typs terms h.1 ∷ map (term_instance typs terms) (hyps_of d))

    abbrev fresh : Term
    fresh = Free name (typ_instance typs h.0)

    typ : variable_typ x ≡ h.0
    typ = variable-typed x h.0 h.3 h.4.typed

    fresh-certified : IsCertifiedOf Q fresh (typ_instance typs h.0)
    fresh-certified =
        let certified = typ_instance-certified Q.declarations typs r.certified.fixed_typ r.certified.schematic_typ h.0 (variable-certified x h.3 h.4) in
        record { certified = record { parts = certified; typ = typ_instance typs h.0; typed = refl }; typed = refl }
      where
        variable-certified : (y : Term) → IsVariable y → IsCertifiedOf Q y h.0 → IsCertifiedTyp Q.declarations h.0
        variable-certified (Free y V) is k = rw k.typed at k.certified.parts
        variable-certified (Var y i V) is k = rw k.typed at k.certified.parts
        variable-certified (Const c V) is k = absurd is
        variable-certified (Bound n) is k = absurd is
        variable-certified (Abs V b) is k = absurd is
        variable-certified (App f a) is k = absurd is

    sends : AreRespecting Q typs (sent x fresh terms)
    sends = sent-respects Q typs terms x fresh r (rw typ fresh-certified)

    quantified : IsInstanceTree Q typs (sent x fresh terms) d h.1 → IsInstanceTree Q typs terms (AllIntro x d) C
    quantified rest =
        let above : above_all (term_instance typs terms h.1 ∷ map (term_instance typs terms) (hyps_of d)) ≤ name = omega arith in
        let apart = fresh-above_all name (typ_instance typs h.0) (term_instance typs terms h.1 ∷ map (term_instance typs terms) (hyps_of d)) above in
        let hyps = rw (instances-unchanged typs terms x fresh (hyps_of d) h.5) at rest.hyps in
        let renamed = instance-renamed typs terms (images_closed Q typs terms r) x fresh tt 0 h.1 apart.0 in
        record {
          tree = AllIntro fresh rest.tree;
          concludes = (
            typ_instance typs h.0,
            term_instance typs (sent x fresh terms) h.1,
            rest.concludes,
            tt,
            fresh-certified,
            each_imply (λ A. IsIn A (map (term_instance typs terms) (hyps_of d))) (λ A. ¬ Occurs fresh A) (hyps_of rest.tree) (λ A m. each_at (λ B. ¬ Occurs fresh B) (map (term_instance typs terms) (hyps_of d)) apart.1 A m) hyps,
            ap (term_instance typs terms) (h.6 ∙ ap (all_of h.0) (abstract_over-variable h.1 x h.3)) ∙ (λ l. all_of (typ_instance typs h.0) (Abs (typ_instance typs (typ l)) (renamed l))),
          );
          hyps = hyps;
          rests = rest.rests;
        }

  pub substitution_of_trees : (d : Tree) (C : Term) → Concludes Q d C → (typs : Typ → Typ) (terms : Term → Term) → AreRespecting Q typs terms → IsInstanceTree Q typs terms d C
  substitution_of_trees (Axiom n first inner) C h typs terms r = record {
    tree = Axiom n (λ v. typ_instance typs (first v)) (λ v. term_instance typs terms (inner v));
    concludes = (h.0, h.1, composed-respects first typs inner terms h.2 r, ap (term_instance typs terms) h.3 ∙ instance-instance first typs inner terms h.0);
    hyps = tt;
    rests = refl;
  }
  substitution_of_trees (Promise label first inner) C h typs terms r = record {
    tree = Promise label (λ v. typ_instance typs (first v)) (λ v. term_instance typs terms (inner v));
    concludes = (h.0, h.1, h.2, composed-respects first typs inner terms h.3 r, ap (term_instance typs terms) h.4 ∙ instance-instance first typs inner terms h.1);
    hyps = tt;
    rests = refl;
  }
  substitution_of_trees (Assume A) C h typs terms r = record {
    tree = Assume (term_instance typs terms A);
    concludes = (certified_of-instance typs terms r A prop h.0, ap (term_instance typs terms) h.1);
    hyps = (inl refl, tt);
    rests = refl;
  }
  substitution_of_trees (AllIntro x d) C h typs terms r =
      let sends_x = sends x d C h typs terms r in
      quantified x d C h typs terms r (substitution_of_trees d h.1 h.2 typs (sent x (fresh x d C h typs terms r) terms) sends_x)
  substitution_of_trees (AllElim t d) C h typs terms r =
      let rest = substitution_of_trees d (all h.0 h.1) h.2 typs terms r in
      record {
        tree = AllElim (term_instance typs terms t) rest.tree;
        concludes = (
          typ_instance typs h.0,
          term_instance typs terms h.1,
          rest.concludes,
          certified_of-instance typs terms r t h.0 h.3,
          ap (term_instance typs terms) h.4 ∙ instance-subst typs terms (images_closed Q typs terms r) 0 t h.1,
        );
        hyps = rest.hyps;
        rests = rest.rests;
      }
  substitution_of_trees (ImpliesIntro A d) C h typs terms r =
      let rest = substitution_of_trees d h.0 h.1 typs terms r in
      record {
        tree = ImpliesIntro (term_instance typs terms A) rest.tree;
        concludes = (term_instance typs terms h.0, rest.concludes, certified_of-instance typs terms r A prop h.2, ap (term_instance typs terms) h.3);
        hyps = discharged (term_instance typs terms) A (hyps_of d) (hyps_of rest.tree) rest.hyps;
        rests = rest.rests;
      }
  substitution_of_trees (ImpliesElim d e) C h typs terms r =
      let left = substitution_of_trees d (imp h.0 C) h.1 typs terms r in
      let right = substitution_of_trees e h.0 h.2 typs terms r in
      record {
        tree = ImpliesElim left.tree right.tree;
        concludes = (term_instance typs terms h.0, left.concludes, right.concludes);
        hyps = joined (term_instance typs terms) (hyps_of d) (hyps_of e) (hyps_of left.tree) (hyps_of right.tree) left.hyps right.hyps;
        rests = λ l. left.rests l ++ right.rests l;
      }
  substitution_of_trees (Beta redex) C h typs terms r = record {
    tree = Beta (term_instance typs terms redex);
    concludes = (
      typ_instance typs h.0,
      typ_instance typs h.1,
      term_instance typs terms h.2,
      term_instance typs terms h.3,
      ap (term_instance typs terms) h.4,
      certified_of-instance typs terms r redex h.1 h.5,
      ap (term_instance typs terms) h.6 ∙ ap (eq (typ_instance typs h.1) (term_instance typs terms redex)) (instance-subst typs terms (images_closed Q typs terms r) 0 h.3 h.2),
    );
    hyps = tt;
    rests = refl;
  }
  substitution_of_trees (Refl t) C h typs terms r = record {
    tree = Refl (term_instance typs terms t);
    concludes = (typ_instance typs h.0, certified_of-instance typs terms r t h.0 h.1, ap (term_instance typs terms) h.2);
    hyps = tt;
    rests = refl;
  }
  substitution_of_trees (Subst f x y) C h typs terms r =
      let left = instance-subst typs terms (images_closed Q typs terms r) 0 x h.1 in
      let right = instance-subst typs terms (images_closed Q typs terms r) 0 y h.1 in
      record {
        tree = Subst (term_instance typs terms f) (term_instance typs terms x) (term_instance typs terms y);
        concludes = (
          typ_instance typs h.0,
          term_instance typs terms h.1,
          ap (term_instance typs terms) h.2,
          certified_of-instance typs terms r f (arrow h.0 prop) h.3,
          certified_of-instance typs terms r x h.0 h.4,
          certified_of-instance typs terms r y h.0 h.5,
          ap (term_instance typs terms) h.6 ∙ (λ l. imp (eq (typ_instance typs h.0) (term_instance typs terms x) (term_instance typs terms y)) (imp (left l) (right l))),
        );
        hyps = tt;
        rests = refl;
      }
  substitution_of_trees (Ext f g) C h typs terms r = record {
    tree = Ext (term_instance typs terms f) (term_instance typs terms g);
    concludes = (typ_instance typs h.0, typ_instance typs h.1, certified_of-instance typs terms r f (arrow h.0 h.1) h.2, certified_of-instance typs terms r g (arrow h.0 h.1) h.3, ap (term_instance typs terms) h.4);
    hyps = tt;
    rests = refl;
  }
  substitution_of_trees (Iff A B) C h typs terms r = record {
    tree = Iff (term_instance typs terms A) (term_instance typs terms B);
    concludes = (certified_of-instance typs terms r A prop h.0, certified_of-instance typs terms r B prop h.1, ap (term_instance typs terms) h.2);
    hyps = tt;
    rests = refl;
  }

-- What is among the hypotheses is, as an instance, among their instances.
each-mapped : (f : Term → Term) (hyps Bs : List Term) → Each (λ B. IsIn B hyps) Bs → (A : Term) → IsIn A (map f Bs) → IsIn A (map f hyps)
each-mapped f hyps [] h A m = absurd m
each-mapped f hyps (B ∷ Bs) h A (inl same) = rw same (in-map f B hyps h.0)
each-mapped f hyps (B ∷ Bs) h A (inr m) = each-mapped f hyps Bs h.1 A m

pub instance_is_proved : (Q : Content) → IsContent Q → (typs : Typ → Typ) (terms : Term → Term) → AreRespecting Q typs terms → (hyps : List Term) (rests : List Label) (A : Term)
    → Proves Q hyps rests A → Proves Q (map (term_instance typs terms) hyps) rests (term_instance typs terms A)
instance_is_proved Q q typs terms r hyps rests A p =
    let made = substitution_of_trees Q q p.tree A p.concludes typs terms r in
    record {
      tree = made.tree;
      concludes = made.concludes;
      from = each_imply (λ B. IsIn B (map (term_instance typs terms) (hyps_of p.tree))) (λ B. IsIn B (map (term_instance typs terms) hyps)) (hyps_of made.tree) (each-mapped (term_instance typs terms) hyps (hyps_of p.tree) p.from) made.hyps;
      rest_on = rw made.rests p.rest_on;
    }

under_pairs-instance : (Q : Content) (typs : Typ → Typ) (terms : Term → Term) → AreRespecting Q typs terms → (pairs : List Pair) (A C : Term) → IsUnderPairs pairs A C
    → IsUnderPairs (map (pair_instance typs terms) pairs) (term_instance typs terms A) (term_instance typs terms C)
under_pairs-instance Q typs terms r [] A C h = ap (term_instance typs terms) h
under_pairs-instance Q typs terms r (p ∷ ps) A C h =
    (typ_instance typs h.0, term_instance typs terms h.1, typing-instance typs terms r.types [] p.left h.0 h.2, under_pairs-instance Q typs terms r ps A h.1 h.3, ap (term_instance typs terms) h.4)

pub instance_is_derivable : (Q : Content) → IsContent Q → (typs : Typ → Typ) (terms : Term → Term) → AreRespecting Q typs terms → (th : Theorem) → IsDerivable Q th → IsDerivable Q (theorem_instance typs terms th)
instance_is_derivable Q q typs terms r th h =
    let made = instance_is_proved Q q typs terms r th.hyps th.rests h.conclusion (record { tree = h.tree; concludes = h.concludes; from = h.hyps; rest_on = h.rests }) in
    record {
      tree = made.tree;
      conclusion = term_instance typs terms h.conclusion;
      concludes = made.concludes;
      under_pairs = under_pairs-instance Q typs terms r th.pairs th.prop h.conclusion h.under_pairs;
      hyps = made.from;
      rests = made.rest_on;
    }
