-- Promises are cut: the tree of a proved statement is put, at its instance, in the place of the promise.
use Rattle.std.proofs.Common.{◌⊎◌, List, [], ◌++◌, inl, inr, refl}
use Rattle.pure_text.specs.Lists.{IsIn, Each}
use Rattle.pure_text.proofs.ListLaws.{in-append_left, in-append_right, each_imply, each_at, each-append, each-left, each-right}
use Rattle.pure_definitions.specs.Names.{Label}
use Rattle.pure_definitions.specs.Terms.Term.{Term}
use Rattle.pure_definitions.specs.Terms.Bounds.{Occurs}
use Rattle.pure_logic.specs.Connectives.{all, imp}
use Rattle.pure_logic.specs.Content.{Content, IsContent}
use Rattle.pure_logic.specs.Tree.{Tree, Axiom, Promise, Assume, AllIntro, AllElim, ImpliesIntro, ImpliesElim, Beta, Refl, Subst, Ext, Iff, hyps_of, rests_of}
use Rattle.pure_logic.specs.Concludes.{Concludes}
use Rattle.pure_logic.specs.Derivable.{Theorem, IsDerivable, IsDerivableAlone}
use Rattle.pure_logic.specs.Proves.{Proves}
use Rattle.pure_logic.specs.Laws.Promises.{IsSettled, AreOpenOrSettled, IsProvedFor, IsCutTree}
use Rattle.pure_logic.proofs.ProvesLaws.{weaker, derivable_is_proves}
use Rattle.pure_logic.proofs.SubstitutionLaws.{instance_is_proved}
use Rattle.pure_logic.proofs.DischargeLaws.{without-among}

-- Each of the promises is among those left open, or is proved resting on them.
abbrev AreOpenOrProved : (Q : Content) → (left_open rests : List Label) → Type 0
AreOpenOrProved Q left_open rests = Each (λ l. IsIn l left_open ⊎ IsProvedFor Q left_open l) rests

module _ (Q : Content) (q : IsContent Q) (left_open : List Label) where
  pub cut : (d : Tree) (C : Term) → Concludes Q d C → AreOpenOrProved Q left_open (rests_of d) → IsCutTree Q left_open d C
  cut (Axiom n typs terms) C h settled = record { tree = Axiom n typs terms; concludes = h; hyps = tt; rests = tt }
  cut (Promise label typs terms) C h settled = by settled.0
    where
      by : IsIn label left_open ⊎ IsProvedFor Q left_open label → IsCutTree Q left_open (Promise label typs terms) C
      by (inl m) = record { tree = Promise label typs terms; concludes = h; hyps = tt; rests = (m, tt) }
      by (inr proved) =
          let made = instance_is_proved Q q typs terms h.3 [] left_open h.1 (proved h.0 h.1 h.2) in
          record { tree = made.tree; concludes = rw h.4 made.concludes; hyps = made.from; rests = made.rest_on }
  cut (Assume A) C h settled = record { tree = Assume A; concludes = h; hyps = (inl refl, tt); rests = tt }
  cut (AllIntro x d) C h settled =
      let above = cut d h.1 h.2 settled in
      record {
        tree = AllIntro x above.tree;
        concludes = (h.0, h.1, above.concludes, h.3, h.4, each_imply (λ A. IsIn A (hyps_of d)) (λ A. ¬ Occurs x A) (hyps_of above.tree) (λ A m. each_at (λ B. ¬ Occurs x B) (hyps_of d) h.5 A m) above.hyps, h.6);
        hyps = above.hyps;
        rests = above.rests;
      }
  cut (AllElim t d) C h settled =
      let above = cut d (all h.0 h.1) h.2 settled in
      record { tree = AllElim t above.tree; concludes = (h.0, h.1, above.concludes, h.3, h.4); hyps = above.hyps; rests = above.rests }
  cut (ImpliesIntro A d) C h settled =
      let above = cut d h.0 h.1 settled in
      record { tree = ImpliesIntro A above.tree; concludes = (h.0, above.concludes, h.2, h.3); hyps = without-among A (hyps_of d) (hyps_of above.tree) above.hyps; rests = above.rests }
  cut (ImpliesElim d e) C h settled =
      let left = cut d (imp h.0 C) h.1 (each-left (λ l. IsIn l left_open ⊎ IsProvedFor Q left_open l) (rests_of d) (rests_of e) settled) in
      let right = cut e h.0 h.2 (each-right (λ l. IsIn l left_open ⊎ IsProvedFor Q left_open l) (rests_of d) (rests_of e) settled) in
      record {
        tree = ImpliesElim left.tree right.tree;
        concludes = (h.0, left.concludes, right.concludes);
        hyps = each-append (λ A. IsIn A (hyps_of d ++ hyps_of e)) (hyps_of left.tree) (hyps_of right.tree)
            (each_imply (λ A. IsIn A (hyps_of d)) (λ A. IsIn A (hyps_of d ++ hyps_of e)) (hyps_of left.tree) (λ A m. in-append_left A (hyps_of d) (hyps_of e) m) left.hyps)
            (each_imply (λ A. IsIn A (hyps_of e)) (λ A. IsIn A (hyps_of d ++ hyps_of e)) (hyps_of right.tree) (λ A m. in-append_right A (hyps_of d) (hyps_of e) m) right.hyps);
        rests = each-append (λ l. IsIn l left_open) (rests_of left.tree) (rests_of right.tree) left.rests right.rests;
      }
  cut (Beta redex) C h settled = record { tree = Beta redex; concludes = h; hyps = tt; rests = tt }
  cut (Refl t) C h settled = record { tree = Refl t; concludes = h; hyps = tt; rests = tt }
  cut (Subst f x y) C h settled = record { tree = Subst f x y; concludes = h; hyps = tt; rests = tt }
  cut (Ext f g) C h settled = record { tree = Ext f g; concludes = h; hyps = tt; rests = tt }
  cut (Iff A B) C h settled = record { tree = Iff A B; concludes = h; hyps = tt; rests = tt }

pub cut_by_proofs : (Q : Content) → IsContent Q → (th : Theorem) (left_open : List Label) → Each (λ l. IsIn l left_open ⊎ IsProvedFor Q left_open l) th.rests
    → IsDerivable Q th → IsDerivable Q (record th { rests = left_open })
cut_by_proofs Q q th left_open proved h =
    let made = cut Q q left_open h.tree h.conclusion h.concludes
    (each_imply (λ l. IsIn l th.rests) (λ l. IsIn l left_open ⊎ IsProvedFor Q left_open l) (rests_of h.tree) (λ l m. each_at (λ k. IsIn k left_open ⊎ IsProvedFor Q left_open k) th.rests proved l m) h.rests) in
    record {
      tree = made.tree;
      conclusion = h.conclusion;
      concludes = made.concludes;
      under_pairs = h.under_pairs;
      hyps = each_imply (λ A. IsIn A (hyps_of h.tree)) (λ A. IsIn A th.hyps) (hyps_of made.tree) (λ A m. each_at (λ B. IsIn B th.hyps) (hyps_of h.tree) h.hyps A m) made.hyps;
      rests = made.rests;
    }

-- What is derivable alone is proved, resting on whatever promises.
alone-proved : (Q : Content) (rests : List Label) (A : Term) → IsDerivableAlone Q A → Proves Q [] rests A
alone-proved Q rests A h = weaker Q [] [] [] rests A (λ B m. m) (λ l m. absurd m) ((derivable_is_proves Q [] [] A).0 h)

pub cut_of_promises : (Q : Content) → IsContent Q → (th : Theorem) (left_open : List Label) → AreOpenOrSettled Q left_open th.rests → IsDerivable Q th → IsDerivable Q (record th { rests = left_open })
cut_of_promises Q q th left_open settled h =
    cut_by_proofs Q q th left_open (each_imply (λ l. IsIn l left_open ⊎ IsSettled Q l) (λ l. IsIn l left_open ⊎ IsProvedFor Q left_open l) th.rests by settled) h
  where
    by : (l : Label) → IsIn l left_open ⊎ IsSettled Q l → IsIn l left_open ⊎ IsProvedFor Q left_open l
    by l (inl m) = inl m
    by l (inr alone) = inr (λ name A m. alone-proved Q left_open A (alone name A m))

pub settled_is_derivable : (Q : Content) → IsContent Q → (th : Theorem) → Each (IsSettled Q) th.rests → IsDerivable Q th → IsDerivable Q (record th { rests = [] })
settled_is_derivable Q q th settled h = cut_of_promises Q q th [] (each_imply (IsSettled Q) (λ l. IsIn l [] ⊎ IsSettled Q l) th.rests (λ l k. inr k) settled) h
