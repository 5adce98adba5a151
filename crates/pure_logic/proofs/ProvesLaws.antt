-- What is proved, and how inferences go.
use Rattle.std.proofs.Common.{◌↔◌, List, [], ◌∷◌, ◌++◌, ℕ, inl, inr, ap, refl, sym, arith}
use Rattle.pure_text.specs.Lists.{IsIn, Each, EachTwo}
use Rattle.pure_text.proofs.ListLaws.{each_imply, each_at, each-append, moved, moved_back}
use Rattle.pure_definitions.specs.Names.{Label}
use Rattle.pure_definitions.specs.Types.Typ.{Typ}
use Rattle.pure_definitions.specs.Terms.Term.{Term, Free}
use Rattle.pure_definitions.specs.Terms.Bounds.{subst_bound, Occurs}
use Rattle.pure_definitions.specs.Declarations.Certified.{IsCertifiedTyp}
use Rattle.pure_logic.specs.Connectives.{all, imp, chain, eq}
use Rattle.pure_logic.specs.Content.{Content, IsContent, IsBelow, IsCertifiedOf, IsProposition}
use Rattle.pure_logic.specs.PureContent.{pure_content}
use Rattle.pure_logic.specs.Tree.{Assume, AllIntro, AllElim, ImpliesIntro, ImpliesElim, hyps_of, rests_of}
use Rattle.pure_logic.specs.Derivable.{Pair, Theorem, IsUnderPairs, IsDerivable}
use Rattle.pure_logic.specs.Proves.{Proves, IsEquation, IsProved}
use Rattle.pure_term_laws.proofs.BoundLaws.{bind-subst}
use Rattle.pure_logic.proofs.ConnectiveLaws.{certified_of}
use Rattle.pure_logic.proofs.FreshLaws.{above_all, fresh-above_all}
use Rattle.pure_logic.proofs.PropositionLaws.{premise-proposition, conclusion-proposition, concluded-proposition}
use Rattle.pure_logic.proofs.DischargeLaws.{each-discharged}

pub derivable_is_proves : (Q : Content) (hyps : List Term) (rests : List Label) (A : Term) → IsDerivable Q (record { hyps = hyps; pairs = []; prop = A; rests = rests }) ↔ Proves Q hyps rests A
derivable_is_proves Q hyps rests A = (
  λ h. record { tree = h.tree; concludes = rw (← h.under_pairs) h.concludes; from = h.hyps; rest_on = h.rests },
  λ h. record { tree = h.tree; conclusion = A; concludes = h.concludes; under_pairs = refl; hyps = h.from; rests = h.rest_on },
)

pub assumed : (Q : Content) (hyps : List Term) (rests : List Label) (A : Term) → IsProposition Q A → IsIn A hyps → Proves Q hyps rests A
assumed Q hyps rests A h m = record { tree = Assume A; concludes = (h, refl); from = (m, tt); rest_on = tt }

pub weaker : (Q : Content) (hyps more_hyps : List Term) (rests more_rests : List Label) (A : Term) → ((B : Term) → IsIn B hyps → IsIn B more_hyps) → ((l : Label) → IsIn l rests → IsIn l more_rests)
    → Proves Q hyps rests A → Proves Q more_hyps more_rests A
weaker Q hyps more_hyps rests more_rests A hyps_among rests_among p = record {
  tree = p.tree;
  concludes = p.concludes;
  from = each_imply (λ B. IsIn B hyps) (λ B. IsIn B more_hyps) (hyps_of p.tree) hyps_among p.from;
  rest_on = each_imply (λ l. IsIn l rests) (λ l. IsIn l more_rests) (rests_of p.tree) rests_among p.rest_on;
}

pub implication_is_proved : (Q : Content) (hyps : List Term) (rests : List Label) (A B : Term) → IsProposition Q A → Proves Q (A ∷ hyps) rests B → Proves Q hyps rests (imp A B)
implication_is_proved Q hyps rests A B h p = record { tree = ImpliesIntro A p.tree; concludes = (B, p.concludes, h, refl); from = each-discharged A hyps (hyps_of p.tree) p.from; rest_on = p.rest_on }

pub conclusion_is_proved : (Q : Content) (hyps : List Term) (rests : List Label) (A B : Term) → Proves Q hyps rests (imp A B) → Proves Q hyps rests A → Proves Q hyps rests B
conclusion_is_proved Q hyps rests A B p r = record {
  tree = ImpliesElim p.tree r.tree;
  concludes = (A, p.concludes, r.concludes);
  from = each-append (λ C. IsIn C hyps) (hyps_of p.tree) (hyps_of r.tree) p.from r.from;
  rest_on = each-append (λ l. IsIn l rests) (rests_of p.tree) (rests_of r.tree) p.rest_on r.rest_on;
}

pub chain_is_proved : (Q : Content) (premises hyps : List Term) (rests : List Label) (C : Term) → Each (IsProposition Q) premises → Proves Q (premises ++ hyps) rests C → Proves Q hyps rests (chain premises C)
chain_is_proved Q [] hyps rests C h p = p
chain_is_proved Q (A ∷ As) hyps rests C h p =
    implication_is_proved Q hyps rests A (chain As C) h.0
    (chain_is_proved Q As (A ∷ hyps) rests C h.1 (weaker Q (A ∷ (As ++ hyps)) (As ++ A ∷ hyps) rests rests C (moved_back A As hyps) (λ l m. m) p))

pub end_of_chain_is_proved : (Q : Content) (premises hyps : List Term) (rests : List Label) (C : Term) → Proves Q hyps rests (chain premises C) → Each (λ A. Proves Q hyps rests A) premises → Proves Q hyps rests C
end_of_chain_is_proved Q [] hyps rests C p each = p
end_of_chain_is_proved Q (A ∷ As) hyps rests C p each = end_of_chain_is_proved Q As hyps rests C (conclusion_is_proved Q hyps rests A (chain As C) p each.0) each.1

-- The variable has a name above all in the body and the hypotheses.
pub quantification_is_proved : (Q : Content) (hyps : List Term) (rests : List Label) (T : Typ) (B : Term) → IsCertifiedTyp Q.declarations T → ((n : ℕ) → Proves Q hyps rests (subst_bound B (Free n T))) → Proves Q hyps rests (all T B)
quantification_is_proved Q hyps rests T B c each =
    let apart = fresh-above_all (above_all (B ∷ hyps)) T (B ∷ hyps) (omega arith) in
    let p = each (above_all (B ∷ hyps)) in
    record {
      tree = AllIntro (Free (above_all (B ∷ hyps)) T) p.tree;
      concludes = (
        T,
        subst_bound B (Free (above_all (B ∷ hyps)) T),
        p.concludes,
        tt,
        certified_of Q (Free (above_all (B ∷ hyps)) T) T c refl,
        each_imply (λ A. IsIn A hyps) (λ A. ¬ Occurs (Free (above_all (B ∷ hyps)) T) A) (hyps_of p.tree) (λ A m. each_at (λ C. ¬ Occurs (Free (above_all (B ∷ hyps)) T) C) hyps apart.1 A m) p.from,
        ap (all T) (sym (bind-subst 0 (Free (above_all (B ∷ hyps)) T) B tt apart.0)),
      );
      from = p.from;
      rest_on = p.rest_on;
    }

pub instance_of_body_is_proved : (Q : Content) (hyps : List Term) (rests : List Label) (T : Typ) (B t : Term) → IsCertifiedOf Q t T → Proves Q hyps rests (all T B) → Proves Q hyps rests (subst_bound B t)
instance_of_body_is_proved Q hyps rests T B t c p = record { tree = AllElim t p.tree; concludes = (T, B, p.concludes, c, refl); from = p.from; rest_on = p.rest_on }

-- Under pairs with some equations, a tree closes the equations.
close_pairs : (Q : Content) (pairs : List Pair) (equations hyps : List Term) (rests : List Label) (A : Term) → EachTwo IsEquation pairs equations → Each (IsProposition Q) equations
    → Proves Q (equations ++ hyps) rests A → (C : Term) × IsUnderPairs pairs A C × Proves Q hyps rests C
close_pairs Q [] [] hyps rests A h propositions p = (A, refl, p)
close_pairs Q (pair ∷ pairs) (e ∷ es) hyps rests A h propositions p =
    let rest = close_pairs Q pairs es (e ∷ hyps) rests A h.1 propositions.1 (weaker Q (e ∷ (es ++ hyps)) (es ++ e ∷ hyps) rests rests A (moved_back e es hyps) (λ l m. m) p) in
    (imp e rest.0, (h.0.0, rest.0, h.0.1, rest.1, ap (λ t. imp t rest.0) h.0.2), implication_is_proved Q hyps rests e rest.0 propositions.0 rest.2)
close_pairs Q [] (e ∷ es) hyps rests A h propositions p = absurd h
close_pairs Q (pair ∷ pairs) [] hyps rests A h propositions p = absurd h

-- what a proposition under pairs opens to: the equations of the pairs, and its own proposition proved from them
pub record Opened (Q : Content) (pairs : List Pair) (A C : Term) : Type 0 where
  pub equations : List Term
  pub are_equations : EachTwo IsEquation pairs equations
  pub propositions : Each (IsProposition Q) equations
  pub opened : (hyps : List Term) (rests : List Label) → Proves Q hyps rests C → Proves Q (equations ++ hyps) rests A

module _ (Q : Content) (above : IsBelow pure_content Q) where
  open_pairs : (pairs : List Pair) (A C : Term) → IsUnderPairs pairs A C → IsProposition Q C → Opened Q pairs A C
  open_pairs [] A C under h = record { equations = []; are_equations = tt; propositions = tt; opened = λ hyps rests p. rw (← under) p }
  open_pairs (pair ∷ pairs) A C under h =
      let e = eq under.0 pair.left pair.right in
      let whole : IsProposition Q (imp e under.1) = rw under.4 at h in
      let rest = open_pairs pairs A under.1 under.3 (conclusion-proposition Q above e under.1 whole) in
      let premise = premise-proposition Q above e under.1 whole in
      record {
        equations = e ∷ rest.equations;
        are_equations = ((under.0, under.2, refl), rest.are_equations);
        propositions = (premise, rest.propositions);
        opened = λ hyps rests p.
            let implication : Proves Q (e ∷ hyps) rests (imp e under.1) = weaker Q hyps (e ∷ hyps) rests rests (imp e under.1) (λ B m. inr m) (λ l m. m) (rw under.4 at p) in
            let body = conclusion_is_proved Q (e ∷ hyps) rests e under.1 implication (assumed Q (e ∷ hyps) rests e premise (inl refl)) in
            weaker Q (rest.equations ++ e ∷ hyps) (e ∷ (rest.equations ++ hyps)) rests rests A (moved e rest.equations hyps) (λ l m. m) (rest.opened (e ∷ hyps) rests body);
      }

module _ (Q : Content) (q : IsContent Q) (above : IsBelow pure_content Q) where
  pub derivable-proved : (th : Theorem) → IsDerivable Q th → IsProved Q th
  derivable-proved th h =
      let open_ = open_pairs Q above th.pairs th.prop h.conclusion h.under_pairs (concluded-proposition Q q above h.tree h.conclusion h.concludes) in
      record {
        equations = open_.equations;
        are_equations = open_.are_equations;
        propositions = open_.propositions;
        proves = open_.opened th.hyps th.rests (record { tree = h.tree; concludes = h.concludes; from = h.hyps; rest_on = h.rests });
      }

  pub proved-derivable : (th : Theorem) → IsProved Q th → IsDerivable Q th
  proved-derivable th h =
      let closed = close_pairs Q th.pairs h.equations th.hyps th.rests th.prop h.are_equations h.propositions h.proves in
      record { tree = closed.2.tree; conclusion = closed.0; concludes = closed.2.concludes; under_pairs = closed.1; hyps = closed.2.from; rests = closed.2.rest_on }

pub pairs_are_equations : (Q : Content) → IsContent Q → IsBelow pure_content Q → (th : Theorem) → IsDerivable Q th ↔ IsProved Q th
pairs_are_equations Q q above th = (derivable-proved Q q above th, proved-derivable Q q above th)

pub proved_is_proposition : (Q : Content) → IsContent Q → IsBelow pure_content Q → (hyps : List Term) (rests : List Label) (A : Term) → Proves Q hyps rests A → IsProposition Q A
proved_is_proposition Q q above hyps rests A p = concluded-proposition Q q above p.tree A p.concludes

pub cut_is_proved : (Q : Content) → IsContent Q → IsBelow pure_content Q → (hyps : List Term) (rests : List Label) (A B : Term) → Proves Q hyps rests A → Proves Q (A ∷ hyps) rests B → Proves Q hyps rests B
cut_is_proved Q q above hyps rests A B p r =
    conclusion_is_proved Q hyps rests A B (implication_is_proved Q hyps rests A B (proved_is_proposition Q q above hyps rests A p) r) p
