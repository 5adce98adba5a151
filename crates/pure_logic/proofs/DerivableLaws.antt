-- What is derivable, in words of trees; and that axioms and promises are.
use Rattle.std.proofs.Common.{◌≡◌, ◌↔◌, ℕ, [], ◌∷◌, inl, refl, sym}
use Rattle.pure_definitions.specs.Names.{Label}
use Rattle.pure_definitions.specs.Terms.Term.{Term}
use Rattle.pure_definitions.specs.Declarations.Decl.{AxiomDecl, PromiseDecl}
use Rattle.pure_text.specs.Lists.{IsIn}
use Rattle.pure_text.proofs.ListLaws.{each_of, each_at, none_in}
use Rattle.pure_term_laws.proofs.SubstLaws.{term_instance-identity}
use Rattle.pure_logic.specs.Content.{Content}
use Rattle.pure_logic.specs.Tree.{Tree, Axiom, Promise, hyps_of, rests_of}
use Rattle.pure_logic.specs.Concludes.{Concludes}
use Rattle.pure_logic.specs.Derivable.{Theorem, IsUnderPairs, IsDerivable, IsDerivableAlone}
use Rattle.pure_logic.proofs.MapLaws.{identity_respects}

pub derivable_alone_exactly : (Q : Content) (A : Term) → IsDerivableAlone Q A ↔ ((d : Tree) × Concludes Q d A × (hyps_of d ≡ []) × (rests_of d ≡ []))
derivable_alone_exactly Q A = (
  λ h. (h.tree, rw (← h.under_pairs) h.concludes, none_in (hyps_of h.tree) h.hyps, none_in (rests_of h.tree) h.rests),
  λ h. record { tree = h.0; conclusion = A; concludes = h.1; under_pairs = refl; hyps = rw h.2 tt; rests = rw h.3 tt },
)

pub derivable_exactly : (Q : Content) (th : Theorem) → IsDerivable Q th
    ↔ ((d : Tree) × (C : Term) × Concludes Q d C × IsUnderPairs th.pairs th.prop C × ((A : Term) → IsIn A (hyps_of d) → IsIn A th.hyps) × ((l : Label) → IsIn l (rests_of d) → IsIn l th.rests))
derivable_exactly Q th = (
  λ h. (h.tree, h.conclusion, h.concludes, h.under_pairs, λ A m. each_at (λ B. IsIn B th.hyps) (hyps_of h.tree) h.hyps A m, λ l m. each_at (λ k. IsIn k th.rests) (rests_of h.tree) h.rests l m),
  λ h. record {
    tree = h.0;
    conclusion = h.1;
    concludes = h.2;
    under_pairs = h.3;
    hyps = each_of (λ A. IsIn A th.hyps) (hyps_of h.0) h.4;
    rests = each_of (λ l. IsIn l th.rests) (rests_of h.0) h.5;
  },
)

pub axiom_is_derivable : (Q : Content) (name : ℕ) (A : Term) → IsIn (AxiomDecl name A) Q.declarations → IsDerivableAlone Q A
axiom_is_derivable Q name A m = record {
  tree = Axiom name (λ T. T) (λ t. t);
  conclusion = A;
  concludes = (A, m, identity_respects Q, sym (term_instance-identity A));
  under_pairs = refl;
  hyps = tt;
  rests = tt;
}

pub promise_is_derivable : (Q : Content) (name : ℕ) (label : Label) (A : Term) → IsIn (PromiseDecl name label A) Q.declarations → IsDerivable Q (record { hyps = []; pairs = []; prop = A; rests = label ∷ [] })
promise_is_derivable Q name label A m = record {
  tree = Promise label (λ T. T) (λ t. t);
  conclusion = A;
  concludes = (name, A, m, identity_respects Q, sym (term_instance-identity A));
  under_pairs = refl;
  hyps = tt;
  rests = (inl refl, tt);
}
