-- What the inferences give is derivable.
use Rattle.std.proofs.Common.{◌≡◌, ℕ, List, [], ◌∷◌, refl, sym, subst, inl, inr}
use Rattle.pure_text.specs.Lists.{IsIn}
use Rattle.pure_text.proofs.ListLaws.{each_at}
use Rattle.pure_definitions.specs.Names.{Label}
use Rattle.pure_definitions.specs.Terms.Term.{Term}
use Rattle.pure_definitions.specs.Terms.Conditions.{IsVariable, variable_typ}
use Rattle.pure_definitions.specs.Declarations.Certified.{IsCertified}
use Rattle.pure_logic.specs.Content.{Content}
use Rattle.pure_logic.specs.Derivable.{Theorem, IsDerivable, IsDerivableAlone}
use Rattle.pure_logic.specs.BuiltFacts.{built_facts}
use Rattle.pure_logic.proofs.BuiltFactLaws.{built_facts_are_derivable_above}
use Rattle.pure_logic.specs.Proves.{Proves}
use Rattle.pure_logic.proofs.DerivableLaws.{axiom_is_derivable, promise_is_derivable}
use Rattle.pure_logic.proofs.ProvesLaws.{derivable_is_proves, assumed, conclusion_is_proved}
use Rattle.pure_logic.proofs.InferenceLaws.{implies_intro_is_derivable, all_intro_is_derivable}
use Rattle.pure_logic.proofs.QuantificationLaws.{reduced_instance_is_derivable}
use Rattle.pure_theorem.specs.Facts.{IsTheoryContent}
use Rattle.pure_theorem.specs.Built.{built_proposition}
use Rattle.pure_theorem.specs.declared.built.Built.{Built}
use Rattle.pure_theorem.specs.declared.built.Built.TheVariants.{Refl, Subst, Ext, Iff, Mp, Spec}
use Rattle.pure_theorem.proofs.AnswerLaws.{joined-derivable}
use Rattle.pure_theorem.proofs.VariableLaws.{variable-typed}
use Rattle.pure_rules.specs.Facts.{GivesAxiom, GivesPromise, GivesBuilt}
use Rattle.pure_rules.specs.Implication.{GivesAssume, GivesImpliesIntro, GivesImpliesElim}
use Rattle.pure_rules.specs.Quantification.{GivesAllIntro, GivesAllElim}

pub axiom-derived : (Q : Content) (name : ℕ) (th : Theorem) → GivesAxiom Q name th → IsDerivable Q th
axiom-derived Q name th (A, declared, is) = subst (IsDerivable Q) (sym is) (axiom_is_derivable Q name A declared)

pub promise-derived : (Q : Content) (label : Label) (th : Theorem) → GivesPromise Q label th → IsDerivable Q th
promise-derived Q label th (A, declared, is) = subst (IsDerivable Q) (sym is) (promise_is_derivable Q declared.0 label A declared.1)

-- Each built fact is one of the six.
built-in : (which : Built) → IsIn (built_proposition which) built_facts
built-in Refl = inl refl
built-in Subst = inr (inl refl)
built-in Ext = inr (inr (inl refl))
built-in Iff = inr (inr (inr (inl refl)))
built-in Mp = inr (inr (inr (inr (inl refl))))
built-in Spec = inr (inr (inr (inr (inr (inl refl)))))

pub built-derived : (Q : Content) → IsTheoryContent Q → (which : Built) (th : Theorem) → GivesBuilt which th → IsDerivable Q th
built-derived Q q which th is =
    subst (IsDerivable Q) (sym is) (each_at (IsDerivableAlone Q) built_facts (built_facts_are_derivable_above Q q.above_pure) (built_proposition which) (built-in which))

pub assume-derived : (Q : Content) (A : Term) → IsCertified Q.declarations A → (th : Theorem) → GivesAssume A th → IsDerivable Q th
assume-derived Q A certified th gives =
    subst (IsDerivable Q) (sym gives.1) ((derivable_is_proves Q (A ∷ []) [] A).1 (assumed Q (A ∷ []) [] A (record { certified = certified; typed = gives.0 }) (inl refl)))

pub implies_intro-derived : (Q : Content) → IsTheoryContent Q → (A : Term) (th : Theorem) → IsCertified Q.declarations A → IsDerivable Q th → (new : Theorem) → GivesImpliesIntro A th new → IsDerivable Q new
implies_intro-derived Q q A th certified h new gives =
    subst (IsDerivable Q) (sym gives.1) (implies_intro_is_derivable Q q.content q.above_pure A th.prop th (record { certified = certified; typed = gives.0 }) h)

pub implies_elim-derived : (Q : Content) → IsTheoryContent Q → (implication premise : Theorem) → IsDerivable Q implication → IsDerivable Q premise → (th : Theorem) → GivesImpliesElim implication premise th → IsDerivable Q th
implies_elim-derived Q q implication premise h k th (B, is, joined) =
    joined-derivable Q q implication premise B th joined (λ H p r. conclusion_is_proved Q H th.rests premise.prop B (subst (Proves Q H th.rests) is p) r) h k

pub all_intro-derived : (Q : Content) → IsTheoryContent Q → (x : Term) (th : Theorem) → IsVariable x → IsCertified Q.declarations x → IsDerivable Q th → (new : Theorem) → GivesAllIntro x th new → IsDerivable Q new
all_intro-derived Q q x th variable certified h new gives =
    subst (IsDerivable Q) (sym gives.is)
    (all_intro_is_derivable Q q.content q.above_pure x (variable_typ x) th.prop th variable (record { certified = certified; typed = variable-typed x variable }) gives.fresh gives.fresh_in_pairs h)

pub all_elim-derived : (Q : Content) → IsTheoryContent Q → (t : Term) (th : Theorem) → IsCertified Q.declarations t → IsDerivable Q th → (new : Theorem) → GivesAllElim t th new → IsDerivable Q new
all_elim-derived Q q t th certified h new gives =
    subst (IsDerivable Q) (sym gives.is)
    (reduced_instance_is_derivable Q q.content q.above_pure gives.typ gives.function t th (record { certified = certified; typed = gives.typed })
    (subst (λ B. IsDerivable Q (record th { prop = B })) gives.quantification h))
