-- The beginning of a proof, from what the call that begins a goal answers.
use Rattle.std.proofs.Common.{◌≡◌, ℕ, List, [], refl, sym, subst}
use Rattle.std.specs.Prelude.{Ok, Err}
use Rattle.pure_definitions.specs.Terms.Term.{Term}
use Rattle.pure_logic.specs.Content.{Content, IsProposition}
use Rattle.pure_logic.specs.Derivable.{IsDerivable}
use Rattle.pure_theorem.specs.Facts.{IsTheoryContent}
use Rattle.pure_declare.specs.Theory.Stage.{IsSound}
use Rattle.pure_declare.specs.Notes.{Fork}
use Rattle.pure_resolve.specs.GoalSteps.Steps.{BeginsAs}
use Rattle.pure_resolve.specs.GoalSteps.declared.fault.StepFault.{StepFault}
use Rattle.pure_resolve.specs.GoalSteps.declared.fault.StepFault.TheVariants.{Memory, Big}
use Rattle.pure_resolve.specs.Goals.{IsOutcome}
use Rattle.pure_resolve.specs.declared.state.Goal.{Goal}
use Rattle.pure_method.specs.Proof.{IsProofIn}
use Rattle.pure_method.specs.Outcome.{IsProvable}
use Rattle.pure_method.specs.Running.{HasCome, StandsFirst}
use Rattle.pure_method.specs.declared.proving.Place.TheVariants.{Runs, Refused}
use Rattle.pure_method.proofs.ReadyLaws.{unify_content, theory_content}
use Rattle.pure_method.proofs.StepAnswers.{begun}
use Rattle.pure_method.proofs.RunLaws.{begun-run, begin-fault, not_begun}

module _ (texts : List (List ℕ)) (f : Fork) (p : IsProvable texts f) (C : Term) (is : C ≡ f.fixed) where
  pub started-run : (R : Content) → R ≡ f.content → IsSound f.content → (goal : Goal) → IsOutcome (BeginsAs C) (λ rests. rests ≡ []) (Ok goal) → (IsTheoryContent R → IsProposition R C → IsDerivable R goal.thm) → HasCome texts f goal.thm 1 f.script
  started-run R same sound goal outcome derivable =
      let q = theory_content f.content (unify_content f.content sound) in
      let there : IsTheoryContent R = subst IsTheoryContent (sym same) q in
      let proposition : IsProposition R C = subst (λ (A : Term). IsProposition R A) (sym is) (subst (λ (S : Content). IsProposition S f.fixed) (sym same) p.proposition) in
      let d : IsDerivable f.content goal.thm = subst (λ (S : Content). IsDerivable S goal.thm) same (derivable there proposition) in
      let own : IsOutcome (BeginsAs f.fixed) (λ rests. rests ≡ []) (Ok goal) = subst (λ (A : Term). IsOutcome (BeginsAs A) (λ rests. rests ≡ []) (Ok goal)) is outcome in
      begun-run texts f p goal own (begun f.content (BeginsAs f.fixed) (λ rests. rests ≡ []) q (Ok goal) own d)

  pub started-fault : (fault : StepFault) → (fault ≡ Memory → ⊥) → IsOutcome (BeginsAs C) (λ rests. rests ≡ []) (Err fault) → IsProofIn texts f.content f.lemma f.fixed f.script (Err (record { step = 0; fault = Big }))
  started-fault fault n outcome = not_begun texts f p fault n (subst (λ (A : Term). IsOutcome (BeginsAs A) (λ rests. rests ≡ []) (Err fault)) is outcome)

  -- The goal stands at the first state, or none began.
  pub stands-first : (goal : Goal) → IsOutcome (BeginsAs C) (λ rests. rests ≡ []) (Ok goal) → StandsFirst f (Runs (record { goal = goal; at = 0; number = 1 }))
  stands-first goal (s, begins, after, kept, none) = (s, subst (λ (A : Term). BeginsAs A (Ok s)) is begins, after, refl, refl)

  pub stands-refused : (fault : StepFault) → (fault ≡ Memory → ⊥) → IsOutcome (BeginsAs C) (λ rests. rests ≡ []) (Err fault) → StandsFirst f Refused
  stands-refused fault n outcome = (fault, begin-fault f.fixed (λ rests. rests ≡ []) fault n (subst (λ (A : Term). IsOutcome (BeginsAs A) (λ rests. rests ≡ []) (Err fault)) is outcome))
