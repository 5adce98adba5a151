-- What the parts of steps answer: facts by name, and a subgoal's equation by facts.
use Rattle.std.specs.Prelude.{◌≡◌, ◌++◌, ℕ, List, [], Result, Ok, Err}
use Rattle.pure_text.specs.Lists.{EachTwo, AnyOf}
use Rattle.pure_definitions.specs.Types.Typ.{prop}
use Rattle.pure_definitions.specs.Terms.Term.{Term}
use Rattle.pure_definitions.specs.Reduction.Beta.{IsBetaNormal}
use Rattle.pure_definitions.specs.Declarations.Decl.{algebra_of}
use Rattle.pure_logic.specs.Connectives.{eq}
use Rattle.pure_logic.specs.Content.{Content}
use Rattle.pure_logic.specs.Derivable.{Theorem, IsDerivable}
use Rattle.pure_theorem.specs.Sets.{label_cmp, IsSetOf}
use Rattle.pure_unfold.specs.Unfold.{IsNoDefinition, Unfolds, UnfoldsNothing}
use Rattle.pure_conv.specs.declared.fault.ConvFault.{ConvFault}
use Rattle.pure_conv.specs.declared.fault.ConvFault.TheVariants as conv
use Rattle.pure_resolve.specs.GoalSteps.declared.fault.StepFault.{StepFault}
use Rattle.pure_resolve.specs.GoalSteps.declared.fault.StepFault.TheVariants.{UnknownFact, NotDefinition, NothingToUnfold, Big, Memory}
use Rattle.pure_method.specs.Facts.{theorem, IsFoundIn, IsUnknownIn}
use Rattle.pure_method.specs.Unfolding.{IsSmallEquation, TakesFact, ComesByFacts, all_rests}

-- The fact that is written so in the lemma; or it isn't known; or memory ran out.
abbrev pub IsFactAnswer : (texts : List (List ℕ)) → Content → (lemma : ℕ) → (written : List ℕ) → Result Theorem StepFault → Type 0
IsFactAnswer texts Q lemma written (Ok th) = IsFoundIn texts Q lemma written th
IsFactAnswer texts Q lemma written (Err UnknownFact) = IsUnknownIn texts Q lemma written
IsFactAnswer texts Q lemma written (Err Memory) = Unit {0}
IsFactAnswer texts Q lemma written (Err _) = ⊥

-- The facts that are written so in the lemma; or one isn't known; or memory ran out.
abbrev pub AreFactsAnswer : (texts : List (List ℕ)) → Content → (lemma : ℕ) → (written : List (List ℕ)) → Result (List Theorem) StepFault → Type 0
AreFactsAnswer texts Q lemma written (Ok ths) = EachTwo (IsFoundIn texts Q lemma) written ths
AreFactsAnswer texts Q lemma written (Err UnknownFact) = AnyOf (IsUnknownIn texts Q lemma) written
AreFactsAnswer texts Q lemma written (Err Memory) = Unit {0}
AreFactsAnswer texts Q lemma written (Err _) = ⊥

-- The fact may be used on each goal: it is derivable, has no hypotheses and no pairs, and is beta-normal.
pub record IsReadyFact (Q : Content) (fact : Theorem) : Type 0 where
  pub no_hyps : fact.hyps ≡ []
  pub no_pairs : fact.pairs ≡ []
  pub normal : IsBetaNormal fact.prop
  pub derivable : IsDerivable Q fact

-- the fault of a step that a conversion's is; those that unfolding doesn't have are want of memory
abbrev pub step_fault : ConvFault → StepFault
step_fault conv.NotDefinition = NotDefinition
step_fault conv.NothingToUnfold = NothingToUnfold
step_fault conv.Big = Big
step_fault _ = Memory

-- the answer of a conversion as that of a step
abbrev pub step_answer : Result Theorem ConvFault → Result Theorem StepFault
step_answer (Ok th) = Ok th
step_answer (Err fault) = Err (step_fault fault)

-- The theorem is the equation of the two propositions, and derivable.
pub record IsChained (Q : Content) (first last : Term) (th : Theorem) : Type 0 where
  pub is : th ≡ theorem (eq prop first last) th.rests
  pub derivable : IsDerivable Q th

-- The theorem is such an equation, of some propositions.
abbrev pub IsChain : Content → Theorem → Type 0
IsChain Q th = (first : Term) × (last : Term) × IsChained Q first last th

-- The equation of a proposition with that in which the fact is unfolded, within the limits; or `Big` where it isn't; or the fault for which the fact isn't unfolded; or `Memory`.
abbrev pub IsLinked : Content → (now : Term) → (fact : Theorem) → Result Theorem StepFault → Type 0
IsLinked Q now fact (Ok th) = (u : Term) × Unfolds (algebra_of Q.declarations) fact.prop now u × IsSmallEquation now u × IsChained Q now u th × (th.rests ≡ fact.rests)
IsLinked Q now fact (Err NotDefinition) = IsNoDefinition fact.prop
IsLinked Q now fact (Err NothingToUnfold) = UnfoldsNothing (algebra_of Q.declarations) fact.prop now
IsLinked Q now fact (Err Big) = (u : Term) × Unfolds (algebra_of Q.declarations) fact.prop now u × ¬ IsSmallEquation now u
IsLinked Q now fact (Err Memory) = Unit {0}
IsLinked Q now fact (Err _) = ⊥

-- The equation that follows from two, which rests on what both rest on, within the limits; or `Big` where it isn't; or `Memory`.
abbrev pub IsJoin : Content → (first last : Term) → (chain link : Theorem) → Result Theorem StepFault → Type 0
IsJoin Q first last chain link (Ok th) = IsSmallEquation first last × IsChained Q first last th × IsSetOf label_cmp (chain.rests ++ link.rests) th.rests
IsJoin Q first last chain link (Err Big) = ¬ IsSmallEquation first last
IsJoin Q first last chain link (Err Memory) = Unit {0}
IsJoin Q first last chain link (Err _) = ⊥

-- From a proposition that has come to another the fact leads on: the answer is the equation of the first with what it comes to then, which rests on what the fact rests on too; or the fault for which it isn't taken; or `Memory`.
abbrev pub IsTaken : Content → (first now : Term) → (fact chain : Theorem) → Result Theorem StepFault → Type 0
IsTaken Q first now fact chain (Ok th) = (u : Term) × TakesFact (algebra_of Q.declarations) first now fact (Ok u) × IsChained Q first u th × IsSetOf label_cmp (chain.rests ++ fact.rests) th.rests
IsTaken Q first now fact chain (Err Memory) = Unit {0}
IsTaken Q first now fact chain (Err fault) = TakesFact (algebra_of Q.declarations) first now fact (Err fault)

-- The same of all facts, one after the other.
abbrev pub AreTaken : Content → (first : Term) → List Theorem → Result Theorem StepFault → Type 0
AreTaken Q first facts (Ok th) = (last : Term) × ComesByFacts (algebra_of Q.declarations) first first facts (Ok last) × IsChained Q first last th × IsSetOf label_cmp (all_rests facts) th.rests
AreTaken Q first facts (Err Memory) = Unit {0}
AreTaken Q first facts (Err fault) = ComesByFacts (algebra_of Q.declarations) first first facts (Err fault)
