-- Laws of proofs: one value; what is proved is derivable; and it rests on promises of the content alone.
use Rattle.std.specs.Prelude.{◌≡◌, ◌≢◌, ◌↔◌, ℕ, List, Option, Ok, Err}
use Rattle.pure_text.specs.Lists.{Each}
use Rattle.pure_definitions.specs.Names.{Label}
use Rattle.pure_definitions.specs.Terms.Term.{Term}
use Rattle.pure_definitions.specs.Declarations.Decl.{algebra_of}
use Rattle.pure_term_laws.specs.LawsOccurs.{HasNoSchematic}
use Rattle.pure_grammar.specs.Theories.TheoryText.{Step}
use Rattle.pure_order_tables.specs.Classes.{IsAntisymmetric}
use Rattle.pure_logic.specs.Content.{Content, IsContent, IsProposition}
use Rattle.pure_logic.specs.Derivable.{IsDerivable}
use Rattle.pure_logic.specs.Laws.Maps.{everything, generalised}
use Rattle.pure_lookup.specs.LookUps.{Fact, IsFoundFact, IsLocal, IsFoundLocal}
use Rattle.pure_lookup.specs.Laws.{IsInSession}
use Rattle.pure_theorem.specs.Facts.{IsPromise}
use Rattle.pure_unify_laws.specs.Condition.{IsUnifyContent}
use Rattle.pure_resolve.specs.GoalSteps.declared.fault.StepFault.TheVariants.{Memory}
use Rattle.pure_method.specs.Facts.{theorem}
use Rattle.pure_method.specs.Proof.{ProofFault, ProofOutcome, IsProof, IsProofIn}
use Rattle.pure_method.specs.Outcomes.{IsScript, HasAnswersBy}

-- One value at most comes of a proof, over a content that a session gives, in whose order no two classes are below each other.
abbrev pub ProofOnce : Type 0
ProofOnce = (texts : List (List ℕ)) (Q : Content) → IsInSession texts Q → IsContent Q → IsAntisymmetric (algebra_of Q.declarations) → (statement : Term) (script : List Step) (one other : ProofOutcome)
    → IsProof texts Q statement script one → IsProof texts Q statement script other → one ≡ other

-- A statement that is proved is derivable, with each fixed variable and each fixed type variable made schematic, and rests on the promises that the proof's steps name and on no others.
abbrev pub ProvedIsDerivable : Type 0
ProvedIsDerivable = (texts : List (List ℕ)) (Q : Content) → IsUnifyContent Q → (statement : Term) → IsProposition Q statement → HasNoSchematic statement → (script : List Step) (labels : List Label)
    → IsProof texts Q statement script (Ok labels) → IsDerivable Q (theorem (generalised (everything 0) statement) labels)

-- Each of these is a promise of the content.
abbrev pub RestsOnPromises : Type 0
RestsOnPromises = (texts : List (List ℕ)) (Q : Content) (statement : Term) (script : List Step) (labels : List Label) → IsProof texts Q statement script (Ok labels)
    → Each (λ label. (A : Term) × IsPromise Q label A) labels

-- A fault is never want of memory.
abbrev pub NeverMemory : Type 0
NeverMemory = (texts : List (List ℕ)) (Q : Content) (statement : Term) (script : List Step) (f : ProofFault) → IsProof texts Q statement script (Err f) → f.fault ≢ Memory

-- The same laws of a proof in a lemma, in which facts that are local to the lemma are found first.
abbrev pub ProofInOnce : Type 0
ProofInOnce = (texts : List (List ℕ)) (Q : Content) → IsInSession texts Q → IsContent Q → IsAntisymmetric (algebra_of Q.declarations) → (lemma : ℕ) (statement : Term) (script : List Step) (one other : ProofOutcome)
    → IsProofIn texts Q lemma statement script one → IsProofIn texts Q lemma statement script other → one ≡ other

abbrev pub ProvedInIsDerivable : Type 0
ProvedInIsDerivable = (texts : List (List ℕ)) (Q : Content) → IsUnifyContent Q → (lemma : ℕ) (statement : Term) → IsProposition Q statement → HasNoSchematic statement → (script : List Step) (labels : List Label)
    → IsProofIn texts Q lemma statement script (Ok labels) → IsDerivable Q (theorem (generalised (everything 0) statement) labels)

abbrev pub RestsInOnPromises : Type 0
RestsInOnPromises = (texts : List (List ℕ)) (Q : Content) (lemma : ℕ) (statement : Term) (script : List Step) (labels : List Label) → IsProofIn texts Q lemma statement script (Ok labels)
    → Each (λ label. (A : Term) × IsPromise Q label A) labels

abbrev pub NeverMemoryIn : Type 0
NeverMemoryIn = (texts : List (List ℕ)) (Q : Content) (lemma : ℕ) (statement : Term) (script : List Step) (f : ProofFault) → IsProofIn texts Q lemma statement script (Err f) → f.fault ≢ Memory

abbrev pub ProofInHasAValue : Type 0
ProofInHasAValue = (texts : List (List ℕ)) (Q : Content) → IsInSession texts Q → IsUnifyContent Q → (lemma : ℕ) → HasAnswersBy (IsFoundLocal texts Q lemma) → (statement : Term) → IsProposition Q statement → HasNoSchematic statement
    → (script : List Step) → IsScript script → (outcome : ProofOutcome) × IsProofIn texts Q lemma statement script outcome

-- In a lemma each written name has an answer, where each has one otherwise.
abbrev pub NamesHaveAnswersIn : Type 0
NamesHaveAnswersIn = (texts : List (List ℕ)) (Q : Content) (lemma : ℕ) → ((written : List ℕ) → (fact : Option Fact) × IsFoundFact texts Q written fact) → (written : List ℕ) → (fact : Option Fact) × IsFoundLocal texts Q lemma written fact

-- Where the content has nothing that is local to the lemma, the same comes of a proof in it as otherwise.
abbrev pub NothingIsLocal : Type 0
NothingIsLocal = (texts : List (List ℕ)) (Q : Content) (lemma : ℕ) → ((written : List ℕ) (n : ℕ) (l : Label) (A : Term) → ¬ IsLocal texts Q lemma written n l A)
    → (statement : Term) (script : List Step) (outcome : ProofOutcome) → IsProofIn texts Q lemma statement script outcome ↔ IsProof texts Q statement script outcome
