-- Examples of proofs, over Pure's own content: of `A ==> A`, for a fixed variable A.
use Rattle.std.specs.Prelude.{ℕ, List, [], ◌∷◌, codes, Ok, Err}
use Rattle.pure_definitions.specs.Types.Typ.{prop}
use Rattle.pure_definitions.specs.Terms.Term.{Term, Free}
use Rattle.pure_definitions.specs.Declarations.Decl.{PromiseDecl}
use Rattle.pure_term_laws.specs.LawsOccurs.{HasNoSchematic}
use Rattle.pure_grammar.specs.Theories.TheoryText.{Step, Assumption, Unfold, Close, Done}
use Rattle.pure_logic.specs.Connectives.{imp}
use Rattle.pure_logic.specs.Content.{Content, IsProposition}
use Rattle.pure_logic.specs.PureContent.{pure_content}
use Rattle.pure_logic.specs.Derivable.{IsDerivableAlone}
use Rattle.pure_logic.specs.Laws.Maps.{everything, generalised}
use Rattle.pure_unify_laws.specs.Condition.{IsUnifyContent}
use Rattle.pure_resolve.specs.GoalSteps.declared.fault.StepFault.TheVariants.{UnknownFact, NoSubgoal, NotDefinition, SubgoalsLeft}
use Rattle.pure_method.specs.Proof.{ProofOutcome, IsProof, IsProofIn}

-- the variable, and the statement
abbrev pub premise : Term
premise = Free 0 prop

abbrev pub trivial_statement : Term
trivial_statement = imp premise premise

-- This comes of these steps.
abbrev pub ComesOf : List Step → ProofOutcome → Type 0
ComesOf script outcome = IsProof [] pure_content trivial_statement script outcome

-- By assumption, and so `by` no method but the closing of subgoals; it rests on no promise.
abbrev pub AssumptionExample : Type 0
AssumptionExample = ComesOf (Assumption ∷ Done ∷ []) (Ok [])

abbrev pub ClosedExample : Type 0
ClosedExample = ComesOf (Close ∷ Done ∷ []) (Ok [])

-- A step behind the last subgoal fails. It is the second step; or the first one, where the subgoal was closed, since closing has no number.
abbrev pub SecondStepExample : Type 0
SecondStepExample = ComesOf (Assumption ∷ Assumption ∷ Done ∷ []) (Err (record { step = 2; fault = NoSubgoal }))

abbrev pub FirstStepExample : Type 0
FirstStepExample = ComesOf (Close ∷ Assumption ∷ Done ∷ []) (Err (record { step = 1; fault = NoSubgoal }))

-- The end fails where the subgoal is left, and is a step.
abbrev pub LeftExample : Type 0
LeftExample = ComesOf (Done ∷ []) (Err (record { step = 1; fault = SubgoalsLeft }))

-- The premises of the law on derivability hold of it, so that it is derivable.
abbrev pub DerivableExample : Type 0
DerivableExample = IsUnifyContent pure_content × IsProposition pure_content trivial_statement × HasNoSchematic trivial_statement × IsDerivableAlone pure_content (generalised (everything 0) trivial_statement)

-- the texts of the names 6 and 7: of a lemma, and of a fact inside it
unfoldable pub local_texts : List (List ℕ)
local_texts = codes "V.k" ∷ codes "V.k.h" ∷ []

-- Pure's content with a promise that is local to the lemma
abbrev pub local_content : Content
local_content = record pure_content { declarations = PromiseDecl 7 (record { theory = 0; command = 0; part = 0 }) premise ∷ pure_content.declarations }

-- the proof that unfolds the fact `h`
abbrev pub by_local : List Step
by_local = Unfold (codes "h" ∷ []) ∷ Done ∷ []

-- In the lemma the name `h` means the promise, which is no definition, and otherwise it means nothing.
abbrev pub LocalExample : Type 0
LocalExample = IsProofIn local_texts local_content 6 trivial_statement by_local (Err (record { step = 1; fault = NotDefinition }))
    × IsProof local_texts local_content trivial_statement by_local (Err (record { step = 1; fault = UnknownFact }))
