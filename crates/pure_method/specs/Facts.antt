-- Facts as steps of a proof name them.
use Rattle.std.specs.Prelude.{◌≡◌, ◌↔◌, ℕ, List, [], ◌∷◌, Option, Some, None, slice_get}
use Rattle.pure_text.specs.Lists.{IsIn, AnyOf}
use Rattle.pure_definitions.specs.Names.{Label}
use Rattle.pure_definitions.specs.Terms.Term.{Term}
use Rattle.pure_grammar.specs.Theories.TheoryText.{Step, Rule, Erule, Drule, Unfold}
use Rattle.pure_logic.specs.Content.{Content}
use Rattle.pure_logic.specs.Derivable.{Theorem}
use Rattle.pure_logic.specs.BuiltFacts.{built_facts}
use Rattle.pure_lookup.specs.LookUps.{Fact, BuiltFact, AxiomFact, PromisedFact, IsFoundLocal}
use Rattle.pure_theorem.specs.Sets.{IsLabelSet}

-- a proposition as a theorem that rests on these promises, without hypotheses and pairs
abbrev pub theorem : Term → (rests : List Label) → Theorem
theorem A rests = record { hyps = []; pairs = []; prop = A; rests = rests }

-- The theorem is the fact: a promise's statement rests on the promise, and other facts rest on none.
abbrev pub IsFact : Fact → Theorem → Type 0
IsFact (BuiltFact place) th = (A : Term) × (slice_get built_facts place ≡ Some A) × (th ≡ theorem A [])
IsFact (AxiomFact name A) th = th ≡ theorem A []
IsFact (PromisedFact name label A) th = th ≡ theorem A (label ∷ [])

-- a look-up of facts: its answers to the question which fact is written so, that fact or none
abbrev pub LookUp : Type 1
LookUp = (written : List ℕ) → Option Fact → Type 0

-- By the look-up the written name means a fact, which is this theorem.
pub record IsFoundBy (L : LookUp) (written : List ℕ) (th : Theorem) : Type 0 where
  pub fact : Fact
  pub found : L written (Some fact)
  pub is : IsFact fact th

-- By the look-up the written name means no fact.
abbrev pub IsUnknownBy : LookUp → (written : List ℕ) → Type 0
IsUnknownBy L written = L written None

-- the facts that a step names, as they are written, in order
abbrev pub named_facts : Step → List (List ℕ)
named_facts (Rule fact) = fact ∷ []
named_facts (Erule fact) = fact ∷ []
named_facts (Drule fact) = fact ∷ []
named_facts (Unfold facts) = facts
named_facts _ = []

-- By the look-up the written name means the promise of this label.
abbrev pub MeansPromiseBy : LookUp → Label → (written : List ℕ) → Type 0
MeansPromiseBy L label written = (name : ℕ) × (A : Term) × L written (Some (PromisedFact name label A))

-- Some step names the promise of this label.
abbrev pub IsNamedBy : LookUp → (script : List Step) → Label → Type 0
IsNamedBy L script label = AnyOf (λ step. AnyOf (MeansPromiseBy L label) (named_facts step)) script

-- These are the labels of the promises that the steps name: a set, which ascends.
pub record AreNamedBy (L : LookUp) (script : List Step) (labels : List Label) : Type 0 where
  pub ascend : IsLabelSet labels
  pub exactly : (label : Label) → IsIn label labels ↔ IsNamedBy L script label

-- The same in the lemma of this name, in which facts that are local to the lemma are found first.
abbrev pub IsFoundIn : (texts : List (List ℕ)) → Content → (lemma : ℕ) → (written : List ℕ) → Theorem → Type 0
IsFoundIn texts Q lemma = IsFoundBy (IsFoundLocal texts Q lemma)

abbrev pub IsUnknownIn : (texts : List (List ℕ)) → Content → (lemma : ℕ) → (written : List ℕ) → Type 0
IsUnknownIn texts Q lemma = IsUnknownBy (IsFoundLocal texts Q lemma)

abbrev pub MeansPromiseIn : (texts : List (List ℕ)) → Content → (lemma : ℕ) → Label → (written : List ℕ) → Type 0
MeansPromiseIn texts Q lemma = MeansPromiseBy (IsFoundLocal texts Q lemma)

abbrev pub IsNamedIn : (texts : List (List ℕ)) → Content → (lemma : ℕ) → (script : List Step) → Label → Type 0
IsNamedIn texts Q lemma = IsNamedBy (IsFoundLocal texts Q lemma)

abbrev pub AreNamedIn : (texts : List (List ℕ)) → Content → (lemma : ℕ) → (script : List Step) → (labels : List Label) → Type 0
AreNamedIn texts Q lemma = AreNamedBy (IsFoundLocal texts Q lemma)
