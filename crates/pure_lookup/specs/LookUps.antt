-- The look-ups of names and facts by how they are written.
use Rattle.std.specs.Prelude.{◌≡◌, ℕ, List, Option, Some, None}
use Rattle.pure_text.specs.Lists.{IsIn}
use Rattle.pure_definitions.specs.Names.{Label}
use Rattle.pure_definitions.specs.Terms.Term.{Term}
use Rattle.pure_definitions.specs.Declarations.Decl.{Decl, AxiomDecl, PromiseDecl}
use Rattle.pure_typ.specs.NameTexts.{HasText}
use Rattle.pure_logic.specs.Content.{Content}
use Rattle.pure_lookup.specs.Meaning.{Space, facts, full_text, Meaning, Declared, Built, IsMeant}

-- The answer to the question which name of the name space is written so: that name, or none where the written name means nothing.
abbrev pub IsFoundName : (texts : List (List ℕ)) → Content → Space → (written : List ℕ) → Option ℕ → Type 0
IsFoundName texts Q space written (Some n) = IsMeant texts Q space written (Declared n)
IsFoundName texts Q space written None = (m : Meaning) → ¬ IsMeant texts Q space written m

-- A fact: a built one by its place in their list, an axiom, or the statement of a promise.
pub data Fact : Type 0 where
  BuiltFact : (place : ℕ) → Fact
  AxiomFact : (name : ℕ) → (prop : Term) → Fact
  PromisedFact : (name : ℕ) → (label : Label) → (prop : Term) → Fact

-- The fact has this meaning: it is built, or declared under the name.
abbrev pub HasMeaning : List Decl → Fact → Meaning → Type 0
HasMeaning ds (BuiltFact place) m = m ≡ Built place
HasMeaning ds (AxiomFact n A) m = (m ≡ Declared n) × IsIn (AxiomDecl n A) ds
HasMeaning ds (PromisedFact n l A) m = (m ≡ Declared n) × IsIn (PromiseDecl n l A) ds

-- The answer to the question which fact is written so: that fact, or none where the written name means nothing.
abbrev pub IsFoundFact : (texts : List (List ℕ)) → Content → (written : List ℕ) → Option Fact → Type 0
IsFoundFact texts Q written (Some fact) = (m : Meaning) × IsMeant texts Q facts written m × HasMeaning Q.declarations fact m
IsFoundFact texts Q written None = (m : Meaning) → ¬ IsMeant texts Q facts written m

-- The promise is local to the lemma of this name: its full name is the lemma's, a dot, and what is written, which has no dot.
pub record IsLocal (texts : List (List ℕ)) (Q : Content) (lemma : ℕ) (written : List ℕ) (n : ℕ) (l : Label) (A : Term) : Type 0 where
  pub text : List ℕ
  pub lemma_text : HasText texts lemma text
  pub base : ¬ IsIn 46 written
  pub full : HasText texts n (full_text text written)
  pub promised : IsIn (PromiseDecl n l A) Q.declarations

-- The answer to the question which fact is written so in a proof of the lemma: the one that is local to it, where there is one, else what is found everywhere.
pub data IsFoundLocal (texts : List (List ℕ)) (Q : Content) (lemma : ℕ) (written : List ℕ) : Option Fact → Type 0 where
  local : {n : ℕ} {l : Label} {A : Term} → IsLocal texts Q lemma written n l A → IsFoundLocal texts Q lemma written (Some (PromisedFact n l A))
  elsewhere : {found : Option Fact} → ((n : ℕ) (l : Label) (A : Term) → ¬ IsLocal texts Q lemma written n l A) → IsFoundFact texts Q written found → IsFoundLocal texts Q lemma written found
