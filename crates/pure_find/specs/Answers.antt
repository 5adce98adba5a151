-- What is said of the lemma of a session that has some name: of which facts its statement is an instance.
use Rattle.std.specs.Prelude.{◌≡◌, ℕ, Bool, false, List, [], ◌∷◌, ◌++◌, Option, Some, None, codes}
use Rattle.pure_text.specs.Lists.{EachTwo}
use Rattle.pure_definitions.specs.Terms.Term.{Term}
use Rattle.pure_graph.specs.Order.{Loaded}
use Rattle.pure_theory_run.specs.Declare.Notes.{Fork, Note}
use Rattle.pure_theory_run.specs.SessionMeaning.Statements.{forks_of, AreStatements}
use Rattle.pure_theory_run.specs.Named.{lemma_named}
use Rattle.pure_find.specs.declared.standing.Standing.{Standing}
use Rattle.pure_find.specs.Facts.{Fact, facts_of}
use Rattle.pure_find.specs.Standings.{IsStanding}
use Rattle.pure_find.specs.Lines.{found_text, is_clean}

-- These are the standings of the facts to the statement C, in order.
abbrev pub AreStandings : (C : Term) → List Fact → List Standing → Type 0
AreStandings C fs ss = EachTwo (λ (f : Fact) s. IsStanding f.prop C s) fs ss

-- The text names the facts of the lemma's content of which its statement, with fixed variables, is or may be an instance, and their numbers; it is clean where there is one that matches.
pub record IsFoundText (texts : List (List ℕ)) (f : Fork) (text : List ℕ) (clean : Bool) : Type 0 where
  pub standings : List Standing
  pub are : AreStandings f.fixed (facts_of texts f.content) standings
  pub text_is : text ≡ found_text (facts_of texts f.content) standings
  pub clean_is : clean ≡ is_clean standings

-- There is no such lemma, or this is found for it.
abbrev pub IsSaidOf : (texts : List (List ℕ)) → Option Fork → (text : List ℕ) → (clean : Bool) → Type 0
IsSaidOf texts None text clean = (text ≡ codes "no lemma" ++ 10 ∷ []) × (clean ≡ false)
IsSaidOf texts (Some f) text clean = IsFoundText texts f text clean

-- The same of the lemma with this name among those that the session binds.
pub record IsAnswer (texts : List (List ℕ)) (theories : List Loaded) (name text : List ℕ) (clean : Bool) : Type 0 where
  pub notes : List Note
  pub statements : AreStatements texts theories notes
  pub said : IsSaidOf texts (lemma_named texts name (forks_of notes)) text clean
