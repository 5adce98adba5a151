-- Laws of finding.
use Rattle.std.specs.Prelude.{◌≡◌, ℕ, Bool, List, map}
use Rattle.pure_text.specs.Lists.{IsIn}
use Rattle.pure_definitions.specs.Terms.Term.{Term}
use Rattle.pure_definitions.specs.Terms.Subst.{TermBind, IsTermMap, term_image, inst_term}
use Rattle.pure_logic.specs.Content.{IsContent}
use Rattle.pure_lookup.specs.Meaning.{built_texts}
use Rattle.pure_reduction.specs.LongForms.{HaveOneLongForm}
use Rattle.pure_solutions.specs.Solutions.{IsTermSubstitution}
use Rattle.pure_theory_run.specs.Declare.Notes.{Fork}
use Rattle.pure_theory_run.specs.Method.Outcome.{IsProvable}
use Rattle.pure_find.specs.declared.standing.Standing.TheVariants.{Match, NoMatch}
use Rattle.pure_find.specs.Facts.{Fact, built, facts_of}
use Rattle.pure_find.specs.Standings.{IsStanding}
use Rattle.pure_find.specs.Answers.{IsFoundText}

-- Under the map, which keeps types and fixed variables, P has the same long form as C: up to beta and eta steps C is that instance of P.
pub record IsInstanceBy (P C : Term) (terms : Term → Term) : Type 0 where
  pub substitution : IsTermSubstitution terms
  pub same : HaveOneLongForm (inst_term terms P) C

-- A finite map does so.
abbrev pub IsInstance : (P C : Term) → Type 0
IsInstance P C = (bs : List TermBind) × IsTermMap bs × IsInstanceBy P C (term_image bs)

-- A fact that matches has the lemma's statement as an instance.
abbrev pub MatchIsInstance : Type 0
MatchIsInstance = (texts : List (List ℕ)) (f : Fork) → IsProvable texts f → IsContent f.content → (fact : Fact) → IsIn fact (facts_of texts f.content)
    → IsStanding fact.prop f.fixed Match → IsInstance fact.prop f.fixed

-- Of a fact that doesn't match it is no instance: no map that keeps types and fixed variables leads there.
abbrev pub NoMatchIsFinal : Type 0
NoMatchIsFinal = (texts : List (List ℕ)) (f : Fork) → IsProvable texts f → IsContent f.content → (fact : Fact) → IsIn fact (facts_of texts f.content)
    → IsStanding fact.prop f.fixed NoMatch → (terms : Term → Term) → ¬ IsInstanceBy fact.prop f.fixed terms

-- A lemma has one answer.
abbrev pub FoundOnce : Type 0
FoundOnce = (texts : List (List ℕ)) (f : Fork) → IsProvable texts f → IsContent f.content → (text other : List ℕ) (clean also : Bool) → IsFoundText texts f text clean → IsFoundText texts f other also → (text ≡ other) × (clean ≡ also)

-- The built facts have the names that find them.
abbrev pub BuiltAreNamed : Type 0
BuiltAreNamed = map Fact.name built ≡ built_texts
