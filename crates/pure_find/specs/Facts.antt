-- The facts of a content, each with its full name and what it states.
use Rattle.std.specs.Prelude.{ℕ, List, [], ◌∷◌, ◌++◌, codes, if◌then◌else◌}
use Rattle.std.specs.List.{flat_map}
use Rattle.pure_definitions.specs.Terms.Term.{Term}
use Rattle.pure_definitions.specs.Declarations.Decl.{Decl, AxiomDecl, PromiseDecl}
use Rattle.pure_logic.specs.BuiltFacts.{reflexivity, substitutivity, function_extensionality, propositional_extensionality, modus_ponens, specialisation}
use Rattle.pure_logic.specs.Content.{Content}
use Rattle.pure_print.specs.NameText.{text_of_name}
use Rattle.pure_theory_run.specs.Named.{is_written}

-- a fact's full name, and its proposition
pub record Fact : Type 0 where
  pub name : List ℕ
  pub prop : Term

abbrev pub fact : (name : List ℕ) → (A : Term) → Fact
fact name A = record { name = name; prop = A }

-- the built facts, in the order in which they are offered
abbrev pub built : List Fact
built =
    fact (codes "Pure.refl") reflexivity ∷ fact (codes "Pure.subst") substitutivity ∷ fact (codes "Pure.ext") function_extensionality
    ∷ fact (codes "Pure.iff") propositional_extensionality ∷ fact (codes "Pure.mp") modus_ponens ∷ fact (codes "Pure.spec") specialisation ∷ []

-- what is declared under the name and states A, if it is found by its full name: a have isn't
abbrev pub written : (texts : List (List ℕ)) → (name : ℕ) → (A : Term) → List Fact
written texts name A = if is_written texts name then (fact (text_of_name texts name) A ∷ []) else []

-- the axiom or the promise that is declared; what else is declared is no fact
abbrev pub declared : (texts : List (List ℕ)) → Decl → List Fact
declared texts (AxiomDecl name A) = written texts name A
declared texts (PromiseDecl name label A) = written texts name A
declared texts _ = []

-- The facts of a content: the built ones, then the axioms and promises in the order in which they were declared.
abbrev pub facts_of : (texts : List (List ℕ)) → Content → List Fact
facts_of texts Q = built ++ flat_map (declared texts) Q.declarations
