-- Proofs of a lemma in one step, and the order in which they are tried.
use Rattle.std.specs.Prelude.{ℕ, List, [], ◌∷◌, ◌++◌, map, if◌then◌else◌}
use Rattle.pure_definitions.specs.Declarations.Decl.{Decl, AxiomDecl, PromiseDecl}
use Rattle.pure_grammar.specs.Theories.TheoryText as tree
use Rattle.pure_grammar.specs.Theories.TheoryText.{Step}
use Rattle.pure_logic.specs.Content.{Content}
use Rattle.pure_lookup.specs.Meaning.{built_texts}
use Rattle.pure_print.specs.NameText.{text_of_name}
use Rattle.pure_check_work.specs.TheoryRun.Named.{is_written}
use Rattle.pure_try.specs.declared.method.Method.{Method}
use Rattle.pure_try.specs.declared.method.Method.TheVariants.{Assumption, Rule}

-- `by` this method: its step, then that which closes subgoals, then the end
abbrev pub script_of : Method → List Step
script_of Assumption = tree.Assumption ∷ tree.Close ∷ tree.Done ∷ []
script_of (Rule fact) = tree.Rule fact ∷ tree.Close ∷ tree.Done ∷ []

-- the full name of what is declared under the name, if it is found by it: a have isn't
abbrev pub written_name : (texts : List (List ℕ)) → (name : ℕ) → List (List ℕ)
written_name texts name = if is_written texts name then (text_of_name texts name ∷ []) else []

-- the full name of the axiom or the promise that is declared; what else is declared is no fact
abbrev pub fact_name : (texts : List (List ℕ)) → Decl → List (List ℕ)
fact_name texts (AxiomDecl name A) = written_name texts name
fact_name texts (PromiseDecl name label A) = written_name texts name
fact_name texts _ = []

-- the full names of the axioms and promises among the declarations, in their order
abbrev pub declared_facts : (texts : List (List ℕ)) → List Decl → List (List ℕ)
declared_facts texts [] = []
declared_facts texts (d ∷ ds) = fact_name texts d ++ declared_facts texts ds

-- The full names of the facts of a content: the built ones, then the axioms and promises in the order in which they were declared.
abbrev pub facts_of : (texts : List (List ℕ)) → Content → List (List ℕ)
facts_of texts Q = built_texts ++ declared_facts texts Q.declarations

-- The methods in the order in which they are tried: assumption, then each fact as a rule.
abbrev pub methods_of : (texts : List (List ℕ)) → Content → List Method
methods_of texts Q = Assumption ∷ map Rule (facts_of texts Q)
