-- From what is found for a session's lemma to the answer of the job; and that finding asks the facts by which trying is done.
use Rattle.std.proofs.Common.{◌≡◌, ◌∙◌, ℕ, Bool, true, false, List, [], ◌∷◌, ◌++◌, map, refl, Option, Result, Ok, Err, IfOk}
use Rattle.std.specs.Prelude.{if◌then◌else◌}
use Rattle.std.specs.List.{flat_map}
use Rattle.std.proofs.lemmas.List.{map-append}
use Rattle.pure_definitions.specs.Terms.Term.{Term}
use Rattle.pure_definitions.specs.Declarations.Decl.{Decl, ClassDecl, ConDecl, ArityDecl, ConstDecl, AxiomDecl, PromiseDecl}
use Rattle.pure_print.specs.NameText.{text_of_name}
use Rattle.pure_io.specs.declared.library.File as library
use Rattle.pure_graph.specs.Session.{Session}
use Rattle.pure_graph.specs.declared.fault.LoadFault.{LoadFault}
use Rattle.pure_words.specs.declared.job.Job.TheVariants.{Find}
use Rattle.pure_check_work.specs.SessionLaws.Loaded.{IsLoadedSession}
use Rattle.pure_check_work.specs.TheoryRun.Named.{is_written}
use Rattle.pure_find.specs.Facts.{Fact, fact, built, declared, written}
use Rattle.pure_find.specs.Laws.{BuiltAreNamed}
use Rattle.pure_try.specs.Methods.{declared_facts, fact_name, written_name}
use Rattle.pure_check.specs.Laws.{FindAsksTried}
use Rattle.pure_check.specs.Formed.{IsDone, IsFoundSo}
use Rattle.pure_check.specs.Meaning.{IsToldSession}
use Rattle.pure_check.specs.declared.answer.Answer.{Answer}

-- What is found for the lemma of a session that was loaded of a library is the answer of finding.
pub found-done : (told : Option (List library.File)) (S : Session) → IsToldSession told S → IsLoadedSession S.names S.theories → (name : List ℕ) (r : Result Answer LoadFault) → IfOk r (IsFoundSo S.names S.theories name) → IsDone (Find name) told r
found-done told S is loaded name (Ok a) said = record { session = S; told = is; loaded = loaded; is_answer = said.0; no_board = said.1 }
found-done told S is loaded name (Err fault) said = tt

-- a declaration's fact has the name by which it is tried
written-named : (texts : List (List ℕ)) (x : ℕ) (A : Term) → map Fact.name (written texts x A) ≡ written_name texts x
written-named texts x A = by (is_written texts x)
  where
    by : (b : Bool) → map Fact.name (if b then (fact (text_of_name texts x) A ∷ []) else []) ≡ (if b then (text_of_name texts x ∷ []) else [])
    by true = refl
    by false = refl

declared-named : (texts : List (List ℕ)) (d : Decl) → map Fact.name (declared texts d) ≡ fact_name texts d
declared-named texts (ClassDecl k) = refl
declared-named texts (ConDecl k n) = refl
declared-named texts (ArityDecl a) = refl
declared-named texts (ConstDecl c T) = refl
declared-named texts (AxiomDecl x A) = written-named texts x A
declared-named texts (PromiseDecl x l A) = written-named texts x A

all-named : (texts : List (List ℕ)) (ds : List Decl) → map Fact.name (flat_map (declared texts) ds) ≡ declared_facts texts ds
all-named texts [] = refl
all-named texts (d ∷ ds) = map-append Fact.name (declared texts d) (flat_map (declared texts) ds) ∙ (λ i. declared-named texts d i ++ all-named texts ds i)

pub asks-tried : BuiltAreNamed → FindAsksTried
asks-tried named texts Q = map-append Fact.name built (flat_map (declared texts) Q.declarations) ∙ (λ i. named i ++ all-named texts Q.declarations i)
