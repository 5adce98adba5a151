-- Files without the word `version`: they are read by the grammar of version 1, whose trees have version 1 and no haves.
use Rattle.std.proofs.Common.{inl, inr, ℕ, List, [], ◌∷◌, map, refl, subst, Option, Some, None, IfSome}
use Rattle.pure_text.specs.Lists.{Each}
use Rattle.pure_text.proofs.ListLaws.{each-append}
use Rattle.pure_grammar.specs.Theories.TheoryText.{TheoryText}
use Rattle.pure_grammar.specs.Theories.Phrase.{ItemPhrase, AxiomPhrase}
use Rattle.pure_grammar.specs.Theories.PhraseTree.{item_command, axiom_command}
use Rattle.pure_grammar.specs.Theories.First.{CommandPhrase, ClassCommand, TypedeclCommand, AritiesCommand, ConstsCommand, AxiomsCommand, DefinitionCommand, LemmaCommand, FilePhrase, phrase_commands, commands_of, file_tree}
use Rattle.pure_grammar.proofs.VersionLemmas.{read_as_first, faults_as_first}
use Rattle.pure_graph.specs.Outcome.{IsTheoryText}
use Rattle.pure_graph.specs.Reading.{Answer}
use Rattle.pure_graph.specs.First as first
use Rattle.pure_graph.specs.Laws.{HasNoHaves, IsFirstText, IsWithoutVersion, HasNoVersionWord, FirstWithoutVersions, LoadingWithoutVersions, SessionWithoutVersions}
use Rattle.pure_graph.proofs.FirstLemmas.{IsReadAlike, AreReadAlike, loading-alike, session-alike}

-- ---- the trees
items-plain : (is : List ItemPhrase) → Each HasNoHaves (map item_command is)
items-plain [] = tt
items-plain (i ∷ is) = (tt, items-plain is)

axioms-plain : (more : List AxiomPhrase) → Each HasNoHaves (map axiom_command more)
axioms-plain [] = tt
axioms-plain (a ∷ more) = (tt, axioms-plain more)

phrase-plain : (p : CommandPhrase) → Each HasNoHaves (phrase_commands p)
phrase-plain (ClassCommand x above) = (tt, tt)
phrase-plain (TypedeclCommand params x) = (tt, tt)
phrase-plain (AritiesCommand con doms class) = (tt, tt)
phrase-plain (ConstsCommand i is) = (tt, items-plain is)
phrase-plain (AxiomsCommand a more) = (tt, axioms-plain more)
phrase-plain (DefinitionCommand i prop) = (tt, tt)
phrase-plain (LemmaCommand word a p) = (refl, tt)

commands-plain : (ps : List CommandPhrase) → Each HasNoHaves (commands_of ps)
commands-plain [] = tt
commands-plain (p ∷ ps) = each-append HasNoHaves (phrase_commands p) (commands_of ps) (phrase-plain p) (commands-plain ps)

file-plain : (f : FilePhrase) → IsFirstText (file_tree f)
file-plain f = record { version = refl; commands = commands-plain f.commands }

-- ---- a source
without-version : (source : List ℕ) → IsWithoutVersion source → IsReadAlike first.IsTheoryText first.IsFaultPlace source
without-version source h = record {
  texts = λ text. (
    λ t. (t.0, t.1, (read_as_first source t.0 text (h t.0 t.1)).0 t.2),
    λ t. (t.0, t.1, (read_as_first source t.0 text (h t.0 t.1)).1 t.2),
  );
  faults = λ at. (
    λ f. elim f [ inl w ↦ inl w | inr w ↦ inr (w.0, w.1, w.2, (faults_as_first source w.0 at w.1 (h w.0 w.2)).0 w.3) ],
    λ f. elim f [ inl w ↦ inl w | inr w ↦ inr (w.0, w.1, w.2, (faults_as_first source w.0 at w.1 (h w.0 w.2)).1 w.3) ],
  );
  plain = λ text t. (let was = (read_as_first source t.0 text (h t.0 t.1)).0 t.2 in subst IsFirstText was.means (file-plain was.file));
}

without-versions : (answers : List Answer) → Each HasNoVersionWord answers → AreReadAlike first.IsTheoryText first.IsFaultPlace answers
without-versions [] h = tt
without-versions (a ∷ answers) h = (by a.bytes h.0, without-versions answers h.1)
  where
    by : (bytes : Option (List ℕ)) → IfSome bytes IsWithoutVersion → IfSome bytes (IsReadAlike first.IsTheoryText first.IsFaultPlace)
    by None k = tt
    by (Some source) k = without-version source k

pub first_without_versions : FirstWithoutVersions
first_without_versions answer h = by answer.bytes h
  where
    by : (bytes : Option (List ℕ)) → IfSome bytes IsWithoutVersion → IfSome bytes (λ source. (text : TheoryText) → IsTheoryText source text → IsFirstText text)
    by None k = tt
    by (Some source) k = (without-version source k).plain

pub loading_without_versions : LoadingWithoutVersions
loading_without_versions answers theories refused files h = loading-alike first.IsTheoryText first.IsFaultPlace answers theories refused files (without-versions answers h)

pub session_without_versions : SessionWithoutVersions
session_without_versions answers session h = session-alike first.IsTheoryText first.IsFaultPlace answers session (without-versions answers h)
