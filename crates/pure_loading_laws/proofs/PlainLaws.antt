-- Names in the trees of theories are identifiers, which have no dot; and what is loaded of files without the word `version` has no haves.
use Rattle.std.proofs.Common.{ℕ, List, [], ◌∷◌, map, length, sym, subst, arith}
use Rattle.pure_text.specs.Lists.{Each}
use Rattle.pure_text.proofs.ListLaws.{each_of, each_imply, each-append}
use Rattle.pure_grammar.specs.declared.token.Token.{Token}
use Rattle.pure_grammar.specs.Tokens.Spelling.{Spells}
use Rattle.pure_grammar.specs.Theories.TheoryText.{Have, Command, Class, TypeDecl, Arity, Const, Axiom, Definition, Lemma, TheoryText}
use Rattle.pure_grammar.specs.Theories.Lexeme.{Lexeme, lexemes}
use Rattle.pure_grammar.specs.Theories.Phrase.{Simple, Full, QuotedType, NamedType, VariableType, OneClass, NoClass, Classes, ByAssumption, ByRule, ByErule, ByDrule, ByUnfold, Alone, Together, ApplyStep, PreferStep, DeferStep, DoneEnd, ByEnd, NoneAbove, Above, NoParam, OneParam, Params, NoDomain, Domains, ItemPhrase, AxiomPhrase, LemmaWritten, TheoremWritten, HavePhrase, CommandPhrase, ClassCommand, TypedeclCommand, AritiesCommand, ConstsCommand, AxiomsCommand, DefinitionCommand, LemmaCommand, NoImport, Imports, NoVersion, WrittenVersion, FilePhrase}
use Rattle.pure_grammar.specs.Theories.PhraseText.{each, each_comma, ident_text, name_text, variable_text, type_text, sort_text, basic_text, method_text, step_text, end_text, proof_text, above_text, params_text, domains_text, item_text, axiom_text, and_axiom_text, lemma_word_text, have_text, command_text, imports_text, version_text, file_text}
use Rattle.pure_grammar.specs.Theories.PhraseTree.{item_command, axiom_command, have_of, phrase_commands, commands_of, file_tree}
use Rattle.pure_grammar.proofs.Slices.{tokens_are_slices}
use Rattle.pure_graph.specs.Order.{Loaded}
use Rattle.pure_graph.specs.Laws.{IsFirstText, HasFirstText, HasNoVersionWord}
use Rattle.pure_graph.specs.Laws as tree
use Rattle.pure_graph.proofs.SourceLemmas.{whole-range}
use Rattle.pure_graph.proofs.FirstLemmas.{loaded_texts_are_first}
use Rattle.pure_graph.proofs.VersionLemmas.{first_without_versions}
use Rattle.pure_session.proofs.SetLemmas.{each-slice}
use Rattle.pure_session_meaning.specs.Declare.Plain.{IsPlain}
use Rattle.pure_session_meaning.specs.First.{HasNoHaves}
use Rattle.pure_session_meaning.proofs.SessionLaws.StoodLaws.{loaded-own}
use Rattle.pure_loading_laws.specs.Plain.{HasNoDot, HasPlainNames, IsPlainText, TextsArePlain, LoadedArePlain, NoHavesWithoutVersions}
use Rattle.pure_loading_laws.proofs.LexemeLaws.{IsClean, lexemes-clean}

-- ---- the texts of phrases

-- each identifier of the list has no dot
record AreClean (ls : List Lexeme) : Type 0 where
  pub each : Each IsClean ls

front : {l : Lexeme} {ls : List Lexeme} → AreClean (l ∷ ls) → IsClean l
front h = h.each.0

past : {l : Lexeme} {ls : List Lexeme} → AreClean (l ∷ ls) → AreClean ls
past h = record { each = h.each.1 }

-- So it is behind the text of a phrase.
abbrev Passes : {A : Type 0} → (A → List Lexeme → List Lexeme) → Type 0
Passes {A} text = (x : A) (r : List Lexeme) → AreClean (text x r) → AreClean r

each-pass : {A : Type 0} (text : A → List Lexeme → List Lexeme) → Passes text → (xs : List A) (r : List Lexeme) → AreClean (each text xs r) → AreClean r
each-pass text passes [] r h = h
each-pass text passes (x ∷ xs) r h = each-pass text passes xs r (passes x (each text xs r) h)

comma-pass : {A : Type 0} (text : A → List Lexeme → List Lexeme) → Passes text → (xs : List A) (r : List Lexeme) → AreClean (each_comma text xs r) → AreClean r
comma-pass text passes [] r h = h
comma-pass text passes (x ∷ xs) r h = comma-pass text passes xs r (passes x (each_comma text xs r) (past h))

ident-pass : Passes ident_text
ident-pass x r h = past h

name-pass : Passes name_text
name-pass (Simple text at) r h = past h
name-pass (Full text at) r h = past h

variable-pass : Passes variable_text
variable-pass x r h = past h

type-pass : Passes type_text
type-pass (QuotedType at) r h = past h
type-pass (NamedType name) r h = name-pass name r h
type-pass (VariableType x) r h = variable-pass x r h

sort-pass : Passes sort_text
sort-pass (OneClass c) r h = name-pass c r h
sort-pass NoClass r h = past (past h)
sort-pass (Classes c more) r h = past (comma-pass name_text name-pass more _ (name-pass c _ (past h)))

basic-pass : Passes basic_text
basic-pass (ByAssumption at) r h = past h
basic-pass (ByRule at fact) r h = name-pass fact r (past h)
basic-pass (ByErule at fact) r h = name-pass fact r (past h)
basic-pass (ByDrule at fact) r h = name-pass fact r (past h)
basic-pass (ByUnfold at fact more) r h = each-pass name_text name-pass more r (name-pass fact _ (past h))

method-pass : Passes method_text
method-pass (Alone at) r h = past h
method-pass (Together b more) r h = past (comma-pass basic_text basic-pass more _ (basic-pass b _ (past h)))

step-pass : Passes step_text
step-pass (ApplyStep m) r h = method-pass m r (past h)
step-pass (PreferStep n) r h = past (past h)
step-pass DeferStep r h = past h

end-pass : Passes end_text
end-pass DoneEnd r h = past h
end-pass (ByEnd m) r h = method-pass m r (past h)

proof-pass : Passes proof_text
proof-pass p r h = end-pass p.ending r (each-pass step_text step-pass p.steps _ h)

above-pass : Passes above_text
above-pass NoneAbove r h = h
above-pass (Above c more) r h = each-pass name_text name-pass more r (name-pass c _ (past h))

params-pass : Passes params_text
params-pass NoParam r h = h
params-pass (OneParam x) r h = variable-pass x r h
params-pass (Params x more) r h = past (comma-pass variable_text variable-pass more _ (variable-pass x _ (past h)))

domains-pass : Passes domains_text
domains-pass NoDomain r h = h
domains-pass (Domains s more) r h = past (comma-pass sort_text sort-pass more _ (sort-pass s _ (past h)))

imports-pass : Passes imports_text
imports-pass NoImport r h = h
imports-pass (Imports x more) r h = each-pass ident_text ident-pass more r (ident-pass x _ (past h))

version-pass : Passes version_text
version-pass NoVersion r h = h
version-pass (WrittenVersion n) r h = past (past h)

item-pass : Passes item_text
item-pass i r h = type-pass i.typ r (past (past h))

axiom-pass : Passes axiom_text
axiom-pass a r h = past (past (past h))

and_axiom-pass : Passes and_axiom_text
and_axiom-pass a r h = axiom-pass a r (past h)

have-pass : Passes have_text
have-pass y r h = proof-pass y.proof r (axiom-pass y.statement (proof_text y.proof r) (past h))

lemma-pass : Passes lemma_word_text
lemma-pass LemmaWritten r h = past h
lemma-pass TheoremWritten r h = past h

command-pass : Passes command_text
command-pass (ClassCommand x above) r h = above-pass above r (past (past h))
command-pass (TypedeclCommand params x) r h = past (params-pass params (ident_text x r) (past h))
command-pass (AritiesCommand con doms class) r h = name-pass class r (domains-pass doms (name_text class r) (past (name-pass con _ (past h))))
command-pass (ConstsCommand i more) r h = each-pass item_text item-pass more r (item-pass i (each item_text more r) (past h))
command-pass (AxiomsCommand a more) r h = each-pass and_axiom_text and_axiom-pass more r (axiom-pass a (each and_axiom_text more r) (past (past h)))
command-pass (DefinitionCommand i prop) r h = past (past (item-pass i _ (past h)))
command-pass (LemmaCommand word a haves p) r h =
    proof-pass p r (each-pass have_text have-pass haves (proof_text p r) (axiom-pass a (each have_text haves (proof_text p r)) (lemma-pass word _ h)))

-- ---- the names of commands

items-plain : (more : List ItemPhrase) (r : List Lexeme) → AreClean (each item_text more r) → Each HasPlainNames (map item_command more)
items-plain [] r h = tt
items-plain (i ∷ more) r h = (front h, items-plain more r (item-pass i (each item_text more r) h))

axioms-plain : (more : List AxiomPhrase) (r : List Lexeme) → AreClean (each and_axiom_text more r) → Each HasPlainNames (map axiom_command more)
axioms-plain [] r h = tt
axioms-plain (a ∷ more) r h = (front (past h), axioms-plain more r (and_axiom-pass a (each and_axiom_text more r) h))

haves-plain : (haves : List HavePhrase) (r : List Lexeme) → AreClean (each have_text haves r) → Each (λ (h : Have). HasNoDot h.name) (map have_of haves)
haves-plain [] r h = tt
haves-plain (y ∷ haves) r h = (front (past h), haves-plain haves r (have-pass y (each have_text haves r) h))

lemma-plain : (a : AxiomPhrase) (haves : List HavePhrase) (r : List Lexeme) → AreClean (axiom_text a (each have_text haves r))
    → HasNoDot a.name.text × Each (λ (h : Have). HasNoDot h.name) (map have_of haves)
lemma-plain a haves r h = (front h, haves-plain haves r (axiom-pass a (each have_text haves r) h))

phrase-plain : (c : CommandPhrase) (r : List Lexeme) → AreClean (command_text c r) → Each HasPlainNames (phrase_commands c)
phrase-plain (ClassCommand x above) r h = (front (past h), tt)
phrase-plain (TypedeclCommand params x) r h = (front (params-pass params (ident_text x r) (past h)), tt)
phrase-plain (AritiesCommand con doms class) r h = (tt, tt)
phrase-plain (ConstsCommand i more) r h = (front (past h), items-plain more r (item-pass i (each item_text more r) (past h)))
phrase-plain (AxiomsCommand a more) r h = (front (past (past h)), axioms-plain more r (axiom-pass a (each and_axiom_text more r) (past (past h))))
phrase-plain (DefinitionCommand i prop) r h = (front (past h), tt)
phrase-plain (LemmaCommand word a haves p) r h = (lemma-plain a haves (proof_text p r) (lemma-pass word _ h), tt)

commands-plain : (cs : List CommandPhrase) (r : List Lexeme) → AreClean (each command_text cs r) → Each HasPlainNames (commands_of cs)
commands-plain [] r h = tt
commands-plain (c ∷ cs) r h =
    each-append HasPlainNames (phrase_commands c) (commands_of cs) (phrase-plain c (each command_text cs r) h) (commands-plain cs r (command-pass c (each command_text cs r) h))

file-plain : (f : FilePhrase) → AreClean (file_text f) → IsPlainText (file_tree f)
file-plain f h =
    let named = past (version-pass f.version _ h) in
    record { name = front named; commands = commands-plain f.commands _ (past (imports-pass f.imports _ (past named))) }

clean : (source : List ℕ) (tokens : List Token) → Spells (length source) tokens source → AreClean (lexemes source tokens)
clean source tokens spells =
    let slices = tokens_are_slices 0 (length source) source tokens (omega arith) (omega arith) (subst (Spells (length source) tokens) (sym (whole-range source)) spells) in
    record { each = lexemes-clean source tokens (each-slice source 0 (length source) tokens slices) }

pub texts_are_plain : TextsArePlain
texts_are_plain source text (tokens, spells, is) =
    subst (λ (t : TheoryText). IsPlainText t) is.means (file-plain is.file (subst (λ (ls : List Lexeme). AreClean ls) (sym is.spelled) (clean source tokens spells)))

pub loaded_are_plain : LoadedArePlain
loaded_are_plain answers theories refused files of =
    each_of (λ (l : Loaded). IsPlainText l.text) theories (λ l m. texts_are_plain l.source l.text (loaded-own answers theories refused files of l m).spelled)

-- ---- haves

no_haves : (c : Command) → tree.HasNoHaves c → IsPlain c
no_haves (Class name above) h = tt
no_haves (TypeDecl name params) h = tt
no_haves (Arity con doms class) h = tt
no_haves (Const name typ) h = tt
no_haves (Axiom name prop) h = tt
no_haves (Definition name typ prop) h = tt
no_haves (Lemma name prop haves script) h = h

pub no_haves_without_versions : NoHavesWithoutVersions
no_haves_without_versions answers theories refused files without of =
    each_imply (λ (l : Loaded). IsFirstText l.text) HasNoHaves theories (λ l first. each_imply tree.HasNoHaves IsPlain l.text.commands no_haves first.commands)
    (loaded_texts_are_first answers theories refused files (each_imply HasNoVersionWord HasFirstText answers first_without_versions without) of)
