-- The grammar of theories of version 1, which has no word for versions and no haves. Phrases that version 2 shares are those of Phrase.
use Rattle.std.specs.Prelude.{◌≡◌, ℕ, List, [], ◌∷◌, ◌++◌, map, length}
use Rattle.std.specs.List.{AllByRecursion}
use Rattle.pure_text.specs.Lists.{AreDistinct}
use Rattle.pure_grammar.specs.declared.token.Token.{Token}
use Rattle.pure_grammar.specs.declared.token.TokenKind.{TokenKind}
use Rattle.pure_grammar.specs.declared.lexeme.Keyword.TheVariants as keyword
use Rattle.pure_grammar.specs.declared.lexeme.Sign.TheVariants as sign
use Rattle.pure_grammar.specs.Theories.TheoryText.{Span, Command, TheoryText}
use Rattle.pure_grammar.specs.Theories.TheoryText as tree
use Rattle.pure_grammar.specs.Theories.Lexeme.{Lexeme, Reserved, Signed, Quoted, Ends, kind_of, lexemes}
use Rattle.pure_grammar.specs.Theories.Phrase.{Ident, Name, ProofPhrase, AbovePhrase, ParamsPhrase, DomainsPhrase, ItemPhrase, AxiomPhrase, LemmaWord, ImportsPhrase}
use Rattle.pure_grammar.specs.Theories.PhraseText.{each, ident_text, name_text, proof_text, above_text, params_text, domains_text, item_text, axiom_text, and_axiom_text, lemma_word_text, imports_text}
use Rattle.pure_grammar.specs.Theories.PhraseTree.{all_of, name_of, type_span, proof_steps, above_of, params_of, domains_of, item_command, axiom_command, imports_of}
use Rattle.pure_grammar.specs.Theories.Outer.{place_of}

-- command = "class" Ident ["<" Ident' {Ident'}]
--         | "typedecl" [TypeVar | "(" TypeVar {"," TypeVar} ")"] Ident
--         | "arities" Ident' "::" ["(" sort {"," sort} ")"] Ident'
--         | "consts" item {item}
--         | "axiomatization" "where" Ident ":" Quote {"and" Ident ":" Quote}
--         | "definition" Ident "::" type "where" Quote
--         | ("lemma" | "theorem") Ident ":" Quote proof
pub data CommandPhrase : Type 0 where
  ClassCommand : (name : Ident) → (above : AbovePhrase) → CommandPhrase
  TypedeclCommand : (params : ParamsPhrase) → (name : Ident) → CommandPhrase
  AritiesCommand : (con : Name) → (domains : DomainsPhrase) → (class : Name) → CommandPhrase
  ConstsCommand : (item : ItemPhrase) → (more : List ItemPhrase) → CommandPhrase
  AxiomsCommand : (part : AxiomPhrase) → (more : List AxiomPhrase) → CommandPhrase
  DefinitionCommand : (item : ItemPhrase) → (prop : Span) → CommandPhrase
  LemmaCommand : (word : LemmaWord) → (statement : AxiomPhrase) → (proof : ProofPhrase) → CommandPhrase

-- file = "theory" Ident ["imports" Ident {Ident}] "begin" {command} "end" End
pub record FilePhrase : Type 0 where
  pub name : Ident
  pub imports : ImportsPhrase
  pub commands : List CommandPhrase

abbrev pub command_text : CommandPhrase → List Lexeme → List Lexeme
command_text (ClassCommand x above) r = Reserved keyword.Class ∷ ident_text x (above_text above r)
command_text (TypedeclCommand params x) r = Reserved keyword.Typedecl ∷ params_text params (ident_text x r)
command_text (AritiesCommand con doms class) r = Reserved keyword.Arities ∷ name_text con (Signed sign.DoubleColon ∷ domains_text doms (name_text class r))
command_text (ConstsCommand i is) r = Reserved keyword.Consts ∷ item_text i (each item_text is r)
command_text (AxiomsCommand a as_more) r = Reserved keyword.Axiomatization ∷ Reserved keyword.Where ∷ axiom_text a (each and_axiom_text as_more r)
command_text (DefinitionCommand i prop) r = Reserved keyword.Definition ∷ item_text i (Reserved keyword.Where ∷ Quoted prop ∷ r)
command_text (LemmaCommand word a p) r = lemma_word_text word (axiom_text a (proof_text p r))

abbrev pub file_text : FilePhrase → List Lexeme
file_text f =
    Reserved keyword.Theory ∷ ident_text f.name (imports_text f.imports (Reserved keyword.Begin
    ∷ each command_text f.commands (Reserved keyword.End ∷ Ends ∷ [])))

-- each item of `consts` and each part of `axiomatization` is a command
abbrev pub phrase_commands : CommandPhrase → List Command
phrase_commands (ClassCommand x above) = tree.Class x.text (above_of above) ∷ []
phrase_commands (TypedeclCommand params x) = tree.TypeDecl x.text (length (params_of params)) ∷ []
phrase_commands (AritiesCommand con doms class) = tree.Arity (name_of con) (domains_of doms) (name_of class) ∷ []
phrase_commands (ConstsCommand i is) = item_command i ∷ map item_command is
phrase_commands (AxiomsCommand a more) = axiom_command a ∷ map axiom_command more
phrase_commands (DefinitionCommand i prop) = tree.Definition i.name.text (type_span i.typ) prop ∷ []
phrase_commands (LemmaCommand word a p) = tree.Lemma a.name.text a.prop [] (proof_steps p) ∷ []

abbrev pub commands_of : List CommandPhrase → List Command
commands_of = all_of phrase_commands

abbrev pub file_tree : FilePhrase → TheoryText
file_tree f = record { version = 1; name = f.name.text; imports = imports_of f.imports; commands = commands_of f.commands }

-- the type variables of a typedecl are distinct
abbrev pub IsCommandPhrase : CommandPhrase → Type 0
IsCommandPhrase (TypedeclCommand params x) = AreDistinct (params_of params)
IsCommandPhrase _ = Unit {0}

-- the list is a text of the grammar that means this tree
pub record IsTheory (ls : List Lexeme) (theory : TheoryText) : Type 0 where
  pub file : FilePhrase
  pub spelled : file_text file ≡ ls
  pub means : file_tree file ≡ theory
  pub distinct : AllByRecursion IsCommandPhrase file.commands

-- The tokens of the source spell the tree of a theory.
abbrev pub SpellsTheory : List ℕ → List Token → TheoryText → Type 0
SpellsTheory source tokens theory = IsTheory (lexemes source tokens) theory

-- the list begins some text of the grammar
abbrev pub BeginsTheory : List Lexeme → Type 0
BeginsTheory ls = (more : List Lexeme) × (theory : TheoryText) × IsTheory (ls ++ more) theory

-- a token of this kind, or the end, may stand behind the list
abbrev pub MayFollow : List Lexeme → TokenKind → Type 0
MayFollow ls kind = (l : Lexeme) × (kind_of l ≡ kind) × BeginsTheory (ls ++ l ∷ [])

-- The text of the list goes wrong at the item `found`, in front of `rest`: the items before it begin some text of the
-- grammar, and with it they begin none.
pub record GoesWrong (ls before : List Lexeme) (found : Lexeme) (rest : List Lexeme) : Type 0 where
  pub parts : ls ≡ before ++ found ∷ rest
  pub begins : BeginsTheory before
  pub stops : BeginsTheory (before ++ found ∷ []) → ⊥

-- The first fault of the tokens stands at the place `at`: the tokens before it begin some text of the grammar, and with
-- the token there, or the end, they begin none. A token of the kind `expected`, or the end, may stand there.
pub record HasSyntaxFault (source : List ℕ) (tokens : List Token) (at : ℕ) (expected : TokenKind) : Type 0 where
  pub before : List Lexeme
  pub found : Lexeme
  pub rest : List Lexeme
  pub wrong : GoesWrong (lexemes source tokens) before found rest
  pub follows : MayFollow before expected
  pub at_place : at ≡ place_of tokens (length source) (length before)
