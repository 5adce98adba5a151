-- That names in the trees of theories have no dot, and that theories of files without the word `version` have no haves.
use Rattle.std.specs.Prelude.{ℕ, List}
use Rattle.pure_text.specs.Lists.{IsIn, Each}
use Rattle.pure_grammar.specs.Theories.TheoryText.{Have, Command, Class, TypeDecl, Arity, Const, Axiom, Definition, Lemma, TheoryText}
use Rattle.pure_graph.specs.Outcome.{IsTheoryText}
use Rattle.pure_graph.specs.Reading.{Answer}
use Rattle.pure_graph.specs.Order.{Loaded}
use Rattle.pure_graph.specs.Session.{Refusal, IsLoadingOf}
use Rattle.pure_graph.specs.Laws.{HasNoVersionWord}
use Rattle.pure_session_meaning.specs.First.{HasNoHaves}

-- The text has no dot (46).
abbrev pub HasNoDot : List ℕ → Type 0
HasNoDot text = ¬ IsIn 46 text

-- The name that the command declares has no dot, nor has that of a have in it.
abbrev pub HasPlainNames : Command → Type 0
HasPlainNames (Class name above) = HasNoDot name
HasPlainNames (TypeDecl name params) = HasNoDot name
HasPlainNames (Arity con doms class) = Unit {0}
HasPlainNames (Const name typ) = HasNoDot name
HasPlainNames (Axiom name prop) = HasNoDot name
HasPlainNames (Definition name typ prop) = HasNoDot name
HasPlainNames (Lemma name prop haves script) = HasNoDot name × Each (λ (h : Have). HasNoDot h.name) haves

-- Neither the name of the theory nor one that its commands declare has a dot.
pub record IsPlainText (text : TheoryText) : Type 0 where
  pub name : HasNoDot text.name
  pub commands : Each HasPlainNames text.commands

-- So it is in each theory of the grammar, where these names are identifiers,
abbrev pub TextsArePlain : Type 0
TextsArePlain = (source : List ℕ) (text : TheoryText) → IsTheoryText source text → IsPlainText text

-- and so in each that is loaded.
abbrev pub LoadedArePlain : Type 0
LoadedArePlain = (answers : List Answer) (theories : List Loaded) (refused : List Refusal) (files : ℕ) → IsLoadingOf answers theories refused files
    → Each (λ (l : Loaded). IsPlainText l.text) theories

-- What is loaded of files without the word `version` has no haves.
abbrev pub NoHavesWithoutVersions : Type 0
NoHavesWithoutVersions = (answers : List Answer) (theories : List Loaded) (refused : List Refusal) (files : ℕ) → Each HasNoVersionWord answers
    → IsLoadingOf answers theories refused files → Each HasNoHaves theories
