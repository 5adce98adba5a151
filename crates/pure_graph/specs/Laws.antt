-- The laws of these definitions.
use Rattle.std.specs.Prelude.{◌≡◌, ◌≢◌, ◌↔◌, ℕ, List, [], length, IfSome}
use Rattle.pure_io.specs.declared.library.File as library
use Rattle.pure_text.specs.Lists.{Each}
use Rattle.pure_grammar.specs.declared.token.Token.{Token}
use Rattle.pure_grammar.specs.Tokens.Spelling.{Spells}
use Rattle.pure_grammar.specs.Theories.TheoryText.{Command, Lemma, TheoryText}
use Rattle.pure_grammar.specs.Theories.Lexeme.{lexemes}
use Rattle.pure_grammar.specs.Theories.Versions.{HasNoVersion}
use Rattle.pure_graph.specs.Outcome.{IsTheoryText, IsFaultPlace}
use Rattle.pure_graph.specs.Reading.{Answer}
use Rattle.pure_graph.specs.Order.{Loaded}
use Rattle.pure_graph.specs.Session.{Refusal, Session, IsLoadingOf, IsSessionOf, IsSession}
use Rattle.pure_graph.specs.First as first
use Rattle.pure_graph.specs.declared.outcome.Reason.TheVariants.{UnknownVersion}

-- Some files have one session at most.
abbrev pub OneSession : Type 0
OneSession = (files : List library.File) (s t : Session) → IsSession files s → IsSession files t → s ≡ t

-- The command has no haves.
abbrev pub HasNoHaves : Command → Type 0
HasNoHaves (Lemma name prop haves script) = haves ≡ []
HasNoHaves _ = Unit {0}

-- The tree is as all were while there was one version.
pub record IsFirstText (text : TheoryText) : Type 0 where
  pub version : text.version ≡ 1
  pub commands : Each HasNoHaves text.commands

-- If the file of the answer is a theory of the grammar, then its tree is so.
abbrev pub HasFirstText : Answer → Type 0
HasFirstText answer = IfSome answer.bytes (λ source. (text : TheoryText) → IsTheoryText source text → IsFirstText text)

-- Over files with such trees loading is what it was.
abbrev pub LoadingIsFirst : Type 0
LoadingIsFirst = (answers : List Answer) (theories : List Loaded) (refused : List Refusal) (files : ℕ)
    → Each HasFirstText answers → IsLoadingOf answers theories refused files ↔ first.IsLoadingOf IsTheoryText IsFaultPlace answers theories refused files

-- So is the session, with its names.
abbrev pub SessionIsFirst : Type 0
SessionIsFirst = (answers : List Answer) (session : Session)
    → Each HasFirstText answers → IsSessionOf answers session ↔ first.IsSessionOf IsTheoryText IsFaultPlace answers session

-- None of such files is refused for its version.
abbrev pub NoUnknownVersion : Type 0
NoUnknownVersion = (answers : List Answer) (theories : List Loaded) (refused : List Refusal) (files : ℕ)
    → Each HasFirstText answers → IsLoadingOf answers theories refused files → Each (λ (r : Refusal). r.reason ≢ UnknownVersion) refused

-- The trees of those that are loaded are as all were.
abbrev pub LoadedTextsAreFirst : Type 0
LoadedTextsAreFirst = (answers : List Answer) (theories : List Loaded) (refused : List Refusal) (files : ℕ)
    → Each HasFirstText answers → IsLoadingOf answers theories refused files → Each (λ (l : Loaded). IsFirstText l.text) theories

-- If the source has tokens, then none of them is the word `version`.
abbrev pub IsWithoutVersion : List ℕ → Type 0
IsWithoutVersion source = (tokens : List Token) → Spells (length source) tokens source → HasNoVersion (lexemes source tokens)

-- There is no such word in the file of the answer.
abbrev pub HasNoVersionWord : Answer → Type 0
HasNoVersionWord answer = IfSome answer.bytes IsWithoutVersion

-- Such a file has a tree as all had.
abbrev pub FirstWithoutVersions : Type 0
FirstWithoutVersions = (answer : Answer) → HasNoVersionWord answer → HasFirstText answer

-- Over such files loading is what it was, by the grammar of version 1.
abbrev pub LoadingWithoutVersions : Type 0
LoadingWithoutVersions = (answers : List Answer) (theories : List Loaded) (refused : List Refusal) (files : ℕ)
    → Each HasNoVersionWord answers → IsLoadingOf answers theories refused files ↔ first.IsLoadingOf first.IsTheoryText first.IsFaultPlace answers theories refused files

-- So is the session, with its names.
abbrev pub SessionWithoutVersions : Type 0
SessionWithoutVersions = (answers : List Answer) (session : Session)
    → Each HasNoVersionWord answers → IsSessionOf answers session ↔ first.IsSessionOf first.IsTheoryText first.IsFaultPlace answers session
