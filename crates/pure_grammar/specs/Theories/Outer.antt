-- Which tokens spell the tree of a theory, and where the first fault stands.
use Rattle.std.specs.Prelude.{◌≡◌, ℕ, zero, suc, List, [], ◌∷◌, ◌++◌, length}
use Rattle.std.specs.List.{AllByRecursion}
use Rattle.pure_grammar.specs.declared.token.Token.{Token}
use Rattle.pure_grammar.specs.declared.token.TokenKind.{TokenKind}
use Rattle.pure_grammar.specs.Theories.TheoryText.{TheoryText}
use Rattle.pure_grammar.specs.Theories.Lexeme.{Lexeme, kind_of, lexemes}
use Rattle.pure_grammar.specs.Theories.Phrase.{FilePhrase}
use Rattle.pure_grammar.specs.Theories.PhraseText.{file_text}
use Rattle.pure_grammar.specs.Theories.PhraseTree.{version_of, file_tree, IsCommandPhrase}

-- the list is a text of the grammar that means this tree
pub record IsTheory (ls : List Lexeme) (theory : TheoryText) : Type 0 where
  pub file : FilePhrase
  pub spelled : file_text file ≡ ls
  pub means : file_tree file ≡ theory
  pub allowed : AllByRecursion (IsCommandPhrase (version_of file.version)) file.commands

-- The tokens of the source spell the tree of a theory.
abbrev pub SpellsTheory : List ℕ → List Token → TheoryText → Type 0
SpellsTheory source tokens theory = IsTheory (lexemes source tokens) theory

-- the list begins some text of the grammar
abbrev pub BeginsTheory : List Lexeme → Type 0
BeginsTheory ls = (more : List Lexeme) × (theory : TheoryText) × IsTheory (ls ++ more) theory

-- a token of this kind, or the end, may stand behind the list
abbrev pub MayFollow : List Lexeme → TokenKind → Type 0
MayFollow ls kind = (l : Lexeme) × (kind_of l ≡ kind) × BeginsTheory (ls ++ l ∷ [])

-- The text of the list goes wrong at the item `found`, in front of `rest`: the items before it begin some text of the
-- grammar, and with it they begin none.
pub record GoesWrong (ls before : List Lexeme) (found : Lexeme) (rest : List Lexeme) : Type 0 where
  pub parts : ls ≡ before ++ found ∷ rest
  pub begins : BeginsTheory before
  pub stops : BeginsTheory (before ++ found ∷ []) → ⊥

-- the place of the token of this number, or the source's length behind the last one
abbrev pub place_of : List Token → ℕ → ℕ → ℕ
place_of [] len zero = len
place_of [] len (suc k) = len
place_of (t ∷ ts) len zero = t.from
place_of (t ∷ ts) len (suc k) = place_of ts len k

-- The first fault of the tokens stands at the place `at`: the tokens before it begin some text of the grammar, and with
-- the token there, or the end, they begin none. A token of the kind `expected`, or the end, may stand there.
pub record HasSyntaxFault (source : List ℕ) (tokens : List Token) (at : ℕ) (expected : TokenKind) : Type 0 where
  pub before : List Lexeme
  pub found : Lexeme
  pub rest : List Lexeme
  pub wrong : GoesWrong (lexemes source tokens) before found rest
  pub follows : MayFollow before expected
  pub at_place : at ≡ place_of tokens (length source) (length before)

-- No tokens spell two trees.
abbrev pub OneTheory : Type 0
OneTheory = (source : List ℕ) (tokens : List Token) (t u : TheoryText) → SpellsTheory source tokens t → SpellsTheory source tokens u → t ≡ u
