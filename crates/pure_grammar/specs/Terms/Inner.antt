-- Which tokens spell the tree of a term or a type, and where the first fault stands.
use Rattle.std.specs.Prelude.{◌≡◌, ℕ, List, [], ◌∷◌, ◌++◌, length}
use Rattle.pure_grammar.specs.declared.token.Token.{Token}
use Rattle.pure_grammar.specs.Theories.Outer.{place_of}
use Rattle.pure_grammar.specs.Terms.RawTree.{RawTree, RawTypTree}
use Rattle.pure_grammar.specs.Terms.InnerLexeme.{InnerLexeme, Ends, inners}
use Rattle.pure_grammar.specs.Terms.InnerPhrase.{TermPhrase, TypePhrase}
use Rattle.pure_grammar.specs.Terms.InnerText.{term_text, type_text}
use Rattle.pure_grammar.specs.Terms.InnerTree.{term_raw, type_raw}

-- the list is a term, and then its end, that means this tree
pub record IsTerm (ls : List InnerLexeme) (raw : RawTree) : Type 0 where
  pub phrase : TermPhrase
  pub spelled : term_text phrase (Ends ∷ []) ≡ ls
  pub means : term_raw phrase ≡ raw

-- the list is a type, and then its end, that means this tree
pub record IsType (ls : List InnerLexeme) (raw : RawTypTree) : Type 0 where
  pub phrase : TypePhrase
  pub spelled : type_text phrase (Ends ∷ []) ≡ ls
  pub means : type_raw phrase ≡ raw

-- The tokens of the source spell the tree of a term. The limit of 1,000 tokens is the reader's alone.
abbrev pub SpellsTerm : List ℕ → List Token → RawTree → Type 0
SpellsTerm source tokens raw = IsTerm (inners source tokens) raw

-- The tokens of the source spell the tree of a type.
abbrev pub SpellsType : List ℕ → List Token → RawTypTree → Type 0
SpellsType source tokens raw = IsType (inners source tokens) raw

-- the list begins some term
abbrev pub BeginsTerm : List InnerLexeme → Type 0
BeginsTerm ls = (more : List InnerLexeme) × (raw : RawTree) × IsTerm (ls ++ more) raw

-- the list begins some type
abbrev pub BeginsType : List InnerLexeme → Type 0
BeginsType ls = (more : List InnerLexeme) × (raw : RawTypTree) × IsType (ls ++ more) raw

-- The list goes wrong at the item `found`, in front of `rest`: the items before it begin some text, and with it they
-- begin none.
pub record InnerGoesWrong (begins : List InnerLexeme → Type 0) (ls before : List InnerLexeme) (found : InnerLexeme) (rest : List InnerLexeme) : Type 0 where
  pub parts : ls ≡ before ++ found ∷ rest
  pub goes : begins before
  pub stops : begins (before ++ found ∷ []) → ⊥

-- The first fault of the tokens stands at the place `at`: the tokens before it begin some text, and with the token there,
-- or the end, they begin none. At the end the place is the source's length.
pub record HasInnerFault (begins : List InnerLexeme → Type 0) (source : List ℕ) (tokens : List Token) (at : ℕ) : Type 0 where
  pub before : List InnerLexeme
  pub found : InnerLexeme
  pub rest : List InnerLexeme
  pub wrong : InnerGoesWrong begins (inners source tokens) before found rest
  pub at_place : at ≡ place_of tokens (length source) (length before)

-- The tokens spell no term, and the first fault stands at this place.
abbrev pub HasTermFault : List ℕ → List Token → ℕ → Type 0
HasTermFault = HasInnerFault BeginsTerm

-- The tokens spell no type, and the first fault stands at this place.
abbrev pub HasTypeFault : List ℕ → List Token → ℕ → Type 0
HasTypeFault = HasInnerFault BeginsType

-- No tokens spell two terms.
abbrev pub OneTerm : Type 0
OneTerm = (source : List ℕ) (tokens : List Token) (t u : RawTree) → SpellsTerm source tokens t → SpellsTerm source tokens u → t ≡ u

-- No tokens spell two types.
abbrev pub OneType : Type 0
OneType = (source : List ℕ) (tokens : List Token) (t u : RawTypTree) → SpellsType source tokens t → SpellsType source tokens u → t ≡ u
