-- Where the ranges in the tree of a theory lie.
use Rattle.std.specs.Prelude.{◌≡◌, ◌⊎◌, ℕ, ◌+◌, ◌≤◌, List, [], ◌∷◌, map, length}
use Rattle.pure_text.specs.Lists.{Each, AnyOf}
use Rattle.pure_grammar.specs.declared.token.Token.{Token}
use Rattle.pure_grammar.specs.declared.token.TokenKind.TheVariants.{Quote, Ident, Qualified, TypeVar}
use Rattle.pure_grammar.specs.Tokens.Spelling.{AreSlices}
use Rattle.pure_grammar.specs.Theories.TheoryText.{Span, Have, Command, Class, TypeDecl, Arity, Const, Axiom, Definition, Lemma, TheoryText}
use Rattle.pure_grammar.specs.Theories.PhraseTree.{all_of}
use Rattle.pure_grammar.specs.Theories.Outer.{SpellsTheory}

-- the range of a type, or of a proposition
pub data Cited : Type 0 where
  OfType : (at : Span) → Cited
  OfProp : (at : Span) → Cited

abbrev pub cited_span : Cited → Span
cited_span (OfType at) = at
cited_span (OfProp at) = at

-- the ranges of a command, in their order
abbrev pub command_spans : Command → List Cited
command_spans (Class name above) = []
command_spans (TypeDecl name params) = []
command_spans (Arity con doms class) = []
command_spans (Const name typ) = OfType typ ∷ []
command_spans (Axiom name prop) = OfProp prop ∷ []
command_spans (Definition name typ prop) = OfType typ ∷ OfProp prop ∷ []
command_spans (Lemma name prop haves script) = OfProp prop ∷ map (λ (h : Have). OfProp h.prop) haves

-- the ranges of a theory, in their order
abbrev pub theory_spans : TheoryText → List Cited
theory_spans theory = all_of command_spans theory.commands

-- the token is a quoted text, and the range lies between its marks
pub record IsInside (token : Token) (at : Span) : Type 0 where
  pub quote : token.kind ≡ Quote
  pub from : at.from ≡ token.from + 1
  pub to : at.to + 1 ≡ token.to

-- the token is a name or a type variable, and the range is the token's
pub record IsWhole (token : Token) (at : Span) : Type 0 where
  pub kind : (token.kind ≡ Ident) ⊎ (token.kind ≡ Qualified) ⊎ (token.kind ≡ TypeVar)
  pub from : at.from ≡ token.from
  pub to : at.to ≡ token.to

-- A type is a quoted text or one token, and a proposition is a quoted text.
abbrev pub Cites : Token → Cited → Type 0
Cites token (OfType at) = IsInside token at ⊎ IsWhole token at
Cites token (OfProp at) = IsInside token at

-- Each range has a token of its own, and the tokens stand in the order of the ranges.
abbrev pub CiteEach : List Token → List Cited → Type 0
CiteEach [] [] = Unit {0}
CiteEach [] (c ∷ cs) = ⊥
CiteEach (t ∷ ts) [] = Unit {0}
CiteEach (t ∷ ts) (c ∷ cs) = (Cites t c × CiteEach ts cs) ⊎ CiteEach ts (c ∷ cs)

-- the ranges lie one behind another, from the place `from` on and at most to the place `to`
abbrev pub LieBetween : ℕ → ℕ → List Span → Type 0
LieBetween from to [] = from ≤ to
LieBetween from to (at ∷ more) = (from ≤ at.from) × (at.from ≤ at.to) × LieBetween at.to to more

-- The ranges of a theory lie in its source, one behind another, each with a token of its own.
abbrev pub SpansInOrder : Type 0
SpansInOrder =
    (source : List ℕ) (tokens : List Token) (theory : TheoryText) → AreSlices source 0 (length source) tokens → SpellsTheory source tokens theory
    → CiteEach tokens (theory_spans theory) × LieBetween 0 (length source) (map cited_span (theory_spans theory))

-- the range lies in the source, and one of the tokens has it
pub record IsCited (source : List ℕ) (tokens : List Token) (c : Cited) : Type 0 where
  pub order : (cited_span c).from ≤ (cited_span c).to
  pub within : (cited_span c).to ≤ length source
  pub token : AnyOf (λ t. Cites t c) tokens

-- Each range of each command of a theory lies in the source, and is that of a token.
abbrev pub EachSpanIsCited : Type 0
EachSpanIsCited =
    (source : List ℕ) (tokens : List Token) (theory : TheoryText) → AreSlices source 0 (length source) tokens → SpellsTheory source tokens theory
    → Each (λ command. Each (IsCited source tokens) (command_spans command)) theory.commands
