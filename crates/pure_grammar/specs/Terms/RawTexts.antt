-- Where the texts in the trees of terms and types come from.
use Rattle.std.specs.Prelude.{◌≡◌, ◌==◌, ◌⊎◌, ℕ, Bool, true, false, List, [], ◌∷◌, slice_range, codes}
use Rattle.std.specs.Option.{IfSome}
use Rattle.pure_text.specs.Lists.{IsIn, Each, AnyOf}
use Rattle.pure_grammar.specs.declared.token.Token.{Token}
use Rattle.pure_grammar.specs.declared.token.TokenKind.{TokenKind}
use Rattle.pure_grammar.specs.declared.token.TokenKind.TheVariants as kind
use Rattle.pure_grammar.specs.Tokens.Bytes.{apostrophe, head_is}
use Rattle.pure_grammar.specs.Tokens.Token.{tail}
use Rattle.pure_grammar.specs.Terms.InnerLexeme.{InnerLexeme, Plain, Dotted, Variable, Schematic, TypeSchematic, Bound}
use Rattle.pure_grammar.specs.Terms.RawTree.{RawClassTree, RawTypTree, Var, Con, RawTypTrees, none, also, RawTree, Leaf, Abs, App, Typed}
use Rattle.pure_grammar.specs.Terms.Inner.{SpellsTerm, SpellsType}

-- one of the tokens has a kind that fits, begins at this place of the source, and has this text
abbrev pub SomeToken : (TokenKind → Type 0) → List ℕ → List Token → List ℕ → ℕ → Type 0
SomeToken Fits source tokens text at = AnyOf (λ (t : Token). Fits t.kind × (slice_range source t.from t.to ≡ text) × (t.from ≡ at)) tokens

-- an apostrophe stands behind the mark of a schematic variable, which is one of types then
abbrev pub has_apostrophe : List ℕ → Bool
has_apostrophe text = head_is (λ b. b == apostrophe) (tail text)

-- The name or variable is written by one of the tokens. A plain name may be a keyword. Of signs nothing is said.
abbrev pub IsWritten : List ℕ → List Token → InnerLexeme → Type 0
IsWritten source tokens (Plain text at) = SomeToken (λ k. (k ≡ kind.Word) ⊎ (k ≡ kind.Ident)) source tokens text at
IsWritten source tokens (Dotted text at) = SomeToken (λ k. k ≡ kind.Qualified) source tokens text at
IsWritten source tokens (Variable text at) = SomeToken (λ k. k ≡ kind.TypeVar) source tokens text at
IsWritten source tokens (Schematic text at) = (has_apostrophe text ≡ false) × SomeToken (λ k. k ≡ kind.Schem) source tokens text at
IsWritten source tokens (TypeSchematic text at) = (has_apostrophe text ≡ true) × SomeToken (λ k. k ≡ kind.Schem) source tokens text at
IsWritten source tokens (Bound text at) = SomeToken (λ k. k ≡ kind.BoundName) source tokens text at
IsWritten source tokens _ = Unit {0}

-- a name, simple or qualified, at this place
abbrev pub NameAt : (InnerLexeme → Type 0) → List ℕ → ℕ → Type 0
NameAt Holds name at = Holds (Plain name at) ⊎ Holds (Dotted name at)

abbrev pub ClassAt : (InnerLexeme → Type 0) → RawClassTree → Type 0
ClassAt Holds class = NameAt Holds class.name class.at

-- a variable of types at this place: of these two kinds alone
abbrev pub TypeVariableAt : (InnerLexeme → Type 0) → TokenKind → List ℕ → ℕ → Type 0
TypeVariableAt Holds kind.TypeVar text at = Holds (Variable text at)
TypeVariableAt Holds kind.Schem text at = Holds (TypeSchematic text at)
TypeVariableAt Holds _ text at = ⊥

-- Each name and variable in the type has the property, at its place where the tree keeps it. The name of functions, for
-- which `=>` stands, needs none.
abbrev mutual
  pub EachInType : (InnerLexeme → Type 0) → RawTypTree → Type 0
  EachInType Holds (Var at k text sort) = TypeVariableAt Holds k text at × Each (ClassAt Holds) sort
  EachInType Holds (Con at name args) = ((name ≡ codes "Pure.fun") ⊎ ((place : ℕ) × NameAt Holds name place)) × EachInTypes Holds args

  pub EachInTypes : (InnerLexeme → Type 0) → RawTypTrees → Type 0
  EachInTypes Holds none = Unit {0}
  EachInTypes Holds (also t ts) = EachInType Holds t × EachInTypes Holds ts

-- the constants of the notation, for which `==>`, `==` and `!!` stand
abbrev pub IsNotation : TokenKind → List ℕ → Type 0
IsNotation k text = (k ≡ kind.Qualified) × IsIn text (codes "Pure.imp" ∷ codes "Pure.eq" ∷ codes "Pure.all" ∷ [])

-- a name or a variable of terms at this place: of these four kinds alone
abbrev pub LeafAt : (InnerLexeme → Type 0) → TokenKind → List ℕ → ℕ → Type 0
LeafAt Holds kind.Ident text at = Holds (Plain text at)
LeafAt Holds kind.Qualified text at = Holds (Dotted text at)
LeafAt Holds kind.Schem text at = Holds (Schematic text at)
LeafAt Holds kind.BoundName text at = Holds (Bound text at)
LeafAt Holds _ text at = ⊥

-- Each name and variable in the term has the property, at its place where the tree keeps it. The constants of the
-- notation need none.
abbrev pub EachInTerm : (InnerLexeme → Type 0) → RawTree → Type 0
EachInTerm Holds (Leaf at k text) = IsNotation k text ⊎ LeafAt Holds k text at
EachInTerm Holds (Abs at var typ body) = ((place : ℕ) × (Holds (Plain var place) ⊎ Holds (Bound var place))) × IfSome typ (EachInType Holds) × EachInTerm Holds body
EachInTerm Holds (App at fun arg) = EachInTerm Holds fun × EachInTerm Holds arg
EachInTerm Holds (Typed at term typ) = EachInTerm Holds term × EachInType Holds typ

-- Each name and variable in the tree of a term is written by one of its tokens.
abbrev pub TermIsWritten : Type 0
TermIsWritten = (source : List ℕ) (tokens : List Token) (raw : RawTree) → SpellsTerm source tokens raw → EachInTerm (IsWritten source tokens) raw

-- Each name and variable in the tree of a type is written by one of its tokens.
abbrev pub TypeIsWritten : Type 0
TypeIsWritten = (source : List ℕ) (tokens : List Token) (raw : RawTypTree) → SpellsType source tokens raw → EachInType (IsWritten source tokens) raw
