-- Where the reader of terms and types stops before the end.
use Rattle.std.specs.Prelude.{◌≡◌, ℕ, ◌<◌, List, ◌∷◌, ◌++◌, length, Some, None}
use Rattle.pure_grammar.specs.declared.token.Token.{Token}
use Rattle.pure_grammar.specs.Theories.Outer.{place_of}
use Rattle.pure_grammar.specs.Terms.InnerLexeme.{InnerLexeme, inners}
use Rattle.pure_grammar.specs.Terms.InnerReader.{State, next, run}
use Rattle.pure_grammar.specs.Terms.Inner.{HasTermFault, HasTypeFault}
use Rattle.pure_read.specs.declared.read.RawFault.{RawFault}
use Rattle.pure_read.specs.declared.read.RawFault.TheVariants.{TooLong, Syntax, Memory}

-- From this state the reader gets to the token, or the end, at the place `at`, and no further.
pub record IsStuck (start : State) (source : List ℕ) (tokens : List Token) (at : ℕ) : Type 0 where
  pub before : List InnerLexeme
  pub found : InnerLexeme
  pub rest : List InnerLexeme
  pub state : State
  pub parts : inners source tokens ≡ before ++ found ∷ rest
  pub reads : run start before ≡ Some state
  pub stops : next state found ≡ None
  pub at_place : at ≡ place_of tokens (length source) (length before)

-- what a fault says of where the reader stops
abbrev pub IsStuckAs : State → List ℕ → List Token → RawFault → Type 0
IsStuckAs start source tokens TooLong = ⊥
IsStuckAs start source tokens (Syntax at) = IsStuck start source tokens at
IsStuckAs start source tokens Memory = Unit {0}

-- how many tokens are read at most
abbrev pub most_tokens : ℕ
most_tokens = 1000

-- There are too many tokens to be read.
abbrev pub IsTooLong : List Token → Type 0
IsTooLong tokens = most_tokens < length tokens

-- What a fault says of the tokens of a term. There are too many of them; or the first fault stands where it says.
-- Want of memory says nothing more.
abbrev pub IsTermFaultOf : List ℕ → List Token → RawFault → Type 0
IsTermFaultOf source tokens TooLong = IsTooLong tokens
IsTermFaultOf source tokens (Syntax at) = HasTermFault source tokens at
IsTermFaultOf source tokens Memory = Unit {0}

-- so for the tokens of a type
abbrev pub IsTypeFaultOf : List ℕ → List Token → RawFault → Type 0
IsTypeFaultOf source tokens TooLong = IsTooLong tokens
IsTypeFaultOf source tokens (Syntax at) = HasTypeFault source tokens at
IsTypeFaultOf source tokens Memory = Unit {0}
