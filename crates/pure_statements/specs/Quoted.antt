-- What a range of a source spells: the tree of a term or of a type, or why it spells none.
use Rattle.std.specs.Prelude.{◌≡◌, ℕ, List, length, slice_range, Result, Ok, Err, nat_eq, if◌then◌else◌}
use Rattle.pure_grammar.specs.declared.token.Token.{Token}
use Rattle.pure_grammar.specs.Tokens.Spelling.{Spells, HasFault}
use Rattle.pure_grammar.specs.Theories.TheoryText.{Span}
use Rattle.pure_grammar.specs.Terms.RawTree.{RawTypTree, RawTree}
use Rattle.pure_grammar.specs.Terms.Inner.{SpellsTerm, SpellsType, HasTermFault, HasTypeFault}
use Rattle.pure_read.specs.Stuck.{IsTooLong}
use Rattle.pure_read.specs.declared.read.RawFault.{RawFault}
use Rattle.pure_read.specs.declared.read.RawFault.TheVariants as fault
use Rattle.pure_statements.specs.declared.reason.Reason.{Reason}
use Rattle.pure_statements.specs.declared.reason.Reason.TheVariants.{Syntax, TooLong}
use Rattle.pure_statements.specs.declared.reason.Failed.{Failed}
use Rattle.pure_statements.specs.declared.reason.Failed.TheVariants.{Refused, Memory}
use Rattle.pure_statements.specs.Chain.{Then, Unless}

-- the tokens of the range, or its first fault
abbrev pub AreTokensOf : (source : List ℕ) → Span → Result (List Token) Reason → Type 0
AreTokensOf source span (Ok tokens) = Spells span.to tokens (slice_range source span.from span.to)
AreTokensOf source span (Err reason) = (place : ℕ) × HasFault span.to (slice_range source span.from span.to) place × (reason ≡ Syntax place)

-- the place of a fault of syntax: where a text goes wrong at the source's end, the end of its range is meant, which is its closing mark
abbrev pub ended_at : (source : List ℕ) → Span → (place : ℕ) → ℕ
ended_at source span place = if nat_eq place (length source) then span.to else place

-- the tree of the tokens, or their first fault
abbrev pub IsTermOf : (source : List ℕ) → Span → List Token → Result RawTree Reason → Type 0
IsTermOf source span tokens (Ok raw) = SpellsTerm source tokens raw
IsTermOf source span tokens (Err reason) = (place : ℕ) × HasTermFault source tokens place × (reason ≡ Syntax (ended_at source span place))

abbrev pub IsTypeOf : (source : List ℕ) → Span → List Token → Result RawTypTree Reason → Type 0
IsTypeOf source span tokens (Ok raw) = SpellsType source tokens raw
IsTypeOf source span tokens (Err reason) = (place : ℕ) × HasTypeFault source tokens place × (reason ≡ Syntax (ended_at source span place))

-- Reading tests the tokens, then how many there are, then the grammar.
abbrev pub IsReadTerm : (source : List ℕ) → Span → Result RawTree Reason → Type 0
IsReadTerm source span = Then (AreTokensOf source span) (λ tokens. Unless (IsTooLong tokens) TooLong (IsTermOf source span tokens))

abbrev pub IsReadTyp : (source : List ℕ) → Span → Result RawTypTree Reason → Type 0
IsReadTyp source span = Then (AreTokensOf source span) (λ tokens. Unless (IsTooLong tokens) TooLong (IsTypeOf source span tokens))

-- the fault of a reader as one of a command
abbrev pub failed_reading : (source : List ℕ) → Span → RawFault → Failed
failed_reading source span fault.TooLong = Refused TooLong
failed_reading source span (fault.Syntax place) = Refused (Syntax (ended_at source span place))
failed_reading source span fault.Memory = Memory
