-- What the file of a theory says by itself.
use Rattle.std.specs.Prelude.{◌≡◌, ◌⊎◌, ℕ, ◌+◌, ◌<◌, ◌≤◌, Bool, true, false, not, ◌&&◌, ◌||◌, List, length, take, codes, count_by, nat_eq, nat_lt, Option, Some, None, if◌then◌else◌}
use Rattle.std.specs.List.{list_any, sum_by}
use Rattle.pure_grammar.specs.declared.token.Token.{Token}
use Rattle.pure_grammar.specs.declared.token.TokenKind.{TokenKind}
use Rattle.pure_grammar.specs.Tokens.Spelling.{Spells, HasFault}
use Rattle.pure_grammar.specs.Theories.Lexeme.{same}
use Rattle.pure_grammar.specs.Theories.Outer.{SpellsTheory, HasSyntaxFault}
use Rattle.pure_grammar.specs.Theories.TheoryText.{Step, Close, Have, Command, Lemma, TheoryText}
use Rattle.pure_lex.specs.Lines.{line_behind, column_behind}
use Rattle.pure_graph.specs.Limits.{most_bytes, most_parts, most_steps}
use Rattle.pure_graph.specs.declared.outcome.Reason.{Reason}
use Rattle.pure_graph.specs.declared.outcome.Reason.TheVariants.{NoFile, TooLarge, Syntax, UnknownVersion, HeaderName}

-- A file is refused, or it stands: its bytes, and the tree that they spell.
pub data Outcome : Type 0 where
  Refused : (reason : Reason) → Outcome
  Stands : (source : List ℕ) → (text : TheoryText) → Outcome

-- the source is a theory of the grammar with this tree
abbrev pub IsTheoryText : List ℕ → TheoryText → Type 0
IsTheoryText source text = (tokens : List Token) × Spells (length source) tokens source × SpellsTheory source tokens text

-- The source isn't in the grammar, and its first fault stands at this place: a fault of its tokens, or else one of the
-- grammar.
abbrev pub IsFaultPlace : List ℕ → ℕ → Type 0
IsFaultPlace source at =
    HasFault (length source) source at
    ⊎ ((tokens : List Token) × (expected : TokenKind) × Spells (length source) tokens source × HasSyntaxFault source tokens at expected)

-- its line and its column, both from 1, columns in bytes
abbrev pub syntax_at : List ℕ → ℕ → Reason
syntax_at source at = Syntax (line_behind (take at source)) (column_behind (take at source))

-- all steps of a proof are numbered but the one that closes subgoals
abbrev pub is_numbered : Step → Bool
is_numbered Close = false
is_numbered _ = true

-- more steps than a proof may have
abbrev pub is_long : List Step → Bool
is_long script = nat_lt most_steps (count_by is_numbered script)

-- a lemma with a proof that is too long, its own or that of a have
abbrev pub has_long_proof : Command → Bool
has_long_proof (Lemma name prop haves script) = list_any (λ (h : Have). is_long h.script) haves || is_long script
has_long_proof _ = false

-- the parts of a command: it is one itself, and each have of a lemma is one
abbrev pub command_parts : Command → ℕ
command_parts (Lemma name prop haves script) = 1 + length haves
command_parts _ = 1

-- the parts of these commands
abbrev pub part_count : List Command → ℕ
part_count commands = sum_by command_parts commands

-- more parts than a theory of its version may have, or a proof that is too long
abbrev pub is_large : TheoryText → Bool
is_large text = nat_lt (most_parts text.version) (part_count text.commands) || list_any has_long_proof text.commands

-- the versions are 1 and 2
abbrev pub is_known_version : (version : ℕ) → Bool
is_known_version version = nat_eq version 1 || nat_eq version 2

unfoldable pub pure_theory : List ℕ
pure_theory = codes "Pure"

-- the header's name is the file's, and it isn't Pure
abbrev pub is_headed : List ℕ → TheoryText → Bool
is_headed theory text = same text.name theory && not (same text.name pure_theory)

-- what the tree of a theory's file says, where its version is known
abbrev pub known_outcome : (theory source : List ℕ) → TheoryText → Outcome
known_outcome theory source text =
    if is_headed theory text then (if is_large text then Refused TooLarge else Stands source text) else Refused HeaderName

-- what the tree of a theory's file says
abbrev pub tree_outcome : (theory source : List ℕ) → TheoryText → Outcome
tree_outcome theory source text = if is_known_version text.version then known_outcome theory source text else Refused UnknownVersion

-- what the bytes of a theory's file say, where they aren't too many
abbrev pub IsSourceOutcome : (theory source : List ℕ) → Outcome → Type 0
IsSourceOutcome theory source outcome =
    ((at : ℕ) × IsFaultPlace source at × (outcome ≡ Refused (syntax_at source at)))
    ⊎ ((text : TheoryText) × IsTheoryText source text × (outcome ≡ tree_outcome theory source text))

-- what the bytes of a theory's file say
abbrev pub IsBytesOutcome : (theory source : List ℕ) → Outcome → Type 0
IsBytesOutcome theory source outcome =
    ((most_bytes < length source) × (outcome ≡ Refused TooLarge))
    ⊎ ((length source ≤ most_bytes) × IsSourceOutcome theory source outcome)

-- what the file of a theory says by itself: these are its bytes, or it is missing
abbrev pub IsOwnOutcome : (theory : List ℕ) → Option (List ℕ) → Outcome → Type 0
IsOwnOutcome theory None outcome = outcome ≡ Refused (NoFile theory)
IsOwnOutcome theory (Some source) outcome = IsBytesOutcome theory source outcome
