-- A search through tokens for the parts of a theory, without its grammar.
use Rattle.std.specs.Prelude.{ℕ, Bool, true, false, List, [], ◌∷◌, ◌++◌, drop, Option, Some, None, if◌then◌else◌}
use Rattle.pure_grammar.specs.declared.lexeme.Keyword.{Keyword}
use Rattle.pure_grammar.specs.declared.lexeme.Keyword.TheVariants as keyword
use Rattle.pure_grammar.specs.declared.lexeme.Sign.{Sign}
use Rattle.pure_grammar.specs.declared.lexeme.Sign.TheVariants as sign
use Rattle.pure_grammar.specs.Theories.Lexeme.{Lexeme, Reserved, Signed, Plain, Dotted, Variable, Numeral, Quoted, Other, Ends}
use Rattle.pure_places.specs.Parts.{CommandParts, Import}
use Rattle.pure_places.specs.Proofs.{Proofs, no_proofs, own_proof, proofs_in}
use Rattle.pure_places.specs.declared.mark.Mark.{Mark}
use Rattle.pure_places.specs.declared.mark.Mark.TheVariants as mark
use Rattle.pure_places.specs.declared.mark.Before.{Before}
use Rattle.pure_places.specs.declared.mark.Before.TheVariants as before

abbrev pub word_mark : Keyword → Mark
word_mark keyword.Theory = mark.Word
word_mark keyword.Imports = mark.Word
word_mark keyword.Begin = mark.Begin
word_mark keyword.End = mark.Word
word_mark keyword.Class = mark.Kind
word_mark keyword.Typedecl = mark.Kind
word_mark keyword.Arities = mark.Word
word_mark keyword.Consts = mark.Word
word_mark keyword.Axiomatization = mark.Word
word_mark keyword.Where = mark.Word
word_mark keyword.And = mark.Word
word_mark keyword.Definition = mark.Word
word_mark keyword.Lemma = mark.Lemma
word_mark keyword.Theorem = mark.Lemma
word_mark keyword.Apply = mark.Apply
word_mark keyword.Done = mark.Done
word_mark keyword.By = mark.By
word_mark keyword.Prefer = mark.Move
word_mark keyword.Defer = mark.Move
word_mark keyword.Have = mark.Have
word_mark keyword.Version = mark.Version

abbrev pub sign_mark : Sign → Mark
sign_mark sign.Less = mark.Rest
sign_mark sign.Comma = mark.Comma
sign_mark sign.Colon = mark.Colon
sign_mark sign.DoubleColon = mark.Colon
sign_mark sign.OpenParenthesis = mark.Comma
sign_mark sign.CloseParenthesis = mark.Rest
sign_mark sign.OpenBrace = mark.Rest
sign_mark sign.CloseBrace = mark.Rest

-- what a token is to the search
abbrev pub mark_of : Lexeme → Mark
mark_of (Reserved word) = word_mark word
mark_of (Signed s) = sign_mark s
mark_of (Plain text at) = mark.Ident
mark_of (Dotted text at) = mark.Full
mark_of (Variable text at) = mark.Rest
mark_of (Numeral value) = mark.Rest
mark_of (Quoted at) = mark.Rest
mark_of (Other kind) = mark.Rest
mark_of Ends = mark.Word

abbrev pub is_colon : Mark → Bool
is_colon mark.Colon = true
is_colon _ = false

-- The name of a class or a type is the first identifier behind the keyword; any other has a colon behind it. That of a have is none of a command.
abbrev pub is_name : Before → Mark → (next : Mark) → Bool
is_name before.Kind mark.Ident next = true
is_name before.Kind _ next = false
is_name before.Other mark.Ident next = is_colon next
is_name before.Other mark.Full next = is_colon next
is_name before.Other _ next = false
is_name before.Lemma mark.Ident next = is_colon next
is_name before.Lemma _ next = false
is_name before.Have _ next = false

-- what stands before the token behind this one
abbrev pub newly : Mark → Before
newly mark.Kind = before.Kind
newly mark.Lemma = before.Lemma
newly mark.Have = before.Have
newly _ = before.Other

-- behind a token that is no command's name; the words of a class or a type wait for it
abbrev pub behind : Before → Mark → Before
behind before.Kind m = before.Kind
behind before.Lemma m = newly m
behind before.Have m = newly m
behind before.Other m = newly m

abbrev pub is_version : Mark → Bool
is_version mark.Version = true
is_version _ = false

abbrev pub is_begin : Mark → Bool
is_begin mark.Begin = true
is_begin _ = false

-- the mark of the first
abbrev pub first_mark : {X : Type 0} → (X → Mark) → List X → Mark
first_mark seen [] = mark.Word
first_mark seen (x ∷ xs) = seen x

-- the haves of a lemma and the steps of its proof, which stand behind a colon and a quoted text
abbrev pub proofs_of : {X P : Type 0} → (seen : X → Mark) → (place : X → List X → P) → Before → (behind_name : List X) → Proofs P
proofs_of seen place before.Lemma xs = proofs_in seen place own_proof no_proofs (drop 2 xs)
proofs_of seen place _ xs = no_proofs

abbrev pub command_of : {P : Type 0} → (name : P) → Proofs P → CommandParts P
command_of name found = record { haves = found.haves; own = record { name = name; steps = found.steps } }

-- the commands: a name, the haves and the steps of a proof, for each
abbrev pub commands_in : {X P : Type 0} → (seen : X → Mark) → (place : X → List X → P) → Before → List X → List (CommandParts P)
commands_in seen place b [] = []
commands_in seen place b (x ∷ xs) =
    if is_name b (seen x) (first_mark seen xs) then command_of (place x xs) (proofs_of seen place b xs) ∷ commands_in seen place before.Other xs
    else commands_in seen place (behind b (seen x)) xs

abbrev pub import_at : {P : Type 0} → Option (List ℕ) → P → List (Import P)
import_at None at = []
import_at (Some theory) at = record { theory = theory; at = at } ∷ []

-- the imports, up to `begin`
abbrev pub imports_in : {X P : Type 0} → (seen : X → Mark) → (ident : X → Option (List ℕ)) → (place : X → List X → P) → List X → List (Import P)
imports_in seen ident place [] = []
imports_in seen ident place (x ∷ xs) = if is_begin (seen x) then [] else import_at (ident x) (place x xs) ++ imports_in seen ident place xs
