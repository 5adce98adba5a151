-- What a quoted text states: its normal form, with fixed variables and with schematic ones.
use Rattle.std.specs.Prelude.{◌≡◌, ◌<◌, ℕ, List, Result, Ok, Err}
use Rattle.pure_definitions.specs.Types.Typ.{Typ, prop}
use Rattle.pure_definitions.specs.Terms.Term.{Term, term_size}
use Rattle.pure_definitions.specs.Reduction.Beta as beta
use Rattle.pure_definitions.specs.Reduction.Beta.{IsBetaAnswer}
use Rattle.pure_grammar.specs.Theories.TheoryText.{Span}
use Rattle.pure_grammar.specs.Terms.RawTree.{RawTree}
use Rattle.pure_elab.specs.Vocabulary.{Vocabulary}
use Rattle.pure_statements.specs.declared.reason.Reason.{Reason}
use Rattle.pure_statements.specs.declared.reason.Reason.TheVariants.{TooManySteps, TooLarge}
use Rattle.pure_statements.specs.declared.stated.Stated.{Stated}
use Rattle.pure_statements.specs.Chain.{Then, Unless, Gives}
use Rattle.pure_statements.specs.Quoted.{IsReadTerm, IsReadTyp}
use Rattle.pure_statements.specs.Schematic.{generalised}
use Rattle.pure_statements.specs.Elaborated.{IsTypedTerm, IsWrittenTyp}

-- the normal form of a term, or why it has none
abbrev pub IsNormalised : Term → Result Term Reason → Type 0
IsNormalised t (Ok u) = IsBetaAnswer t (beta.NormalForm u)
IsNormalised t (Err TooLarge) = IsBetaAnswer t beta.TooLarge
IsNormalised t (Err TooManySteps) = IsBetaAnswer t beta.TooManySteps
IsNormalised t (Err _) = ⊥

-- the greatest size of a statement
abbrev pub max_statement : ℕ
max_statement = 3000

-- The statement is too large to be stored.
abbrev pub IsLarge : Term → Type 0
IsLarge t = max_statement < term_size t

-- the statement with its fixed variables, and generalised
abbrev pub stated : Term → Stated
stated t = record { fixed = t; prop = generalised t }

-- A normal form is limited in size.
abbrev pub IsStatedNormal : Term → Result Stated Reason → Type 0
IsStatedNormal u = Unless (IsLarge u) TooLarge (Gives (stated u))

-- A proposition is brought to normal form.
abbrev pub IsStatedTerm : Term → Result Stated Reason → Type 0
IsStatedTerm t = Then (IsNormalised t) IsStatedNormal

-- A tree is elaborated as a proposition.
abbrev pub IsStatedTree : Vocabulary → RawTree → Result Stated Reason → Type 0
IsStatedTree V raw = Then (IsTypedTerm V prop raw) IsStatedTerm

-- A quoted text is read, then elaborated as a proposition, then brought to normal form, then limited in size.
abbrev pub IsStated : Vocabulary → (source : List ℕ) → Span → Result Stated Reason → Type 0
IsStated V source span = Then (IsReadTerm source span) (IsStatedTree V)

-- A written type is read, then looked up.
abbrev pub IsStatedTyp : Vocabulary → (source : List ℕ) → Span → Result Typ Reason → Type 0
IsStatedTyp V source span = Then (IsReadTyp source span) (IsWrittenTyp V)
