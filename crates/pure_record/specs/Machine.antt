-- The parts of a record's grammar that are still to come, and what a lexeme makes of them: one lexeme ahead decides. Grammar says which lexemes are a record.
use Rattle.std.specs.Prelude.{◌≡◌, ℕ, ◌<◌, ◌==◌, Bool, true, false, not, length, drop, List, [], ◌∷◌, ◌++◌, Option, Some, None, option_map, if◌then◌else◌}
use Rattle.pure_record.specs.declared.lexeme.Mark.{Mark}
use Rattle.pure_record.specs.declared.lexeme.Mark.TheVariants as mark
use Rattle.pure_record.specs.declared.lexeme.Word.{Word}
use Rattle.pure_record.specs.declared.lexeme.Word.TheVariants as word
use Rattle.pure_record.specs.declared.lexeme.Lexeme.{Lexeme}
use Rattle.pure_record.specs.declared.lexeme.Lexeme.TheVariants.{Marked, Identifier, TypeVariable, SchematicType, SchematicTerm, Bound, Numeral}
use Rattle.pure_record.specs.declared.symbol.Symbol.{Symbol}
use Rattle.pure_record.specs.declared.symbol.Symbol.TheVariants as symbol

-- a number for each mark
abbrev pub mark_number : Mark → ℕ
mark_number mark.Begin = 0
mark_number mark.End = 1
mark_number mark.Typedecl = 2
mark_number mark.Consts = 3
mark_number mark.Axiomatization = 4
mark_number mark.Bar = 5
mark_number mark.Colon = 6
mark_number mark.DoubleColon = 7
mark_number mark.Comma = 8
mark_number mark.Semicolon = 9
mark_number mark.Percent = 10
mark_number mark.OpenParenthesis = 11
mark_number mark.CloseParenthesis = 12
mark_number mark.OpenBracket = 13
mark_number mark.CloseBracket = 14
mark_number mark.OpenBrace = 15
mark_number mark.CloseBrace = 16
mark_number mark.SourceEnd = 17

-- the lexeme is this mark
abbrev pub is_mark : Mark → Lexeme → Bool
is_mark m (Marked found) = mark_number found == mark_number m
is_mark m _ = false

abbrev pub identifier_on : Lexeme → Option (List Symbol)
identifier_on (Identifier n w) = Some ([])
identifier_on _ = None

abbrev pub numeral_on : Lexeme → Option (List Symbol)
numeral_on (Numeral n) = Some ([])
numeral_on _ = None

abbrev pub typ_on : Lexeme → Option (List Symbol)
typ_on (TypeVariable n) = Some ([])
typ_on (SchematicType n i) = Some ([])
typ_on (Identifier n w) = Some (symbol.Arguments ∷ [])
typ_on _ = None

abbrev pub arguments_on : Lexeme → Option (List Symbol)
arguments_on (Marked mark.OpenParenthesis) = Some (symbol.Typ ∷ symbol.MoreArguments ∷ [])
arguments_on _ = None

abbrev pub more_arguments_on : Lexeme → Option (List Symbol)
more_arguments_on (Marked mark.Comma) = Some (symbol.Typ ∷ symbol.MoreArguments ∷ [])
more_arguments_on (Marked mark.CloseParenthesis) = Some ([])
more_arguments_on _ = None

abbrev pub term_on : Lexeme → Option (List Symbol)
term_on (Marked mark.OpenBracket) = Some (symbol.Identifier ∷ (symbol.Just mark.Colon) ∷ symbol.Typ ∷ (symbol.Just mark.CloseBracket) ∷ [])
term_on (Marked mark.OpenBrace) = Some (symbol.VariableName ∷ (symbol.Just mark.Colon) ∷ symbol.Typ ∷ (symbol.Just mark.CloseBrace) ∷ [])
term_on (Bound k) = Some ([])
term_on (Marked mark.OpenParenthesis) = Some (symbol.InParentheses ∷ [])
term_on _ = None

abbrev pub in_parentheses_on : Lexeme → Option (List Symbol)
in_parentheses_on (Marked mark.Percent) = Some (symbol.Typ ∷ (symbol.Just mark.Semicolon) ∷ symbol.Term ∷ (symbol.Just mark.CloseParenthesis) ∷ [])
in_parentheses_on (Marked mark.OpenBracket) = Some (symbol.Identifier ∷ (symbol.Just mark.Colon) ∷ symbol.Typ ∷ (symbol.Just mark.CloseBracket) ∷ symbol.Term ∷ (symbol.Just mark.CloseParenthesis) ∷ [])
in_parentheses_on (Marked mark.OpenBrace) = Some (symbol.VariableName ∷ (symbol.Just mark.Colon) ∷ symbol.Typ ∷ (symbol.Just mark.CloseBrace) ∷ symbol.Term ∷ (symbol.Just mark.CloseParenthesis) ∷ [])
in_parentheses_on (Bound k) = Some (symbol.Term ∷ (symbol.Just mark.CloseParenthesis) ∷ [])
in_parentheses_on (Marked mark.OpenParenthesis) = Some (symbol.InParentheses ∷ symbol.Term ∷ (symbol.Just mark.CloseParenthesis) ∷ [])
in_parentheses_on _ = None

abbrev pub variable_on : Lexeme → Option (List Symbol)
variable_on (Marked mark.OpenBrace) = Some (symbol.VariableName ∷ (symbol.Just mark.Colon) ∷ symbol.Typ ∷ (symbol.Just mark.CloseBrace) ∷ [])
variable_on _ = None

abbrev pub variable_name_on : Lexeme → Option (List Symbol)
variable_name_on (Identifier n w) = Some ([])
variable_name_on (SchematicTerm n i) = Some ([])
variable_name_on _ = None

abbrev pub schematic_name_on : Lexeme → Option (List Symbol)
schematic_name_on (SchematicTerm n i) = Some ([])
schematic_name_on _ = None

abbrev pub typ_binds_on : Lexeme → Option (List Symbol)
typ_binds_on (SchematicType n i) = Some (symbol.Typ ∷ (symbol.Just mark.Semicolon) ∷ symbol.TypBinds ∷ [])
typ_binds_on (Marked mark.CloseBracket) = Some ([])
typ_binds_on _ = None

abbrev pub term_binds_on : Lexeme → Option (List Symbol)
term_binds_on (Marked mark.OpenBrace) = Some (symbol.SchematicName ∷ (symbol.Just mark.Colon) ∷ symbol.Typ ∷ (symbol.Just mark.CloseBrace) ∷ symbol.Term ∷ (symbol.Just mark.Semicolon) ∷ symbol.TermBinds ∷ [])
term_binds_on (Marked mark.CloseBracket) = Some ([])
term_binds_on _ = None

-- what follows the word of a node
abbrev pub node_on : Word → Option (List Symbol)
node_on word.Axiom = Some (symbol.Identifier ∷ (symbol.Just mark.OpenBracket) ∷ symbol.TypBinds ∷ (symbol.Just mark.OpenBracket) ∷ symbol.TermBinds ∷ (symbol.Just mark.Bar) ∷ symbol.Lines ∷ [])
node_on word.Assume = Some (symbol.Term ∷ (symbol.Just mark.Bar) ∷ symbol.Lines ∷ [])
node_on word.AllIntro = Some (symbol.Variable ∷ symbol.Numeral ∷ (symbol.Just mark.Bar) ∷ symbol.Lines ∷ [])
node_on word.AllElim = Some (symbol.Term ∷ symbol.Numeral ∷ (symbol.Just mark.Bar) ∷ symbol.Lines ∷ [])
node_on word.ImpIntro = Some (symbol.Term ∷ symbol.Numeral ∷ (symbol.Just mark.Bar) ∷ symbol.Lines ∷ [])
node_on word.ImpElim = Some (symbol.Numeral ∷ symbol.Numeral ∷ (symbol.Just mark.Bar) ∷ symbol.Lines ∷ [])
node_on word.Beta = Some (symbol.Term ∷ (symbol.Just mark.Bar) ∷ symbol.Lines ∷ [])
node_on word.Refl = Some (symbol.Term ∷ (symbol.Just mark.Bar) ∷ symbol.Lines ∷ [])
node_on word.Subst = Some (symbol.Term ∷ symbol.Term ∷ symbol.Term ∷ (symbol.Just mark.Bar) ∷ symbol.Lines ∷ [])
node_on word.Ext = Some (symbol.Term ∷ symbol.Term ∷ (symbol.Just mark.Bar) ∷ symbol.Lines ∷ [])
node_on word.Iff = Some (symbol.Term ∷ symbol.Term ∷ (symbol.Just mark.Bar) ∷ symbol.Lines ∷ [])
node_on _ = None

abbrev pub lines_on : Lexeme → Option (List Symbol)
lines_on (Identifier n w) = node_on w
lines_on (Marked mark.End) = Some (symbol.Just mark.SourceEnd ∷ [])
lines_on _ = None

abbrev pub items_on : Lexeme → Option (List Symbol)
items_on (Marked mark.Typedecl) = Some (symbol.Identifier ∷ symbol.Numeral ∷ symbol.Just mark.Bar ∷ symbol.Items ∷ [])
items_on (Marked mark.Consts) = Some (symbol.Identifier ∷ symbol.Just mark.DoubleColon ∷ symbol.Typ ∷ symbol.Just mark.Bar ∷ symbol.Items ∷ [])
items_on (Marked mark.Axiomatization) = Some (symbol.Identifier ∷ symbol.Just mark.Colon ∷ symbol.Term ∷ symbol.Just mark.Bar ∷ symbol.Items ∷ [])
items_on l = lines_on l

-- what is to come in place of the part, behind its first lexeme
abbrev pub opened : Symbol → Lexeme → Option (List Symbol)
opened (symbol.Just m) l = if is_mark m l then Some [] else None
opened symbol.Identifier l = identifier_on l
opened symbol.Numeral l = numeral_on l
opened symbol.Typ l = typ_on l
opened symbol.Arguments l = arguments_on l
opened symbol.MoreArguments l = more_arguments_on l
opened symbol.Term l = term_on l
opened symbol.InParentheses l = in_parentheses_on l
opened symbol.Variable l = variable_on l
opened symbol.VariableName l = variable_name_on l
opened symbol.SchematicName l = schematic_name_on l
opened symbol.TypBinds l = typ_binds_on l
opened symbol.TermBinds l = term_binds_on l
opened symbol.Lines l = lines_on l
opened symbol.Items l = items_on l
opened symbol.Record l = if is_mark mark.Begin l then Some (symbol.Items ∷ []) else None

-- the part may be left out, and is, as the lexeme doesn't begin it
abbrev pub passes : Symbol → Lexeme → Bool
passes symbol.Arguments l = not (is_mark mark.OpenParenthesis l)
passes _ l = false

-- what is to come behind the lexeme
abbrev pub next : List Symbol → Lexeme → Option (List Symbol)
next [] l = None
next (x ∷ xs) l = if passes x l then next xs l else option_map (λ ys. ys ++ xs) (opened x l)

-- The lexemes are all that was to come, or at some of them another one was to come.
pub data Outcome : Type 0 where
  Through : (left : List Symbol) → Outcome
  Stuck : (left : List Symbol) → (rest : List Lexeme) → Outcome

abbrev pub goes_on : Option (List Symbol) → Outcome → (List Symbol → Outcome) → Outcome
goes_on None stuck on = stuck
goes_on (Some left) stuck on = on left

abbrev pub run : List Symbol → List Lexeme → Outcome
run xs [] = Through xs
run xs (l ∷ ls) = goes_on (next xs l) (Stuck xs (l ∷ ls)) (λ ys. run ys ls)

-- What comes next, and what behind it, where the lexeme leaves parts out.
abbrev pub IsPart : List Symbol → Lexeme → Option Symbol → List Symbol → Type 0
IsPart xs l None behind = next xs l ≡ None
IsPart xs l (Some x) behind = (passes x l ≡ false) × (next xs l ≡ next (x ∷ behind) l)

-- Where a lexeme goes on, it leaves this to come; else it doesn't.
abbrev pub IsStep : Bool → List Symbol → Lexeme → List Symbol → Type 0
IsStep true xs l ys = next xs l ≡ Some ys
IsStep false xs l ys = next xs l ≡ None

-- The lexemes are all of a record, or the one at the place goes wrong.
abbrev pub IsRecognised : List Lexeme → Option ℕ → Type 0
IsRecognised ls None = run (symbol.Record ∷ []) ls ≡ Through []
IsRecognised ls (Some at) = (at < length ls) × ((left : List Symbol) × (run (symbol.Record ∷ []) ls ≡ Stuck left (drop at ls)))
