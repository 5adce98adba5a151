-- How terms are printed.
use Rattle.std.specs.Prelude.{ℕ, List, ◌∷◌, ◌++◌, codes, nat_lt}
use Rattle.std.specs.Fmt.{decimal}
use Rattle.pure_definitions.specs.Terms.Term.{Term}
use Rattle.pure_print.specs.NameText.{term_name_text, state_variable_text, index_text}
use Rattle.pure_print.specs.TypText.{in_parentheses}
use Rattle.pure_print.specs.Notation.{Notation, Constant, Fixed, Schematic, Numbered, ForAll, Implies, Equal, Lambda, Apply, notation}

-- How tightly each form binds.
abbrev pub level : Notation → ℕ
level (ForAll k b) = 0
level (Implies a b) = 1
level (Equal a b) = 2
level (Lambda k b) = 3
level (Apply f a) = 4
level (Constant c) = 5
level (Fixed x) = 5
level (Schematic x i) = 5
level (Numbered k) = 5

-- `_k`
abbrev pub number_text : ℕ → List ℕ
number_text k = 95 ∷ decimal k

-- the text of a form where a form of at least the level is asked for: one below it stands in parentheses
abbrev pub placed : (asked : ℕ) → Notation → (text : List ℕ) → List ℕ
placed asked x text = in_parentheses (nat_lt (level x) asked) text

-- a binder without its mark, and its body, of which a form of at least the level is asked
abbrev pub body_text : (asked : ℕ) → (number : ℕ) → (body : Notation) → (text : List ℕ) → List ℕ
body_text asked k b text = number_text k ++ (codes ". " ++ placed asked b text)

-- Each binder is printed by itself and without a type. Blanks stand round `==>` and `==`, behind the dot of a binder and
-- between a function and its argument. The names of schematic variables are given.
abbrev pub form_text_by : (variable : ℕ → List ℕ) → (texts : List (List ℕ)) → Notation → List ℕ
form_text_by variable texts (Constant c) = term_name_text texts c
form_text_by variable texts (Fixed x) = term_name_text texts x
form_text_by variable texts (Schematic x i) = 63 ∷ (variable x ++ index_text i)
form_text_by variable texts (Numbered k) = number_text k
form_text_by variable texts (ForAll k b) = codes "!!" ++ body_text 0 k b (form_text_by variable texts b)
form_text_by variable texts (Implies a b) = placed 2 a (form_text_by variable texts a) ++ (codes " ==> " ++ placed 1 b (form_text_by variable texts b))
form_text_by variable texts (Equal a b) = placed 3 a (form_text_by variable texts a) ++ (codes " == " ++ placed 3 b (form_text_by variable texts b))
form_text_by variable texts (Lambda k b) = codes "%" ++ body_text 3 k b (form_text_by variable texts b)
form_text_by variable texts (Apply f a) = placed 4 f (form_text_by variable texts f) ++ (codes " " ++ placed 5 a (form_text_by variable texts a))

-- A schematic variable prints as its name does otherwise.
abbrev pub form_text : (texts : List (List ℕ)) → Notation → List ℕ
form_text texts x = form_text_by (term_name_text texts) texts x

-- the text of a term
abbrev pub term_text : (texts : List (List ℕ)) → Term → List ℕ
term_text texts t = placed 0 (notation 0 t) (form_text texts (notation 0 t))

-- In the states of a proof a schematic variable prints as `?x` where the text of its name is a variable's spelling, and else, as those of built facts and
-- new ones, as `?_7`, by the number of its name.
abbrev pub state_text : (texts : List (List ℕ)) → Term → List ℕ
state_text texts t = placed 0 (notation 0 t) (form_text_by (state_variable_text texts) texts (notation 0 t))
