-- What the printer's forms of terms stand for; private contracts alone cite this.
use Rattle.std.specs.Prelude.{ℕ, ◌+◌, max, Bool, false, List, nat_eq}
use Rattle.pure_definitions.specs.Terms.Term.{Term, Const, term_depth}
use Rattle.pure_print.specs.NameText.{term_name_text, state_variable_text}
use Rattle.pure_print.specs.Notation as notation
use Rattle.pure_print.specs.declared.name.Naming.{Naming}
use Rattle.pure_print.specs.declared.name.Naming.TheVariants.{InTexts, InState}
use Rattle.pure_print.specs.declared.form.Form.{Form}
use Rattle.pure_print.specs.declared.form.Form.TheVariants.{Constant, Fixed, Schematic, Bound, ForAll, Implies, Equal, Lambda, Apply}

-- the form's notation under n binders
abbrev pub seen_form : ℕ → Form → notation.Notation
seen_form n (Constant c) = notation.Constant c
seen_form n (Fixed x) = notation.Fixed x
seen_form n (Schematic x i) = notation.Schematic x i
seen_form n (Bound p) = notation.Numbered (notation.number_of n p)
seen_form n (ForAll b) = notation.ForAll n (notation.notation (n + 1) b.now)
seen_form n (Implies a b) = notation.Implies (notation.notation n a.now) (notation.notation n b.now)
seen_form n (Equal a b) = notation.Equal (notation.notation n a.now) (notation.notation n b.now)
seen_form n (Lambda b) = notation.Lambda n (notation.notation (n + 1) b.now)
seen_form n (Apply f a) = notation.Apply (notation.notation n f.now) (notation.notation n a.now)

-- one more than the depth of the form's deepest part
abbrev pub form_depth : Form → ℕ
form_depth (Constant c) = 1
form_depth (Fixed x) = 1
form_depth (Schematic x i) = 1
form_depth (Bound p) = 1
form_depth (ForAll b) = 1 + term_depth b.now
form_depth (Implies a b) = 1 + max (term_depth a.now) (term_depth b.now)
form_depth (Equal a b) = 1 + max (term_depth a.now) (term_depth b.now)
form_depth (Lambda b) = 1 + term_depth b.now
form_depth (Apply f a) = 1 + max (term_depth f.now) (term_depth a.now)

-- the term is the constant
abbrev pub is_constant : ℕ → Term → Bool
is_constant c (Const d T) = nat_eq d c
is_constant c t = false

-- how the names of schematic variables are printed
abbrev pub variable_text : Naming → (texts : List (List ℕ)) → (name : ℕ) → List ℕ
variable_text InTexts texts = term_name_text texts
variable_text InState texts = state_variable_text texts
