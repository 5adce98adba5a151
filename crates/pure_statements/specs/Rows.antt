-- The rows of commands.
use Rattle.std.specs.Prelude.{ℕ, List, [], ◌∷◌, ◌++◌, codes}
use Rattle.pure_grammar.specs.Theories.TheoryText.{Command, Class, TypeDecl, Arity, Const, Axiom, Definition, Lemma}
use Rattle.pure_lookup.specs.Meaning.{full_text}
use Rattle.pure_print.specs.declared.row.Row.{Row}
use Rattle.pure_print.specs.declared.row.RowStatus.TheVariants.{Declared, Refused}
use Rattle.pure_statements.specs.declared.reason.Reason.{Reason}
use Rattle.pure_statements.specs.ReasonText.{reason_text}

unfoldable pub class_word : List ℕ
class_word = codes "class "

unfoldable pub type_word : List ℕ
type_word = codes "type "

unfoldable pub arity_word : List ℕ
arity_word = codes "arity "

unfoldable pub const_word : List ℕ
const_word = codes "const "

unfoldable pub axiom_word : List ℕ
axiom_word = codes "axiom "

unfoldable pub definition_word : List ℕ
definition_word = codes "definition "

unfoldable pub lemma_word : List ℕ
lemma_word = codes "lemma "

unfoldable pub have_word : List ℕ
have_word = codes "have "

-- behind the name of a constant, and of a fact or before a reason
unfoldable pub of_type : List ℕ
of_type = codes " :: "

unfoldable pub colon : List ℕ
colon = codes ": "

-- what a command is about: its kind, with the full name that it declares; of an arity the theory, and the constructor and the class as they are written
abbrev pub head_text : (theory : List ℕ) → Command → List ℕ
head_text theory (Class name above) = class_word ++ full_text theory name
head_text theory (TypeDecl name params) = type_word ++ full_text theory name
head_text theory (Arity con doms class) = arity_word ++ (theory ++ (colon ++ (con ++ (32 ∷ class))))
head_text theory (Const name typ) = const_word ++ full_text theory name
head_text theory (Axiom name prop) = axiom_word ++ full_text theory name
head_text theory (Definition name typ prop) = definition_word ++ full_text theory name
head_text theory (Lemma name prop haves script) = lemma_word ++ full_text theory name

-- the row of a command that declares, with what is said behind its head
abbrev pub declared_row : (theory : List ℕ) → Command → (tail : List ℕ) → Row
declared_row theory command tail = record { status = Declared; head = head_text theory command; tail = tail }

-- the row of a command that is refused
abbrev pub refused_row : (texts : List (List ℕ)) → (source theory : List ℕ) → Command → Reason → Row
refused_row texts source theory command reason = record { status = Refused; head = head_text theory command; tail = colon ++ reason_text texts source reason }

-- the full name of a have with this name, in the lemma with this base: a dot stands between the lemma's full name and its own
abbrev pub have_text : (theory lemma name : List ℕ) → List ℕ
have_text theory lemma name = full_text (full_text theory lemma) name

-- the row of a have that is refused
abbrev pub refused_have : (texts : List (List ℕ)) → (source theory lemma name : List ℕ) → Reason → Row
refused_have texts source theory lemma name reason = record { status = Refused; head = have_word ++ have_text theory lemma name; tail = colon ++ reason_text texts source reason }
