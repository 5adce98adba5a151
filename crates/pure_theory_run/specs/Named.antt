-- The lemma or have that has some name, and which names of facts may be written.
use Rattle.std.specs.Prelude.{◌==◌, ℕ, Bool, false, List, Option, find, nat_lt, if◌then◌else◌}
use Rattle.std.specs.List.{count_by}
use Rattle.pure_grammar.specs.Theories.Lexeme.{same}
use Rattle.pure_definitions.specs.Names.{protect_name}
use Rattle.pure_print.specs.NameText.{text_of_name}
use Rattle.pure_session_meaning.specs.Declare.Notes.{Fork}

-- the first lemma or have with this full name
abbrev pub lemma_named : (texts : List (List ℕ)) → (name : List ℕ) → List Fork → Option Fork
lemma_named texts name forks = find (λ (f : Fork). same (text_of_name texts f.name) name) forks

-- a dot
abbrev pub is_dot : ℕ → Bool
is_dot byte = byte == 46

-- A fact with this name is found by its full name: the mark of a goal can't be written, and a have's name, which has two dots, finds nothing.
abbrev pub is_written : (texts : List (List ℕ)) → (name : ℕ) → Bool
is_written texts name = if name == protect_name then false else nat_lt (count_by is_dot (text_of_name texts name)) 2
