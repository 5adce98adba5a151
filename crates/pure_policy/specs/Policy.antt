-- The policy that the words ask for.
use Rattle.std.specs.Prelude.{ℕ, List, Option, Some, if◌then◌else◌, option_map}
use Rattle.std.specs.List.{filter_map, position_from}
use Rattle.pure_grammar.specs.Theories.Lexeme.{same}
use Rattle.pure_graph.specs.Order.{Loaded}
use Rattle.pure_words.specs.declared.job.CancelWord.{CancelWord}
use Rattle.pure_machine.specs.declared.policy.Group.{Group}
use Rattle.pure_machine.specs.declared.policy.Group.TheVariants.{Session, Theory}
use Rattle.pure_machine.specs.declared.policy.Cancel.{Cancel}
use Rattle.pure_machine.specs.Policy.{Policy}
use Rattle.pure_policy.specs.Asked.{Asked}
use Rattle.pure_policy.specs.Heeded.{session_word}

-- the index of the first theory with the name, counted from 1
abbrev pub index_of : List Loaded → (name : List ℕ) → Option ℕ
index_of theories name = position_from (λ (t : Loaded). same name t.name) 1 theories

-- the group with the name, if there is one: the session by its word, even where a theory has that name, and else a theory
abbrev pub group_of : List Loaded → (name : List ℕ) → Option Group
group_of theories name = if same name session_word then Some Session else option_map Theory (index_of theories name)

-- the cancellation that a word asks for, where its group is there
abbrev pub cancel_of : List Loaded → CancelWord → Option Cancel
cancel_of theories c = option_map (λ g. record { group = g; after = c.after }) (group_of theories c.group)

-- the first fault cancels all where that is asked, and of each word in order the cancellation, where its group is there
abbrev pub policy_of : List Loaded → Asked → Policy
policy_of theories asked = record { fail_fast = asked.fail_fast; cancels = filter_map (cancel_of theories) asked.cancels }
