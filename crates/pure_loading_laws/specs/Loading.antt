-- That any files have a session. That they have one at most is a law of what a session is.
use Rattle.std.specs.Prelude.{ℕ, List, map, Option}
use Rattle.std.specs.List.Sorted.{IsStrictlySortedBy}
use Rattle.std.specs.Ordering.{nat_cmp}
use Rattle.std.specs.Cmp.Lexicographic.{slice_cmp}
use Rattle.pure_io.specs.declared.library.File as library
use Rattle.pure_graph.specs.Outcome.{Outcome, IsOwnOutcome}
use Rattle.pure_graph.specs.Reading.{Answer}
use Rattle.pure_graph.specs.Order.{Loaded}
use Rattle.pure_graph.specs.Session.{Refusal, Session, IsLoadingOf, IsSession}

-- The file of a theory says something by itself, whatever its bytes are, and where it is missing.
abbrev pub EachFileSaysSomething : Type 0
EachFileSaysSomething = (theory : List ℕ) (bytes : Option (List ℕ)) → (outcome : Outcome) × IsOwnOutcome theory bytes outcome

-- Theories in byte order, with any answers on their files, have a loading.
abbrev pub AnswersHaveALoading : Type 0
AnswersHaveALoading = (answers : List Answer) → IsStrictlySortedBy (slice_cmp nat_cmp) (map (λ (a : Answer). a.theory) answers)
    → (theories : List Loaded) × (refused : List Refusal) × (files : ℕ) × IsLoadingOf answers theories refused files

-- Any files have a session.
abbrev pub FilesHaveASession : Type 0
FilesHaveASession = (files : List library.File) → (session : Session) × IsSession files session
