-- The subcommands: the options, flags and arguments of each, and the job that they give.
use Rattle.std.specs.Prelude.{◌≡◌, ℕ, ◌*◌, ◌==◌, Bool, true, false, ◌&&◌, ◌||◌, List, [], ◌∷◌, Option, Some, None, length, nat_le, codes, if◌then◌else◌, option_and_then}
use Rattle.pure_grammar.specs.Theories.Lexeme.{same}
use Rattle.pure_lex.specs.Identifier.{is_identifier}
use Rattle.pure_words.specs.Values.{comma, number_of, within, parts, cancels_in, full_name_of}
use Rattle.pure_words.specs.Table.{row_of, subcommand_named}
use Rattle.pure_words.specs.declared.job.CancelWord.{CancelWord}
use Rattle.pure_words.specs.declared.job.Job.{Job}
use Rattle.pure_words.specs.declared.job.Job.TheVariants.{Check, Generate, Places, Axioms, Graph, Show, Replay, Find, Try}
use Rattle.pure_words.specs.declared.given.Given.{Given}
use Rattle.pure_words.specs.declared.command.Size.{Size}
use Rattle.pure_words.specs.declared.table.Subcommand.{Subcommand}
use Rattle.pure_words.specs.declared.table.Subcommand.TheVariants as table
use Rattle.pure_words.specs.declared.table.Takes.{Takes}

-- nothing is given
abbrev pub is_none : List (List ℕ) → Bool
is_none [] = true
is_none (value ∷ values) = false

-- `-j`, `--jobs`: 1 to 64, at most once, and 1 where it isn't given
abbrev pub workers_of : List (List ℕ) → Option ℕ
workers_of [] = Some 1
workers_of (value ∷ []) = within 1 64 (number_of value)
workers_of _ = None

-- `--fail-fast`: whether it is given, at most once
abbrev pub fail_fast_of : List (List ℕ) → Option Bool
fail_fast_of [] = Some false
fail_fast_of (flag ∷ []) = Some true
fail_fast_of _ = None

-- `--cancel`: a list of cancellations joined by commas, at most once, and no cancellations where it isn't given
abbrev pub cancels_of : List (List ℕ) → Option (List CancelWord)
cancels_of [] = Some []
cancels_of (value ∷ []) = cancels_in (parts comma value)
cancels_of _ = None

-- the numbers of a library, where all are in range and their product is
abbrev pub sized : Option ℕ → Option ℕ → Option ℕ → Option Size
sized (Some start) (Some theories) (Some lemmas) =
    if nat_le (theories * lemmas) 4096 then Some (record { start = start; theories = theories; lemmas = lemmas }) else None
sized _ _ _ = None

-- START, THEORIES and LEMMAS, where THEORIES times LEMMAS is at most 4,096
abbrev pub size_of : List (List ℕ) → Option Size
size_of (start ∷ theories ∷ lemmas ∷ []) =
    sized (within 0 65536 (number_of start)) (within 1 64 (number_of theories)) (within 1 512 (number_of lemmas))
size_of _ = None

-- NAME, the only argument: a qualified name
abbrev pub name_given : List (List ℕ) → Option (List ℕ)
name_given (name ∷ []) = full_name_of name
name_given _ = None

-- NAME, the only argument: an identifier
abbrev pub identifier_given : List (List ℕ) → Option (List ℕ)
identifier_given (name ∷ []) = if is_identifier name then Some name else None
identifier_given _ = None

-- the job of `check`, where all its values are right
abbrev pub checked : Option ℕ → Option Bool → Option (List CancelWord) → Option Job
checked (Some workers) (Some fail_fast) (Some cancels) = Some (Check workers fail_fast cancels)
checked _ _ _ = None

-- the job of `generate`, where all its values are right
abbrev pub generated : Option ℕ → Option Size → Option Job
generated (Some workers) (Some size) = Some (Generate workers size.start size.theories size.lemmas)
generated _ _ = None

-- the job of `places`, where all its values are right
abbrev pub with_places : Option ℕ → Option Job
with_places (Some workers) = Some (Places workers)
with_places None = None

-- the job of `axioms`, where all its values are right
abbrev pub with_axioms : Option ℕ → Option (List ℕ) → Option Job
with_axioms (Some workers) (Some name) = Some (Axioms workers name)
with_axioms _ _ = None

-- the job of `graph`, where all its values are right
abbrev pub with_graph : Option ℕ → Option Job
with_graph (Some workers) = Some (Graph workers)
with_graph None = None

-- the job of `show`, where its name is right
abbrev pub with_show : Option (List ℕ) → Option Job
with_show (Some name) = Some (Show name)
with_show None = None

-- the job of `replay`, where its name is right
abbrev pub with_replay : Option (List ℕ) → Option Job
with_replay (Some name) = Some (Replay name)
with_replay None = None

-- the job of `find`, where its name is right
abbrev pub with_find : Option (List ℕ) → Option Job
with_find (Some name) = Some (Find name)
with_find None = None

-- the job of `try`, where all its values are right
abbrev pub tried : Option ℕ → Option (List ℕ) → Option Job
tried (Some workers) (Some name) = Some (Try workers name)
tried _ _ = None

-- `check`: --jobs, --fail-fast and --cancel, and no arguments
abbrev pub check_of : Given → Option Job
check_of g =
    if is_none g.arguments then checked (workers_of g.jobs) (fail_fast_of g.fail_fast) (cancels_of g.cancels) else None

-- `generate`: --jobs, and three arguments
abbrev pub generate_of : Given → Option Job
generate_of g =
    if is_none g.cancels && is_none g.fail_fast then generated (workers_of g.jobs) (size_of g.arguments) else None

-- `places`: --jobs, and no arguments
abbrev pub places_of : Given → Option Job
places_of g =
    if is_none g.cancels && (is_none g.fail_fast && is_none g.arguments) then with_places (workers_of g.jobs) else None

-- `axioms`: --jobs, and NAME
abbrev pub axioms_of : Given → Option Job
axioms_of g =
    if is_none g.cancels && is_none g.fail_fast then with_axioms (workers_of g.jobs) (name_given g.arguments) else None

-- `graph`: --jobs, and no arguments
abbrev pub graph_of : Given → Option Job
graph_of g =
    if is_none g.cancels && (is_none g.fail_fast && is_none g.arguments) then with_graph (workers_of g.jobs) else None

-- `show`: NAME
abbrev pub show_of : Given → Option Job
show_of g =
    if is_none g.jobs && (is_none g.cancels && is_none g.fail_fast) then with_show (name_given g.arguments) else None

-- `replay`: NAME
abbrev pub replay_of : Given → Option Job
replay_of g =
    if is_none g.jobs && (is_none g.cancels && is_none g.fail_fast) then with_replay (identifier_given g.arguments) else None

-- `find`: NAME
abbrev pub find_of : Given → Option Job
find_of g =
    if is_none g.jobs && (is_none g.cancels && is_none g.fail_fast) then with_find (name_given g.arguments) else None

-- `try`: --jobs, and NAME
abbrev pub try_of : Given → Option Job
try_of g =
    if is_none g.cancels && is_none g.fail_fast then tried (workers_of g.jobs) (name_given g.arguments) else None

-- an option, a flag or an argument is given only where the subcommand takes it, and it has all its arguments
abbrev pub is_taken : Takes → Given → Bool
is_taken t g =
    (t.jobs || is_none g.jobs) && ((t.cancel || is_none g.cancels) && ((t.fail_fast || is_none g.fail_fast) && length g.arguments == t.arguments))

-- the job of a subcommand, by the values of what it takes
abbrev pub job_given : Subcommand → Given → Option Job
job_given table.Check g = checked (workers_of g.jobs) (fail_fast_of g.fail_fast) (cancels_of g.cancels)
job_given table.Generate g = generated (workers_of g.jobs) (size_of g.arguments)
job_given table.Places g = with_places (workers_of g.jobs)
job_given table.Axioms g = with_axioms (workers_of g.jobs) (name_given g.arguments)
job_given table.Graph g = with_graph (workers_of g.jobs)
job_given table.Show g = with_show (name_given g.arguments)
job_given table.Replay g = with_replay (identifier_given g.arguments)
job_given table.Find g = with_find (name_given g.arguments)
job_given table.Try g = tried (workers_of g.jobs) (name_given g.arguments)

-- the job of a subcommand, where it takes what is given
abbrev pub job_by : Given → Subcommand → Option Job
job_by g s = if is_taken (row_of s) g then job_given s g else None

-- The job of the subcommand with this name, where what is given is right for it.
unfoldable pub job_of : List ℕ → Given → Option Job
job_of name g = option_and_then (job_by g) (subcommand_named name)

-- What the table says, by subcommand.
abbrev pub TableMeans : Type 0
TableMeans = (name : List ℕ) (g : Given) → job_of name g
    ≡ (if same name (codes "check") then check_of g
    else (if same name (codes "generate") then generate_of g
    else (if same name (codes "places") then places_of g
    else (if same name (codes "axioms") then axioms_of g
    else (if same name (codes "graph") then graph_of g
    else (if same name (codes "show") then show_of g
    else (if same name (codes "replay") then replay_of g
    else (if same name (codes "find") then find_of g
    else (if same name (codes "try") then try_of g
    else None)))))))))
