-- The same table as a command of `clap`.
use Rattle.std.specs.Prelude.{◌≡◌, ℕ, Bool, true, false, List, [], ◌∷◌, ◌++◌, Option, Some, None, codes, if◌then◌else◌, nat_lt}
use Rattle.clap.specs.Words.{App, Row, Rule, first_of, new_app, new_rule, subcommand_of, subcommand_rows_of, takes, with_rule, with_subcommand}
use Rattle.clap.specs.declared.builder.action.ArgAction.TheVariants.{SetTrue}
use Rattle.clap.specs.declared.parser.matches.ArgMatches.{ArgMatches}
use Rattle.pure_grammar.specs.Theories.Lexeme.{same}
use Rattle.pure_words.specs.Commands.{job_of}
use Rattle.pure_words.specs.Words.{IsCommand}
use Rattle.pure_words.specs.Table.{name_of, row_of}
use Rattle.pure_words.specs.declared.table.Subcommand.{Subcommand}
use Rattle.pure_words.specs.declared.table.Subcommand.TheVariants.{Check, Generate, Places, Axioms, Graph, Show, Replay, Find, Try}
use Rattle.pure_words.specs.declared.given.Given.{Given}
use Rattle.pure_words.specs.declared.job.Job.{Job}
use Rattle.pure_words.specs.declared.table.Takes.{Takes}

abbrev pub jobs_rule : Rule
jobs_rule = record (new_rule (codes "jobs")) { short = Some 106; long = Some (codes "jobs") }

abbrev pub cancel_rule : Rule
cancel_rule = record (new_rule (codes "cancel")) { long = Some (codes "cancel") }

abbrev pub fail_fast_rule : Rule
fail_fast_rule = record (new_rule (codes "fail-fast")) { long = Some (codes "fail-fast"); action = Some SetTrue }

-- an argument that must be there
abbrev pub argument_rule : List ℕ → Rule
argument_rule id = record (new_rule id) { required = true }

-- with this rule where it is taken
abbrev pub with_rule_if : Bool → Rule → App → App
with_rule_if is_taken rule a = if is_taken then with_rule a rule else a

abbrev pub with_options : Takes → App → App
with_options t a = with_rule_if t.fail_fast fail_fast_rule (with_rule_if t.cancel cancel_rule (with_rule_if t.jobs jobs_rule a))

abbrev pub with_arguments : ℕ → App → App
with_arguments n a =
    with_rule_if (nat_lt 2 n) (argument_rule (codes "third"))
    (with_rule_if (nat_lt 1 n) (argument_rule (codes "second")) (with_rule_if (nat_lt 0 n) (argument_rule (codes "first")) a))

-- a subcommand with all that it takes
abbrev pub subcommand_app : Subcommand → App
subcommand_app s = with_arguments (row_of s).arguments (with_options (row_of s) (new_app (name_of s)))

-- a command without help, whose words begin with the subcommand
abbrev pub bare_app : App
bare_app = record (new_app (codes "pure")) {
  top = record (new_app (codes "pure")).top { no_binary_name = true; disable_help_flag = true; disable_help_subcommand = true };
}

-- with one more subcommand
abbrev pub with_made : App → Subcommand → App
with_made a s = with_subcommand a (subcommand_app s).top

-- the whole command
abbrev pub line_app : App
line_app = with_made (with_made (with_made (with_made (with_made (with_made (with_made (with_made (with_made bare_app Check) Generate) Places) Axioms) Graph) Show) Replay) Find) Try

-- ---- what the matches give

-- a value that is there, as a list
abbrev pub listed : Option (List ℕ) → List (List ℕ)
listed None = []
listed (Some value) = value ∷ []

-- the flag, where its value is `true`
abbrev pub flag_of : Option (List ℕ) → List (List ℕ)
flag_of None = []
flag_of (Some value) = if same value (codes "true") then codes "--fail-fast" ∷ [] else []

-- whether the rows have the flag, and their arguments
abbrev pub flag_in : List Row → List (List ℕ)
flag_in rows = flag_of (first_of (codes "fail-fast") rows)

abbrev pub arguments_in : List Row → List (List ℕ)
arguments_in rows =
    (listed (first_of (codes "first") rows) ++ listed (first_of (codes "second") rows)) ++ listed (first_of (codes "third") rows)

-- what a subcommand's rows give: the first value of each option and argument, and whether the flag is on
abbrev pub given_of : List Row → Given
given_of rows = record {
  jobs = listed (first_of (codes "jobs") rows);
  cancels = listed (first_of (codes "cancel") rows);
  fail_fast = flag_in rows;
  arguments = arguments_in rows;
}

-- `clap` takes the line, finds the subcommand of this name, and what its rows give is the job.
pub record IsRead (name : List ℕ) (words : List (List ℕ)) (job : Job) : Type 0 where
  pub rows : List Row
  pub is_taken : takes line_app (name ∷ words) ≡ true
  pub is_entered : subcommand_of line_app (name ∷ words) ≡ Some (name, rows)
  pub gives : job_of name (given_of rows) ≡ Some job

-- The words of a job are read so.
abbrev pub AllAreRead : Type 0
AllAreRead = (name : List ℕ) (words : List (List ℕ)) (job : Job) → IsCommand name words job → IsRead name words job

-- the matches have this subcommand, and what its rows give is the job
abbrev pub FindsJob : List ℕ → Job → ArgMatches → Type 0
FindsJob name job m = (rows : List Row) × (subcommand_rows_of m ≡ Some (name, rows)) × (job_of name (given_of rows) ≡ Some job)
