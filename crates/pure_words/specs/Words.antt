-- The grammar of the command line.
use Rattle.std.specs.Prelude.{◌≡◌, ℕ, ◌==◌, Bool, true, not, List, [], ◌∷◌, ◌++◌, Some, codes}
use Rattle.std.specs.List.{list_all}
use Rattle.pure_grammar.specs.Tokens.Bytes.{head_is, is_empty}
use Rattle.pure_words.specs.Commands.{job_of}
use Rattle.pure_words.specs.declared.job.Job.{Job}
use Rattle.pure_words.specs.declared.given.Given.{Given}
use Rattle.pure_words.specs.declared.given.Key.{Key}
use Rattle.pure_words.specs.declared.given.Key.TheVariants.{Jobs, Cancel}

abbrev pub dash : ℕ
dash = 45

abbrev pub equals_sign : ℕ
equals_sign = 61

-- an option's long name
abbrev pub long_name : Key → List ℕ
long_name Jobs = codes "--jobs"
long_name Cancel = codes "--cancel"

-- One option with its value, one flag or one argument, by how it is written.
pub data Item : Type 0 where
  -- `--jobs V`
  Apart : (key : Key) → (value : List ℕ) → Item
  -- `--jobs=V`
  Joined : (key : Key) → (value : List ℕ) → Item
  -- `-j V`
  ShortApart : (value : List ℕ) → Item
  -- `-jV`
  ShortJoined : (value : List ℕ) → Item
  -- `--fail-fast`
  FailFast : Item
  Argument : (value : List ℕ) → Item

-- Behind `-j` stands something, and an argument doesn't begin with a dash.
abbrev pub is_well_formed : Item → Bool
is_well_formed (ShortJoined value) = not (is_empty value)
is_well_formed (Argument value) = not (head_is (λ b. b == dash) value)
is_well_formed _ = true

-- the words as which an item is written
abbrev pub words_of_item : Item → List (List ℕ)
words_of_item (Apart key value) = long_name key ∷ value ∷ []
words_of_item (Joined key value) = (long_name key ++ equals_sign ∷ value) ∷ []
words_of_item (ShortApart value) = codes "-j" ∷ value ∷ []
words_of_item (ShortJoined value) = (codes "-j" ++ value) ∷ []
words_of_item FailFast = codes "--fail-fast" ∷ []
words_of_item (Argument value) = value ∷ []

-- the words of items, one behind another
abbrev pub words_of : List Item → List (List ℕ)
words_of [] = []
words_of (item ∷ items) = words_of_item item ++ words_of items

-- nothing is given
abbrev pub no_given : Given
no_given = record { jobs = []; cancels = []; fail_fast = []; arguments = [] }

-- one more value of an option, behind the others
abbrev pub with_value : Key → List ℕ → Given → Given
with_value Jobs value g = record g { jobs = g.jobs ++ value ∷ [] }
with_value Cancel value g = record g { cancels = g.cancels ++ value ∷ [] }

-- the flag once more
abbrev pub with_fail_fast : List ℕ → Given → Given
with_fail_fast flag g = record g { fail_fast = g.fail_fast ++ flag ∷ [] }

-- one more argument
abbrev pub with_argument : List ℕ → Given → Given
with_argument value g = record g { arguments = g.arguments ++ value ∷ [] }

-- what an item adds
abbrev pub with_item : Item → Given → Given
with_item (Apart key value) g = with_value key value g
with_item (Joined key value) g = with_value key value g
with_item (ShortApart value) g = with_value Jobs value g
with_item (ShortJoined value) g = with_value Jobs value g
with_item FailFast g = with_fail_fast (codes "--fail-fast") g
with_item (Argument value) g = with_argument value g

-- The values of each option, the flags and the arguments, in their order, behind those that were given before.
abbrev pub given_by : Given → List Item → Given
given_by g [] = g
given_by g (item ∷ items) = given_by (with_item item g) items

-- The words are items in any mixture, which give this job of the subcommand.
pub record IsCommand (name : List ℕ) (words : List (List ℕ)) (job : Job) : Type 0 where
  pub items : List Item
  pub words_are : words ≡ words_of items
  pub are_well_formed : list_all is_well_formed items ≡ true
  pub job_is : job_of name (given_by no_given items) ≡ Some job

-- These words are this job: none is read as `check`, otherwise the first names the subcommand.
abbrev pub IsJob : List (List ℕ) → Job → Type 0
IsJob [] job = IsCommand (codes "check") [] job
IsJob (name ∷ words) job = IsCommand name words job

-- No words are two jobs.
abbrev pub OneReading : Type 0
OneReading = (words : List (List ℕ)) (job other : Job) → IsJob words job → IsJob words other → job ≡ other
