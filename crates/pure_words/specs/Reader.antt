-- The reader of words, a word at a time.
use Rattle.std.specs.Prelude.{ℕ, ◌==◌, Bool, List, [], ◌∷◌, Option, Some, None, nat_eq, take, drop, length, codes, if◌then◌else◌, option_and_then}
use Rattle.std.specs.Cmp.Lexicographic.{pointwise}
use Rattle.pure_grammar.specs.Tokens.Bytes.{head_is}
use Rattle.pure_grammar.specs.Theories.Lexeme.{same}
use Rattle.pure_words.specs.Commands.{job_of}
use Rattle.pure_words.specs.Words.{dash, no_given, with_value, with_fail_fast, with_argument}
use Rattle.pure_words.specs.declared.job.Job.{Job}
use Rattle.pure_words.specs.declared.given.Given.{Given}
use Rattle.pure_words.specs.declared.given.Key.{Key}
use Rattle.pure_words.specs.declared.given.Key.TheVariants.{Jobs, Cancel}
use Rattle.pure_words.specs.declared.given.Turn.{Turn}
use Rattle.pure_words.specs.declared.given.Turn.TheVariants as turn

-- What was given so far, and whether an option waits for its value; or some word was refused.
pub data Place : Type 0 where
  Refused : Place
  Idle : Given → Place
  Waits : Key → Given → Place

-- the word begins so
abbrev pub begins : List ℕ → List ℕ → Bool
begins front word = pointwise nat_eq (take (length front) word) front

-- a word that is an option with its value, or an argument
unfoldable pub met_joined : Given → List ℕ → Place
met_joined g word =
    if begins (codes "--jobs=") word then Idle (with_value Jobs (drop 7 word) g)
    else (if begins (codes "--cancel=") word then Idle (with_value Cancel (drop 9 word) g)
    else (if begins (codes "-j") word then Idle (with_value Jobs (drop 2 word) g)
    else (if head_is (λ b. b == dash) word then Refused
    else Idle (with_argument word g))))

-- a word that isn't the value of the option before it
unfoldable pub met : Given → List ℕ → Place
met g word =
    if same word (codes "--jobs") then Waits Jobs g
    else (if same word (codes "-j") then Waits Jobs g
    else (if same word (codes "--cancel") then Waits Cancel g
    else (if same word (codes "--fail-fast") then Idle (with_fail_fast word g)
    else met_joined g word)))

-- one more word
abbrev pub step : Place → List ℕ → Place
step Refused word = Refused
step (Idle g) word = met g word
step (Waits key g) word = Idle (with_value key word g)

-- all of these words, one after the other
abbrev pub run : Place → List (List ℕ) → Place
run place [] = place
run place (word ∷ words) = run (step place word) words

-- what was given, where no option waits and no word was refused
abbrev pub given_in : Place → Option Given
given_in (Idle g) = Some g
given_in _ = None

-- what the words give
abbrev pub read : List (List ℕ) → Option Given
read words = given_in (run (Idle no_given) words)

-- the job of the words
abbrev pub job_in : List (List ℕ) → Option Job
job_in [] = job_of (codes "check") no_given
job_in (name ∷ words) = option_and_then (job_of name) (read words)

-- the code's state as such a place
abbrev pub seen : Turn → Given → Place
seen turn.Refused g = Refused
seen turn.Idle g = Idle g
seen (turn.Waits key) g = Waits key g
