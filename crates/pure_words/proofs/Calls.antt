-- What the calls of `clap` tell of a grammatical line.
use Rattle.std.proofs.Common.{◌≡◌, ◌∙◌, ℕ, true, List, [], ◌∷◌, Option, Some, None, ap, ap₂}
use Rattle.clap.specs.Matches.{first_value}
use Rattle.clap.specs.Simple.{App, HasMatchesOf, is_simple, subcommand_of}
use Rattle.clap.specs.Takes.{takes}
use Rattle.clap.specs.Walk.{Text, first_of, rows_of}
use Rattle.clap.specs.declared.parser.matches.ArgMatches.{ArgMatches}
use Rattle.clap.specs.declared.parser.matches.Found.{Found}
use Rattle.clap.proofs.WalkLemmas.{first_value-rows}
use Rattle.pure_words.specs.Line.{FindsJob, line_app, listed}
use Rattle.pure_words.specs.Words.{IsCommand}
use Rattle.pure_words.specs.declared.job.Job.{Job}
use Rattle.pure_words.proofs.Answered.{all_are_read}

-- the line is taken, so that only memory can be wanted
pub line_is_taken : (app : App) (texts : List Text) (name : List ℕ) (rest : List (List ℕ)) (job : Job) → app ≡ line_app → texts ≡ name ∷ rest
    → IsCommand name rest job → takes app texts ≡ true
line_is_taken app texts name rest job is are c = ap₂ takes is are ∙ (all_are_read name rest job c).is_taken

-- the matches have the job
pub line_finds : (app : App) (texts : List Text) (m : ArgMatches) (name : List ℕ) (rest : List (List ℕ)) (job : Job) → app ≡ line_app → texts ≡ name ∷ rest
    → IsCommand name rest job → HasMatchesOf app texts m → FindsJob name job m
line_finds app texts m name rest job is are c has =
    let read = all_are_read name rest job c in
    let simple : is_simple app ≡ true = ap is_simple is in
    (read.rows, (has simple).1 ∙ ap₂ subcommand_of is are ∙ read.is_entered, read.gives)

-- a value that was got
pub got : (f : Found) (id v : List ℕ) → Some v ≡ first_value f id → v ∷ [] ≡ listed (first_of id (rows_of f))
got f id v e = ap listed (e ∙ first_value-rows f id)

pub got_none : (f : Found) (id : List ℕ) → None ≡ first_value f id → [] ≡ listed (first_of id (rows_of f))
got_none f id e = ap listed (e ∙ first_value-rows f id)

-- the first value, by the rows
pub first_is : (f : Found) (id : List ℕ) (o : Option (List ℕ)) → o ≡ first_value f id → o ≡ first_of id (rows_of f)
first_is f id o e = e ∙ first_value-rows f id
