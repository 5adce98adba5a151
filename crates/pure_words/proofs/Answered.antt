-- The words of a job, as `clap` reads them.
use Rattle.std.proofs.Common.{◌≡◌, ◌∙◌, ℕ, List, [], ◌∷◌, Some, sym, ap, ap₂}
use Rattle.clap.specs.Simple.{subcommand_of}
use Rattle.clap.specs.Takes.{takes}
use Rattle.clap.specs.Walk.{rows_after}
use Rattle.pure_words.specs.Commands.{job_of}
use Rattle.pure_words.specs.Line.{AllAreRead, line_app}
use Rattle.pure_words.specs.Table.{name_of}
use Rattle.pure_words.specs.Words.{given_by, no_given, words_of}
use Rattle.pure_words.proofs.Jobs.{job_fits, named}
use Rattle.pure_words.proofs.Lines.{leaf, line_entered, line_gives, line_taken}

pub all_are_read : AllAreRead
all_are_read name words job c =
    let n = named name (given_by no_given c.items) job c.job_is in
    let fits = job_fits n.subcommand (given_by no_given c.items) job n.job_is in
    let line : name ∷ words ≡ name_of n.subcommand ∷ words_of c.items = ap₂ (λ (x : List ℕ) (xs : List (List ℕ)). x ∷ xs) n.name_is c.words_are in
    record {
      rows = rows_after (leaf n.subcommand).rules [] (words_of c.items);
      is_taken = ap (takes line_app) line ∙ line_taken n.subcommand c.items c.are_well_formed fits.0 fits.1;
      is_entered = ap (subcommand_of line_app) line ∙ line_entered n.subcommand (words_of c.items)
          ∙ ap (λ x. Some (x, rows_after (leaf n.subcommand).rules [] (words_of c.items))) (sym n.name_is);
      gives = ap (job_of name) (line_gives n.subcommand c.items c.are_well_formed fits.0) ∙ c.job_is;
    }
