use Rattle.std.proofs.Common.{◌∙◌, ap, codes}
use Rattle.std.proofs.lemmas.Result.{IfOk-weaker}
use Rattle.clap.specs.Matches.{found_of}
use Rattle.pure_words.specs.Line.{flag_of}
use Rattle.pure_words.proofs.Calls.{first_is}
use Rattle.pure_words.proofs.line.flag.Goals as goal

pub returns-in-Some : goal.returns-in-Some
returns-in-Some c = IfOk-weaker c.flag_values.result _ _ (λ vs e. e ∙ ap flag_of (first_is (found_of c.args.matches.now) (codes "fail-fast") _ c.in-Some.ensures)) c.flag_values.ensures

pub returns-in-None : goal.returns-in-None
returns-in-None c = c.none.ensures ∙ ap flag_of (first_is (found_of c.args.matches.now) (codes "fail-fast") _ c.in-None.ensures)
