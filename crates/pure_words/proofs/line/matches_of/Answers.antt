use Rattle.std.proofs.lemmas.Result.{IfErr-weaker, IfOk-weaker}
use Rattle.pure_words.proofs.Calls.{line_finds, line_is_taken}
use Rattle.pure_words.proofs.line.matches_of.Goals as goal

pub returns-clause-ok : goal.returns-clause-ok
returns-clause-ok c = λ name rest job are spelled.
    IfOk-weaker c.try_get_matches_from.result _ _ (λ m has. line_finds _ _ m name rest job c.in_ok-command.ensures are spelled has) c.try_get_matches_from.ensures.matches

pub returns-clause-memory : goal.returns-clause-memory
returns-clause-memory c = λ name rest job are spelled.
    IfErr-weaker c.try_get_matches_from.result _ _ (λ e only. only (line_is_taken _ _ name rest job c.in_ok-command.ensures are spelled)) c.try_get_matches_from.ensures.passes
