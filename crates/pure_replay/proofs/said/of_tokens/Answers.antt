use Rattle.std.proofs.Common.{◌∙◌}
use Rattle.pure_replay.proofs.SaidLaws.{said-unread}
use Rattle.pure_replay.proofs.said.of_tokens.Goals as goal

pub returns-in_ok-said-in-Err : goal.returns-in_ok-said-in-Err
returns-in_ok-said-in-Err c =
    said-unread c.args.source.now c.args.tokens.now c.requires.spelled c.in-Err.fault c.in_ok-words-in-Err.ensures.fault c.in-Err.ensures.fault
    c.deref.result.now c.in_ok-said-in-Err.said.text c.in_ok-said-in-Err.said.is_yes (c.deref.ensures.value ∙ c.in_ok-words-in-Err.ensures.words) c.in_ok-said-in-Err.ensures.text c.in_ok-said-in-Err.ensures.no
