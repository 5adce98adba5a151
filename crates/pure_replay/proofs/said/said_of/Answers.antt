use Rattle.std.proofs.Common.{◌∙◌}
use Rattle.pure_replay.proofs.SaidLaws.{said-untokened}
use Rattle.pure_replay.proofs.said.said_of.Goals as goal

pub returns-in_ok-said-in-Err-At : goal.returns-in_ok-said-in-Err-At
returns-in_ok-said-in-Err-At c =
    said-untokened c.args.source.now c.in-Err-At.at (rw c.in-Err-At.field-0-is at c.in-Err-At.ensures.fault)
    _ c.in_ok-said-in-Err-At.said.text c.in_ok-said-in-Err-At.said.is_yes (c.deref-in-Err-At.ensures.value ∙ c.in_ok-words-in-Err-At.ensures) c.in_ok-said-in-Err-At.ensures.text c.in_ok-said-in-Err-At.ensures.no
