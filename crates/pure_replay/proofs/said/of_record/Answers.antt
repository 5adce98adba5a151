use Rattle.std.proofs.Common.{◌∙◌}
use Rattle.pure_record.specs.Seen.{seen_items, seen_lines}
use Rattle.pure_replay.proofs.SaidLaws.{said-refused, said-replayed}
use Rattle.pure_replay.proofs.said.of_record.Goals as goal

pub returns-in_ok-said-in-Ok : goal.returns-in_ok-said-in-Ok
returns-in_ok-said-in-Ok c = λ source tokens spells spelled.
    said-replayed source tokens spells c.args.rec.now.names (seen_items c.args.rec.now.items.items) (seen_lines c.args.rec.now.lines.items) spelled c.in-Ok.prop c.in-Ok.ensures.answer c.bytes.result.now
    c.in_ok-said-in-Ok.said.text c.in_ok-said-in-Ok.said.is_yes (c.bytes.ensures ∙ c.in_ok-text-in-Ok.ensures.printed) c.in_ok-said-in-Ok.ensures.text c.in_ok-said-in-Ok.ensures.yes

pub returns-in_ok-said-in-Err : goal.returns-in_ok-said-in-Err
returns-in_ok-said-in-Err c = λ source tokens spells spelled.
    said-refused source tokens spells c.args.rec.now.names (seen_items c.args.rec.now.items.items) (seen_lines c.args.rec.now.lines.items) spelled c.in-Err.fault c.in_ok-words-in-Err.ensures.fault c.in-Err.ensures.answer
    c.deref.result.now c.in_ok-said-in-Err.said.text c.in_ok-said-in-Err.said.is_yes (c.deref.ensures.value ∙ c.in_ok-words-in-Err.ensures.words) c.in_ok-said-in-Err.ensures.text c.in_ok-said-in-Err.ensures.no
