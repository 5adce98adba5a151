use Rattle.pure_record.specs.Seen.{seen_items, seen_lines}
use Rattle.pure_replay.proofs.LoopLaws.{items-fault, replayed-over, content_of_good, pure_below}
use Rattle.pure_replay.proofs.replayed.replayed.Goals as goal

pub last_proposition-requires-clause-content : goal.last_proposition-requires-clause-content
last_proposition-requires-clause-content c = content_of_good (seen_items c.args.items.now) c.in-Ok.ensures.1 c.in-Ok.declared c.in-Ok.ensures.0

pub last_proposition-requires-clause-above : goal.last_proposition-requires-clause-above
last_proposition-requires-clause-above c = pure_below (seen_items c.args.items.now) c.in-Ok.declared c.in-Ok.ensures.0

pub returns-in-Ok : goal.returns-in-Ok
returns-in-Ok c =
    replayed-over (seen_items c.args.items.now) (seen_lines c.args.nodes.now) c.in-Ok.ensures.1 c.in-Ok.declared c.in-Ok.ensures.0 c.last_proposition.result c.last_proposition.ensures

pub returns-in-Err : goal.returns-in-Err
returns-in-Err c = items-fault (seen_items c.args.items.now) (seen_lines c.args.nodes.now) c.in-Err.fault c.in-Err.ensures
