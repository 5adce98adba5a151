use Rattle.std.proofs.Common.{List, subst}
use Rattle.pure_record.specs.Seen.{seen_items, seen_lines}
use Rattle.pure_record.specs.declared.record.Item.{Item}
use Rattle.pure_record.specs.declared.record.Node.{Node}
use Rattle.pure_replay.specs.Replayed.{IsReplayed}
use Rattle.pure_replay.proofs.LoopLaws.{derivable-answer}
use Rattle.pure_replay.proofs.replayed.replay.Goals as goal

pub returns-clause-answer : goal.returns-clause-answer
returns-clause-answer c =
    subst (λ (xs : List Item). IsReplayed (seen_items xs) (seen_lines c.args.rec.now.lines.items) c.replayed.result) c.deref.ensures.value
    (subst (λ (ns : List Node). IsReplayed (seen_items c.deref.result.now) (seen_lines ns) c.replayed.result) c.deref-2.ensures.value c.replayed.ensures)

pub returns-clause-derivable : goal.returns-clause-derivable
returns-clause-derivable c = derivable-answer (seen_items c.args.rec.now.items.items) (seen_lines c.args.rec.now.lines.items) c.replayed.result (returns-clause-answer c)
