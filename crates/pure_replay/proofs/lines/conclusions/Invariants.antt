use Rattle.std.proofs.Common.{take}
use Rattle.pure_record.specs.Seen.{seen_lines}
use Rattle.pure_replay.specs.Step.{plain_content}
use Rattle.pure_replay.specs.Known.{AreNumbered}
use Rattle.pure_replay.specs.Table.{IsTable}
use Rattle.pure_replay.proofs.lines.conclusions.Given as goal

-- the table is that of the nodes so far, and their conclusions have their numbers
abbrev pub invariant-loop-place : goal.invariant-loop-place
invariant-loop-place l = IsTable (plain_content l.declared) (seen_lines (take l.place l.nodes)) l.table.conclusions.items l.table.left × AreNumbered l.table.known.terms.items l.table.conclusions.items l.table.known.lines.items
