use Rattle.std.proofs.Common.{take, subst, sym, List, []}
use Rattle.pure_record.specs.Seen.{seen_lines}
use Rattle.pure_replay.specs.Conclusion.{Conclusion}
use Rattle.pure_replay.specs.Step.{plain_content}
use Rattle.pure_replay.specs.Lines.{most_size}
use Rattle.pure_replay.specs.Table.{IsTable}
use Rattle.pure_replay.proofs.KnownLaws.{none-numbered}
use Rattle.pure_replay.proofs.LoopLaws.{table-none, table-closed, table-room, table-turn, table-stop, table-all}
use Rattle.pure_replay.proofs.lines.conclusions.Goals as goal

pub loop-place-init : goal.loop-place-init
loop-place-init c = (
  subst (λ (cs : List Conclusion). IsTable (plain_content c.args.declared.now) [] cs most_size) (sym c.new.ensures.items) (table-none (plain_content c.args.declared.now)),
  none-numbered _ _ _ c.new.ensures.items c.empty.ensures.lines,
)

pub step-requires-clause-numbered : goal.step-requires-clause-numbered
step-requires-clause-numbered c = c.loop-place.invariant.1

pub step-requires-clause-closed : goal.step-requires-clause-closed
step-requires-clause-closed c =
    table-closed (plain_content c.args.declared.now) c.requires.content c.requires.above (seen_lines (take c.loop-place.place c.args.nodes.now)) c.loop-place.table.conclusions.items c.loop-place.table.left c.loop-place.invariant.0

pub step-requires-clause-room : goal.step-requires-clause-room
step-requires-clause-room c =
    table-room (plain_content c.args.declared.now) (seen_lines (take c.loop-place.place c.args.nodes.now)) c.loop-place.table.conclusions.items c.loop-place.table.left c.loop-place.invariant.0

pub loop-place-preserved : goal.loop-place-preserved
loop-place-preserved c = (
  table-turn (plain_content c.args.declared.now) c.requires.content c.args.nodes.now c.loop-place.place c.index-nodes-place.result c.loop-place-test.true c.index-nodes-place.is c.loop-place.table.conclusions.items
      c.loop-place.table.left c.loop-place.invariant.0 _ _ c.in-Ok.ensures.stepped,
  c.in-Ok.ensures.numbered,
)

pub returns-in-Err : goal.returns-in-Err
returns-in-Err c =
    table-stop (plain_content c.args.declared.now) c.requires.content c.args.nodes.now c.loop-place.place c.index-nodes-place.result c.loop-place-test.true c.index-nodes-place.is c.loop-place.table.conclusions.items c.loop-place.table.left
    c.loop-place.invariant.0 c.in-Err.fault c.in-Err.ensures.stepped

pub returns : goal.returns
returns c = table-all (plain_content c.args.declared.now) c.args.nodes.now c.loop-place.place c.loop-place.table.conclusions.items c.loop-place.table.left c.loop-place-test.false c.loop-place.invariant.0
