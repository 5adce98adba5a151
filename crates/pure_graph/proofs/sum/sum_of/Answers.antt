use Rattle.std.proofs.Common.{◌+◌}
use Rattle.pure_script.specs.Seen.{seen_commands}
use Rattle.pure_graph.specs.Limits.{most_session_parts, session_parts_bound}
use Rattle.pure_graph.specs.Outcome.{part_count}
use Rattle.pure_graph.proofs.LimitLemmas.{session-parts-bounded}
use Rattle.pure_graph.proofs.SumLemmas.{room-or-not}
use Rattle.pure_graph.proofs.sum.sum_of.Goals as goal

pub returns-in-Stands : goal.returns-in-Stands
returns-in-Stands c =
    rw c.in-Stands.is
    (room-or-not c.sum_with.result (most_session_parts c.in-Stands.text.version) session_parts_bound (c.args.before + part_count (seen_commands c.in-Stands.text.commands.items))
    (session-parts-bounded c.in-Stands.text.version) (rw c.as_slice.ensures.value at c.sum_with.ensures))
