use Rattle.std.proofs.Common.{◌≡◌, ℕ, subst, nat_lt}
use Rattle.pure_script.specs.Seen.{seen_commands}
use Rattle.pure_graph.specs.Outcome.{part_count}
use Rattle.pure_graph.proofs.HeaderLemmas.{is-many}
use Rattle.pure_graph.proofs.header.has_many_parts.Goals as goal

pub returns : goal.returns
returns c =
    subst (λ (m : ℕ). c.is_none.result ≡ nat_lt m (part_count (seen_commands c.args.commands.now))) c.most_parts.ensures
    (is-many c.parts_within.result c.is_none.result c.most_parts.result (part_count (seen_commands c.args.commands.now)) c.is_none.ensures c.parts_within.ensures)
