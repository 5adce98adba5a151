use Rattle.pure_script.specs.Seen.{seen_command}
use Rattle.pure_graph.specs.Limits.{most_parts}
use Rattle.pure_graph.specs.Outcome.{has_long_proof}
use Rattle.pure_graph.proofs.HeaderLemmas.{few-long}
use Rattle.pure_graph.proofs.header.is_large.Goals as goal

pub returns-else-has_many_parts : goal.returns-else-has_many_parts
returns-else-has_many_parts c =
    few-long (most_parts c.args.text.now.version) _ _ _ has_long_proof seen_command c.args.text.now.commands.items (rw c.as_slice.ensures.value at c.has_many_parts.ensures) c.if-has_many_parts.false
    (rw c.as_slice-else-has_many_parts.ensures.value at c.have_long_proof.ensures)
