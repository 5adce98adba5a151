use Rattle.std.proofs.Common.{◌∙◌, ap}
use Rattle.pure_session.specs.Waiting.{all_loaded}
use Rattle.pure_check.specs.Jobs.Graph.{names_of}
use Rattle.pure_check.proofs.graphed.graph_answer.Goals as goal

pub with_names-requires-clause-names : goal.with_names-requires-clause-names
with_names-requires-clause-names g c κs = λ _. c.as_slice-in-Ok.ensures.value ∙ (c.in-Ok.ensures ∙ ap (λ ts. names_of (all_loaded ts)) c.as_slice.ensures.value)
