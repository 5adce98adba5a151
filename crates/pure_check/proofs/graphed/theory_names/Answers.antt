use Rattle.std.proofs.Common.{◌∙◌, ◌++◌, take, [], ◌∷◌}
use Rattle.pure_text.proofs.LoopLaws.{longer_by}
use Rattle.pure_session.specs.Waiting.{seen_loaded, all_loaded}
use Rattle.pure_check.specs.Jobs.Graph.{names_of}
use Rattle.pure_check.proofs.GraphLemmas.{names-more}
use Rattle.pure_check.proofs.graphed.theory_names.Goals as goal

pub loop-theory-preserved : goal.loop-theory-preserved
loop-theory-preserved c =
    rw (longer_by c.args.theories.now c.loop-theory.theory-index c.theory-item.result c.loop-theory-test.true c.theory-item.is, c.in_ok-push.ensures.items)
    (names-more (take c.loop-theory.theory-index c.args.theories.now) c.theory-item.result _ _ c.loop-theory.invariant c.in_ok-copy.ensures)
