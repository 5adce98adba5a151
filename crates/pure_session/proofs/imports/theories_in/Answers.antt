use Rattle.std.proofs.Common.{refl, ap}
use Rattle.pure_graph.specs.Seen.{seen_files}
use Rattle.pure_session.specs.ImportGraph.{theories}
use Rattle.pure_text.proofs.MergeLaws.{past_end}
use Rattle.pure_session.proofs.FoldLemmas.{rest_at, fold-step, fold-end}
use Rattle.pure_session.proofs.imports.theories_in.Goals as goal

pub loop-file-init : goal.loop-file-init
loop-file-init c = rw c.new-names.ensures.items refl

pub loop-file-preserved : goal.loop-file-preserved
loop-file-preserved c =
    fold-step c.loop-file.names.items c.push.new.self.items _ _ _ _ (ap (λ fs. theories (seen_files fs)) (rest_at c.args.files.now c.loop-file.file-index _ c.loop-file-test.true c.file-item.is))
    c.loop-file.invariant (rw c.in_ok-copy.ensures at c.in_ok-push.ensures.items)

pub returns : goal.returns
returns c =
    fold-end c.loop-file.names.items _ _ (ap (λ fs. theories (seen_files fs)) (past_end c.args.files.now c.loop-file.file-index c.loop-file-test.false)) c.loop-file.invariant
