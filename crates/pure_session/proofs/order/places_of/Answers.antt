use Rattle.std.proofs.Common.{refl, ap, map}
use Rattle.pure_graph.specs.Graph.{other_than_pure}
use Rattle.pure_session.specs.Places.{place_in}
use Rattle.pure_text.proofs.MergeLaws.{past_end}
use Rattle.pure_session.proofs.FoldLemmas.{fold-end}
use Rattle.pure_session.proofs.order.places_of.Goals as goal

pub loop-import-init : goal.loop-import-init
loop-import-init c = rw c.new-places.ensures.items refl

pub returns : goal.returns
returns c =
    fold-end c.loop-import.places.items _ _ (ap (λ ps. map (place_in c.args.names.now) (other_than_pure ps)) (past_end c.args.imports.now c.loop-import.import-index c.loop-import-test.false)) c.loop-import.invariant
