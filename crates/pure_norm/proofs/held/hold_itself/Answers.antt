use Rattle.std.proofs.Common.{◌≡◌, ◌∙◌, refl, arith}
use Rattle.pure_norm.specs.Measures.{measures}
use Rattle.pure_norm.proofs.RowLemmas.{size-piece, depth-piece, measure-piece}
use Rattle.pure_norm.proofs.held.hold_itself.Goals as goal

pub measure_in-measure-requires-clause-few : goal.measure_in-measure-requires-clause-few
measure_in-measure-requires-clause-few c =
    let listed : c.deref-2.result.now ≡ measures c.args.scope.now.value = c.deref-2.ensures.value ∙ (c.in_ok-push_measures.ensures ∙ rw (c.new-places.ensures.items, c.deref.ensures) refl) in
    rw (size-piece c.args.scope.now.value c.args.arg.now c.deref-2.result.now c.requires.piece listed) c.requires.few

pub measure_in-measure-requires-clause-shallow : goal.measure_in-measure-requires-clause-shallow
measure_in-measure-requires-clause-shallow c =
    let listed : c.deref-2.result.now ≡ measures c.args.scope.now.value = c.deref-2.ensures.value ∙ (c.in_ok-push_measures.ensures ∙ rw (c.new-places.ensures.items, c.deref.ensures) refl) in
    let low = c.requires.shallow in
    rw (depth-piece c.args.scope.now.value c.args.arg.now c.deref-2.result.now c.requires.piece listed) (omega arith)

pub returns : goal.returns
returns c =
    let listed : c.deref-2.result.now ≡ measures c.args.scope.now.value = c.deref-2.ensures.value ∙ (c.in_ok-push_measures.ensures ∙ rw (c.new-places.ensures.items, c.deref.ensures) refl) in
    record {
      meaning = rw c.in_ok-scope.ensures.cases refl;
      measured = measure-piece c.args.scope.now.value c.args.arg.now c.deref-2.result.now c.requires.piece listed c.measure_in-measure.result c.measure_in-measure.ensures.size c.measure_in-measure.ensures.depth;
      piece = c.requires.piece;
    }
