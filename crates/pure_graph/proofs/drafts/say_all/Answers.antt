use Rattle.std.proofs.Common.{subst, slice_index_or}
use Rattle.pure_graph.specs.Drafts.{IsSaidOf}
use Rattle.pure_graph.proofs.DraftLemmas.{two_of}
use Rattle.pure_graph.proofs.drafts.say_all.Goals as goal

pub returns : goal.returns
returns g c = two_of IsSaidOf c.args.drafts.now c.for_each_mut.new.s c.for_each_mut.auto.s (λ i d within. (
    let k = (c.for_each_mut.ensures i d within).1 in
    subst (λ y. IsSaidOf (slice_index_or c.args.drafts.now i d) y) k.left (subst (λ x. IsSaidOf x k.after_call.now) k.argument_is k.call)))
