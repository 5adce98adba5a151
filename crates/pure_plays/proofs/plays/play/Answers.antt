use Rattle.std.proofs.Common.{subst, slice_index_or}
use Rattle.pure_pool.specs.Seated.{IsSameSeat}
use Rattle.pure_pool.proofs.TurnLaws.{two_of}
use Rattle.pure_plays.proofs.plays.play.Goals as goal

pub returns : goal.returns
returns g c = two_of IsSameSeat c.args.seats.now c.for_each_mut.new.s c.for_each_mut.auto.s (λ i d within. (
    let k = (c.for_each_mut.ensures i d within).1 in
    subst (λ y. IsSameSeat (slice_index_or c.args.seats.now i d) y) k.left (subst (λ x. IsSameSeat x k.after_call.now) k.argument_is k.call)))
