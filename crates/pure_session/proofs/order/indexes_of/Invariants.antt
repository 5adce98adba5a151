use Rattle.std.proofs.Common.{◌≡◌, ◌++◌, map, drop, get_or}
use Rattle.pure_session.proofs.order.indexes_of.Given as goal

abbrev pub invariant-loop-place : goal.invariant-loop-place
invariant-loop-place l = l.indexes.items ++ map (λ p. get_or l.index p 0) (drop l.place-index l.places) ≡ map (λ p. get_or l.index p 0) l.places
