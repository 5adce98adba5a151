use Rattle.std.proofs.Common.{◌≡◌, ◌++◌, map, take}
use Rattle.pure_tunify.proofs.large.right_types.Given as goal

abbrev pub invariant-loop-bind : goal.invariant-loop-bind
invariant-loop-bind l = l.typs.items ≡ map (λ b. b.image) (take l.bind-index l.bind-items)

abbrev pub invariant-loop-pair : goal.invariant-loop-pair
invariant-loop-pair l = l.typs.items ≡ map (λ b. b.image) l.settings.sets ++ map (λ p. p.right) (take l.pair-index l.work)
