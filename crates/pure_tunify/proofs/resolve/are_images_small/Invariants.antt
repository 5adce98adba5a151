use Rattle.std.proofs.Common.{take}
use Rattle.pure_text.specs.Lists.{Each}
use Rattle.pure_tunify.specs.Working.{IsSmall}
use Rattle.pure_tunify.proofs.resolve.are_images_small.Given as goal

abbrev pub invariant-loop-bind : goal.invariant-loop-bind
invariant-loop-bind l = Each (λ b. IsSmall l.settings.sets b.image) (take l.bind-index l.bind-items)
