use Rattle.std.proofs.Common.{take}
use Rattle.pure_text.specs.Lists.{Each}
use Rattle.pure_unify.specs.Later.{IsDistinct}
use Rattle.pure_unify.proofs.resolve.are_distinct.Given as goal

abbrev pub invariant-loop-setting : goal.invariant-loop-setting
invariant-loop-setting l = Each IsDistinct (take l.setting-index l.settings)
