use Rattle.std.proofs.Common.{◌≡◌, List, [], drop}
use Rattle.pure_text.specs.Lists.{EachTwo}
use Rattle.pure_unify_definitions.specs.Node as node
use Rattle.pure_unify_steps.specs.Held.{IsSetting}
use Rattle.pure_unify_steps.specs.Gathered.{gathered}
use Rattle.pure_unify_steps.proofs.gather.gather.Given as goal

abbrev pub invariant-loop-setting : goal.invariant-loop-setting
invariant-loop-setting l = (ss : List node.Setting) → EachTwo IsSetting l.settings ss → gathered [] ss ≡ gathered l.list.items (drop l.setting-index ss)
