use Rattle.pure_unify_definitions.specs.Fronts.{domains}
use Rattle.pure_pattern_rules.proofs.ImageLaws.{imitation_normal}
use Rattle.pure_pattern_rules.proofs.WideLaws.{wide_not_set}
use Rattle.pure_pattern_rules.proofs.mixed.imitated.Goals as goal

pub set_to-requires-clause-normal : goal.set_to-requires-clause-normal
set_to-requires-clause-normal c = rw c.in_ok-image.ensures (imitation_normal c.args.index (domains c.args.variable.now.typ) c.args.head.value (domains c.args.typ.now) c.requires.rigid)

pub returns-clause-treated : goal.returns-clause-treated
returns-clause-treated c = rw c.in_ok-image.ensures at c.set_to.ensures.treated

pub returns-then-is_wide-clause-treated : goal.returns-then-is_wide-clause-treated
returns-then-is_wide-clause-treated c =
    let v = c.args.variable.now in
    wide_not_set c.args.index v.name v.index v.typ c.args.head.value c.args.typ.now (rw c.if-is_wide.true at c.is_wide.ensures) c.requires.rigid c.requires.typed
