use Rattle.pure_tunify.proofs.ReachLaws.{on_true, occurs_by_types, occurs_by_itself}
use Rattle.pure_tunify.proofs.reached.occurs_resolved.Goals as goal

pub returns-then-is_in_no_image : goal.returns-then-is_in_no_image
returns-then-is_in_no_image c = occurs_by_itself c.args.settings.now.sets c.args.t.now c.args.variable.now c.requires.variable c.requires.absent (on_true _ c.is_in_no_image.result c.is_in_no_image.ensures c.if-is_in_no_image.true) c.variable_occurs-here.result c.variable_occurs-here.ensures

pub returns : goal.returns
returns c = occurs_by_types c.args.settings.now.sets c.args.t.now c.args.variable.now c.in_ok-typs.typs.items c.as_slice.result.now c.requires.variable c.requires.absent c.in_ok-typs.ensures c.as_slice.ensures.value c.occurs_in_any-occurs.result c.occurs_in_any-occurs.ensures
