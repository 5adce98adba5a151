use Rattle.pure_conv.specs.Rules.{puts}
use Rattle.pure_conv.proofs.UnfoldingLaws.{looked-kept, none-of}
use Rattle.pure_conv.proofs.unfolding.unfolds.Goals as goal

pub returns-in_default : goal.returns-in_default
returns-in_default c = looked-kept (puts c.args.rule.now) c.args.name c.args.typ.now (none-of _ _ c.in_ok-instance_for.field-0 c.in_ok-instance_for.ensures c.in_default.not-Some)
