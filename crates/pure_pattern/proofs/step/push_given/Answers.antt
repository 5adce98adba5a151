use Rattle.std.proofs.Common.{◌∙◌}
use Rattle.pure_pattern.proofs.FollowLaws.{kept-one, kept-none}
use Rattle.pure_pattern.proofs.step.push_given.Goals as goal

pub returns-then-maxidx-index : goal.returns-then-maxidx-index
returns-then-maxidx-index c = rw (← c.bind.view_is) (kept-none c.args.maxidx c.args.binds.now.items _ c.if-maxidx-index.true)

pub returns : goal.returns
returns c = c.in_ok-push_bind.ensures ∙ (rw (← c.bind.view_is) (kept-one c.args.maxidx c.args.binds.now.items _ c.if-maxidx-index.false))
