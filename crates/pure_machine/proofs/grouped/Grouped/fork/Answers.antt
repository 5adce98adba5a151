use Rattle.std.proofs.Common.{◌≡◌, refl, if◌then◌else◌}
use Rattle.pure_machine.specs.State.{Cancelled, Ready}
use Rattle.pure_machine.proofs.GroupLaws.{put-kept, forked-kept}
use Rattle.pure_machine.proofs.grouped.Grouped.fork.Goals as goal

pub invariant_of-self-in_err-number : goal.invariant_of-self-in_err-number
invariant_of-self-in_err-number g c = put-kept c.self.inside.groups c.self.inside.members c.put.new.self c.self.inside.promises c.fork.new.self _ _ c.in_ok-put.ensures c.in_err-number.ensures.0 c.self.invariant

pub invariant_of-self-2 : goal.invariant_of-self-2
invariant_of-self-2 g c =
    forked-kept c.args.self.now c.self.inside.groups c.self.inside.members c.put.new.self c.self.inside.promises c.fork.new.self
    (record { theory = c.args.theory; command = c.args.command; goal = c.args.goal.value; standing = if c.args.cancelled then Cancelled else Ready })
    _ _ c.self.view_is (rw c.requires refl) refl c.count-next.ensures c.in_ok-put.ensures c.in_ok-number.ensures.1 c.self.invariant
