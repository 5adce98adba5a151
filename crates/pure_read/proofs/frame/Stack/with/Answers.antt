use Rattle.pure_read.proofs.StackLemmas.{stacked-is}
use Rattle.pure_read.proofs.frame.Stack.with.Goals as goal

pub returns : goal.returns
returns c = stacked-is c.push.new.self.items c.args.self.frames.items c.args.frame c.in_ok-push.ensures.items
