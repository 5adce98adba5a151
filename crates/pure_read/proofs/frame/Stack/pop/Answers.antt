use Rattle.pure_read.proofs.StackLemmas.{stacked-is}
use Rattle.pure_read.proofs.frame.Stack.pop.Goals as goal

pub returns-in-Some : goal.returns-in-Some
returns-in-Some c = stacked-is c.args.self.frames.items c.pop.new.self.items c.in-Some.frame c.in-Some.ensures.items
