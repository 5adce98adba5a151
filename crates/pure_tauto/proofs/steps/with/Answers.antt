use Rattle.pure_tauto.proofs.ProverLaws.{with-in}
use Rattle.pure_tauto.proofs.steps.with.Goals as goal

pub returns : goal.returns
returns c = with-in c.args.known.now c.in_ok-more.more.items c.push.new.self.items c.args.th c.in_ok-more.ensures c.in_ok-push.ensures.items
