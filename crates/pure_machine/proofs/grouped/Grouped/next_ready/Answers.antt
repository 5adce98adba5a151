use Rattle.std.proofs.Common.{ap}
use Rattle.pure_machine.proofs.PromiseLaws.{next_same}
use Rattle.pure_machine.proofs.grouped.Grouped.next_ready.Goals as goal

pub returns-clause-found : goal.returns-clause-found
returns-clause-found g c = next_same c.next_ready.result c.args.self.now.list c.self.inside.promises (ap (λ h. h.list) c.self.view_is) c.next_ready.ensures.found
