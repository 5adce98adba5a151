use Rattle.pure_tunify.proofs.StoredLaws.{still_distinct}
use Rattle.pure_tunify.proofs.stored.Stored.push.Goals as goal

pub invariant_of-self : goal.invariant_of-self
invariant_of-self c = still_distinct c.self.inside.few.items c.push_to_list.new.few.items c.self.inside.many c.args.self.now c.args.bind c.push_to_list.result c.if-is_none.ensures c.self.view_is c.self.invariant c.requires c.push_to_list.ensures
