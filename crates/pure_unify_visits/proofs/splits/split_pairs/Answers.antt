use Rattle.pure_unify_visits.proofs.ScanLaws.{popped_many}
use Rattle.pure_unify_visits.proofs.splits.split_pairs.Goals as goal

pub split_into-requires : goal.split_into-requires
split_into-requires c =
    popped_many c.args.rest.now.items c.take_pairs.new.rest.items c.pop.new.self.items c.in_ok-before.before.items c.args.count c.in-Some.pair c.requires c.in_ok-before.ensures.0 c.in_ok-before.ensures.1 c.in-Some.ensures.items
