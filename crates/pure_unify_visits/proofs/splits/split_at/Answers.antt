use Rattle.std.proofs.Common.{reverse, refl}
use Rattle.pure_unify_nodes.specs.Long.{IsLongPair}
use Rattle.pure_unify_visits.proofs.ListLaws.{each-reverse}
use Rattle.pure_unify_visits.proofs.ScanLaws.{scan_ready, reversed_back, reversed_long, split_node, split_long}
use Rattle.pure_unify_visits.proofs.splits.split_at.Goals as goal

pub returns-clause-node : goal.returns-clause-node
returns-clause-node c front m n h =
    split_node (record { passed = c.new.result; rest = c.split_pairs.new.rest; path = c.args.node.path }) c.args.node m front (reverse c.reverse.new.self.items) c.split_pairs.new.rest.items c.args.count n h
    (reversed_back c.args.node.pairs.items c.reverse.new.self.items c.reverse.ensures.items) c.in_ok-split_pairs.ensures c.new.ensures.items refl refl

pub returns-clause-ready : goal.returns-clause-ready
returns-clause-ready c =
    scan_ready (record { passed = c.new.result; rest = c.split_pairs.new.rest; path = c.args.node.path }) c.new.ensures.items
    (split_long c.args.count (reverse c.reverse.new.self.items) c.split_pairs.new.rest.items (each-reverse IsLongPair c.reverse.new.self.items (reversed_long c.args.node.pairs.items c.reverse.new.self.items c.reverse.ensures.items c.requires.long)) c.in_ok-split_pairs.ensures)
