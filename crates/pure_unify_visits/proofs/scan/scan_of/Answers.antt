use Rattle.pure_unify_visits.proofs.ScanLaws.{scan_ready, reversed_long}
use Rattle.pure_unify_visits.proofs.scan.scan_of.Goals as goal

pub returns-clause-ready : goal.returns-clause-ready
returns-clause-ready c = scan_ready (record { passed = c.new.result; rest = c.reverse.new.self; path = c.args.node.path }) c.new.ensures.items (reversed_long c.args.node.pairs.items c.reverse.new.self.items c.reverse.ensures.items c.requires.long)
