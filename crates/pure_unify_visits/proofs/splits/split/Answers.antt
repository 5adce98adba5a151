use Rattle.std.proofs.Common.{refl}
use Rattle.pure_unify_visits.proofs.AlikeLaws.{split_many}
use Rattle.pure_unify_visits.proofs.ScanLaws.{split_ready}
use Rattle.pure_unify_visits.proofs.TurnLaws.{split_on}
use Rattle.pure_unify_visits.proofs.splits.split.Goals as goal

pub split_into-requires : goal.split_into-requires
split_into-requires c = split_many c.args.pair c.requires.long c.requires.treated

pub returns-clause-answer : goal.returns-clause-answer
returns-clause-answer c A maxidx n h =
    split_on A maxidx c.args.scan (record { passed = c.args.scan.passed; rest = c.split_into.new.rest; path = c.args.scan.path }) c.args.pair n c.requires.ready h c.requires.treated refl c.in_ok-split_into.ensures refl

pub returns-clause-ready : goal.returns-clause-ready
returns-clause-ready c = split_ready c.args.scan (record { passed = c.args.scan.passed; rest = c.split_into.new.rest; path = c.args.scan.path }) c.args.pair c.requires.ready c.requires.long refl c.in_ok-split_into.ensures
