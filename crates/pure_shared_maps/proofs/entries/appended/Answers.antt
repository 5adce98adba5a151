use Rattle.pure_shared_maps.proofs.MergeLaws.{appended}
use Rattle.pure_shared_maps.proofs.entries.appended.Goals as goal

pub returns : goal.returns
returns g c = appended _ c.push_rest.new.run.items c.args.second.items c.append.new.self.items c.args.first.now c.in_ok-run.ensures.items c.in_ok-push_rest.ensures c.in_ok-append.ensures.items
