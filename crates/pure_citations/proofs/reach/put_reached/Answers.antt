use Rattle.std.proofs.Common.{map, length, arith}
use Rattle.pure_promise_fates.proofs.CodeLaws.{seen-length}
use Rattle.pure_citations.proofs.ReachedLaws.{walk-first, walk-next, walk-last}
use Rattle.pure_citations.proofs.reach.put_reached.Goals as goal

pub loop-back-init : goal.loop-back-init
loop-back-init g c = walk-first (map g.E.Reported.entry c.args.entries.now) c.args.row.now.items (length c.args.entries.now) (seen-length g.E.Reported.entry c.args.entries.now)

pub loop-back-preserved : goal.loop-back-preserved
loop-back-preserved g c =
    walk-next (map g.E.Reported.entry c.args.entries.now) c.requires c.args.row.now.items c.loop-back.row.items c.put_next.new.row.items (length c.args.entries.now) c.loop-back.back c.loop-back-test.true c.in_ok-put_next.ensures c.loop-back.invariant

pub returns : goal.returns
returns g c = walk-last (map g.E.Reported.entry c.args.entries.now) c.requires c.args.row.now.items c.loop-back.row.items (length c.args.entries.now) c.loop-back.back (λ h. let told = c.loop-back-test.false in absurd (omega (arith, h, told))) c.loop-back.invariant
