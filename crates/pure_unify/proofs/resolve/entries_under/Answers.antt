use Rattle.std.proofs.Common.{◌-◌, arith}
use Rattle.pure_unify.specs.Later.{entry_under}
use Rattle.pure_unify.proofs.ResolveLaws.{made_beyond}
use Rattle.pure_unify.proofs.ResolvedLaws.{big_for}
use Rattle.pure_unify.proofs.resolve.entries_under.Goals as goal

pub returns-in-Err-clause-large : goal.returns-in-Err-clause-large
returns-in-Err-clause-large c =
    let short = c.loop-left.invariant.short in
    let some = c.loop-left-test.true in
    big_for _ _ (λ beyond. made_beyond (entry_under c.args.typs.now) c.args.binds.now (c.loop-left.left - 1) c.index-binds-left.result (omega arith) c.index-binds-left.is beyond) c.in-Err.fault c.in-Err.ensures.large
