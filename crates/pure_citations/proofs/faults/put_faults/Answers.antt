use Rattle.std.proofs.Common.{length, arith}
use Rattle.pure_text.proofs.LoopLaws.{turned}
use Rattle.pure_promise_fates.proofs.CodeLaws.{seen-within}
use Rattle.pure_table.specs.Promise.Seen.{seen, seen_entry}
use Rattle.pure_citations.specs.Faults.{IsFaultyAt}
use Rattle.pure_citations.proofs.CitedCode.{before-next, before-none, before-end}
use Rattle.pure_citations.proofs.faults.put_faults.Goals as goal

pub loop-place-init : goal.loop-place-init
loop-place-init c = λ n. before-none (IsFaultyAt (seen c.args.entries.now) c.args.row.now n) _

pub loop-place-preserved : goal.loop-place-preserved
loop-place-preserved c = λ n. turned _ _ _ _ _ _ (before-next (IsFaultyAt (seen c.args.entries.now) c.args.row.now n) c.loop-place.place) (c.in_ok-put_fault.ensures n) (c.loop-place.invariant n)

pub returns : goal.returns
returns c = λ n.
    before-end (IsFaultyAt (seen c.args.entries.now) c.args.row.now n) c.loop-place.place (length c.args.entries.now) _ _
    (λ q w. seen-within seen_entry c.args.entries.now q w.0 w.1) (omega (arith, c.loop-place-test.false)) (c.loop-place.invariant n)
