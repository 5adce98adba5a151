use Rattle.std.proofs.Common.{length, arith}
use Rattle.pure_text.proofs.LoopLaws.{turned}
use Rattle.pure_promise_fates.proofs.CodeLaws.{seen-within}
use Rattle.pure_table.specs.Promise.Seen.{seen, seen_entry}
use Rattle.pure_citations.specs.Cited.{HasNameAt}
use Rattle.pure_citations.proofs.CitedCode.{here-next, here-none, here-end}
use Rattle.pure_citations.proofs.cited.put_lemmas.Goals as goal

pub loop-place-init : goal.loop-place-init
loop-place-init c = λ p. here-none (HasNameAt (seen c.args.entries.now) c.args.name) p _

pub loop-place-preserved : goal.loop-place-preserved
loop-place-preserved c = λ p. turned _ _ _ _ _ _ (here-next (HasNameAt (seen c.args.entries.now) c.args.name) p c.loop-place.place) (c.in_ok-put_if_named.ensures p) (c.loop-place.invariant p)

pub returns : goal.returns
returns c = λ p.
    here-end (HasNameAt (seen c.args.entries.now) c.args.name) p c.loop-place.place (length c.args.entries.now) _ _
    (λ w. seen-within seen_entry c.args.entries.now p w.0 w.1) (omega (arith, c.loop-place-test.false)) (c.loop-place.invariant p)
