use Rattle.std.proofs.Common.{map, length, arith}
use Rattle.pure_text.proofs.LoopLaws.{turned}
use Rattle.pure_promise_fates.proofs.CodeLaws.{seen-within}
use Rattle.pure_table.specs.Promise.Seen.{reported}
use Rattle.pure_citations.specs.Cited.{IsNamedAt}
use Rattle.pure_citations.proofs.CitedCode.{before-next, before-none, before-end}
use Rattle.pure_citations.proofs.cited.put_all.Goals as goal

pub loop-place-init : goal.loop-place-init
loop-place-init c = λ n. before-none _ _

pub loop-place-preserved : goal.loop-place-preserved
loop-place-preserved c = λ n.
    turned _ _ _ _ _ _ (before-next (IsNamedAt c.args.names.now c.args.row.now (map (λ d. d.value) c.args.duties.now) (map reported c.args.entries.now) n) c.loop-place.place) (c.in_ok-put_at.ensures n) (c.loop-place.invariant n)

pub returns : goal.returns
returns c = λ n.
    before-end (IsNamedAt c.args.names.now c.args.row.now (map (λ d. d.value) c.args.duties.now) (map reported c.args.entries.now) n) c.loop-place.place (length c.args.entries.now) _ _
    (λ q w. seen-within reported c.args.entries.now q w.1 w.3) (omega (arith, c.loop-place-test.false)) (c.loop-place.invariant n)
