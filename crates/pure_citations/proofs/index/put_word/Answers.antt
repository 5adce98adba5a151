use Rattle.pure_text.proofs.LoopLaws.{turned}
use Rattle.pure_citations.proofs.CitedCode.{before-next, before-none}
use Rattle.pure_citations.proofs.IndexLaws.{InWord, word-end}
use Rattle.pure_citations.proofs.index.put_word.Goals as goal

pub loop-bit-init : goal.loop-bit-init
loop-bit-init c = λ q. before-none (InWord c.args.codes.now c.args.named.now c.args.word q) _

pub loop-bit-preserved : goal.loop-bit-preserved
loop-bit-preserved c = λ q. turned _ _ _ _ _ _ (before-next (InWord c.args.codes.now c.args.named.now c.args.word q) c.loop-bit.bit) ((rw c.in_ok-number_at.ensures at c.in_ok-put_number.ensures) q) (c.loop-bit.invariant q)

pub returns : goal.returns
returns c = word-end c.args.codes.now c.args.named.now c.args.word c.loop-bit.bit c.loop-bit.auto.bit-end c.loop-bit-test.false c.args.held.now.items c.loop-bit.held.items c.loop-bit.invariant
