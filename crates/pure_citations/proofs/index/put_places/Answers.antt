use Rattle.std.proofs.Common.{arith}
use Rattle.pure_text.proofs.LoopLaws.{turned}
use Rattle.pure_citations.specs.Cited.{IsBefore}
use Rattle.pure_citations.proofs.CitedCode.{before-next, before-none}
use Rattle.pure_citations.proofs.IndexLaws.{InWord, words-end}
use Rattle.pure_citations.proofs.index.put_places.Goals as goal

pub loop-word-init : goal.loop-word-init
loop-word-init c = λ q. before-none (λ w. IsBefore (InWord c.args.codes.now c.args.named.now w q) 64) _

pub loop-word-preserved : goal.loop-word-preserved
loop-word-preserved c = λ q. turned _ _ _ _ _ _ (before-next (λ w. IsBefore (InWord c.args.codes.now c.args.named.now w q) 64) c.loop-word.word) (c.in_ok-put_word.ensures q) (c.loop-word.invariant q)

pub returns : goal.returns
returns c = words-end c.args.codes.now c.args.named.now c.args.held.now.items c.loop-word.held.items c.loop-word.word (omega (arith, c.loop-word-test.false)) c.loop-word.invariant
