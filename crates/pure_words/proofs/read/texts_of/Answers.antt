use Rattle.std.proofs.Common.{◌∙◌}
use Rattle.pure_words.proofs.Reread.{one_more_text}
use Rattle.pure_words.proofs.read.texts_of.Goals as goal

pub loop-word-preserved : goal.loop-word-preserved
loop-word-preserved c =
    rw c.in_ok-push-in-Ok.ensures.items
    (one_more_text c.loop-word.list.items c.in-Ok.text c.args.words.now c.loop-word.word-index c.word-item.result
    c.loop-word.invariant c.loop-word-test.true c.word-item.is (c.in-Ok.ensures.cases.0 ∙ c.bytes.ensures))
