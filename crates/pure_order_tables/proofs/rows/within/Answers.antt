use Rattle.pure_text.proofs.AnswerLaws.{no_as, yes_as}
use Rattle.pure_order_tables.proofs.RowLaws.{within_all, within_turn, word_within}
use Rattle.pure_order_tables.proofs.rows.within.Goals as goal

pub returns-then-word-word_at : goal.returns-then-word-word_at
returns-then-word-word_at c = no_as _ (λ all. c.if-word-word_at.true (rw c.word_at.ensures (word_within c.args.first.now c.args.second.now c.loop-i.i (c.type_inv.first c.loop-i.i).fits all)))

pub loop-i-preserved : goal.loop-i-preserved
loop-i-preserved c = within_turn c.args.first.now c.args.second.now c.loop-i.i (rw c.word_at.ensures at c.if-word-word_at.false) c.loop-i.invariant

pub returns : goal.returns
returns c = yes_as _ (within_all c.args.first.now c.args.second.now c.loop-i.i c.loop-i-test.false c.loop-i.invariant)
