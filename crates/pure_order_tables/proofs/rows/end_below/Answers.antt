use Rattle.pure_order_tables.proofs.RowLaws.{word_passed}
use Rattle.pure_order_tables.proofs.rows.end_below.Goals as goal

pub returns-then-word-word_at-clause-passed : goal.returns-then-word-word_at-clause-passed
returns-then-word-word_at-clause-passed c = word_passed c.args.first.now c.args.second.now c.args.number (rw (c.word_at-word.ensures, c.word_at.ensures) at c.if-word-word_at.true)
