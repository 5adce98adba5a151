use Rattle.pure_print.proofs.name.is_spelling.Goals as goal
use Rattle.pure_print.proofs.StateLemmas.{spelling-then, spelling-else}

pub returns-then-begins_letter : goal.returns-then-begins_letter
returns-then-begins_letter c = spelling-then c.args.text.now _ _ c.begins_letter.ensures c.if-begins_letter.true c.are_name_bytes.ensures

pub returns-else-begins_letter : goal.returns-else-begins_letter
returns-else-begins_letter c = spelling-else c.args.text.now _ c.begins_letter.ensures c.if-begins_letter.false
