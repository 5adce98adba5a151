use Rattle.std.proofs.lemmas.List.{drop_more}
use Rattle.pure_record.proofs.reader.lexeme_at.Goals as goal

pub returns-then-at-lexemes : goal.returns-then-at-lexemes
returns-then-at-lexemes c = drop_more c.args.lexemes.now c.args.at _ c.if-at-lexemes.true
