use Rattle.pure_words.proofs.Reread.{none_reread, reread_is}
use Rattle.pure_words.proofs.read.read_again.Goals as goal

pub returns-in-Ok-Some-clause-ok : goal.returns-in-Ok-Some-clause-ok
returns-in-Ok-Some-clause-ok c =
    λ is. reread_is c.args.words.now c.args.job c.in-Ok-Some.found _ _ c.is_empty.ensures c.if-is_empty.false c.in-Ok-Some.field-0-is c.in-Ok-Some.ensures is

pub returns-in-Ok-None-clause-usage : goal.returns-in-Ok-None-clause-usage
returns-in-Ok-None-clause-usage c =
    λ is fault. none_reread c.args.words.now c.args.job _ _ c.is_empty.ensures c.if-is_empty.false c.in-Ok-None.field-0-is c.in-Ok-None.ensures is
