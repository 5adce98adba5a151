use Rattle.pure_places.proofs.LoopLaws.{word-no_ident, symbol-no_ident}
use Rattle.pure_places.proofs.mark.ident.Goals as goal

pub returns-in-Word : goal.returns-in-Word
returns-in-Word c = word-no_ident c.args.source.now c.args.token c.in-Word.is

pub returns-in-Symbol : goal.returns-in-Symbol
returns-in-Symbol c = symbol-no_ident c.args.source.now c.args.token c.in-Symbol.is
