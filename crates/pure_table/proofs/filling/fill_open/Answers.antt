use Rattle.pure_table.proofs.FillingLaws.{no_lemma, next_lemma}
use Rattle.pure_table.proofs.filling.fill_open.Goals as goal

pub returns-then-next-lemmas : goal.returns-then-next-lemmas
returns-then-next-lemmas g c rows are =
    next_lemma c.args.lemmas.now.names.now c.args.lemmas.now.entries.now rows are c.requires.entries (g.T.TakesRows.holds c.args.table.now) (g.T.TakesRows.holds c.take_lemma.new.self) c.args.next c.if-next-lemmas.true
    c.in_ok-take_lemma.ensures

pub returns : goal.returns
returns g c rows are = no_lemma c.args.lemmas.now.names.now c.args.lemmas.now.entries.now rows are (g.T.TakesRows.holds c.args.table.now) c.args.next c.if-next-lemmas.false
