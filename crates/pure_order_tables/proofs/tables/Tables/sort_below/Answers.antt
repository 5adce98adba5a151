use Rattle.std.proofs.lemmas.Bool.Decides.{Decides-eqb}
use Rattle.std.proofs.lemmas.Slice.Eq.{slice_eq-Decides}
use Rattle.pure_text.proofs.AnswerLaws.{yes_as}
use Rattle.pure_definitions.proofs.OrderLaws.{sort_below-itself}
use Rattle.pure_order_tables.proofs.tables.Tables.sort_below.Goals as goal

pub returns-then-eq : goal.returns-then-eq
returns-then-eq c = yes_as _ (rw ((slice_eq-Decides Decides-eqb c.args.first.now c.args.second.now c.eq.result c.eq.ensures).0 c.if-eq.true) (sort_below-itself c.args.self.now c.args.second.now))
