use Rattle.std.proofs.Common.{sym, ◌∙◌}
use Rattle.std.proofs.lemmas.Bool.{ne_eqb}
use Rattle.pure_print.proofs.TypLemmas.{arrow-two, arrow-other}
use Rattle.pure_print.proofs.typ.is_arrow_of.Goals as goal

pub returns-then-args-eq2 : goal.returns-then-args-eq2
returns-then-args-eq2 c = c.eq.ensures ∙ sym (arrow-two c.args.constructor c.args.args.now c.if-args-eq2.true)

pub returns-else-args-eq2 : goal.returns-else-args-eq2
returns-else-args-eq2 c = ne_eqb _ 2 c.if-args-eq2.false ∙ sym (arrow-other c.args.constructor c.args.args.now c.if-args-eq2.false)
