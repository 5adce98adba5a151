use Rattle.std.proofs.Common.{sym, ap}
use Rattle.pure_text.proofs.AnswerLaws.{test_fails}
use Rattle.pure_logic.specs.Content.{TheoryId}
use Rattle.pure_theory.proofs.LookupLaws.{own_none, own_other}
use Rattle.pure_theory.proofs.theory.Theory.own_index.Goals as goal

pub returns-in-None : goal.returns-in-None
returns-in-None c = own_none c.args.self.now.own c.args.theory (sym c.in-None.ensures)

pub returns-then-is_named : goal.returns-then-is_named
returns-then-is_named c = (c.in-Some.own, sym c.in-Some.ensures, c.is_named.ensures.0 c.if-is_named.true, ap (λ (t : TheoryId). t.index) (sym c.own.view_is))

pub returns-else-is_named : goal.returns-else-is_named
returns-else-is_named c = own_other c.args.self.now.own c.in-Some.own c.args.theory (sym c.in-Some.ensures) (test_fails _ c.is_named.result c.is_named.ensures c.if-is_named.false)
