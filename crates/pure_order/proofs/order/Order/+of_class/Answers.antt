use Rattle.std.proofs.Common.{true, false, take_all}
use Rattle.pure_definitions.specs.Types.Order.{IsOfSort, IsOfClass}
use Rattle.pure_text.proofs.AnswerLaws.{no_as, yes_as, test_fails}
use Rattle.pure_text.proofs.ListLaws.{two_long, two_read, each_read}
use Rattle.pure_text.proofs.LoopLaws.{two_turn, two_full}
use Rattle.pure_order.proofs.DomainLaws.{con_answer}
use Rattle.pure_order.proofs.order.Order.+of_class.Goals as goal

pub returns-then-args-domains : goal.returns-then-args-domains
returns-then-args-domains t c = rw (← c.t.view_is, c.in-Con.is, ← c.as_slice-args.ensures) (con_answer c.args.self.now c.in-Con.name c.args.class c.as_slice-args.result.now c.in-Some.domains.now false c.in-Some.ensures.of_class
    (no_as _ (λ h. c.if-args-domains.true (two_long (IsOfSort c.args.self.now) c.as_slice-args.result.now c.in-Some.domains.now h))))

pub returns-then-not-of_class : goal.returns-then-not-of_class
returns-then-not-of_class t c = rw (← c.t.view_is, c.in-Con.is, ← c.as_slice-args.ensures) (con_answer c.args.self.now c.in-Con.name c.args.class c.as_slice-args.result.now c.in-Some.domains.now false c.in-Some.ensures.of_class
    (no_as _ (λ h. test_fails _ c.of_class.result c.of_class.ensures c.if-not-of_class.true
    (each_read (IsOfClass c.args.self.now c.index-args-i.result) c.classes-lower-items.result.now c.loop-lower.lower-index c.lower-item.result c.loop-lower-test.true c.lower-item.is
    (rw c.classes-lower-items.ensures.are (two_read (IsOfSort c.args.self.now) c.as_slice-args.result.now c.in-Some.domains.now c.loop-i.i c.index-args-i.result c.index-domains-i.result c.loop-i-test.true c.index-args-i.is c.index-domains-i.is h))))))

pub loop-i-preserved : goal.loop-i-preserved
loop-i-preserved t c = two_turn (IsOfSort c.args.self.now) c.as_slice-args.result.now c.in-Some.domains.now c.loop-i.i c.index-args-i.result c.index-domains-i.result c.if-args-domains.false c.loop-i-test.true c.index-args-i.is c.index-domains-i.is c.loop-i.invariant
    (rw c.classes-lower-items.ensures.are at (rw (take_all c.loop-lower.lower-index c.classes-lower-items.result.now c.loop-lower-test.false) at c.loop-lower.invariant))

pub returns-after-loop-i : goal.returns-after-loop-i
returns-after-loop-i t c = rw (← c.t.view_is, c.in-Con.is, ← c.as_slice-args.ensures) (con_answer c.args.self.now c.in-Con.name c.args.class c.as_slice-args.result.now c.in-Some.domains.now true c.in-Some.ensures.of_class
    (yes_as _ (two_full (IsOfSort c.args.self.now) c.as_slice-args.result.now c.in-Some.domains.now c.loop-i.i c.if-args-domains.false c.loop-i-test.false c.loop-i.invariant)))
