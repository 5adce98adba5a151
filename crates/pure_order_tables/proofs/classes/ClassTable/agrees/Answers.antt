use Rattle.std.proofs.Common.{take_all}
use Rattle.pure_text.proofs.AnswerLaws.{no_as, yes_as, test_fails}
use Rattle.pure_text.proofs.ListLaws.{each_of}
use Rattle.pure_order_tables.specs.ClassView.{class_of, classes_of}
use Rattle.pure_order_tables.specs.Classes.{IsSameIfNamed}
use Rattle.pure_order_tables.proofs.AgreeLaws.{class_in, agree_each}
use Rattle.pure_order_tables.proofs.classes.ClassTable.agrees.Goals as goal

pub returns-then-not-agrees_at : goal.returns-then-not-agrees_at
returns-then-not-agrees_at c =
    let inside = class_in c.entries-entries.result.now c.loop-i.i c.get-entry.result.now (rw c.len-i-end.ensures at c.loop-i-test.true) c.get-entry.ensures in
    rw (← c.entries-entries.ensures.are) (no_as _ (λ h. test_fails _ c.agrees_at.result c.agrees_at.ensures c.if-not-agrees_at.true
    (each_of (IsSameIfNamed (class_of c.get-entry.result.now)) c.args.other.now (λ k n e. h (class_of c.get-entry.result.now) k inside n e))))

pub returns : goal.returns
returns c = rw (← c.entries-entries.ensures.are)
    (yes_as _ ((agree_each (classes_of c.entries-entries.result.now) c.args.other.now).0 (rw (take_all c.loop-i.i c.entries-entries.result.now (rw c.len-i-end.ensures at c.loop-i-test.false)) at c.loop-i.invariant)))
