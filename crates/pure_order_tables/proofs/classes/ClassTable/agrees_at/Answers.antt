use Rattle.pure_text.proofs.AnswerLaws.{no_as, test_fails}
use Rattle.pure_text.proofs.ListLaws.{each_at}
use Rattle.pure_order_tables.specs.ClassView.{class_of, classes_of}
use Rattle.pure_order_tables.specs.Classes.{IsSameIfNamed}
use Rattle.pure_order_tables.proofs.AgreeLaws.{class_in}
use Rattle.pure_order_tables.proofs.classes.ClassTable.agrees_at.Goals as goal

pub returns-then-not-are_same_if_named : goal.returns-then-not-are_same_if_named
returns-then-not-are_same_if_named c =
    let inside = class_in c.entries-entries.result.now c.loop-i.i c.get-own.result.now (rw c.len-i-end.ensures at c.loop-i-test.true) c.get-own.ensures in
    rw (← c.entries-entries.ensures.are) (no_as _ (λ h. test_fails _ c.are_same_if_named.result c.are_same_if_named.ensures c.if-not-are_same_if_named.true
    (each_at (IsSameIfNamed (class_of c.args.entry.now)) (classes_of c.entries-entries.result.now) h (class_of c.get-own.result.now) inside)))
