use Rattle.std.proofs.Common.{◌∙◌, ap, inr}
use Rattle.pure_definitions.specs.Types.Order.{Algebra}
use Rattle.pure_order_tables.specs.ArityView.{arities_of}
use Rattle.pure_order_tables.specs.ClassView.{classes_of}
use Rattle.pure_order_tables.proofs.OtherLaws.{with_others}
use Rattle.pure_order_tables.proofs.UnionLaws.{known_more, union_in_order, union_of}
use Rattle.pure_order_tables.proofs.SideLaws.{sides_of}
use Rattle.pure_order_tables.proofs.ConflictLaws.{union_conflict, union_coregular}
use Rattle.pure_order_tables.proofs.tables.Tables.united.Goals as goal

pub least_conflict-requires-clause-same : goal.least_conflict-requires-clause-same
least_conflict-requires-clause-same c = c.in_ok-tables.ensures.arities ∙ ap (λ (A : Algebra). A.arities) c.in_ok-own.ensures

pub least_conflict-requires-clause-theirs : goal.least_conflict-requires-clause-theirs
least_conflict-requires-clause-theirs c = c.in_ok-theirs.ensures

pub push_arities-requires-clause-kept : goal.push_arities-requires-clause-kept
push_arities-requires-clause-kept c = c.in_ok-theirs.ensures.kept

pub least_conflict-requires-clause-sides : goal.least_conflict-requires-clause-sides
least_conflict-requires-clause-sides c = sides_of c.args.self.now c.args.other.now c.in_ok-own.own c.in_ok-tables.tables (classes_of c.class_entries.result.now) c.in_ok-own.ensures c.class_entries.ensures.are c.in_ok-tables.ensures.classes
    c.are_in_order.ensures.ordered c.are_in_order-2.ensures.ordered c.are_in_order-3.ensures.ordered c.requires.agree c.are_in_order.ensures.known c.are_in_order-2.ensures.known c.requires.coregular c.requires.other_coregular

pub push_arities-requires-clause-known : goal.push_arities-requires-clause-known
push_arities-requires-clause-known c = rw c.in_ok-theirs.ensures.are (known_more c.args.other.now.classes c.in_ok-tables.tables.classes (λ k m. (with_others _ _ _ c.in_ok-tables.ensures.classes k).1 (inr (rw c.class_entries.ensures.are m))) c.args.other.now.arities c.are_in_order-2.ensures.known)

pub returns-clause-in_order : goal.returns-clause-in_order
returns-clause-in_order c = union_in_order c.args.self.now c.args.other.now c.in_ok-own.own c.in_ok-tables.tables c.push_arities.new.self (classes_of c.class_entries.result.now) (arities_of c.in_ok-theirs.theirs)
    c.in_ok-own.ensures c.class_entries.ensures.are c.in_ok-theirs.ensures.are c.in_ok-tables.ensures.classes c.in_ok-push_arities.ensures.classes c.in_ok-push_arities.ensures.arities

pub returns-clause-union : goal.returns-clause-union
returns-clause-union c = union_of c.args.self.now c.args.other.now c.push_arities.new.self (union_in_order c.args.self.now c.args.other.now c.in_ok-own.own c.in_ok-tables.tables c.push_arities.new.self (classes_of c.class_entries.result.now) (arities_of c.in_ok-theirs.theirs)
    c.in_ok-own.ensures c.class_entries.ensures.are c.in_ok-theirs.ensures.are c.in_ok-tables.ensures.classes c.in_ok-push_arities.ensures.classes c.in_ok-push_arities.ensures.arities)

pub returns-in-Some-clause-conflict : goal.returns-in-Some-clause-conflict
returns-in-Some-clause-conflict c = union_conflict c.args.self.now c.args.other.now c.in_ok-own.own c.in_ok-tables.tables (classes_of c.class_entries.result.now) c.in_ok-found.field-0 c.in-Some.found c.in_ok-own.ensures c.class_entries.ensures.are c.in_ok-tables.ensures.classes c.in-Some.is c.in_ok-found.ensures

pub returns-clause-coregular : goal.returns-clause-coregular
returns-clause-coregular c = union_coregular c.in_ok-tables.tables c.args.self.now c.args.other.now c.push_arities.new.self c.in_ok-found.field-0 c.in_default.not-Some c.in_ok-push_arities.ensures.classes
    (union_of c.args.self.now c.args.other.now c.push_arities.new.self (union_in_order c.args.self.now c.args.other.now c.in_ok-own.own c.in_ok-tables.tables c.push_arities.new.self (classes_of c.class_entries.result.now) (arities_of c.in_ok-theirs.theirs)
    c.in_ok-own.ensures c.class_entries.ensures.are c.in_ok-theirs.ensures.are c.in_ok-tables.ensures.classes c.in_ok-push_arities.ensures.classes c.in_ok-push_arities.ensures.arities))
    c.in_ok-found.ensures
