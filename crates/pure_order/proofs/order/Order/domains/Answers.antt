use Rattle.pure_order_tables.proofs.CoregularLaws.{directed}
use Rattle.pure_order.specs.Domains.{AreGreatestDomains}
use Rattle.pure_order.proofs.DomainLaws.{greatest_domains, of_class_by_domains}
use Rattle.pure_order.proofs.order.Order.domains.Goals as goal

pub returns-in-Some-clause-greatest : goal.returns-in-Some-clause-greatest
returns-in-Some-clause-greatest c = rw c.self.view_is at (greatest_domains c.self.inside.tables c.order_is_decided.ensures c.self.invariant c.args.con c.args.class c.in-Some.domains.now c.in-Some.ensures)

pub returns-in-Some-clause-of_class : goal.returns-in-Some-clause-of_class
returns-in-Some-clause-of_class c =
    let g : AreGreatestDomains c.args.self.now c.args.con c.args.class c.in-Some.domains.now = rw c.self.view_is at (greatest_domains c.self.inside.tables c.order_is_decided.ensures c.self.invariant c.args.con c.args.class c.in-Some.domains.now c.in-Some.ensures) in
    of_class_by_domains c.args.self.now c.args.con c.args.class c.in-Some.domains.now g

pub returns-in-Some-clause-directed : goal.returns-in-Some-clause-directed
returns-in-Some-clause-directed c = rw c.self.view_is at (directed c.self.inside.tables c.self.invariant c.args.con c.args.class)
