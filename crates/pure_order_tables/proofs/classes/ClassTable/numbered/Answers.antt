use Rattle.pure_text.proofs.ListLaws.{each_read}
use Rattle.pure_order_tables.specs.ClassTable.{IsEntry}
use Rattle.pure_order_tables.specs.ClassView.{classes_of}
use Rattle.pure_order_tables.proofs.ClassTableLaws.{long_classes, named_at}
use Rattle.pure_order_tables.proofs.classes.ClassTable.numbered.Goals as goal

pub get-requires : goal.get-requires
get-requires c = rw (← long_classes c.self.inside.entries, c.self.view_is) c.requires

pub returns-clause-named : goal.returns-clause-named
returns-clause-named c = rw (← c.self.view_is) (named_at c.self.inside.entries c.args.number c.get.result.now (rw (← long_classes c.self.inside.entries, c.self.view_is) c.requires) c.get.ensures)

pub returns-clause-entry : goal.returns-clause-entry
returns-clause-entry c = rw (← c.self.view_is) (each_read (IsEntry (classes_of c.self.inside.entries)) c.self.inside.entries c.args.number c.get.result.now (rw (← long_classes c.self.inside.entries, c.self.view_is) c.requires) c.get.ensures c.self.invariant.entries)
