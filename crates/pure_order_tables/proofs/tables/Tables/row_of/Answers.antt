use Rattle.pure_order_tables.specs.ArityView.{algebra_of}
use Rattle.pure_order_tables.proofs.UncoveredLaws.{up_row}
use Rattle.pure_order_tables.proofs.tables.Tables.row_of.Goals as goal

pub returns : goal.returns
returns c = up_row (algebra_of c.self.inside.classes c.self.inside.arities) c.args.self.now c.args.number c.row_of.result.now c.self.view_is c.row_of.ensures
