use Rattle.std.proofs.Common.{[], ◌∷◌}
use Rattle.pure_certify.specs.Parts.{ConstPart, typ_parts}
use Rattle.pure_certify.proofs.PartLemmas.{fault_left}
use Rattle.pure_certify.proofs.TermLemmas.{leaf-answer}
use Rattle.pure_certify.proofs.term.fault_of_leaf.Goals as goal

pub returns-in-Some : goal.returns-in-Some
returns-in-Some g c =
    fault_left (g.D.Tables.declarations c.args.tables.now) (typ_parts c.args.typ.now) (ConstPart c.args.name c.args.typ.now ∷ []) c.in-Some.fault c.in-Some.ensures

pub returns-in-None : goal.returns-in-None
returns-in-None g c =
    leaf-answer (g.D.Tables.declarations c.args.tables.now) c.args.name c.args.typ.now c.fault_of_const.result c.in-None.ensures c.fault_of_const.ensures
