use Rattle.pure_term.specs.TypeAnswer.{IsTypeAnswer}
use Rattle.pure_theorem.proofs.ShapeLaws.{typed_exactly, untyped_answer}
use Rattle.pure_theorem.proofs.typed.has_typ.Goals as goal

pub returns-in-Ok : goal.returns-in-Ok
returns-in-Ok c = typed_exactly c.args.t.now c.in-Ok.own c.args.typ.now c.are_same_typs.result c.in-Ok.ensures c.are_same_typs.ensures

pub returns-in-Err-NotTyped : goal.returns-in-Err-NotTyped
returns-in-Err-NotTyped c = untyped_answer c.args.t.now c.args.typ.now c.in-Err-NotTyped.field-0 c.in-Err-NotTyped.field-0-0 c.in-Err-NotTyped.field-0-is c.in-Err-NotTyped.ensures
