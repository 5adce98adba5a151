use Rattle.pure_term.specs.TypeAnswer.{IsTypeAnswer}
use Rattle.pure_theorem.proofs.ShapeLaws.{untyped_has_none}
use Rattle.pure_theorem.proofs.typed.typ_of_typed.Goals as goal

pub unreachable-requires : goal.unreachable-requires
unreachable-requires c =
    untyped_has_none c.args.t.now c.requires.0 c.in-Err-NotTyped.field-0 c.in-Err-NotTyped.field-0-0 c.in-Err-NotTyped.field-0-is c.in-Err-NotTyped.ensures c.requires.1
