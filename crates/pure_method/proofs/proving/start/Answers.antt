use Rattle.std.proofs.Common.{sym, subst}
use Rattle.pure_definitions.specs.Types.Typ.{prop}
use Rattle.pure_theorem.specs.Shapes.{IsTyped}
use Rattle.pure_method.proofs.StartLaws.{started-run, started-fault, stands-first, stands-refused}
use Rattle.pure_method.proofs.proving.start.Goals as goal

pub start-requires : goal.start-requires
start-requires c = subst IsTyped (sym c.in_ok-statement.ensures) (prop, c.requires.proposition.typed)

pub returns-in-Ok-clause-proves : goal.returns-in-Ok-clause-proves
returns-in-Ok-clause-proves c =
    started-run c.args._names.now c.args.duty.now c.requires c.in_ok-statement.statement c.in_ok-statement.ensures c.theory_of.result.now c.theory_of.ensures.value c.theory_of.ensures.sound
    c.in-Ok.goal c.in-Ok.ensures.answer c.in-Ok.ensures.derivable

pub returns-clause-proves : goal.returns-clause-proves
returns-clause-proves c = started-fault c.args._names.now c.args.duty.now c.requires c.in_ok-statement.statement c.in_ok-statement.ensures c.in-Err.fault c.if-is_memory.ensures c.in-Err.ensures.answer

pub returns-in-Ok-clause-begins : goal.returns-in-Ok-clause-begins
returns-in-Ok-clause-begins c = stands-first c.args._names.now c.args.duty.now c.requires c.in_ok-statement.statement c.in_ok-statement.ensures c.in-Ok.goal c.in-Ok.ensures.answer

pub returns-clause-begins : goal.returns-clause-begins
returns-clause-begins c = stands-refused c.args._names.now c.args.duty.now c.requires c.in_ok-statement.statement c.in_ok-statement.ensures c.in-Err.fault c.if-is_memory.ensures c.in-Err.ensures.answer
