use Rattle.std.proofs.Common.{◌≡◌, ◌+◌, arith}
use Rattle.pure_definitions.specs.Terms.Typing.{node_count, Takes}
use Rattle.pure_definitions.specs.Terms.Limits.{cut_off}
use Rattle.pure_term.specs.TypeAnswer.{found_typ}
use Rattle.pure_term.proofs.AnswerLemmas.{fault-function, fault-argument, fault-application}
use Rattle.pure_term.proofs.typing.answer_at_app.Goals as goal

pub returns-in-Err : goal.returns-in-Err
returns-in-Err c = λ bs arg h k. fault-function bs c.args.fun.now arg c.args.function c.in-Err.fault c.deeper.result c.in-Err.is c.deeper.ensures h

pub returns-in-Err-argument : goal.returns-in-Err-argument
returns-in-Err-argument c = λ bs arg h k.
    let count : c.saturating_add.result ≡ cut_off (node_count c.args.fun.now + 1) = omega (arith, c.node_count_of.ensures, c.saturating_add.ensures) in
    fault-argument bs c.args.fun.now arg c.args.function c.args.argument c.in-Ok.function c.saturating_add.result c.in-Err-argument.fault c.deeper-in-Err-argument.result
    c.in-Ok.is c.in-Err-argument.is count c.deeper-in-Err-argument.ensures h k

pub returns : goal.returns
returns c = λ bs arg h k.
    let none : ¬ Takes (found_typ c.in-Ok.function) (found_typ c.in-Ok-argument.argument) = rw (← c.lent.ensures) (rw c.in-None.is at c.in_ok-range.ensures) in
    fault-application bs c.args.fun.now arg c.args.function c.args.argument c.in-Ok.function c.in-Ok-argument.argument c.in-Ok.is c.in-Ok-argument.is none h k
