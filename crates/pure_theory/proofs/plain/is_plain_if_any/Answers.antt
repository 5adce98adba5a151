use Rattle.pure_theory.proofs.PlainLaws.{if_some}
use Rattle.pure_theory.proofs.plain.is_plain_if_any.Goals as goal

pub returns-in-Some : goal.returns-in-Some
returns-in-Some c = if_some c.args.names.now c.args.theory c.in-Some.own c.is_plainly_named.result c.in-Some.is c.is_plainly_named.ensures
