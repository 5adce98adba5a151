use Rattle.std.specs.Prelude.{Some}
use Rattle.pure_theory_tables.proofs.FactLaws.{promise_of}
use Rattle.pure_theory_tables.proofs.declarations.Declarations.promise_of.Goals as goal

pub returns-in-None : goal.returns-in-None
returns-in-None c = λ A. c.in-None.ensures (record { label = Some c.args.label; prop = A })

pub returns-in-Some : goal.returns-in-Some
returns-in-Some c = promise_of (λ b. b.now) c.of_label.result c.args.self.now c.args.name c.args.label c.in-Some.statement.now c.in-Some.ensures c.of_label.ensures
