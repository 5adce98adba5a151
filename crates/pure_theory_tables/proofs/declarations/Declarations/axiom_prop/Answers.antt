use Rattle.std.specs.Prelude.{None}
use Rattle.pure_theory_tables.proofs.FactLaws.{axiom_of}
use Rattle.pure_theory_tables.proofs.declarations.Declarations.axiom_prop.Goals as goal

pub returns-in-None : goal.returns-in-None
returns-in-None c = λ A. c.in-None.ensures (record { label = None; prop = A })

pub returns-in-Some : goal.returns-in-Some
returns-in-Some c = axiom_of (λ b. b.now) c.of_axiom.result c.args.self.now c.args.name c.in-Some.statement.now c.in-Some.ensures c.of_axiom.ensures
