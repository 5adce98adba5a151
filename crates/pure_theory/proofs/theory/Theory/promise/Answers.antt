use Rattle.std.proofs.Common.{refl, sym, ◌∙◌}
use Rattle.pure_theory.proofs.LocalLaws.{no_fact, no_label, with_label}
use Rattle.pure_theory.proofs.theory.Theory.promise.Goals as goal

pub returns-in_default : goal.returns-in_default
returns-in_default c = no_fact c.args.self.now.declarations c.args.name c.in_default.ensures

pub returns-in_default-label : goal.returns-in_default-label
returns-in_default-label c = no_label c.args.self.now.declarations c.args.name c.in-Some.statement.now c.in-Some.ensures (sym c.label.ensures ∙ c.in_default-label.is)

pub returns : goal.returns
returns c = (refl, rw c.prop.ensures (with_label c.args.self.now.declarations c.args.name c.in-Some.statement.now c.in-Some.ensures c.in-Some-label.label (sym c.label.ensures ∙ c.in-Some-label.is)))
