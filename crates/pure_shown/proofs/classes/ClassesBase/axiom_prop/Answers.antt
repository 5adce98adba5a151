use Rattle.pure_shown.proofs.DeclaredLaws.{no_axiom}
use Rattle.pure_shown.proofs.classes.ClassesBase.axiom_prop.Goals as goal

pub returns : goal.returns
returns c = λ A. no_axiom c.args.self.now.order c.args._name A
