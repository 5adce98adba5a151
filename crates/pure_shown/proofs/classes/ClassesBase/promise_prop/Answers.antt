use Rattle.pure_shown.proofs.DeclaredLaws.{no_promise}
use Rattle.pure_shown.proofs.classes.ClassesBase.promise_prop.Goals as goal

pub returns : goal.returns
returns c = λ A m. no_promise c.args.self.now.order m.0 c.args._label A m.1
