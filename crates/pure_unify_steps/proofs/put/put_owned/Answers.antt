use Rattle.std.proofs.Common.{refl}
use Rattle.pure_unify_steps.proofs.PutLaws.{stays_answer}
use Rattle.pure_unify_steps.proofs.put.put_owned.Goals as goal

pub returns-then-stays-clause-answer : goal.returns-then-stays-clause-answer
returns-then-stays-clause-answer c = stays_answer c.args.setting.now c.args.t c.args.t (rw c.if-stays.true at c.stays.ensures) refl c.requires.long
