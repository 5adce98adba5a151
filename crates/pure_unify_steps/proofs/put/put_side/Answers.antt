use Rattle.pure_unify_steps.proofs.PutLaws.{stays_answer}
use Rattle.pure_unify_steps.proofs.put.put_side.Goals as goal

pub returns-then-stays-clause-answer : goal.returns-then-stays-clause-answer
returns-then-stays-clause-answer c = stays_answer c.args.setting.now c.args.t.now c.in_ok-copy.copy (rw c.if-stays.true at c.stays.ensures) c.in_ok-copy.ensures c.requires.long
