use Rattle.std.proofs.lemmas.Result.{IfOk-weaker}
use Rattle.pure_words.proofs.Builders.{added_here}
use Rattle.pure_words.proofs.line.with_arg.Goals as goal

pub returns-then-is_taken-clause-globals : goal.returns-then-is_taken-clause-globals
returns-then-is_taken-clause-globals c = λ here. IfOk-weaker c.arg.result _ _ (λ r adds. added_here c.args.command r c.args.arg here adds) c.arg.ensures
