use Rattle.std.proofs.Common.{ap}
use Rattle.pure_check.proofs.ReplayLemmas.{replay-answer}
use Rattle.pure_check.proofs.replayed.replayed.Goals as goal

pub returns-in-Ok-of_read-clause-ok : goal.returns-in-Ok-of_read-clause-ok
returns-in-Ok-of_read-clause-ok g c =
    rw (c.answer_of.ensures.text, c.answer_of.ensures.clean)
    (replay-answer _ c.args.name.now c.in-Ok.file _ _ _ c.answer_of.ensures.run (rw c.bytes.ensures at c.in-Ok.ensures) c.read-read.result c.read-read.ensures.text c.read-read.ensures.missing c.in-Ok-of_read.ensures.ok)
