use Rattle.pure_record.proofs.RunLemmas.{IsSoFar}
use Rattle.pure_record.proofs.runs.long_run.Given as goal

-- no run so far is too long, nor is the current one
abbrev pub invariant-loop-token : goal.invariant-loop-token
invariant-loop-token l = IsSoFar l.source l.tokens l.token-index l.run.start l.run.count
