use Rattle.std.proofs.Common.{◌≡◌, drop}
use Rattle.pure_theory_run.specs.Named.{lemma_named}
use Rattle.pure_theory_run.proofs.named.lemma_named.Given as goal

abbrev pub invariant-loop-duty : goal.invariant-loop-duty
invariant-loop-duty l = lemma_named l.names l.name (drop l.duty-index l.duties) ≡ lemma_named l.names l.name l.duties
