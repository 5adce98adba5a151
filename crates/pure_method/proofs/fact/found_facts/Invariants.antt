use Rattle.std.proofs.Common.{take}
use Rattle.pure_text.specs.Lists.{EachTwo}
use Rattle.pure_method.specs.Facts.{IsFoundIn}
use Rattle.pure_method.proofs.fact.found_facts.Given as goal

abbrev pub invariant-loop-place : goal.invariant-loop-place
invariant-loop-place l = EachTwo (IsFoundIn l.names l.theory l.lemma) (take l.place l.written) l.found.items
