use Rattle.std.proofs.Common.{take}
use Rattle.pure_text.specs.Lists.{EachTwo}
use Rattle.pure_promise.specs.Seen.{seen}
use Rattle.pure_promise.specs.Rows.{IsRowOf}
use Rattle.pure_promise.proofs.lemma_rows.rows.Given as goal

abbrev pub invariant-loop-place : goal.invariant-loop-place
invariant-loop-place l = EachTwo (IsRowOf l.names (seen l.entries)) (take l.place (seen l.entries)) l.rows.items
