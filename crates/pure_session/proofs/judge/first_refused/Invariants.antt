use Rattle.std.proofs.Common.{◌≡◌, drop}
use Rattle.std.specs.List.{find}
use Rattle.pure_session.proofs.JudgeLemmas.{is_refused}
use Rattle.pure_session.proofs.judge.first_refused.Given as goal

abbrev pub invariant-loop-import : goal.invariant-loop-import
invariant-loop-import l = find (is_refused l.graph.names.items l.graph.lost.items) l.imports ≡ find (is_refused l.graph.names.items l.graph.lost.items) (drop l.import-index l.imports)
