use Rattle.std.proofs.Common.{◌≡◌, map, drop}
use Rattle.pure_rows.specs.Names.{meant_by}
use Rattle.pure_rows.proofs.row.named.Given as goal

abbrev pub invariant-loop-name : goal.invariant-loop-name
invariant-loop-name g l =
    meant_by (map (λ entry. (entry.0.now, entry.1)) (drop l.name-index l.names)) l.word ≡ meant_by (map (λ entry. (entry.0.now, entry.1)) l.names) l.word
