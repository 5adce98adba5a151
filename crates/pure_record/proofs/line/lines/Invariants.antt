use Rattle.pure_record.specs.Left.{left}
use Rattle.pure_record.specs.Seen.{seen_lines}
use Rattle.pure_record.proofs.ReadLemmas.{HasLines}
use Rattle.pure_record.proofs.line.lines.Given as goal

abbrev pub invariant-loop : goal.invariant-loop
invariant-loop l = HasLines (seen_lines l.list.items) (left l.initial.reader) (left l.reader)
