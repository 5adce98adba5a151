use Rattle.std.proofs.Common.{◌≡◌}
use Rattle.pure_record.specs.Seen.{seen_items, seen_lines}
use Rattle.pure_record_print.specs.Printed.{record_text}
use Rattle.pure_record_print.proofs.PrintLemmas.{record-written}
use Rattle.pure_record_print.proofs.RoundTrip.{read-back}
use Rattle.pure_record_print.proofs.print.print_record.Goals as goal

pub returns-clause-read_back : goal.returns-clause-read_back
returns-clause-read_back c = λ source h.
    let read = c.args.read.now in
    let text : c.from.result ≡ record_text read.names (seen_items read.items.items) (seen_lines read.lines.items) =
    record-written _ _ _ _ _ _ _ _ _ c.from.ensures c.new-text.ensures.items c.in_ok-extend_from_slice.ensures.items (rw c.as_slice.ensures.value at c.in_ok-push_items.ensures)
    (rw c.as_slice-2.ensures.value at c.in_ok-push_lines.ensures) c.in_ok-extend_from_slice-2.ensures.items in
    rw text (read-back source read.names (seen_items read.items.items) (seen_lines read.lines.items) h)
