use Rattle.std.proofs.Common.{◌≡◌}
use Rattle.pure_print.specs.TermText.{state_text}
use Rattle.pure_print.proofs.WrittenAlone.{written-alone}
use Rattle.pure_print.proofs.StateLemmas.{state-read_back}
use Rattle.pure_print.proofs.term.print_state_term.Goals as goal

pub returns-clause-read_back : goal.returns-clause-read_back
returns-clause-read_back c = λ h.
    let text : c.from.result ≡ state_text c.args.names.now c.args.t.now = written-alone _ _ _ _ c.from.ensures c.in_ok-push_term.ensures c.new-text.ensures.items in
    rw text (state-read_back c.args.names.now c.args.t.now h)
