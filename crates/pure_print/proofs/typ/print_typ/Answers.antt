use Rattle.std.proofs.Common.{◌≡◌}
use Rattle.pure_print.specs.TypText.{typ_text}
use Rattle.pure_print.proofs.WrittenAlone.{written-alone}
use Rattle.pure_print.proofs.TypReadBack.{typ-read_back}
use Rattle.pure_print.proofs.typ.print_typ.Goals as goal

pub returns-clause-read_back : goal.returns-clause-read_back
returns-clause-read_back c = λ h.
    let text : c.from.result ≡ typ_text c.args.names.now c.args.t.now = written-alone _ _ _ _ c.from.ensures c.in_ok-push_typ.ensures c.new-text.ensures.items in
    rw text (typ-read_back c.args.names.now c.args.t.now h)
