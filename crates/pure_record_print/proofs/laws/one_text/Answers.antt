use Rattle.std.proofs.Common.{sym, subst}
use Rattle.pure_record_print.specs.ReadBack.{IsTextOf}
use Rattle.pure_record_print.proofs.RoundTrip.{read-back, one-record}
use Rattle.pure_record_print.proofs.laws.one_text.Goals as goal

pub returns : goal.returns
returns c = λ source other texts others is js ns ms a b same.
    one-record _ texts others is js ns ms (read-back source texts is ns a) (subst (λ z. IsTextOf z others js ms) (sym same) (read-back other others js ms b))
