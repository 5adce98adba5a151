use Rattle.std.proofs.Common.{sym, ◌∙◌}
use Rattle.pure_record.proofs.ReadLemmas.{mark-next}
use Rattle.pure_record.proofs.reader.expect.Goals as goal

pub returns : goal.returns
returns c = mark-next c.args.mark c.in_ok-found.found _ _ c.in_ok-found.ensures (sym c.is_mark.ensures ∙ c.if-not-is_mark.false)
