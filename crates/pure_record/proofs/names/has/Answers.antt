use Rattle.std.proofs.Common.{◌∙◌, sym}
use Rattle.pure_record.proofs.NameLemmas.{place-holds}
use Rattle.pure_record.proofs.names.has.Goals as goal

pub returns-then-equals : goal.returns-then-equals
returns-then-equals c = λ yes. place-holds c.args.list.now c.loop-place.place _ c.args.text.now c.at.ensures (sym c.equals.ensures ∙ c.if-equals.true)
