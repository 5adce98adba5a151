use Rattle.pure_find.proofs.NamedLaws.{text-found}
use Rattle.pure_find.proofs.named.found_for.Goals as goal

pub returns : goal.returns
returns c = text-found c.args.names.now c.args.duty.now _ c.in_ok-finding.ensures _ _ c.in_ok-text.ensures c.is_clean-clean.ensures
