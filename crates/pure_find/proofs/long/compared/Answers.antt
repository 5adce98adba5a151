use Rattle.std.proofs.Common.{◌∙◌}
use Rattle.pure_find.proofs.LongPropositions.{ready-pair, answered-by}
use Rattle.pure_find.proofs.long.compared.Goals as goal

pub standing_by-requires : goal.standing_by-requires
standing_by-requires c = ready-pair c.args.left c.args.right.now c.requires.left c.requires.right c.deref.result.now (c.deref.ensures.value ∙ c.in_ok-pairs.ensures)

pub returns : goal.returns
returns c = answered-by c.deref.result.now _ (c.deref.ensures.value ∙ c.in_ok-pairs.ensures) _ c.standing_by.ensures
