use Rattle.pure_tunify.proofs.ReachLaws.{on_true}
use Rattle.pure_tunify.proofs.unifiable.is_closed.Goals as goal

pub returns : goal.returns
returns c = record {
  agree = on_true _ c.all_agree.result c.all_agree.ensures c.if-not-all_agree.false;
  ranked = on_true _ c.are_ranked.result c.are_ranked.ensures c.if-not-are_ranked.false;
  met = on_true _ c.all_met.result c.all_met.ensures c.if-not-all_met.false;
}
