use Rattle.pure_consistency.proofs.ConsistencyLaws.{trees_keep_truth}
use Rattle.pure_consistency.proofs.laws.trees_keep_truth.Goals as goal

pub returns : goal.returns
returns c = trees_keep_truth
