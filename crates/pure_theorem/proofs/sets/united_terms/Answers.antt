use Rattle.pure_theorem.proofs.SetLaws.{union_of_terms}
use Rattle.pure_theorem.proofs.sets.united_terms.Goals as goal

pub returns : goal.returns
returns c = union_of_terms c.args.left.now c.args.right.now c.in_ok-all.all.items c.in_ok-all.ensures c.requires.left_set c.requires.right_set
