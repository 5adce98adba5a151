use Rattle.pure_pairs.proofs.ModuloLaws.{equal_or_differs, not_both, one_place}
use Rattle.pure_pairs.proofs.laws.equal_or_differs.Goals as goal

pub returns-clause-one : goal.returns-clause-one
returns-clause-one c = equal_or_differs

pub returns-clause-not_both : goal.returns-clause-not_both
returns-clause-not_both c = not_both

pub returns-clause-place : goal.returns-clause-place
returns-clause-place c = one_place
