use Rattle.pure_pattern_bounds.proofs.StateLaws.{start_is_covered, replaced_is_covered, set_is_covered, covered_is_within}
use Rattle.pure_pattern_bounds.proofs.laws.entries_need_not_be_held.Goals as goal

pub returns-clause-start : goal.returns-clause-start
returns-clause-start c = start_is_covered

pub returns-clause-replaced : goal.returns-clause-replaced
returns-clause-replaced c = replaced_is_covered

pub returns-clause-set : goal.returns-clause-set
returns-clause-set c = set_is_covered

pub returns-clause-within : goal.returns-clause-within
returns-clause-within c = covered_is_within
