use Rattle.pure_logic.proofs.MergeLaws.{merge_has_declarations as has_declarations, merge_has_no_repeats, one_merge}
use Rattle.pure_logic.proofs.laws.merge_has_declarations.Goals as goal

pub returns-clause-has : goal.returns-clause-has
returns-clause-has c = has_declarations

pub returns-clause-distinct : goal.returns-clause-distinct
returns-clause-distinct c = merge_has_no_repeats

pub returns-clause-one : goal.returns-clause-one
returns-clause-one c = one_merge
