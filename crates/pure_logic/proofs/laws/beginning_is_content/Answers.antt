use Rattle.pure_logic.proofs.MergeLaws.{beginning_is_content as is_content, parents_are_below}
use Rattle.pure_logic.proofs.AncestorLaws.{one_beginning}
use Rattle.pure_logic.proofs.laws.beginning_is_content.Goals as goal

pub returns-clause-content : goal.returns-clause-content
returns-clause-content c = is_content

pub returns-clause-below : goal.returns-clause-below
returns-clause-below c = parents_are_below

pub returns-clause-one : goal.returns-clause-one
returns-clause-one c = one_beginning
