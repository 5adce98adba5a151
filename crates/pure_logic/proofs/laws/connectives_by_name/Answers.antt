use Rattle.pure_logic.proofs.NameLaws.{implication_by_name, mark_by_name, quantification_by_name, equality_by_name}
use Rattle.pure_logic.proofs.laws.connectives_by_name.Goals as goal

pub returns-clause-implication : goal.returns-clause-implication
returns-clause-implication c = implication_by_name

pub returns-clause-mark : goal.returns-clause-mark
returns-clause-mark c = mark_by_name

pub returns-clause-quantification : goal.returns-clause-quantification
returns-clause-quantification c = quantification_by_name

pub returns-clause-equality : goal.returns-clause-equality
returns-clause-equality c = equality_by_name
