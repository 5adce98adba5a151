use Rattle.pure_logic.proofs.PropositionLaws.{conclusion_is_proposition as propositions, derivable_is_proposition, derivable_alone_is_proposition}
use Rattle.pure_logic.proofs.laws.conclusion_is_proposition.Goals as goal

pub returns-clause-tree : goal.returns-clause-tree
returns-clause-tree c = propositions

pub returns-clause-derivable : goal.returns-clause-derivable
returns-clause-derivable c = derivable_is_proposition

pub returns-clause-alone : goal.returns-clause-alone
returns-clause-alone c = derivable_alone_is_proposition
