use Rattle.pure_logic.proofs.ProvesLaws.{assumed, weaker, implication_is_proved, conclusion_is_proved, chain_is_proved, end_of_chain_is_proved, quantification_is_proved, instance_of_body_is_proved, proved_is_proposition, cut_is_proved}
use Rattle.pure_logic.proofs.laws.proved.Goals as goal

pub returns-clause-assumed : goal.returns-clause-assumed
returns-clause-assumed c = assumed

pub returns-clause-weaker : goal.returns-clause-weaker
returns-clause-weaker c = weaker

pub returns-clause-implication : goal.returns-clause-implication
returns-clause-implication c = implication_is_proved

pub returns-clause-conclusion : goal.returns-clause-conclusion
returns-clause-conclusion c = conclusion_is_proved

pub returns-clause-chain : goal.returns-clause-chain
returns-clause-chain c = chain_is_proved

pub returns-clause-chain_end : goal.returns-clause-chain_end
returns-clause-chain_end c = end_of_chain_is_proved

pub returns-clause-proposition : goal.returns-clause-proposition
returns-clause-proposition c = proved_is_proposition

pub returns-clause-cut : goal.returns-clause-cut
returns-clause-cut c = cut_is_proved

pub returns-clause-quantification : goal.returns-clause-quantification
returns-clause-quantification c = quantification_is_proved

pub returns-clause-body : goal.returns-clause-body
returns-clause-body c = instance_of_body_is_proved
