use Rattle.pure_eta.proofs.KeptLaws.{steps_keep_type, steps_keep_parts, steps_keep_certified, steps_keep_beta_normal}
use Rattle.pure_eta.proofs.laws.eta_steps_keep.Goals as goal

pub returns-clause-typ : goal.returns-clause-typ
returns-clause-typ c = steps_keep_type

pub returns-clause-parts : goal.returns-clause-parts
returns-clause-parts c = steps_keep_parts

pub returns-clause-certified : goal.returns-clause-certified
returns-clause-certified c = steps_keep_certified

pub returns-clause-normal : goal.returns-clause-normal
returns-clause-normal c = steps_keep_beta_normal
