use Rattle.pure_unfold.proofs.UnfoldLaws.{unfolds-once, unfolds-something}
use Rattle.pure_unfold.proofs.laws.unfolds_once.Goals as goal

pub returns-clause-once : goal.returns-clause-once
returns-clause-once c = unfolds-once

pub returns-clause-something : goal.returns-clause-something
returns-clause-something c = unfolds-something

pub returns-clause-definition : goal.returns-clause-definition
returns-clause-definition c A prop t u h none = none h.name h.typ h.body h.definition
