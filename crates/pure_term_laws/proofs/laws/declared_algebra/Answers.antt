use Rattle.pure_term_laws.proofs.DeclLaws.{declared_classes, declared_arities}
use Rattle.pure_term_laws.proofs.laws.declared_algebra.Goals as goal

pub returns-clause-classes : goal.returns-clause-classes
returns-clause-classes c = declared_classes

pub returns-clause-arities : goal.returns-clause-arities
returns-clause-arities c = declared_arities
