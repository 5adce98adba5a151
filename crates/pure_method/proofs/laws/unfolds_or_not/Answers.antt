use Rattle.pure_method.proofs.UnfoldDecidedLaws.{unfolds_or_not}
use Rattle.pure_method.proofs.laws.unfolds_or_not.Goals as goal
use Rattle.pure_definitions.specs.Declarations.Decl.{algebra_of}

pub returns : goal.returns
returns c Q q = unfolds_or_not (algebra_of Q.declarations) q.coregular
