use Rattle.pure_definitions.proofs.LiftLaws.{lift-lift}
use Rattle.pure_term_laws.proofs.BoundLaws.{lift-zero, lift-again}
use Rattle.pure_definitions.proofs.TermLemmas.{term_size-lift, term_depth-lift}
use Rattle.pure_term_laws.proofs.laws.lifting.Goals as goal

pub returns : goal.returns
returns c = record { zero = lift-zero; again = lift-again; twice = lift-lift; size = term_size-lift; depth = term_depth-lift }
