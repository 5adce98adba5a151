use Rattle.pure_theory.proofs.PureLaws.{imp_fresh, imp_made}
use Rattle.pure_theory.proofs.pure.with_imp.Goals as goal

pub add_const-requires : goal.add_const-requires
add_const-requires c = rw c.in_ok-before.ensures imp_fresh

pub returns : goal.returns
returns c = rw (c.in_ok-more.ensures, c.in_ok-before.ensures, c.in_ok-typ.ensures) imp_made
