use Rattle.pure_theory.proofs.PureLaws.{eq_fresh, eq_made}
use Rattle.pure_theory.proofs.pure.with_eq.Goals as goal

pub add_const-requires : goal.add_const-requires
add_const-requires c = rw c.in_ok-before.ensures eq_fresh

pub returns : goal.returns
returns c = rw (c.in_ok-more.ensures, c.in_ok-before.ensures, c.in_ok-typ.ensures) eq_made
