use Rattle.pure_theory.proofs.PureLaws.{prop_fresh, typs_made}
use Rattle.pure_theory.proofs.pure.with_typs.Goals as goal

pub add_typ-requires : goal.add_typ-requires
add_typ-requires c = rw c.in_ok-none.ensures (λ n m. m)

pub add_typ-requires-2 : goal.add_typ-requires-2
add_typ-requires-2 c = rw (c.in_ok-one.ensures, c.in_ok-none.ensures) prop_fresh

pub returns : goal.returns
returns c = rw (c.in_ok-both.ensures, c.in_ok-one.ensures, c.in_ok-none.ensures) typs_made
