use Rattle.pure_theory.proofs.PureLaws.{axiom_fresh, axiom_made}
use Rattle.pure_theory.proofs.pure.pure_declarations.Goals as goal

pub add_axiom-requires : goal.add_axiom-requires
add_axiom-requires c = rw c.in_ok-before.ensures axiom_fresh

pub returns : goal.returns
returns c = rw (c.in_ok-all.ensures, c.in_ok-before.ensures, c.in_ok-pointer.ensures, c.in_ok-axiom.ensures) axiom_made
