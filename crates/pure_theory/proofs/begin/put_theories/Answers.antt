use Rattle.std.proofs.Common.{sym}
use Rattle.pure_theory.proofs.OnceLaws.{once_own}
use Rattle.pure_theory.proofs.begin.put_theories.Goals as goal

pub returns-in_ok-put_theory : goal.returns-in_ok-put_theory
returns-in_ok-put_theory c = once_own _ c.args.theory.now _ _ c.in-Some.own (rw c.ancestor_list.ensures at c.in_ok-put_all.ensures) (sym c.in-Some.ensures) c.in_ok-put_theory.ensures
