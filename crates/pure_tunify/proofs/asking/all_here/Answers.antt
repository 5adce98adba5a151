use Rattle.std.proofs.Common.{ℕ, List, Option, subst}
use Rattle.pure_typ.specs.SortUnion.{IsSortUnion}
use Rattle.pure_tunify.specs.Asking.{classes_known}
use Rattle.pure_tunify.proofs.asking.all_here.Goals as goal

pub returns-in_ok-all-in-None : goal.returns-in_ok-all-in-None
returns-in_ok-all-in-None c = subst (λ (o : Option (List ℕ)). IsSortUnion (classes_known c.args.asked.now o) c.args.asked.now.asked c.in_ok-all-in-None.all) c.in-None.ensures.value c.in_ok-all-in-None.ensures

pub returns-in_ok-all-in-Some : goal.returns-in_ok-all-in-Some
returns-in_ok-all-in-Some c = subst (λ (o : Option (List ℕ)). IsSortUnion (classes_known c.args.asked.now o) c.args.asked.now.asked c.in_ok-all-in-Some.all) c.in-Some.ensures.value c.in_ok-all-in-Some.ensures
