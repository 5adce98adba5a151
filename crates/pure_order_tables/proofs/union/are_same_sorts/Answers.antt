use Rattle.std.proofs.Common.{refl}
use Rattle.std.proofs.lemmas.Bool.Decides.{Decides-eqb}
use Rattle.std.proofs.lemmas.Slice.Eq.{slice_eq-Decides}
use Rattle.pure_definitions.specs.Types.Typ.{sort_eq}
use Rattle.pure_order_tables.proofs.union.are_same_sorts.Goals as goal

pub returns : goal.returns
returns c = slice_eq-Decides (λ a b. slice_eq-Decides Decides-eqb a b (sort_eq a b) refl) c.args.first.now c.args.second.now c.eq.result c.eq.ensures
