use Rattle.std.proofs.Common.{◌≡◌, arith}
use Rattle.std.proofs.lemmas.Bool.Decides.{nat_tests}
use Rattle.pure_definitions.specs.Terms.Measures.{typ_index_above}
use Rattle.pure_elab_rows.proofs.FixedLemmas.{fixed_by_index}
use Rattle.pure_elab_rows.proofs.fixed.is_fixed.Goals as goal

pub returns : goal.returns
returns c = λ yes. let bare : typ_index_above c.args.typ.now ≡ 0 = grind (arith, nat_tests) in fixed_by_index c.args.typ.now bare
