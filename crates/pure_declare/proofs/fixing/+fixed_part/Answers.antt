use Rattle.std.proofs.Common.{◌≡◌, refl, arith}
use Rattle.pure_definitions.specs.Terms.Measures.{term_index_above}
use Rattle.pure_definitions.proofs.MeasureLemmas.{term_stays}
use Rattle.pure_declare.specs.Fixing.{fixed_typ_variable, fixed_variable}
use Rattle.pure_declare.proofs.fixing.+fixed_part.Goals as goal

pub returns-then-index_above_of-eq0 : goal.returns-then-index_above_of-eq0
returns-then-index_above_of-eq0 t c =
    let none : term_index_above c.args.t.now.value ≡ 0 = rw (← c.deref-whole.ensures) (omega arith) in
    rw (term_stays fixed_typ_variable fixed_variable (λ x s. refl) (λ x T. refl) c.args.t.now.value none) c.try_clone.ensures
