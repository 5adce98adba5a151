use Rattle.std.proofs.Common.{◌≡◌, ◌+◌, ◌<◌, arith, refl}
use Rattle.pure_definitions.specs.Terms.Term.{Abs}
use Rattle.pure_definitions.specs.Reduction.Eta.{abstraction_count}
use Rattle.pure_pattern_terms.proofs.SizeLaws.{count-fits}
use Rattle.pure_pattern_terms.proofs.written.+abstractions_of.Goals as goal

pub overflow_add-result : goal.overflow_add-result
overflow_add-result t c =
    let whole : c.args.t.now ≡ Abs c.in-Abs.typ c.in-Abs.body.value = rw (← c.t.view_is, c.in-Abs.is) refl in
    let fits : 1 + abstraction_count c.in-Abs.body.value < 4294967296 = count-fits c.args.t.now c.in-Abs.body.value c.in-Abs.typ whole c.requires in
    let same : c.abstractions_of.result ≡ abstraction_count c.in-Abs.body.value = rw (← c.deref.ensures) c.abstractions_of.ensures in
    omega arith
