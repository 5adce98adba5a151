use Rattle.std.proofs.Common.{◌≡◌, ◌≢◌, length, sym, ◌∙◌}
use Rattle.pure_definitions.specs.Models.Equality.{typ_eq-is_equality}
use Rattle.pure_definitions.proofs.ArrowLemmas.{takes-count, takes-domain}
use Rattle.pure_term.proofs.typing.takes.Goals as goal

pub returns-then-args-ne2 : goal.returns-then-args-ne2
returns-then-args-ne2 c =
    let other : length c.as_slice-args.result.now ≢ 2 = λ n. c.if-args-ne2.true (cc) in
    rw (← c.function.view_is, c.in-Con.is, ← c.as_slice-args.ensures) (λ h. absurd (cc), λ h. absurd (takes-count c.in-Con.name c.as_slice-args.result.now c.args.argument.now other h))

pub returns-else-args-ne2 : goal.returns-else-args-ne2
returns-else-args-ne2 c =
    let two : length c.as_slice-args.result.now ≡ 2 = cc in
    let zero : c.in-Con.name ≡ 0 = cc in
    let same = typ_eq-is_equality c.index-args-0.result c.args.argument.now in
    let domain = takes-domain c.as_slice-args.result.now c.args.argument.now c.index-args-0.result two c.index-args-0.is in
    rw (← c.function.view_is, c.in-Con.is, zero, ← c.as_slice-args.ensures) (λ h. domain.0 (same.0 (sym c.eq.ensures ∙ h)), λ h. c.eq.ensures ∙ same.1 (domain.1 h))
