use Rattle.std.proofs.Common.{sym, ◌∙◌}
use Rattle.pure_definitions.specs.Models.Equality.{typ_eq-is_equality}
use Rattle.pure_theorem.proofs.same.are_same_typs.Goals as goal

pub returns : goal.returns
returns c =
    let same = typ_eq-is_equality c.args.t.now c.args.u.now in
    (λ h. same.0 (sym c.eq.ensures ∙ h), λ h. c.eq.ensures ∙ same.1 h)
