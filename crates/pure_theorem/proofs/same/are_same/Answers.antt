use Rattle.std.proofs.Common.{sym, ◌∙◌}
use Rattle.pure_definitions.specs.Models.Equality.{term_eq-is_equality}
use Rattle.pure_theorem.proofs.same.are_same.Goals as goal

pub returns : goal.returns
returns c =
    let same = term_eq-is_equality c.args.t.now c.args.u.now in
    (λ h. same.0 (sym c.eq.ensures ∙ h), λ h. c.eq.ensures ∙ same.1 h)
