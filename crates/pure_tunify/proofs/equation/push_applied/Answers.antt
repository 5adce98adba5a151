use Rattle.std.proofs.Common.{◌∷◌, ◌∙◌}
use Rattle.std.specs.Prelude.{reverse}
use Rattle.pure_tunify.specs.Steps.{pair}
use Rattle.pure_tunify.specs.Equations.{unknown_range}
use Rattle.pure_tunify.proofs.EquationLaws.{parts_stand}
use Rattle.pure_tunify.proofs.equation.push_applied.Goals as goal

pub returns-in_ok-push_parts-in-Some : goal.returns-in_ok-push_parts-in-Some
returns-in_ok-push_parts-in-Some c =
    let first = c.in-Some.parts.0.now in
    let last = c.in-Some.parts.1.now in
    parts_stand c.args.fun first last c.args.arg (unknown_range c.args.number) (reverse c.push_parts.new.work.items) c.in-Some.ensures
    (c.in_ok-push_parts-in-Some.ensures ∙ (λ l. pair first c.args.arg ∷ pair last (c.unknown-range.ensures l) ∷ reverse (c.requires l)))
