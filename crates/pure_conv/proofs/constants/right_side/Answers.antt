use Rattle.std.proofs.Common.{ap, sym, ◌∙◌}
use Rattle.pure_definitions.specs.Terms.Term.{Term}
use Rattle.pure_logic.specs.Connectives.{eq}
use Rattle.pure_logic.specs.Derivable.{Theorem}
use Rattle.pure_conv.proofs.constants.right_side.Goals as goal

pub returns-clause-side : goal.returns-clause-side
returns-clause-side c =
    let found = c.in-Some.ensures in (
      (found.0, found.1, ap (λ (th : Theorem). th.prop) (sym c.th.view_is) ∙ found.2 ∙ ap (λ (u : Term). eq found.0 found.1 u) (sym c.in_ok-term.ensures)),
      c.in_ok-rests.ensures.items ∙ c.deref.ensures.value ∙ ap (λ (th : Theorem). th.rests) c.th.view_is,
    )
