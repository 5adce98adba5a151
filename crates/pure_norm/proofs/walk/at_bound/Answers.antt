use Rattle.std.proofs.Common.{◌≡◌, ◌∙◌, sym}
use Rattle.std.proofs.lemmas.Bool.{OnTrue_at}
use Rattle.pure_definitions.specs.Terms.Term.{Bound}
use Rattle.pure_definitions.specs.Terms.Bounds.{lift_term}
use Rattle.pure_term_laws.proofs.BoundLaws.{lift-zero}
use Rattle.pure_norm.specs.Env.{meant}
use Rattle.pure_norm.proofs.walk.at_bound.Goals as goal

pub returns-in_ok-variable-in-Place : goal.returns-in_ok-variable-in-Place
returns-in_ok-variable-in-Place c =
    let found : lift_term 0 0 (meant c.deref.result.now (Bound c.args.place)) ≡ Bound c.in-Place.place = rw c.in-Place.is at c.in_ok-found.ensures in
    let same : lift_term 0 0 (meant c.deref.result.now (Bound c.args.place)) ≡ meant c.args.scope.now.value (Bound c.args.place) =
    rw c.deref.ensures (lift-zero 0 (meant c.args.scope.now.value (Bound c.args.place))) in
    rw c.in_ok-variable-in-Place.ensures (sym found ∙ same, ((λ x. x), tt))

pub returns-then-is_over : goal.returns-then-is_over
returns-then-is_over c =
    let found = rw c.in-Kept.is at c.in_ok-found.ensures in
    let same : lift_term 0 0 (meant c.deref.result.now (Bound c.args.place)) ≡ meant c.args.scope.now.value (Bound c.args.place) =
    rw c.deref.ensures (lift-zero 0 (meant c.args.scope.now.value (Bound c.args.place))) in
    let itself = OnTrue_at c.if-is_over.true c.is_over.ensures in
    rw c.in_ok-same-in-Kept.ensures (sym itself.itself ∙ (found.0.meaning ∙ same), (itself.other, itself.normal))

pub returns-else-is_over : goal.returns-else-is_over
returns-else-is_over c =
    let found = rw c.in-Kept.is at c.in_ok-found.ensures in
    let same : lift_term 0 0 (meant c.deref.result.now (Bound c.args.place)) ≡ meant c.args.scope.now.value (Bound c.args.place) =
    rw c.deref.ensures (lift-zero 0 (meant c.args.scope.now.value (Bound c.args.place))) in
    (found.0.meaning ∙ same, found.1, found.0.piece)
