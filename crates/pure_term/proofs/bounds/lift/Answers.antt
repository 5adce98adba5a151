use Rattle.std.proofs.Common.{◌≡◌, ◌∙◌}
use Rattle.pure_definitions.specs.Terms.Bounds.{lift_term}
use Rattle.pure_definitions.proofs.TermLemmas.{within-lift, within-of_lift}
use Rattle.pure_term.proofs.bounds.lift.Goals as goal

pub returns-then-not-is_within : goal.returns-then-not-is_within
returns-then-not-is_within c = λ w. let yes = c.is_within.ensures.1 (within-of_lift c.args.by c.args.from c.args.t.now w) in absurd (cc)

pub returns : goal.returns
returns c =
    let lifted : c.in_ok-copy.field-0 ≡ lift_term c.args.by c.from.result c.in_ok-t.t.value = c.in_ok-copy.ensures ∙ (c.deref.ensures ∙ c.in_ok-lifted.ensures) in
    (rw (c.from.ensures, c.in_ok-t.ensures) at lifted, within-lift c.args.by c.args.from c.args.t.now (c.is_within.ensures.0 c.if-not-is_within.false))
