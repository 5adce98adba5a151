use Rattle.std.proofs.Common.{sym, ◌∙◌, true≢false}
use Rattle.pure_unify_definitions.specs.Treatment.{equal, differ}
use Rattle.pure_unify_steps.proofs.TreatLaws.{of_one_typ}
use Rattle.pure_unify_steps.proofs.treat.treatment_of.Goals as goal

pub returns-then-are_same : goal.returns-then-are_same
returns-then-are_same c = equal (c.are_same.ensures.0 c.if-are_same.true)

pub returns-in-Some : goal.returns-in-Some
returns-in-Some c = let found = rw c.in-Some.is at c.in_ok-typs.ensures in differ found.0 found.1 found.2

pub treat_same_typ-requires-clause-typed : goal.treat_same_typ-requires-clause-typed
treat_same_typ-requires-clause-typed c = of_one_typ c.args.l.now c.args.r.now (λ e. true≢false (sym (c.are_same.ensures.1 e) ∙ c.if-are_same.false)) (rw c.in-None.is at c.in_ok-typs.ensures)
