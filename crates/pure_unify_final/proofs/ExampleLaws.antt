-- The examples: the search finds no unifier of A and B; `?A` becomes A; and the two kinds of occurrence.
use Rattle.std.proofs.Common.{◌≡◌, [], ◌∷◌, refl}
use Rattle.pure_definitions.specs.Types.Typ.{arrow, prop}
use Rattle.pure_definitions.specs.Terms.Term.{Term, Bound, Abs, App}
use Rattle.pure_definitions.specs.Terms.Typing.{HasType}
use Rattle.pure_definitions.specs.Declarations.Decl.{algebra_of}
use Rattle.pure_definitions.specs.Reduction.Eta.{EtaStep, EtaReduces, IsLongForm}
use Rattle.pure_term_laws.specs.LawsExamples.{i, a, f}
use Rattle.pure_term_laws.proofs.SubstLaws.{entries-respect_types, entries-keep_fixed}
use Rattle.pure_eta.proofs.EtaStepLaws.{schematic-normal}
use Rattle.pure_logic.specs.PureContent.{pure_declarations}
use Rattle.pure_reduction.specs.Steps.{BetaStep, BetaReduces}
use Rattle.pure_reduction.specs.LongForms.{HasLongForm}
use Rattle.pure_reduction.proofs.LongLaws.{long_form_of_normal, long-from_reduct}
use Rattle.pure_unify_definitions.specs.Fronts.{pair}
use Rattle.pure_unify_definitions.specs.Node.{bind, root}
use Rattle.pure_unify_definitions.specs.Treatment.{IsTreatment, left_bare}
use Rattle.pure_unify_definitions.specs.Retyping.{Fails}
use Rattle.pure_unify_definitions.specs.Simplification.{Applies}
use Rattle.pure_unify_answers.specs.Examples.{fixed_proposition, other_proposition}
use Rattle.pure_unify_answers.proofs.ExampleLaws.{clash_example}
use Rattle.pure_solutions.proofs.SolutionLaws.{one-long-itself}
use Rattle.pure_unify_final.specs.Examples.{NoSolutionExample, SolutionExample, FirmExample, OccurringExample, any_function, any_long}
use Rattle.pure_unify_final.proofs.FailLaws.{failures_have_no_solution}
use Rattle.pure_unify_final.proofs.SearchLaws.{no_unifier_is_final}

pub no_solution_example : NoSolutionExample
no_solution_example terms s solved =
    no_unifier_is_final (algebra_of pure_declarations) 0 (pair fixed_proposition other_proposition ∷ []) (((λ x i T e. absurd (cc)), (λ x i T e. absurd (cc))), tt) clash_example terms s solved

pub solution_example : SolutionExample
solution_example = (
  record { respecting = entries-respect_types (bind 0 0 prop fixed_proposition ∷ []) (refl, tt); fixed = entries-keep_fixed (bind 0 0 prop fixed_proposition ∷ []) },
  (one-long-itself fixed_proposition prop refl, tt),
)

-- the other side of a firm occurrence
abbrev firm_side : Term
firm_side = Abs i (App f (App any_function (Bound 0)))

any_long-typed : HasType [] any_long (arrow i i)
any_long-typed = (i, (i, refl, refl), refl)

firm_side-typed : HasType [] firm_side (arrow i i)
firm_side-typed = (i, (i, refl, (i, refl, refl)), refl)

any_long-own : IsLongForm any_long any_long
any_long-own = record {
  typ = arrow i i;
  typed = any_long-typed;
  long_typed = any_long-typed;
  reduces = EtaReduces.done;
  normal = ((λ n. n), tt, tt);
  saturated = (arrow i i, any_long-typed, refl);
  parts = ((i, (i, refl, refl), refl), (tt, (i, refl, refl), tt));
}

firm_side-own : IsLongForm firm_side firm_side
firm_side-own = record {
  typ = arrow i i;
  typed = firm_side-typed;
  long_typed = firm_side-typed;
  reduces = EtaReduces.done;
  normal = ((λ n. n), tt, ((λ n. n), tt, tt));
  saturated = (arrow i i, firm_side-typed, refl);
  parts = ((i, (i, refl, (i, refl, refl)), refl), (tt, (i, (i, refl, refl), refl), (tt, (i, refl, refl), tt)));
}

sides-differ : ¬ (any_long ≡ firm_side)
sides-differ e = absurd (cc)

-- The node of this pair fails at once.
firm-fails : Applies (algebra_of pure_declarations) 0 (root (pair any_long firm_side ∷ [])) Fails
firm-fails = Applies.fails {front = []} {rest = []} {p = pair any_long firm_side} (record {
  stands = refl;
  before = tt;
  treated = IsTreatment.firm {v = any_function} {other = firm_side}
      (record { differ = sides-differ; typ = arrow i i; left = any_long-typed; right = firm_side-typed })
      (left_bare (record { variable = refl; form = record { reduces = EtaReduces.next (EtaStep.contract refl) EtaReduces.done; normal = schematic-normal 0 0 (arrow i i) } }) refl) refl;
})

pub firm_example : FirmExample
firm_example terms s solved = failures_have_no_solution (algebra_of pure_declarations) 0 (root (pair any_long firm_side ∷ [])) firm-fails ((any_long-own, firm_side-own), tt) terms s solved

constant-own : HasLongForm (Abs i a) (Abs i a)
constant-own = long_form_of_normal (Abs i a) (Abs i a) (record {
  typ = arrow i i;
  typed = (i, refl, refl);
  long_typed = (i, refl, refl);
  reduces = EtaReduces.done;
  normal = tt;
  saturated = (arrow i i, (i, refl, refl), refl);
  parts = ((i, refl, refl), tt);
})

-- whatever a constant function is applied to
constant-applied : (t : Term) → HasLongForm (Abs i (App (Abs i a) t)) (Abs i a)
constant-applied t = long-from_reduct (Abs i (App (Abs i a) t)) (Abs i a) (Abs i a) (BetaReduces.next {u = Abs i a} (BetaStep.body (BetaStep.contract refl)) BetaReduces.done) constant-own

pub occurring_example : OccurringExample
occurring_example = (
  record { respecting = entries-respect_types (bind 0 0 (arrow i i) (Abs i a) ∷ []) ((i, refl, refl), tt); fixed = entries-keep_fixed (bind 0 0 (arrow i i) (Abs i a) ∷ []) },
  ((Abs i a, constant-applied (Bound 0), constant-applied (App f (Bound 0))), tt),
)
