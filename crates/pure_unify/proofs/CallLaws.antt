-- What the answer of the search is for the pairs.
use Rattle.std.proofs.Common.{◌≡◌, ℕ, List, subst}
use Rattle.std.specs.Prelude.{Result, Ok, Err, IfOk}
use Rattle.pure_definitions.specs.Types.Order.{Algebra}
use Rattle.pure_definitions.specs.Declarations.Decl.{algebra_of}
use Rattle.pure_logic.specs.Content.{Content}
use Rattle.pure_logic.specs.Derivable.{Pair}
use Rattle.pure_unify_definitions.specs.Search as search
use Rattle.pure_unify_definitions.specs.Search.{IsUnifyAnswer}
use Rattle.pure_unify_laws.specs.Condition.{IsUnifyContent, AreUnifiable}
use Rattle.pure_unify_answers.specs.Maps.{Solves, IsFiniteUnifier}
use Rattle.pure_unify_answers.proofs.SolveLaws.{unifier_solves, unifier_is_finite}
use Rattle.pure_unify_final.proofs.SearchLaws.{no_unifier_is_final}
use Rattle.pure_unify.specs.declared.unifier.Unifier.{Unifier}
use Rattle.pure_unify.specs.declared.fault.UnifyFault.{UnifyFault}
use Rattle.pure_unify.specs.declared.fault.UnifyFault.TheVariants.{NoUnifier, SearchBound, Steps, Big, Memory}
use Rattle.pure_unify.specs.Unified.{seen, IsUnified}
use Rattle.pure_unify.specs.Unsolved.{HaveIndexesUpTo, IsNoFinal}

pub solves_of : (A : Algebra) (maxidx : ℕ) (ps : List Pair) (r : Result Unifier UnifyFault) → IsUnified A maxidx ps r → (Q : Content) → IsUnifyContent Q → A ≡ algebra_of Q.declarations → AreUnifiable Q maxidx ps → IfOk r (λ u. Solves Q ps (seen u))
solves_of A maxidx ps (Ok u) h Q content same can = unifier_solves Q content maxidx ps can (seen u) (subst (λ (B : Algebra). IsUnifyAnswer B maxidx ps (search.Unified (seen u))) same h)
solves_of A maxidx ps (Err fault) h Q content same can = tt

pub finite_of : (A : Algebra) (maxidx : ℕ) (ps : List Pair) (r : Result Unifier UnifyFault) → IsUnified A maxidx ps r → (Q : Content) → IsUnifyContent Q → A ≡ algebra_of Q.declarations → AreUnifiable Q maxidx ps → IfOk r (λ u. IsFiniteUnifier Q (seen u))
finite_of A maxidx ps (Ok u) h Q content same can = unifier_is_finite Q content maxidx ps can (seen u) (subst (λ (B : Algebra). IsUnifyAnswer B maxidx ps (search.Unified (seen u))) same h)
finite_of A maxidx ps (Err fault) h Q content same can = tt

pub final_of : (A : Algebra) (maxidx : ℕ) (ps : List Pair) (r : Result Unifier UnifyFault) → IsUnified A maxidx ps r → HaveIndexesUpTo maxidx ps → IsNoFinal ps r
final_of A maxidx ps (Ok u) h few = tt
final_of A maxidx ps (Err NoUnifier) h few = record {
  by_long = λ terms long. no_unifier_is_final A maxidx ps few.variables h terms long.substitution;
  by_any = λ terms map. no_unifier_is_final A maxidx ps few.variables h terms map;
}
final_of A maxidx ps (Err SearchBound) h few = tt
final_of A maxidx ps (Err Steps) h few = tt
final_of A maxidx ps (Err Big) h few = tt
final_of A maxidx ps (Err Memory) h few = tt
