-- Laws of quantifications over any function, and of equations under binders.
use Rattle.pure_definitions.specs.Types.Typ.{Typ, arrow}
use Rattle.pure_definitions.specs.Terms.Term.{Term, Abs, App}
use Rattle.pure_definitions.specs.Terms.Bounds.{subst_bound, abstract_over}
use Rattle.pure_definitions.specs.Terms.Conditions.{IsVariable}
use Rattle.pure_logic.specs.Connectives.{all_of, all, eq}
use Rattle.pure_logic.specs.Content.{Content, IsContent, IsBelow, IsCertifiedOf}
use Rattle.pure_logic.specs.PureContent.{pure_content}
use Rattle.pure_logic.specs.Concludes.{IsFresh}
use Rattle.pure_logic.specs.Derivable.{Theorem, IsDerivable}
use Rattle.pure_logic.specs.Laws.Equality.{Everywhere}
use Rattle.pure_logic.specs.Laws.Inferences.{IsFreshInPairs}

-- From `t == u`: `C[t] == C[u]`, for a context C.
abbrev pub EqualInContext : Type 0
EqualInContext = Everywhere (λ Q Proved. (T U : Typ) (C t u : Term) → IsCertifiedOf Q (Abs T C) (arrow T U) → Proved (eq T t u) → Proved (eq U (subst_bound C t) (subst_bound C u)))

-- From `!!x. b == c`: `%x. b == %x. c`.
abbrev pub EqualBodies : Type 0
EqualBodies = Everywhere (λ Q Proved. (T U : Typ) (b c : Term) → Proved (all T (eq U b c)) → Proved (eq (arrow T U) (Abs T b) (Abs T c)))

-- From a theorem of `t == u` that of `%x. t == %x. u`, for a variable x that is free in none of the hypotheses and in no pair.
abbrev pub AbstractionIsDerivable : Type 0
AbstractionIsDerivable = (Q : Content) → IsContent Q → IsBelow pure_content Q → (x : Term) (T U : Typ) (t u : Term) (th : Theorem) → IsVariable x → IsCertifiedOf Q x T → IsFresh x th.hyps → IsFreshInPairs x th.pairs
    → IsDerivable Q (record th { prop = eq U t u }) → IsDerivable Q (record th { prop = eq (arrow T U) (abstract_over t x) (abstract_over u x) })

-- the function applied to the term: where the function is an abstraction, its body with the term put in
abbrev pub beta_applied : (function argument : Term) → Term
beta_applied (Abs T b) t = subst_bound b t
beta_applied f t = App f t

-- From a quantification over any function f: `f t`, as it stands and reduced.
abbrev pub InstanceOfFunctionIsProved : Type 0
InstanceOfFunctionIsProved = Everywhere (λ Q Proved. (T : Typ) (f t : Term) → IsCertifiedOf Q t T → Proved (all_of T f) → Proved (App f t))

abbrev pub ReducedInstanceIsProved : Type 0
ReducedInstanceIsProved = Everywhere (λ Q Proved. (T : Typ) (f t : Term) → IsCertifiedOf Q t T → Proved (all_of T f) → Proved (beta_applied f t))

-- So from a theorem of it.
abbrev pub ReducedInstanceIsDerivable : Type 0
ReducedInstanceIsDerivable = (Q : Content) → IsContent Q → IsBelow pure_content Q → (T : Typ) (f t : Term) (th : Theorem) → IsCertifiedOf Q t T
    → IsDerivable Q (record th { prop = all_of T f }) → IsDerivable Q (record th { prop = beta_applied f t })
