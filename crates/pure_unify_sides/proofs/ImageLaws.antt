-- The arguments of images.
use Rattle.std.proofs.Common.{◌≡◌, ℕ, zero, ◌+◌, ◌<◌, List, length, ap, sym, ◌∙◌, arith}
use Rattle.pure_definitions.specs.Types.Typ.{Typ, Con, none, also, typ_depth, arrow}
use Rattle.pure_definitions.specs.Terms.Term.{Term, Var, App}
use Rattle.pure_unify_definitions.specs.Fronts.{domains, applied, bounds, function_typ}
use Rattle.pure_unify_definitions.specs.Children.{new_arguments}

-- A type has fewer arrows than it is deep.
pub domains-deep : (T : Typ) → length (domains T) < typ_depth T
domains-deep (Con zero (also A (also B none))) = let rest = domains-deep B in omega arith
domains-deep _ = omega arith

pub domains_few : (T : Typ) (n : ℕ) → typ_depth T < n → length (domains T) < n
domains_few T n h = let deep = domains-deep T in omega arith

-- One more new argument.
pub applied_one_more : (index name : ℕ) (Ts : List Typ) (rest domain more : Typ) (f arg next done : Term) → rest ≡ arrow domain more → arg ≡ applied (Var name index (function_typ Ts domain)) (bounds (length Ts)) → next ≡ App f arg
    → done ≡ applied next (new_arguments index Ts (name + 1) (domains more)) → done ≡ applied f (new_arguments index Ts name (domains rest))
applied_one_more index name Ts rest domain more f arg next done e a n h =
    h ∙ (ap (λ (u : Term). applied u (new_arguments index Ts (name + 1) (domains more))) (n ∙ ap (App f) a) ∙ ap (λ (T : Typ). applied f (new_arguments index Ts name (domains T))) (sym e))
