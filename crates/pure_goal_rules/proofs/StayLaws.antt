-- What stays as it is: a part without schematic variables, lifted over parameters or with its indexes raised; and what stands below no parameters.
use Rattle.std.proofs.Common.{◌≡◌, ℕ, ◌+◌, List, [], ◌∷◌, length, refl, ap, sym, arith}
use Rattle.pure_definitions.specs.Types.Typ.{Typ}
use Rattle.pure_definitions.specs.Terms.Term.{Term, Const, Free, Var, Bound, Abs, App}
use Rattle.pure_definitions.specs.Terms.Subst.{typ_instance, term_instance}
use Rattle.pure_definitions.specs.Terms.Measures.{typ_index_above, term_index_above}
use Rattle.pure_definitions.proofs.MeasureLemmas.{typ_stays, term_stays}
use Rattle.pure_logic.specs.Laws.Maps.{raised_typs, raised_terms}
use Rattle.pure_logic.specs.Derivable.{Pair}
use Rattle.pure_goal_laws.specs.Prefix.{Item, parameters, abstracted}
use Rattle.pure_goal_laws.specs.Lifting.{lifted_under}
use Rattle.pure_goal_laws.specs.GoalStep.{closed_pair}

pub lifted_stays : (Ts : List Typ) (n : ℕ) (t : Term) → term_index_above t ≡ 0 → lifted_under Ts n t ≡ t
lifted_stays Ts n (Const c T) e = refl
lifted_stays Ts n (Free x T) e = refl
lifted_stays Ts n (Var x i T) e = absurd (omega arith)
lifted_stays Ts n (Bound p) e = refl
lifted_stays Ts n (Abs T b) e = ap (Abs T) (lifted_stays Ts (n + 1) b (omega arith))
lifted_stays Ts n (App f a) e = λ l. App (lifted_stays Ts n f (omega arith) l) (lifted_stays Ts n a (omega arith) l)

pub raised_typ_stays : (by : ℕ) (T : Typ) → typ_index_above T ≡ 0 → typ_instance (raised_typs by) T ≡ T
raised_typ_stays by T e = typ_stays (raised_typs by) (λ x s. refl) T e

pub raised_stays : (by : ℕ) (t : Term) → term_index_above t ≡ 0 → term_instance (raised_typs by) (raised_terms by) t ≡ t
raised_stays by t e = term_stays (raised_typs by) (raised_terms by) (λ x s. refl) (λ x T. refl) t e

-- Over no parameters a term is lifted to itself.
lifted-over-none : (n : ℕ) (t : Term) → lifted_under [] n t ≡ t
lifted-over-none n (Const c T) = refl
lifted-over-none n (Free x T) = refl
lifted-over-none n (Var x i T) = refl
lifted-over-none n (Bound k) = refl
lifted-over-none n (Abs T b) = ap (Abs T) (lifted-over-none (n + 1) b)
lifted-over-none n (App f a) = λ i. App (lifted-over-none n f i) (lifted-over-none n a i)

pub lifted_nowhere : (Ts : List Typ) (t : Term) → length Ts ≡ 0 → lifted_under Ts 0 t ≡ t
lifted_nowhere [] t e = lifted-over-none 0 t
lifted_nowhere (T ∷ Ts) t e = absurd (omega arith)

-- Below no parameters terms are paired as they are.
abstracted-nowhere : (Ts : List Typ) (t : Term) → length Ts ≡ 0 → abstracted Ts t ≡ t
abstracted-nowhere [] t e = refl
abstracted-nowhere (T ∷ Ts) t e = absurd (omega arith)

pub closed_nowhere : (ps : List Item) (t u : Term) → length (parameters ps) ≡ 0 → ◌≡◌ {A = Pair} (record { left = t; right = u }) (closed_pair ps t u)
closed_nowhere ps t u e = λ i. record { left = sym (abstracted-nowhere (parameters ps) t e) i; right = sym (abstracted-nowhere (parameters ps) u e) i }
