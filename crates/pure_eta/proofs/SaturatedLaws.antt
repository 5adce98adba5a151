-- What is kept under lifting: eta steps, and terms whose parts have as many abstractions as their types have arrows.
use Rattle.std.proofs.Common.{◌≡◌, ℕ, ◌+◌, List, ◌∷◌, ◌++◌, length, refl, ap, ◌∙◌, arith}
use Rattle.pure_definitions.specs.Types.Typ.{Typ}
use Rattle.pure_definitions.specs.Terms.Term.{Term, Const, Free, Var, Bound, Abs, App}
use Rattle.pure_definitions.specs.Terms.Bounds.{lift_term}
use Rattle.pure_definitions.specs.Reduction.Eta.{EtaReduces, abstraction_count, IsSaturated, HasSaturatedParts}
use Rattle.pure_definitions.proofs.LiftLaws.{lift_term-bound}
use Rattle.pure_term_laws.proofs.TypingBoundLaws.{typing-lift}
use Rattle.pure_eta.proofs.EtaStepLaws.{step-lift}

pub reduces-lift : (by from : ℕ) {t u : Term} → EtaReduces t u → EtaReduces (lift_term by from t) (lift_term by from u)
reduces-lift by from EtaReduces.done = EtaReduces.done
reduces-lift by from (EtaReduces.next s h) = EtaReduces.next (step-lift by from s) (reduces-lift by from h)

pub abstraction_count-lift : (by from : ℕ) (t : Term) → abstraction_count (lift_term by from t) ≡ abstraction_count t
abstraction_count-lift by from (Const c T) = refl
abstraction_count-lift by from (Free x T) = refl
abstraction_count-lift by from (Var x i T) = refl
abstraction_count-lift by from (Bound p) = ap abstraction_count (lift_term-bound by from p)
abstraction_count-lift by from (Abs T b) = ap (λ n. 1 + n) (abstraction_count-lift by (from + 1) b)
abstraction_count-lift by from (App f a) = refl

pub saturated-lift : (bs ds cs : List Typ) (n by : ℕ) (t : Term) → n ≡ length bs → by ≡ length ds → IsSaturated (bs ++ cs) t → IsSaturated (bs ++ (ds ++ cs)) (lift_term by n t)
saturated-lift bs ds cs n by t e f h = (h.0, typing-lift bs ds cs n by t h.0 e f h.1, abstraction_count-lift by n t ∙ h.2)

pub parts-lift : (bs ds cs : List Typ) (n by : ℕ) (t : Term) → n ≡ length bs → by ≡ length ds → HasSaturatedParts (bs ++ cs) t → HasSaturatedParts (bs ++ (ds ++ cs)) (lift_term by n t)
parts-lift bs ds cs n by (Const c T) e f h = tt
parts-lift bs ds cs n by (Free x T) e f h = tt
parts-lift bs ds cs n by (Var x i T) e f h = tt
parts-lift bs ds cs n by (Bound p) e f h = rw (lift_term-bound by n p) tt
parts-lift bs ds cs n by (Abs T b) e f h = (saturated-lift (T ∷ bs) ds cs (n + 1) by b (omega arith) f h.0, parts-lift (T ∷ bs) ds cs (n + 1) by b (omega arith) f h.1)
parts-lift bs ds cs n by (App g a) e f h = (parts-lift bs ds cs n by g e f h.0, saturated-lift bs ds cs n by a e f h.1, parts-lift bs ds cs n by a e f h.2)
