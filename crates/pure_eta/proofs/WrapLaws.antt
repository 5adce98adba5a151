-- A term raised over all abstractions at once, and then put under them, is the expanded term.
use Rattle.std.proofs.Common.{◌≡◌, ◌∙◌, ℕ, zero, ◌+◌, ◌-◌, true, false, refl, ap, sym, arith}
use Rattle.std.proofs.lemmas.Bool.Decides.{nat_tests}
use Rattle.std.specs.Prelude.{nat_lt}
use Rattle.pure_definitions.specs.Types.Typ.{Typ, Con, none, also}
use Rattle.pure_definitions.specs.Terms.Term.{Term, Bound, Abs, App}
use Rattle.pure_definitions.specs.Terms.Bounds.{lift_term}
use Rattle.pure_definitions.specs.Reduction.Eta.{arrow_count}
use Rattle.pure_definitions.proofs.LiftLaws.{lift-lift}
use Rattle.pure_term_laws.proofs.BoundLaws.{lift-zero, lift-again}
use Rattle.pure_eta.specs.LongTerm.{expanded, wrapped}

own-lifted : (by from : ℕ) → lift_term by (from + 1) (Bound 0) ≡ Bound 0
own-lifted by from = let own : nat_lt 0 (from + 1) ≡ true = grind (arith, nat_tests) in rw own refl

raised : (by p : ℕ) → lift_term by 0 (Bound p) ≡ Bound (p + by)
raised by p = let loose : nat_lt p 0 ≡ false = grind (arith, nat_tests) in rw loose refl

-- Lifting passes expansion.
lift-expanded : (by from : ℕ) (T : Typ) (t : Term) → lift_term by from (expanded T t) ≡ expanded T (lift_term by from t)
lift-expanded by from (Con zero (also A (also B none))) t =
    let first = sym (lift-lift by 1 0 from t (omega arith)) in
    let second = lift-expanded by (from + 1) A (Bound 0) ∙ ap (expanded A) (own-lifted by from) in
    ap (Abs A) (lift-expanded by (from + 1) B (App (lift_term 1 0 t) (expanded A (Bound 0))) ∙ ap (expanded B) (λ i. App (first i) (second i)))
lift-expanded by from T t = refl

pub expanded-wrapped : (T : Typ) (t : Term) → expanded T t ≡ wrapped T (arrow_count T) (lift_term (arrow_count T) 0 t)
expanded-wrapped (Con zero (also A (also B none))) t =
    let left : 1 + arrow_count B - 1 ≡ arrow_count B = omega arith in
    let place : Bound (0 + arrow_count B) ≡ Bound (arrow_count B) = ap Bound (omega arith) in
    let first = lift-again 1 (arrow_count B) 0 0 t (omega arith) (omega arith) in
    let second = lift-expanded (arrow_count B) 0 A (Bound 0) ∙ ap (expanded A) (raised (arrow_count B) 0 ∙ place) ∙ expanded-wrapped A (Bound (arrow_count B))
    ∙ ap (wrapped A (arrow_count A)) (raised (arrow_count A) (arrow_count B)) in
    rw left (ap (Abs A) (expanded-wrapped B (App (lift_term 1 0 t) (expanded A (Bound 0))) ∙ ap (wrapped B (arrow_count B)) (λ i. App (first i) (second i))))
expanded-wrapped T t = sym (lift-zero 0 t)
