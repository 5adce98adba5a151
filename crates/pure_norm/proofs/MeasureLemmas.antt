-- The measures of what stands for bound variables.
use Rattle.std.proofs.Common.{◌≡◌, ◌∙◌, inl, inr, ℕ, zero, suc, ◌+◌, ◌<◌, ◌≤◌, true, false, refl, ap, sym, arith}
use Rattle.std.proofs.lemmas.Bool.Decides.{nat_tests}
use Rattle.std.specs.Prelude.{◌-◌, nat_lt}
use Rattle.pure_definitions.specs.Terms.Term.{Term, Bound}
use Rattle.pure_definitions.specs.Terms.Bounds.{lift_term}
use Rattle.pure_definitions.proofs.TermLemmas.{term_size-lift, term_depth-lift}
use Rattle.pure_norm.specs.Env.{Env, Empty, Bind, Under, Raise, meant_under, meant}
use Rattle.pure_norm.specs.Measures.{measure_of, measures, measure_at, bound_measure}
use Rattle.pure_norm.proofs.MeantLemmas.{meant-own, meant-out, side, found-under, bind-itself, bind-other}
use Rattle.pure_term_laws.proofs.BoundLaws.{lift-zero}

pub measure-lift : (by n : ℕ) (t : Term) → measure_of (lift_term by n t) ≡ measure_of t
measure-lift by n t = λ l. record { size = term_size-lift by n t l; depth = term_depth-lift by n t l }

under-other : (p : ℕ) (r : Env) → 0 < p → measure_of (meant (Under r) (Bound p)) ≡ measure_of (meant r (Bound (p - 1)))
under-other p r h =
    ap measure_of (sym (lift-zero 0 (meant (Under r) (Bound p))) ∙ found-under 0 1 p r (omega arith) h) ∙ measure-lift 1 0 (meant r (Bound (p - 1)))

-- What stands for a bound variable has the measure that is listed.
pub measured-place : (e : Env) (p : ℕ) → measure_at (measures e) p ≡ measure_of (meant e (Bound p))
measured-place Empty p = refl
measured-place (Bind c i r) zero = ap measure_of (sym (bind-itself c i r))
measured-place (Bind c i r) (suc q) =
    let back : suc q - 1 ≡ q = omega arith in
    measured-place r q ∙ sym (ap measure_of (bind-other c i r (suc q) (omega arith)) ∙ ap (λ (k : ℕ). measure_of (meant r (Bound k))) back)
measured-place (Under r) zero = ap measure_of (sym (meant-own 1 r 0 (omega arith)))
measured-place (Under r) (suc q) =
    let back : suc q - 1 ≡ q = omega arith in
    measured-place r q ∙ sym (under-other (suc q) r (omega arith) ∙ ap (λ (k : ℕ). measure_of (meant r (Bound k))) back)
measured-place (Raise by r) p = measured-place r p ∙ sym (measure-lift by 0 (meant r (Bound p)))

-- a bound variable further out
module _ (n q p : ℕ) (e : Env) (out : p ≡ q + n) where
  listed : measure_at (measures e) (p - n) ≡ measure_of (meant_under n e (Bound p))
  listed =
      let back : p - n ≡ q = omega arith in
      ap (measure_at (measures e)) back
      ∙ (measured-place e q ∙ (sym (measure-lift n 0 (meant e (Bound q))) ∙ ap measure_of (sym (ap (λ (r : ℕ). meant_under n e (Bound r)) out ∙ meant-out n e q))))

  above : nat_lt p n ≡ false
  above = grind (arith, nat_tests)

  bound-out : bound_measure n (measures e) p ≡ measure_of (meant_under n e (Bound p))
  bound-out = rw above listed

module _ (n p : ℕ) (e : Env) (own : p + 1 ≤ n) where
  below : nat_lt p n ≡ true
  below = grind (arith, nat_tests)

  bound-own : bound_measure n (measures e) p ≡ measure_of (meant_under n e (Bound p))
  bound-own = rw (below, meant-own n e p own) refl

-- What is meant by a bound variable has the measure that is found for it.
pub bound-meant : (n : ℕ) (e : Env) (p : ℕ) → bound_measure n (measures e) p ≡ measure_of (meant_under n e (Bound p))
bound-meant n e p = elim (side n p) [
  | inl own ↦ bound-own n p e own
  | inr out ↦ bound-out n out.0 p e out.1
]
