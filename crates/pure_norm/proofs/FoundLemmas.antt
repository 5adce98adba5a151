-- What is found for a bound variable, by the environment's kind.
use Rattle.std.proofs.Common.{◌≡◌, ◌∙◌, ℕ, ◌+◌, ◌<◌, sym, subst, ap}
use Rattle.std.specs.Prelude.{◌-◌, Result, IfOk}
use Rattle.pure_definitions.specs.Terms.Term.{Term, Bound}
use Rattle.pure_definitions.specs.Terms.Bounds.{lift_term}
use Rattle.pure_norm.specs.declared.held.Found.{Found}
use Rattle.pure_norm.specs.declared.held.Held.{Held}
use Rattle.pure_norm.specs.Env.{Env, Bind, Under, Raise, meant}
use Rattle.pure_norm.specs.Held.{IsFound, IsHeld}
use Rattle.pure_norm.proofs.MeantLemmas.{found-raised, found-stays, found-under, bind-itself, bind-other}

-- what is found for a term is found for an equal one
pub found-same : {E : Type 0} (t u : Term) (r : Result Found E) → t ≡ u → IfOk r (λ f. IsFound u f) → IfOk r (λ f. IsFound t f)
found-same t u r e h = subst (λ (v : Term). IfOk r (λ f. IsFound v f)) (sym e) h

pub held-same : (t u : Term) (h : Held) → t ≡ u → IsHeld u h → IsHeld t h
held-same t u h e is = subst (λ (v : Term). IsHeld v h) (sym e) is

pub at_raise : {E : Type 0} (up by all p : ℕ) (e rest : Env) (r : Result Found E) → e ≡ Raise by rest → all ≡ up + by
    → IfOk r (λ f. IsFound (lift_term all 0 (meant rest (Bound p))) f) → IfOk r (λ f. IsFound (lift_term up 0 (meant e (Bound p))) f)
at_raise up by all p e rest r is sum h =
    found-same (lift_term up 0 (meant e (Bound p))) (lift_term all 0 (meant rest (Bound p))) r
    (ap (λ (k : Env). lift_term up 0 (meant k (Bound p))) is ∙ found-raised up by all p rest sum) h

pub at_under : {E : Type 0} (up all p : ℕ) (e rest : Env) (r : Result Found E) → e ≡ Under rest → all ≡ up + 1 → 0 < p
    → IfOk r (λ f. IsFound (lift_term all 0 (meant rest (Bound (p - 1)))) f) → IfOk r (λ f. IsFound (lift_term up 0 (meant e (Bound p))) f)
at_under up all p e rest r is sum some h =
    found-same (lift_term up 0 (meant e (Bound p))) (lift_term all 0 (meant rest (Bound (p - 1)))) r
    (ap (λ (k : Env). lift_term up 0 (meant k (Bound p))) is ∙ found-under up all p rest sum some) h

pub at_stays : (up p : ℕ) (e rest : Env) → e ≡ Under rest → p ≡ 0 → lift_term up 0 (meant e (Bound p)) ≡ Bound up
at_stays up p e rest is none =
    ap (λ (k : Env). lift_term up 0 (meant k (Bound p))) is ∙ (ap (λ (q : ℕ). lift_term up 0 (meant (Under rest) (Bound q))) none ∙ found-stays up rest)

pub at_other : {E : Type 0} (up p : ℕ) (c : Term) (e inner rest : Env) (r : Result Found E) → e ≡ Bind c inner rest → 0 < p
    → IfOk r (λ f. IsFound (lift_term up 0 (meant rest (Bound (p - 1)))) f) → IfOk r (λ f. IsFound (lift_term up 0 (meant e (Bound p))) f)
at_other up p c e inner rest r is some h =
    found-same (lift_term up 0 (meant e (Bound p))) (lift_term up 0 (meant rest (Bound (p - 1)))) r
    (ap (λ (k : Env). lift_term up 0 (meant k (Bound p))) is ∙ ap (lift_term up 0) (bind-other c inner rest p some)) h

pub at_itself : {E : Type 0} (up p : ℕ) (c : Term) (e inner rest : Env) (r : Result Found E) → e ≡ Bind c inner rest → p ≡ 0
    → IfOk r (λ f. IsFound (lift_term up 0 (meant inner c)) f) → IfOk r (λ f. IsFound (lift_term up 0 (meant e (Bound p))) f)
at_itself up p c e inner rest r is none h =
    found-same (lift_term up 0 (meant e (Bound p))) (lift_term up 0 (meant inner c)) r
    (ap (λ (k : Env). lift_term up 0 (meant k (Bound p))) is
    ∙ (ap (λ (q : ℕ). lift_term up 0 (meant (Bind c inner rest) (Bound q))) none ∙ ap (lift_term up 0) (bind-itself c inner rest))) h
