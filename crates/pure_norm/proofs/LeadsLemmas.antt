-- What leads from one term to another: one walk after another, and the walk of a part as a walk of the whole.
use Rattle.std.proofs.Common.{◌≡◌, ℕ, zero, suc, ◌+◌, ◌≤◌, sym, subst, ap, arith}
use Rattle.std.specs.Prelude.{Some}
use Rattle.pure_definitions.specs.Types.Typ.{Typ, typ_size, typ_depth}
use Rattle.pure_definitions.specs.Terms.Term.{Term, Abs, App, term_size, term_depth, max_depth}
use Rattle.pure_definitions.specs.Terms.Bounds.{IsClosedUnder}
use Rattle.pure_definitions.specs.Reduction.Beta.{IsAbs, IsBetaNormal, beta_step}
use Rattle.pure_norm.specs.Walk.{Until, Abstraction, Normal, Pauses, Fits, Leads}
use Rattle.pure_norm.proofs.StepLemmas.{step-function, step-argument, step-body, step-closed}

pub leads-chain : (until : Until) (nodes deep n m k : ℕ) (t u v : Term) → k ≡ n + m → Leads until nodes deep t n u → Leads until nodes deep u m v → Leads until nodes deep t k v
leads-chain until nodes deep zero m k t u v e h g =
    let same : m ≡ k = omega arith in
    subst (λ i. Leads until nodes deep t i v) same (subst (λ w. Leads until nodes deep w m v) (sym h) g)
leads-chain until nodes deep (suc n) m zero t u v e h g = absurd (omega arith)
leads-chain until nodes deep (suc n) m (suc k) t u v e h g = (h.0, h.1, (h.2.0, h.2.1, leads-chain until nodes deep n m k h.2.0 u v (omega arith) h.2.2 g))

pub leads-closed : (until : Until) (nodes deep n k : ℕ) (t u : Term) → Leads until nodes deep t n u → IsClosedUnder k t → IsClosedUnder k u
leads-closed until nodes deep zero k t u h c = subst (IsClosedUnder k) h c
leads-closed until nodes deep (suc n) k t u h c = leads-closed until nodes deep n k h.2.0 u h.2.2 (step-closed k t h.2.0 h.2.1 c)

-- A whole with a place for a part, one node below its root: the walk of the part for `inner` is a walk of the whole for `outer`. The whole has `more` nodes than the part.
pub record IsFrame (inner outer : Until) (deep more : ℕ) (whole : Term → Term) : Type 0 where
  pub size : (v : Term) → term_size (whole v) ≡ more + term_size v
  pub down : (v : Term) → deep + term_depth (whole v) ≤ max_depth → deep + 1 + term_depth v ≤ max_depth
  pub up : (v : Term) → deep + 1 + term_depth v ≤ max_depth → deep + term_depth (whole v) ≤ max_depth
  pub step : (v w : Term) → ¬ Pauses inner v → beta_step v ≡ Some w → beta_step (whole v) ≡ Some (whole w)
  pub goes_on : (v : Term) → ¬ Pauses inner v → ¬ Pauses outer (whole v)

-- A walk pauses at no application.
pub app-goes_on : (until : Until) (f a : Term) → ¬ Pauses until (App f a)
app-goes_on Abstraction f a h = h
app-goes_on Normal f a h = h

pub function-frame : (outer : Until) (deep : ℕ) (a : Term) → deep + 1 + term_depth a ≤ max_depth → IsFrame Abstraction outer deep (1 + term_size a) (λ v. App v a)
function-frame outer deep a low = record {
  size = λ v. omega arith;
  down = λ v h. omega arith;
  up = λ v h. omega arith;
  step = λ v w other h. step-function v a w other h;
  goes_on = λ v other. app-goes_on outer v a;
}

pub argument-frame : (outer : Until) (deep : ℕ) (f : Term) → ¬ IsAbs f → IsBetaNormal f → deep + 1 + term_depth f ≤ max_depth → IsFrame Normal outer deep (1 + term_size f) (App f)
argument-frame outer deep f other normal low = record {
  size = λ v. omega arith;
  down = λ v h. omega arith;
  up = λ v h. omega arith;
  step = λ v w _ h. step-argument f v w other normal h;
  goes_on = λ v _. app-goes_on outer f v;
}

pub body-frame : (deep : ℕ) (T : Typ) → deep + 1 + typ_depth T ≤ max_depth → IsFrame Normal Normal deep (1 + typ_size T) (Abs T)
body-frame deep T low = record {
  size = λ v. omega arith;
  down = λ v h. omega arith;
  up = λ v h. omega arith;
  step = λ v w _ h. step-body T v w h;
  goes_on = λ v other. other;
}

module _ (inner outer : Until) (deep more : ℕ) (whole : Term → Term) (frame : IsFrame inner outer deep more whole) where
  pub fits-whole : (nodes all : ℕ) (v : Term) → all ≡ more + nodes → Fits nodes (deep + 1) v → Fits all deep (whole v)
  fits-whole nodes all v e h = let size = frame.size v in let few = h.few in record { few = omega arith; shallow = frame.up v h.shallow }

  pub fits-part : (nodes all : ℕ) (v : Term) → all ≡ more + nodes → Fits all deep (whole v) → Fits nodes (deep + 1) v
  fits-part nodes all v e h = let size = frame.size v in let few = h.few in record { few = omega arith; shallow = frame.down v h.shallow }

  pub leads-whole : (nodes all n : ℕ) (t u : Term) → all ≡ more + nodes → Leads inner nodes (deep + 1) t n u → Leads outer all deep (whole t) n (whole u)
  leads-whole nodes all zero t u e h = ap whole h
  leads-whole nodes all (suc n) t u e h =
      (fits-whole nodes all t e h.0, frame.goes_on t h.1, (whole h.2.0, frame.step t h.2.0 h.1 h.2.1, leads-whole nodes all n h.2.0 u e h.2.2))
