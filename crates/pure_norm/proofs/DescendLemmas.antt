-- A walk that goes down into an abstraction or an application: what it needs there, and what it says of the whole.
use Rattle.std.proofs.Common.{◌≡◌, ℕ, ◌+◌, sym, subst, arith}
use Rattle.pure_definitions.specs.Types.Typ.{Typ, typ_size}
use Rattle.pure_definitions.specs.Terms.Term.{Term, Abs, App, term_size}
use Rattle.pure_definitions.specs.Reduction.Beta.{IsAbs, IsBetaNormal}
use Rattle.pure_norm.specs.declared.contract.Walk.{Walk}
use Rattle.pure_norm.specs.declared.fault.NormFault.{NormFault}
use Rattle.pure_norm.specs.Walk.{Until, Abstraction, Normal, CanWalk, Walked, Fails, Contracted, CannotContract}
use Rattle.pure_term_laws.proofs.OccursLaws.{closed-more}
use Rattle.pure_norm.proofs.LeadsLemmas.{app-goes_on, function-frame, argument-frame, body-frame}
use Rattle.pure_norm.proofs.WalkLemmas.{walked-chain, fails-chain, walked-whole, fails-whole, walked-contracted, fails-contract, can_walk-after}

-- the body of an abstraction
pub can_walk-body : (deep : ℕ) (walk : Walk) (t b : Term) (T : Typ) → t ≡ Abs T b → CanWalk deep walk t → CanWalk (deep + 1) walk b
can_walk-body deep walk t b T e h =
    let can : CanWalk deep walk (Abs T b) = subst (CanWalk deep walk) e h in
    let few = can.few in
    let low = can.shallow in
    record { few = omega arith; shallow = omega arith; closed = can.closed }

pub walked-body : (until : Until) (deep : ℕ) (before now : Walk) (t b c : Term) (T : Typ) → until ≡ Normal → t ≡ Abs T b → CanWalk deep before t
    → Walked Normal (deep + 1) before now b c → Walked until deep before now t (Abs T c)
walked-body until deep before now t b c T u e h g =
    let can : CanWalk deep before (Abs T b) = subst (CanWalk deep before) e h in
    let low = can.shallow in
    let whole = walked-whole Normal Normal deep (1 + typ_size T) (Abs T) (body-frame deep T (omega arith)) before now b c g in
    subst (λ v. Walked until deep before now v (Abs T c)) (sym e) (subst (λ w. Walked w deep before now (Abs T b) (Abs T c)) (sym u) whole)

pub fails-body : (until : Until) (deep : ℕ) (before : Walk) (t b : Term) (T : Typ) (fault : NormFault) → until ≡ Normal → t ≡ Abs T b → CanWalk deep before t
    → Fails Normal (deep + 1) before b fault → Fails until deep before t fault
fails-body until deep before t b T fault u e h g =
    let can : CanWalk deep before (Abs T b) = subst (CanWalk deep before) e h in
    let low = can.shallow in
    let whole = fails-whole Normal Normal deep (1 + typ_size T) (Abs T) (body-frame deep T (omega arith)) before b fault g in
    subst (λ v. Fails until deep before v fault) (sym e) (subst (λ w. Fails w deep before (Abs T b) fault) (sym u) whole)

-- the function of an application
pub can_walk-function : (deep : ℕ) (walk : Walk) (t f a : Term) → t ≡ App f a → CanWalk deep walk t → CanWalk (deep + 1) walk f
can_walk-function deep walk t f a e h =
    let can : CanWalk deep walk (App f a) = subst (CanWalk deep walk) e h in
    let few = can.few in
    let low = can.shallow in
    record { few = omega arith; shallow = omega arith; closed = closed-more deep (deep + 1) f (omega arith) can.closed.0 }

pub walked-function : (until : Until) (deep : ℕ) (before now : Walk) (t f g a : Term) → t ≡ App f a → CanWalk deep before t
    → Walked Abstraction (deep + 1) before now f g → Walked until deep before now t (App g a)
walked-function until deep before now t f g a e h w =
    let can : CanWalk deep before (App f a) = subst (CanWalk deep before) e h in
    let low = can.shallow in
    let whole = walked-whole Abstraction until deep (1 + term_size a) (λ v. App v a) (function-frame until deep a (omega arith)) before now f g w in
    subst (λ v. Walked until deep before now v (App g a)) (sym e) whole

pub fails-function : (until : Until) (deep : ℕ) (before : Walk) (t f a : Term) (fault : NormFault) → t ≡ App f a → CanWalk deep before t
    → Fails Abstraction (deep + 1) before f fault → Fails until deep before t fault
fails-function until deep before t f a fault e h g =
    let can : CanWalk deep before (App f a) = subst (CanWalk deep before) e h in
    let low = can.shallow in
    let whole = fails-whole Abstraction until deep (1 + term_size a) (λ v. App v a) (function-frame until deep a (omega arith)) before f fault g in
    subst (λ v. Fails until deep before v fault) (sym e) whole

-- the contraction of an application that was reached
pub walked-redex : (until : Until) (deep : ℕ) (before middle now : Walk) (t f a u : Term) → Walked until deep before middle t (App f a) → CanWalk deep before t
    → Contracted deep middle now (App f a) u → Walked until deep before now t u
walked-redex until deep before middle now t f a u w h c =
    walked-chain until deep before middle now t (App f a) u w
    (walked-contracted until deep middle now (App f a) u (app-goes_on until f a) (can_walk-after until deep before middle t (App f a) h w) c)

pub fails-redex : (until : Until) (deep : ℕ) (before middle : Walk) (t f a : Term) (fault : NormFault) → Walked until deep before middle t (App f a) → CanWalk deep before t
    → CannotContract deep middle (App f a) fault → Fails until deep before t fault
fails-redex until deep before middle t f a fault w h c =
    fails-chain until deep before middle t (App f a) fault w
    (fails-contract until deep middle (App f a) fault (app-goes_on until f a) (can_walk-after until deep before middle t (App f a) h w) c)

-- the argument of an application that was reached, whose function is normal and no abstraction
pub can_walk-argument : (deep : ℕ) (walk : Walk) (f a : Term) → CanWalk deep walk (App f a) → CanWalk (deep + 1) walk a
can_walk-argument deep walk f a h =
    let few = h.few in
    let low = h.shallow in
    record { few = omega arith; shallow = omega arith; closed = closed-more deep (deep + 1) a (omega arith) h.closed.1 }

walked-argument : (until : Until) (deep : ℕ) (before now : Walk) (f a b : Term) → ¬ IsAbs f → IsBetaNormal f → CanWalk deep before (App f a)
    → Walked Normal (deep + 1) before now a b → Walked until deep before now (App f a) (App f b)
walked-argument until deep before now f a b other normal h w =
    let low = h.shallow in
    walked-whole Normal until deep (1 + term_size f) (App f) (argument-frame until deep f other normal (omega arith)) before now a b w

fails-argument : (until : Until) (deep : ℕ) (before : Walk) (f a : Term) (fault : NormFault) → ¬ IsAbs f → IsBetaNormal f → CanWalk deep before (App f a)
    → Fails Normal (deep + 1) before a fault → Fails until deep before (App f a) fault
fails-argument until deep before f a fault other normal h w =
    let low = h.shallow in
    fails-whole Normal until deep (1 + term_size f) (App f) (argument-frame until deep f other normal (omega arith)) before a fault w

-- What is known once the function's walk is over and has found no abstraction.
pub record IsFunctionOver (until : Until) (deep : ℕ) (before now : Walk) (t f a : Term) : Type 0 where
  pub walked : Walked until deep before now t (App f a)
  pub can : CanWalk deep now (App f a)
  pub other : ¬ IsAbs f
  pub normal : IsBetaNormal f

module _ (until : Until) (deep : ℕ) (before middle : Walk) (t f a : Term) (known : IsFunctionOver until deep before middle t f a) where
  pub walked-after_function : (now : Walk) (b : Term) → Walked Normal (deep + 1) middle now a b → Walked until deep before now t (App f b)
  walked-after_function now b w =
      walked-chain until deep before middle now t (App f a) (App f b) known.walked (walked-argument until deep middle now f a b known.other known.normal known.can w)

  pub fails-after_function : (fault : NormFault) → Fails Normal (deep + 1) middle a fault → Fails until deep before t fault
  fails-after_function fault h =
      fails-chain until deep before middle t (App f a) fault known.walked (fails-argument until deep middle f a fault known.other known.normal known.can h)
