-- Walks to an abstraction and to a normal form, by what is found on the way.
use Rattle.std.proofs.Common.{◌≡◌, ◌∙◌, ℕ, zero, suc, ◌+◌, ◌*◌, ◌<◌, ◌≤◌, Bool, true, false, true≢false, IsTrue, refl, sym, subst, arith}
use Rattle.std.specs.Bool.{OnTrue}
use Rattle.std.proofs.lemmas.Bool.{OnTrue_at, OnTrue_from}
use Rattle.pure_definitions.specs.Types.Typ.{Typ}
use Rattle.pure_definitions.specs.Terms.Term.{Term, Const, Free, Var, Bound, Abs, App, term_size}
use Rattle.pure_definitions.specs.Terms.Measures.{loose_above}
use Rattle.pure_definitions.specs.Reduction.Beta.{IsAbs, IsBetaNormal}
use Rattle.pure_norm.specs.declared.contract.Walk.{Walk}
use Rattle.pure_norm.specs.declared.scope.Closure.{Closure}
use Rattle.pure_norm.specs.declared.fault.NormFault.{NormFault}
use Rattle.pure_norm.specs.declared.fault.NormFault.TheVariants.{Steps, Big, Memory}
use Rattle.pure_norm.specs.declared.walk.Turn.{Turn}
use Rattle.pure_norm.specs.declared.walk.Turn.TheVariants as turn
use Rattle.pure_norm.specs.Held.{IsBound, closure_term}
use Rattle.pure_norm.specs.Env.{Env, Stay, meant}
use Rattle.pure_norm.specs.Turn.{head_term, turns, IsTurn, IsOver, IsFoundTurn}
use Rattle.pure_norm.specs.Walk.{Abstraction, Normal, Leads, CanWalk, Walked, Fails, Contracted, CannotContract}
use Rattle.pure_norm.proofs.MeantLemmas.{meant-staying}
use Rattle.pure_norm.proofs.WalkLemmas.{walked-chain, fails-chain, can_walk-after, walked-nowhere}
use Rattle.pure_norm.proofs.DescendLemmas.{can_walk-body, walked-body, fails-body, can_walk-function, walked-function, fails-function, walked-redex, fails-redex, can_walk-argument, IsFunctionOver, walked-after_function, fails-after_function}

-- A walk to an abstraction goes towards the normal form.
leads-on : (nodes deep n : ℕ) (t u : Term) → Leads Abstraction nodes deep t n u → Leads Normal nodes deep t n u
leads-on nodes deep zero t u h = h
leads-on nodes deep (suc n) t u h = (h.0, (λ x. x), (h.2.0, h.2.1, leads-on nodes deep n h.2.0 u h.2.2))

pub walked-on : (deep : ℕ) (before now : Walk) (t u : Term) → Walked Abstraction deep before now t u → Walked Normal deep before now t u
walked-on deep before now t u h = record {
  taken = h.taken;
  counted = h.counted;
  kept = h.kept;
  shallow = h.shallow;
  leads = leads-on (before.room + term_size t) deep h.taken t u h.leads;
}

pub fails-on : (deep : ℕ) (before : Walk) (t : Term) (fault : NormFault) → Fails Abstraction deep before t fault → Fails Normal deep before t fault
fails-on deep before t Big h = record {
  taken = h.taken;
  last = h.last;
  in_time = h.in_time;
  leads = leads-on (before.room + term_size t) deep h.taken t h.last h.leads;
  large = h.large;
}
fails-on deep before t Steps h = record {
  taken = h.taken;
  next = h.next;
  more = h.more;
  leads = leads-on (before.room + term_size t) deep h.taken t h.next h.leads;
}
fails-on deep before t Memory h = tt

-- An abstraction was reached.
module _ (deep : ℕ) (before middle : Walk) (t b : Term) (T : Typ) (can : CanWalk deep before t) (walked : Walked Abstraction deep before middle t (Abs T b)) where
  can-there : CanWalk deep middle (Abs T b)
  can-there = can_walk-after Abstraction deep before middle t (Abs T b) can walked

  pub can-body : CanWalk (deep + 1) middle b
  can-body = can_walk-body deep middle (Abs T b) b T refl can-there

  pub walked-abs : (now : Walk) (c : Term) → Walked Normal (deep + 1) middle now b c → Walked Normal deep before now t (Abs T c)
  walked-abs now c h =
      walked-chain Normal deep before middle now t (Abs T b) (Abs T c) (walked-on deep before middle t (Abs T b) walked)
      (walked-body Normal deep middle now (Abs T b) b c T refl refl can-there h)

  pub fails-abs : (fault : NormFault) → Fails Normal (deep + 1) middle b fault → Fails Normal deep before t fault
  fails-abs fault h =
      fails-chain Normal deep before middle t (Abs T b) fault (walked-on deep before middle t (Abs T b) walked)
      (fails-body Normal deep middle (Abs T b) b T fault refl refl can-there h)

-- The function of an application was walked, to g.
module _ (deep : ℕ) (before : Walk) (f a : Term) (can : CanWalk deep before (App f a)) where
  pub can-function : CanWalk (deep + 1) before f
  can-function = can_walk-function deep before (App f a) f a refl can

  pub fails-in_function : (fault : NormFault) → Fails Abstraction (deep + 1) before f fault → Fails Abstraction deep before (App f a) fault
  fails-in_function fault h = fails-function Abstraction deep before (App f a) f a fault refl can h

  module _ (middle : Walk) (g : Term) (walked : Walked Abstraction (deep + 1) before middle f g) where
    function-walked : Walked Abstraction deep before middle (App f a) (App g a)
    function-walked = walked-function Abstraction deep before middle (App f a) f g a refl can walked

    pub can-redex : CanWalk deep middle (App g a)
    can-redex = can_walk-after Abstraction deep before middle (App f a) (App g a) can function-walked

    pub fewer : middle.steps ≤ before.steps
    fewer = let counted = walked.counted in omega arith

    pub redex-walked : (now : Walk) (u : Term) → Contracted deep middle now (App g a) u → Walked Abstraction deep before now (App f a) u
    redex-walked now u h = walked-redex Abstraction deep before middle now (App f a) g a u function-walked can h

    pub redex-fails : (fault : NormFault) → CannotContract deep middle (App g a) fault → Fails Abstraction deep before (App f a) fault
    redex-fails fault h = fails-redex Abstraction deep before middle (App f a) g a fault function-walked can h

    -- it is no abstraction
    module _ (other : ¬ IsAbs g) (normal : IsBetaNormal g) where
      over : IsFunctionOver Abstraction deep before middle (App f a) g a
      over = record { walked = function-walked; can = can-redex; other = other; normal = normal }

      pub can-argument : CanWalk (deep + 1) middle a
      can-argument = can_walk-argument deep middle g a can-redex

      pub argument-walked : (now : Walk) (b : Term) → Walked Normal (deep + 1) middle now a b → Walked Abstraction deep before now (App f a) (App g b)
      argument-walked now b h = walked-after_function Abstraction deep before middle (App f a) g a over now b h

      pub argument-fails : (fault : NormFault) → Fails Normal (deep + 1) middle a fault → Fails Abstraction deep before (App f a) fault
      argument-fails fault h = fails-after_function Abstraction deep before middle (App f a) g a over fault h

-- how many turns are left
turns-le : (walk : Walk) (t : Term) → turns walk t ≤ 2 * walk.steps + 1
turns-le walk (Const c T) = omega arith
turns-le walk (Free x T) = omega arith
turns-le walk (Var x i T) = omega arith
turns-le walk (Bound p) = omega arith
turns-le walk (Abs T b) = omega arith
turns-le walk (App f a) = omega arith

turns-other : (walk : Walk) (t : Term) → ¬ IsBound t → turns walk t ≡ 2 * walk.steps
turns-other walk (Const c T) h = refl
turns-other walk (Free x T) h = refl
turns-other walk (Var x i T) h = refl
turns-other walk (Bound p) h = absurd (h tt)
turns-other walk (Abs T b) h = refl
turns-other walk (App f a) h = refl

pub turns-contracted : (before middle now : Walk) (t : Term) → middle.steps ≤ before.steps → now.steps + 1 ≡ middle.steps → turns now t < 2 * before.steps
turns-contracted before middle now t h e = let some = turns-le now t in omega arith

-- A turn that takes no step.
pub walked-same : (deep : ℕ) (walk : Walk) (t u : Term) → CanWalk deep walk t → u ≡ t → Walked Abstraction deep walk walk t u
walked-same deep walk t u can e = subst (λ v. Walked Abstraction deep walk walk t v) (sym e) (walked-nowhere Abstraction deep walk t can)

pub turn-found : (deep p : ℕ) (walk : Walk) (t : Term) (found : Turn) → CanWalk deep walk t → IsFoundTurn t found → IsTurn deep walk walk (Bound p) t found
turn-found deep p walk t (turn.Over h) can found = (walked-same deep walk t (head_term h) can found.0, found.1)
turn-found deep p walk t (turn.Next d) can found =
    let left = turns-other walk d.piece.term.now found.1 in
    (walked-same deep walk t (closure_term d) can found.0, omega arith, found.2)

-- what is said of equal terms
pub turn-same : (deep : ℕ) (before now : Walk) (c d t u : Term) (x : Turn) → c ≡ d → t ≡ u → IsTurn deep before now d u x → IsTurn deep before now c t x
turn-same deep before now c d t u x e f h =
    subst (λ (v : Term). IsTurn deep before now v t x) (sym e) (subst (λ (v : Term). IsTurn deep before now d v x) (sym f) h)

pub fails-same : (deep : ℕ) (before : Walk) (t u : Term) (fault : NormFault) → t ≡ u → Fails Abstraction deep before u fault → Fails Abstraction deep before t fault
fails-same deep before t u fault e h = subst (λ (v : Term). Fails Abstraction deep before v fault) (sym e) h

-- A term that is no abstraction and normal, and whose loose bound variables have binders that stay, is over.
pub held-over : (c : Closure) (a s b : Bool) (n : ℕ) (e : Env) → a ≡ false → (IsAbs c.piece.term.now → IsTrue a) → s ≡ true → OnTrue s (Stay n e) → n ≡ loose_above c.piece.term.now → e ≡ c.scope.value
    → (IsTrue b → IsBetaNormal c.piece.term.now) → OnTrue b (IsOver c)
held-over c a s b n e other_abs told stayed staying low same normal =
    let stays : meant e c.piece.term.now ≡ c.piece.term.now = meant-staying 0 n e c.piece.term.now (OnTrue_at stayed staying) (omega arith) in
    OnTrue_from b (IsOver c) (λ so. record {
      itself = subst (λ (f : Env). meant f c.piece.term.now ≡ c.piece.term.now) same stays;
      other = λ abs. true≢false (sym (told abs) ∙ other_abs);
      normal = normal so;
    })
