-- A turn of the walk to an abstraction, and what the walk finds.
use Rattle.std.specs.Prelude.{◌≡◌, ℕ, ◌+◌, ◌*◌, ◌<◌}
use Rattle.pure_definitions.specs.Terms.Term.{Term, Bound}
use Rattle.pure_definitions.specs.Reduction.Beta.{IsAbs, IsBetaNormal}
use Rattle.pure_norm.specs.declared.contract.Walk.{Walk}
use Rattle.pure_norm.specs.declared.scope.Closure.{Closure}
use Rattle.pure_norm.specs.declared.walk.Head.{Head}
use Rattle.pure_norm.specs.declared.walk.Head.TheVariants as head
use Rattle.pure_norm.specs.declared.walk.Turn.{Turn}
use Rattle.pure_norm.specs.declared.walk.Turn.TheVariants as turn
use Rattle.pure_norm.specs.Held.{IsBound, closure_term}
use Rattle.pure_norm.specs.Function.{function_term}
use Rattle.pure_norm.specs.Pieces.{IsPiece}
use Rattle.pure_norm.specs.Walk.{Abstraction, Walked}

-- the term that the walk found
abbrev pub head_term : Head → Term
head_term (head.Function f) = function_term f
head_term (head.Reduced t) = t.value

-- Where it isn't known as an abstraction, it is none, and normal; an abstraction's body has its row.
abbrev pub IsHead : Head → Type 0
IsHead (head.Function f) = IsPiece f.body
IsHead (head.Reduced t) = (¬ IsAbs t.value) × IsBetaNormal t.value

-- how many turns there may be from a held term on: two for each step that is left, and one at a bound variable
abbrev pub turns : Walk → Term → ℕ
turns walk (Bound p) = 2 * walk.steps + 1
turns walk t = 2 * walk.steps

-- From the term t, which is held as c, the walk has come to what it sought; or to a term from which fewer turns are left.
abbrev pub IsTurn : (deep : ℕ) → (before now : Walk) → (c t : Term) → Turn → Type 0
IsTurn deep before now c t (turn.Over h) = Walked Abstraction deep before now t (head_term h) × IsHead h
IsTurn deep before now c t (turn.Next d) = Walked Abstraction deep before now t (closure_term d) × (turns now d.piece.term.now < turns before c) × IsPiece d.piece

-- What is held means itself, and is no abstraction and normal.
pub record IsOver (c : Closure) : Type 0 where
  pub itself : closure_term c ≡ c.piece.term.now
  pub other : ¬ IsAbs c.piece.term.now
  pub normal : IsBetaNormal c.piece.term.now

-- The turn at a bound variable that means t: t is found, or held as another term.
abbrev pub IsFoundTurn : Term → Turn → Type 0
IsFoundTurn t (turn.Over h) = (head_term h ≡ t) × IsHead h
IsFoundTurn t (turn.Next d) = (closure_term d ≡ t) × (¬ IsBound d.piece.term.now) × IsPiece d.piece
