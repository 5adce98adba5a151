use Rattle.std.proofs.Common.{ℕ, List}
use Rattle.pure_definitions.specs.Types.Typ.{Typ, TVar}
use Rattle.pure_elab.proofs.NumbersLaws.{IsInRest}
use Rattle.pure_elab.proofs.numbers.place_among.Given as goal

-- the variable is none of those so far
abbrev pub invariant-loop-i : goal.invariant-loop-i
invariant-loop-i l = (image : ℕ → List ℕ → Typ) (first : ℕ) → IsInRest image first l.few (TVar l.fn.name l.fn.index l.sort) l.i
