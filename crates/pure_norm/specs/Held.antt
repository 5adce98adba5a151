-- What is found for a bound variable, and terms that are held.
use Rattle.std.specs.Prelude.{◌≡◌}
use Rattle.pure_definitions.specs.Terms.Term.{Term, Bound}
use Rattle.pure_norm.specs.declared.scope.Closure.{Closure}
use Rattle.pure_norm.specs.declared.held.Held.{Held}
use Rattle.pure_norm.specs.declared.held.Found.{Found}
use Rattle.pure_norm.specs.declared.held.Found.TheVariants.{Place, Kept}
use Rattle.pure_norm.specs.Env.{meant}
use Rattle.pure_norm.specs.Measures.{measure_of}
use Rattle.pure_norm.specs.Pieces.{IsPiece}

-- the term that is meant by one in a scope
abbrev pub closure_term : Closure → Term
closure_term c = meant c.scope.value c.piece.term.now

-- The term is a bound variable.
abbrev pub IsBound : Term → Type 0
IsBound (Bound p) = Unit {0}
IsBound _ = ⊥

-- It is the term t that is held, with its measure and its row.
pub record IsHeld (t : Term) (h : Held) : Type 0 where
  pub meaning : closure_term h.closure ≡ t
  pub measured : h.measure ≡ measure_of t
  pub piece : IsPiece h.closure.piece

-- It is the term t that is found: a bound variable; or one that is held, and isn't held as a bound variable.
abbrev pub IsFound : Term → Found → Type 0
IsFound t (Place p) = t ≡ Bound p
IsFound t (Kept h) = IsHeld t h × ¬ IsBound h.closure.piece.term.now
