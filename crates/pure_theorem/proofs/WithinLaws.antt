-- Terms made of parts that aren't within the limits aren't either.
use Rattle.std.proofs.Common.{◌≡◌, arith}
use Rattle.std.specs.Prelude.{Result, Ok, Err}
use Rattle.pure_definitions.specs.Terms.Term.{Term, App, term_size, term_depth, IsWithin}
use Rattle.pure_typ.specs.declared.grow.Grow.{Grow}
use Rattle.pure_typ.specs.declared.grow.Grow.TheVariants.{Big, Memory}
use Rattle.pure_term.specs.Grown.{IsGrown}
use Rattle.pure_theorem.specs.Made.{IsMade}

pub within-function : (f a : Term) → IsWithin (App f a) → IsWithin f
within-function f a w = let s = w.size in let d = w.depth in record { size = omega arith; depth = omega arith }

pub within-argument : (f a : Term) → IsWithin (App f a) → IsWithin a
within-argument f a w = let s = w.size in let d = w.depth in record { size = omega arith; depth = omega arith }

-- a term that wasn't made, since a part of it wasn't
pub made-of_part : (part whole : Term) (fault : Grow) → (IsWithin whole → IsWithin part) → IsGrown part (Err fault) → IsMade whole (Err fault)
made-of_part part whole Big within h = λ w. h (within w)
made-of_part part whole Memory within h = tt

pub made-grown : (t : Term) (result : Result Term Grow) → IsGrown t result → IsMade t result
made-grown t (Ok u) h = h.0
made-grown t (Err Big) h = h
made-grown t (Err Memory) h = tt
