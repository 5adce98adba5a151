-- Sides that are in long form.
use Rattle.std.specs.Prelude.{◌≡◌}
use Rattle.pure_definitions.specs.Terms.Term.{Term, IsWithin}
use Rattle.pure_definitions.specs.Reduction.Eta.{IsLongForm}
use Rattle.pure_logic.specs.Derivable.{Pair}

-- The term is its own long form, within the limits; and both sides of the pair are.
pub record IsLongSide (t : Term) : Type 0 where
  pub form : IsLongForm t t
  pub within : IsWithin t

abbrev pub IsLongPair : Pair → Type 0
IsLongPair p = IsLongSide p.left × IsLongSide p.right
