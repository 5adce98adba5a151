-- Theorems within the limits of terms.
use Rattle.pure_text.specs.Lists.{Each}
use Rattle.pure_definitions.specs.Terms.Term.{IsWithin}
use Rattle.pure_logic.specs.Derivable.{Pair, Theorem}

-- Both sides of the pair are within the limits.
abbrev pub IsPairWithin : Pair → Type 0
IsPairWithin p = IsWithin p.left × IsWithin p.right

-- Each term of the theorem is within the limits.
pub record AreWithin (th : Theorem) : Type 0 where
  pub hyps : Each IsWithin th.hyps
  pub pairs : Each IsPairWithin th.pairs
  pub prop : IsWithin th.prop
