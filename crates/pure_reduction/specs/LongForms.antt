-- Long forms of terms that may have redexes.
use Rattle.pure_definitions.specs.Terms.Term.{Term}
use Rattle.pure_definitions.specs.Reduction.Eta.{IsLongForm}
use Rattle.pure_reduction.specs.Steps.{BetaReduces}

-- u is the long form of t: beta steps lead from t to a normal term, and u is the long form of that.
pub record HasLongForm (t u : Term) : Type 0 where
  pub normal : Term
  pub reduces : BetaReduces t normal
  pub long : IsLongForm normal u

-- Both terms have a long form, and it is the same.
abbrev pub HaveOneLongForm : Term → Term → Type 0
HaveOneLongForm t u = (w : Term) × HasLongForm t w × HasLongForm u w
