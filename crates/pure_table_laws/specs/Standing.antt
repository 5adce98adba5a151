-- Which rows stand, whichever lemmas are cancelled.
use Rattle.std.specs.Prelude.{◌≡◌}
use Rattle.pure_print.specs.declared.row.Row.{Row}
use Rattle.pure_print.specs.declared.row.RowStatus.{RowStatus}
use Rattle.pure_print.specs.declared.row.RowStatus.TheVariants.{Declared, Refused, Proved, Failed, Tainted, Cancelled, Unsettled}

-- The status is declared, refused, proved or failed.
abbrev pub IsStanding : RowStatus → Type 0
IsStanding Declared = Unit {0}
IsStanding Refused = Unit {0}
IsStanding Proved = Unit {0}
IsStanding Failed = Unit {0}
IsStanding Tainted = ⊥
IsStanding Cancelled = ⊥
IsStanding Unsettled = ⊥

-- Where the one row is declared, refused, proved or failed, the other is the same.
abbrev pub StandsAs : Row → Row → Type 0
StandsAs row other = IsStanding row.status → row ≡ other
