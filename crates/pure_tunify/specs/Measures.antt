-- The sizes and depths of types, and what is known of those of variables with all set variables replaced.
use Rattle.std.specs.Prelude.{◌≡◌, ◌+◌, ◌≤◌, max, List, Option, MatchOption}
use Rattle.std.specs.BTreeMap.{BTreeMap, insert_entry}
use Rattle.pure_text.specs.Lists.{Each}
use Rattle.pure_definitions.specs.Types.Typ.{Typ, typ_size, typ_depth}
use Rattle.pure_definitions.specs.Terms.Term.{max_size, max_depth}
use Rattle.pure_definitions.specs.Terms.Limits.{IsWithinTyp}
use Rattle.pure_definitions.specs.Terms.Subst.{TypBind, typ_instance}
use Rattle.pure_definitions.specs.Models.Comparison.{typ_cmp}
use Rattle.pure_tunify.specs.declared.measure.Measure.{Measure}
use Rattle.pure_tunify.specs.Settings.{composed}

-- The type is within the limits, and this is its measure.
pub record IsMeasured (t : Typ) (m : Measure) : Type 0 where
  pub size : m.size ≡ typ_size t
  pub depth : m.depth ≡ typ_depth t
  pub within : IsWithinTyp t

-- The same, or it isn't within the limits.
abbrev pub IsMeasureOf : Typ → Option Measure → Type 0
IsMeasureOf t o = MatchOption o (¬ IsWithinTyp t) (IsMeasured t)

-- The measure is within the limits.
abbrev pub IsSmallMeasure : Measure → Type 0
IsSmallMeasure m = (m.size ≤ max_size) × (m.depth ≤ max_depth)

-- the measure of a constructor with one argument more
abbrev pub with_part : (whole part : Measure) → Measure
with_part whole part = record { size = whole.size + part.size; depth = max whole.depth (part.depth + 1) }

-- The same, where it is within the limits.
abbrev pub IsJoined : (whole part : Measure) → Option Measure → Type 0
IsJoined whole part o = MatchOption o (¬ IsSmallMeasure (with_part whole part)) (λ m. (m ≡ with_part whole part) × IsSmallMeasure m)

-- With all set variables replaced each of the variables has its measure.
abbrev pub AreMeasures : List TypBind → BTreeMap Typ Measure → Type 0
AreMeasures sets known = Each (λ e. IsMeasured (typ_instance (composed sets) e.0) e.1) known.entries

-- One variable more is known.
abbrev pub IsKnownMore : Typ → Measure → (old new : BTreeMap Typ Measure) → Type 0
IsKnownMore v m old new = new.entries ≡ insert_entry typ_cmp old.entries v m
