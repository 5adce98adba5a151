-- What contracts see of scanned theories.
use Rattle.std.specs.Prelude.{◌≡◌, ℕ, List, map, option_map}
use Rattle.pure_session.specs.declared.order.Loaded.{Loaded}
use Rattle.pure_places.specs.Seen.{seen_places, ArePlaces}
use Rattle.pure_row_places.specs.Lines.{Theory, Refusal}
use Rattle.pure_row_places.specs.declared.scan.Scan.{Scan}
use Rattle.pure_row_places.specs.declared.scan.RefusedScan.{RefusedScan}

abbrev pub seen_scan : Scan → Theory
seen_scan s = record { name = s.name; source = s.source; places = seen_places s.places }

abbrev pub seen_refusal : RefusedScan → Refusal
seen_refusal r = record { name = r.name; theory = option_map seen_scan r.scan }

abbrev pub seen_scans : List Scan → List Theory
seen_scans = map seen_scan

abbrev pub seen_refusals : List RefusedScan → List Refusal
seen_refusals = map seen_refusal

-- It is the theory of this name and this source, with the places of its parts.
pub record IsScanOf (name source : List ℕ) (t : Theory) : Type 0 where
  pub name_is : t.name ≡ name
  pub source_is : t.source ≡ source
  pub places : ArePlaces source t.places

-- the same of a loaded theory, as the program holds both
abbrev pub IsScannedAs : Loaded → Scan → Type 0
IsScannedAs l s = IsScanOf l.name l.source (seen_scan s)
