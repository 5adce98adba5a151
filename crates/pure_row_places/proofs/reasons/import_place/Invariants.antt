use Rattle.std.proofs.Common.{◌≡◌, drop, map}
use Rattle.pure_places.specs.Seen.{seen_import}
use Rattle.pure_row_places.specs.Reasons.{import_place}
use Rattle.pure_row_places.proofs.reasons.import_place.Given as goal

abbrev pub invariant-loop-import : goal.invariant-loop-import
invariant-loop-import l = import_place (map seen_import (drop l.import-index l.imports)) l.theory ≡ import_place (map seen_import l.imports) l.theory
