-- What contracts see of refused files.
use Rattle.std.specs.Prelude.{List, map}
use Rattle.pure_graph.specs.Session.{Shown}
use Rattle.pure_session.specs.declared.reason.RefusedFile.{RefusedFile}

abbrev pub seen_refused : RefusedFile → Shown
seen_refused file = record { name = file.name; text = file.reason }

abbrev pub all_refused : List RefusedFile → List Shown
all_refused = map seen_refused
