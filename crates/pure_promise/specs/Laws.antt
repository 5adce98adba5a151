-- Laws of joined lemmas and of rows.
use Rattle.std.specs.Prelude.{◌≡◌, ◌↔◌, ℕ, List, map}
use Rattle.pure_definitions.specs.Names.{Label}
use Rattle.pure_promise_fates.specs.Entries as fates
use Rattle.pure_promise_fates.specs.Entries.{AreEntries, IsFate}
use Rattle.pure_print.specs.declared.row.Row.{Row}
use Rattle.pure_print.specs.declared.row.RowStatus.TheVariants as status
use Rattle.pure_promise.specs.Entries.{LemmaEntry, plain}
use Rattle.pure_promise.specs.Joining.{IsJoined}
use Rattle.pure_promise.specs.Rows.{IsRowOf}

-- The row says that a lemma is proved exactly where its fate is so.
abbrev pub ProvedRow : Type 0
ProvedRow = (texts : List (List ℕ)) (es : List LemmaEntry) → AreEntries (map plain es) → (e : LemmaEntry) (row : Row) → IsRowOf texts es e row
    → (row.status ≡ status.Proved) ↔ IsFate (map plain es) e.label fates.Proved

-- A lemma is joined exactly where its fate is that it is proved.
abbrev pub JoinedIsProved : Type 0
JoinedIsProved = (es : List fates.Entry) → AreEntries es → (l : Label) → IsJoined es l ↔ IsFate es l fates.Proved
