-- Which rows lemmas have.
use Rattle.std.specs.Prelude.{◌≡◌, ℕ, List, map}
use Rattle.pure_text.specs.Lists.{EachTwo}
use Rattle.pure_promise_fates.specs.Entries.{Fate, IsFate}
use Rattle.pure_print.specs.declared.row.Row.{Row}
use Rattle.pure_promise.specs.Entries.{LemmaEntry, plain}
use Rattle.pure_promise.specs.RowText.{fate_row}

-- The row says the lemma's fate among these lemmas.
abbrev pub IsRowOf : (texts : List (List ℕ)) → List LemmaEntry → LemmaEntry → Row → Type 0
IsRowOf texts es e row = (fate : Fate) × IsFate (map plain es) e.label fate × (row ≡ fate_row texts es e fate)

-- Each lemma has its row, in order.
abbrev pub AreRowsOf : (texts : List (List ℕ)) → List LemmaEntry → List Row → Type 0
AreRowsOf texts es rows = EachTwo (IsRowOf texts es) es rows
