-- Lemmas at their places, with what each of them reaches.
use Rattle.std.specs.Prelude.{◌≡◌, ◌<◌, ℕ, List, length, map}
use Rattle.pure_definitions.specs.Names.{Label}
use Rattle.pure_promise_fates.specs.Entries as fates
use Rattle.pure_promise_fates.specs.Entries.{AreEntries}
use Rattle.pure_promise_fates.specs.Reach.{IsAt, AreReaches}
use Rattle.pure_print.specs.declared.row.Row.{Row}
use Rattle.pure_promise.specs.declared.entry.Entry.{Entry}
use Rattle.pure_promise.specs.declared.lemmas.Lemmas.{Lemmas}
use Rattle.pure_promise.specs.Entries.{LemmaEntry}
use Rattle.pure_promise.specs.Rows.{IsRowOf}
use Rattle.pure_promise.specs.Seen.{reported}

-- Their labels ascend, their proofs rest on earlier ones alone, and of each is told what it reaches.
pub record AreReached (lemmas : Lemmas) : Type 0 where
  pub entries : AreEntries (map reported lemmas.entries.now)
  pub reached : (width : ℕ) × AreReaches (map reported lemmas.entries.now) width lemmas.reached.now
  pub count : length lemmas.reached.now ≡ length lemmas.entries.now

-- The lemma at the place has the label.
pub record IsLabelAt (es : List Entry) (place : ℕ) (l : Label) : Type 0 where
  pub within : place < length es
  pub at : (e : fates.Entry) × IsAt (map reported es) place e × (e.label ≡ l)

-- The lemma has a row, and this holds of it.
abbrev pub IsRowSuchThat : (texts : List (List ℕ)) → List LemmaEntry → LemmaEntry → (Holds : Row → Type 0) → Type 0
IsRowSuchThat texts es e Holds = (row : Row) × IsRowOf texts es e row × Holds row
