-- What lemmas reach, by their places.
use Rattle.std.specs.Prelude.{◌≡◌, ◌⊎◌, ◌↔◌, ℕ, List}
use Rattle.pure_text.specs.Lists.{IsIn}
use Rattle.pure_definitions.specs.Names.{Label}
use Rattle.pure_order_tables.specs.Rows.{Holds}
use Rattle.pure_promise_fates.specs.Entries.{Entry, Shown, Reaches}
use Rattle.pure_promise_fates.specs.Reach.{IsAt}

-- The new set holds, beside what the old one holds, just the numbers with the property.
abbrev pub Gains : (P : ℕ → Type 0) → (old new : List ℕ) → Type 0
Gains P old new = (n : ℕ) → Holds new n ↔ (P n ⊎ Holds old n)

-- One of the lemmas at the places that the row holds has the label, or reaches it.
abbrev pub IsFrom : List Entry → (row : List ℕ) → Label → Type 0
IsFrom es row k = (p : ℕ) × (e : Entry) × IsAt es p e × Holds row p × ((e.label ≡ k) ⊎ Reaches es e.label k)

-- The label is one of the promises on which the proof of the lemma at the place rests.
abbrev pub IsRestAt : List Entry → (place : ℕ) → Label → Type 0
IsRestAt es place k = (d : Entry) × IsAt es place d × (rests : List Label) × (d.own ≡ Shown rests) × IsIn k rests

-- The row holds, beside what another holds, the places of the promises on which the lemma at the place rests, where the other holds that place.
abbrev pub IsGrown : List Entry → (place : ℕ) → (old new : List ℕ) → Type 0
IsGrown es place old new = (p : ℕ) (e : Entry) → IsAt es p e → (Holds new p → (Holds old p ⊎ (Holds old place × IsRestAt es place e.label))) × ((Holds old p ⊎ (Holds old place × IsRestAt es place e.label)) → Holds new p)
