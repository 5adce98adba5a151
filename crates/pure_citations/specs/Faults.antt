-- The failed lemmas that are reached.
use Rattle.std.specs.Prelude.{◌≡◌, ◌↔◌, ℕ, List}
use Rattle.pure_text.specs.Lists.{IsIn}
use Rattle.pure_order_tables.specs.Rows.{Holds}
use Rattle.pure_promise_fates.specs.Entries.{Fault}
use Rattle.pure_promise_fates.specs.Reach.{IsAt}
use Rattle.pure_table.specs.Promise.Entries.{LemmaEntry, plain}
use Rattle.pure_citations.specs.Cites.{IsReachedFrom}

-- The proof of the lemma is at fault.
abbrev pub IsFaulty : LemmaEntry → Type 0
IsFaulty e = (plain e).own ≡ Fault

-- The row holds the place, and the lemma there is at fault, and has the name.
abbrev pub IsFaultyAt : List LemmaEntry → (row : List ℕ) → (name place : ℕ) → Type 0
IsFaultyAt es row name place = (e : LemmaEntry) × IsAt es place e × Holds row place × IsFaulty e × (e.name ≡ name)

-- The row holds the names of the lemmas at fault that lemmas of the name reach, themselves among them, and no others.
abbrev pub AreFaultsOf : List LemmaEntry → (name : ℕ) → (row : List ℕ) → Type 0
AreFaultsOf es name row = (n : ℕ) → Holds row n ↔ ((e : LemmaEntry) × (g : LemmaEntry) × IsIn e es × (e.name ≡ name) × IsIn g es × IsFaulty g × IsReachedFrom es e.label g.label × (g.name ≡ n))
