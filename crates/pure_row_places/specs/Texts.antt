-- A text that is lent, if there is one.
use Rattle.std.specs.Prelude.{ℕ, List, Option, Some, None}
use Rattle.std.specs.Borrow.{Bor}

abbrev pub seen_text : Option (Bor (List ℕ)) → Option (List ℕ)
seen_text None = None
seen_text (Some t) = Some t.now
