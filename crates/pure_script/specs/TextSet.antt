-- A set of texts beside the list of them.
use Rattle.std.specs.Prelude.{◌≡◌, ℕ, List}
use Rattle.std.specs.List.{list_any}
use Rattle.std.specs.BTreeSet.{BTreeSet, contains}
use Rattle.std.specs.Ordering.{nat_cmp}
use Rattle.std.specs.Cmp.Lexicographic.{slice_cmp}
use Rattle.pure_grammar.specs.Theories.Lexeme.{same}

-- The set contains exactly the texts of the list.
abbrev pub IsSetOf : BTreeSet (List ℕ) → List (List ℕ) → Type 0
IsSetOf set texts = (t : List ℕ) → contains (slice_cmp nat_cmp) set t ≡ list_any (same t) texts
