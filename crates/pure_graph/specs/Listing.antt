-- Which listed names are files of theories.
use Rattle.std.specs.Prelude.{◌≡◌, ℕ, ◌&&◌, List, ◌++◌, codes}
use Rattle.std.specs.List.{list_any}
use Rattle.std.specs.List.Sorted.{IsStrictlySortedBy}
use Rattle.std.specs.Ordering.{nat_cmp}
use Rattle.std.specs.Cmp.Lexicographic.{slice_cmp}
use Rattle.pure_grammar.specs.Theories.Lexeme.{same}
use Rattle.pure_lex.specs.Identifier.{is_identifier}

-- the name of a theory's file
abbrev pub file_name : List ℕ → List ℕ
file_name theory = theory ++ codes ".thy"

-- The theories of some listed names: the identifiers T for which T.thy is listed, each once, in byte order. Other names
-- are passed over.
pub record AreTheories (names theories : List (List ℕ)) : Type 0 where
  pub ascend : IsStrictlySortedBy (slice_cmp nat_cmp) theories
  pub counted : (t : List ℕ) → list_any (same t) theories ≡ (is_identifier t && list_any (same (file_name t)) names)
