-- The measures that an abstraction and an application keep.
use Rattle.std.specs.Prelude.{◌≡◌, ℕ, min}
use Rattle.pure_definitions.specs.Terms.Term as tree
use Rattle.pure_definitions.specs.Terms.Term.{Term, term_size, term_depth}
use Rattle.pure_definitions.specs.Terms.Measures.{term_index_above, loose_above}
use Rattle.pure_definitions.specs.Terms.Limits.{cut_off}
use Rattle.pure_term.specs.declared.term.Kept.{Kept}
use Rattle.pure_term.specs.declared.term.TermNode.{TermNode}
use Rattle.pure_term.specs.declared.term.TermNode.TheVariants.{Abs, App}

-- the number, or the greatest that a node keeps of a depth and of a place
abbrev pub short_count : ℕ → ℕ
short_count n = min n 65535

-- The measures are those of the term.
pub record AreMeasures (t : Term) (kept : Kept) : Type 0 where
  pub size : kept.size ≡ cut_off (term_size t)
  pub above : kept.above ≡ cut_off (term_index_above t)
  pub depth : kept.depth ≡ short_count (term_depth t)
  pub loose : kept.loose ≡ short_count (loose_above t)

-- The measures that the node keeps are its own.
abbrev pub IsNodeMeasured : TermNode → Type 0
IsNodeMeasured (Abs kept T b) = AreMeasures (tree.Abs T b.value) kept
IsNodeMeasured (App kept f a) = AreMeasures (tree.App f.value a.value) kept
IsNodeMeasured _ = Unit {0}
