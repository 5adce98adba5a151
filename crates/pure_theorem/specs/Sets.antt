-- Sets of hypotheses and of promises: lists that ascend strictly, so that each set has one list.
use Rattle.std.specs.Prelude.{◌↔◌, List}
use Rattle.std.specs.declared.cmp.Ordering.{Ordering}
use Rattle.std.specs.Ordering.{nat_cmp, ordering_then}
use Rattle.std.specs.List.Sorted.{IsStrictlySortedBy}
use Rattle.pure_text.specs.Lists.{IsIn}
use Rattle.pure_definitions.specs.Names.{Label}
use Rattle.pure_definitions.specs.Terms.Term.{Term}
use Rattle.pure_definitions.specs.Models.Comparison.{term_cmp}

-- the order of labels: by theory, then by command, then by part
abbrev pub label_cmp : Label → Label → Ordering
label_cmp l m = ordering_then (nat_cmp l.theory m.theory) (ordering_then (nat_cmp l.command m.command) (nat_cmp l.part m.part))

abbrev pub IsTermSet : List Term → Type 0
IsTermSet = IsStrictlySortedBy term_cmp

abbrev pub IsLabelSet : List Label → Type 0
IsLabelSet = IsStrictlySortedBy label_cmp

-- The list is the set of the items: it ascends strictly, and has the same elements.
pub record IsSetOf {A : Type 0} (cmp : A → A → Ordering) (items all : List A) : Type 0 where
  pub ascends : IsStrictlySortedBy cmp all
  pub members : (x : A) → IsIn x all ↔ IsIn x items
