use Rattle.std.proofs.Common.{◌≡◌, ◌++◌, drop}
use Rattle.pure_promise.specs.Seen.{seen}
use Rattle.pure_promise.specs.RowText.{more_labels_text}
use Rattle.pure_promise.proofs.names_text.push_more_labels.Given as goal

-- what is written, and the text of the labels that are left
abbrev pub invariant-loop-label : goal.invariant-loop-label
invariant-loop-label l = l.text.items ++ more_labels_text l.names (seen l.entries) (drop l.label-index l.labels) ≡ l.initial.text.items ++ more_labels_text l.names (seen l.entries) l.labels
