-- The rows of lemmas.
use Rattle.std.specs.Prelude.{ℕ, List, [], ◌∷◌, ◌++◌, Option, Some, None, Ok, Err, codes, if◌then◌else◌}
use Rattle.std.specs.Fmt.{decimal}
use Rattle.pure_definitions.specs.Names.{Label}
use Rattle.pure_theory_tables.specs.Same.{label_eq}
use Rattle.pure_goal_steps.specs.declared.fault.StepFault.{StepFault}
use Rattle.pure_goal_steps.specs.declared.fault.StepFault.TheVariants as step
use Rattle.pure_promise_fates.specs.Entries.{Fate, Proved, Failed, Tainted, Gone, Unsettled}
use Rattle.pure_print.specs.declared.row.Row.{Row}
use Rattle.pure_print.specs.declared.row.RowStatus.{RowStatus}
use Rattle.pure_print.specs.declared.row.RowStatus.TheVariants as status
use Rattle.pure_print.specs.NameText.{text_of_name}
use Rattle.pure_print.specs.TermText.{term_text}
use Rattle.pure_method.specs.Proof.{ProofOutcome}
use Rattle.pure_promise.specs.Entries.{LemmaEntry}

-- the text of a fault of a proof; want of memory is none, and has no text
unfoldable pub fault_text : StepFault → List ℕ
fault_text step.UnknownFact = codes "unknown fact"
fault_text step.NoSubgoal = codes "no subgoal"
fault_text step.NoPremise = codes "no premise"
fault_text step.NotDefinition = codes "not a definition"
fault_text step.NothingToUnfold = codes "nothing to unfold"
fault_text step.NoUnifier = codes "no unifier"
fault_text step.SearchBound = codes "search bound"
fault_text step.Steps = codes "too many beta steps"
fault_text step.Big = codes "too large"
fault_text step.NoHypothesis = codes "no hypothesis"
fault_text step.SubgoalsLeft = codes "subgoals left"
fault_text step.Memory = []

-- what stands between the parts of a row
unfoldable pub colon : List ℕ
colon = codes ": "

unfoldable pub comma : List ℕ
comma = codes ", "

unfoldable pub step_word : List ℕ
step_word = codes ": step "

unfoldable pub by_word : List ℕ
by_word = codes ": by "

-- the name of the lemma with this label
abbrev pub label_text : (texts : List (List ℕ)) → List LemmaEntry → Label → List ℕ
label_text texts [] l = []
label_text texts (e ∷ es) l = if label_eq e.label l then text_of_name texts e.name else label_text texts es l

-- the names of the lemmas with these labels, each behind a comma
abbrev pub more_labels_text : (texts : List (List ℕ)) → List LemmaEntry → List Label → List ℕ
more_labels_text texts es [] = []
more_labels_text texts es (l ∷ ls) = comma ++ (label_text texts es l ++ more_labels_text texts es ls)

-- the names of the lemmas with these labels, with a comma between each two
abbrev pub labels_text : (texts : List (List ℕ)) → List LemmaEntry → List Label → List ℕ
labels_text texts es [] = []
labels_text texts es (l ∷ ls) = label_text texts es l ++ more_labels_text texts es ls

-- what the row of a failed lemma says: the step that failed, and why
abbrev pub failed_tail : Option ProofOutcome → List ℕ
failed_tail (Some (Err f)) = step_word ++ (decimal f.step ++ (colon ++ fault_text f.fault))
failed_tail (Some (Ok rests)) = []
failed_tail None = []

-- what stands behind the name: of a proved lemma its statement, of a failed one its fault, of a tainted one the failed lemmas that it reaches
abbrev pub tail_text : (texts : List (List ℕ)) → List LemmaEntry → LemmaEntry → Fate → List ℕ
tail_text texts es e Proved = colon ++ term_text texts e.prop
tail_text texts es e Failed = failed_tail e.own
tail_text texts es e (Tainted faults) = by_word ++ labels_text texts es faults
tail_text texts es e Gone = []
tail_text texts es e Unsettled = []

-- the status of a row that says this fate
abbrev pub status_of : Fate → RowStatus
status_of Proved = status.Proved
status_of Failed = status.Failed
status_of (Tainted faults) = status.Tainted
status_of Gone = status.Cancelled
status_of Unsettled = status.Unsettled

-- the row of a lemma with this fate, among these lemmas
abbrev pub fate_row : (texts : List (List ℕ)) → List LemmaEntry → LemmaEntry → Fate → Row
fate_row texts es e fate = record { status = status_of fate; head = text_of_name texts e.name; tail = tail_text texts es e fate }
