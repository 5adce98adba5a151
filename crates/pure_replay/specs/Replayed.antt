-- What replaying a record answers.
use Rattle.std.specs.Prelude.{◌≡◌, ◌≢◌, ℕ, List, [], ◌∷◌, ◌++◌, length, Result, Ok, Err}
use Rattle.pure_definitions.specs.Terms.Term.{Term}
use Rattle.pure_definitions.specs.Terms.Limits.{cut_off}
use Rattle.pure_logic.specs.Content.{Content}
use Rattle.pure_logic.specs.Tree.{Tree}
use Rattle.pure_record.specs.Items.{Item}
use Rattle.pure_record.specs.Lines.{Node}
use Rattle.pure_replay.specs.Contents.{content_of, AreGoodItems, IsFirstBadItem}
use Rattle.pure_replay.specs.Lines as lines
use Rattle.pure_replay.specs.Lines.{IsGoodNode, IsLine, IsFitting, AreLines}
use Rattle.pure_replay.specs.declared.fault.ReplayFault.{ReplayFault}
use Rattle.pure_replay.specs.declared.fault.ReplayFault.TheVariants as fault

-- The nodes before the one at this place, from 0, cut off at the greatest number of a call, have lines, and these and that node have the property.
pub record IsStopped (Q : Content) (nodes : List Node) (place : ℕ) (property : List lines.Line → Node → Type 0) : Type 0 where
  pub front : List Node
  pub node : Node
  pub rest : List Node
  pub earlier : List lines.Line
  pub is : nodes ≡ front ++ node ∷ rest
  pub place_is : place ≡ cut_off (length front)
  pub before : AreLines Q front earlier
  pub has : property earlier node

-- The node has no tree behind the earlier lines, an entry of its maps isn't one, or its tree concludes nothing.
abbrev pub IsWrong : Content → List lines.Line → Node → Type 0
IsWrong Q earlier node = (d : Tree) (A : Term) → ¬ IsGoodNode Q earlier node d A

-- The node has a line that doesn't fit.
abbrev pub IsTooBig : Content → List lines.Line → Node → Type 0
IsTooBig Q earlier node = (line : lines.Line) × IsLine Q earlier node line × ¬ IsFitting earlier line

-- The nodes have lines, of which the last has the property.
pub record HasLast (Q : Content) (nodes : List Node) (property : lines.Line → Type 0) : Type 0 where
  pub earlier : List lines.Line
  pub last : lines.Line
  pub are : AreLines Q nodes (earlier ++ last ∷ [])
  pub has : property last

-- The answer for the lines, over a content: the proposition of the last, which has no hypothesis; or the first fault in the order of the lines; or that there is no line, or that the last has a hypothesis.
abbrev pub IsConcluded : Content → List Node → Result Term ReplayFault → Type 0
IsConcluded Q nodes (Ok A) = HasLast Q nodes (λ l. (l.conclusion.hyps ≡ []) × (A ≡ l.conclusion.prop))
IsConcluded Q nodes (Err (fault.Content item)) = ⊥
IsConcluded Q nodes (Err (fault.Line line)) = IsStopped Q nodes line (IsWrong Q)
IsConcluded Q nodes (Err (fault.Big line)) = IsStopped Q nodes line (IsTooBig Q)
IsConcluded Q nodes (Err fault.Empty) = nodes ≡ []
IsConcluded Q nodes (Err fault.Open) = HasLast Q nodes (λ l. l.conclusion.hyps ≢ [])
IsConcluded Q nodes (Err fault.Memory) = Unit {0}

-- The answer for a record: the first item that makes no good content; or, where each content is good, that for the lines over the content of all items. Want of memory may come at any time.
abbrev pub IsReplayed : List Item → List Node → Result Term ReplayFault → Type 0
IsReplayed items nodes (Err (fault.Content item)) = IsFirstBadItem items item
IsReplayed items nodes (Err fault.Memory) = Unit {0}
IsReplayed items nodes result = AreGoodItems items × IsConcluded (content_of items) nodes result
