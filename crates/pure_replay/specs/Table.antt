-- The conclusions of lines as a table that grows, and what its calls answer.
use Rattle.std.specs.Prelude.{◌≡◌, ◌≢◌, ℕ, ◌+◌, ◌≤◌, List, [], ◌∷◌, ◌++◌, Result, Ok, Err}
use Rattle.pure_definitions.specs.Terms.Term.{Term, IsWithin}
use Rattle.pure_definitions.specs.Terms.Limits.{cut_off}
use Rattle.pure_logic.specs.Content.{Content}
use Rattle.pure_record.specs.Lines.{Node}
use Rattle.pure_replay.specs.Conclusion.{Conclusion}
use Rattle.pure_replay.specs.Lines as lines
use Rattle.pure_replay.specs.Lines.{AreLines, lines_size, conclusion_size, most_size}
use Rattle.pure_replay.specs.Inferred.{Infers, conclusions_of}
use Rattle.pure_replay.specs.Replayed.{IsStopped, IsWrong, IsTooBig}
use Rattle.pure_replay.specs.declared.fault.NodeFault.{NodeFault}
use Rattle.pure_replay.specs.declared.fault.NodeFault.TheVariants as node
use Rattle.pure_replay.specs.declared.fault.ReplayFault.{ReplayFault}
use Rattle.pure_replay.specs.declared.fault.ReplayFault.TheVariants.{Line, Big, Empty, Open, Memory}

-- The conclusion fits where so much of the room for sizes is left.
pub record HasRoom (left : ℕ) (c : Conclusion) : Type 0 where
  pub within : IsWithin c.prop
  pub sum : conclusion_size c ≤ left

-- The conclusion has been put behind the others.
pub record IsPushed (old : List Conclusion) (left : ℕ) (new : List Conclusion) (rest : ℕ) (c : Conclusion) : Type 0 where
  pub room : HasRoom left c
  pub is : new ≡ old ++ c ∷ []
  pub left_is : rest + conclusion_size c ≡ left

-- Why the node at a place isn't put behind the others: it infers nothing, or something that doesn't fit.
abbrev pub IsStepFault : (Q : Content) → Node → (place : ℕ) → (old : List Conclusion) → (left : ℕ) → ReplayFault → Type 0
IsStepFault Q node place old left (Line line) = (line ≡ cut_off place) × ((c : Conclusion) → ¬ Infers Q old node c)
IsStepFault Q node place old left (Big line) = (line ≡ cut_off place) × ((c : Conclusion) × Infers Q old node c × ¬ HasRoom left c)
IsStepFault Q node place old left Memory = Unit {0}
IsStepFault Q node place old left _ = ⊥

-- The answer for the node at a place: a conclusion that it infers has been put behind the others, or why none has.
abbrev pub IsStepped : (Q : Content) → Node → (place : ℕ) → (old : List Conclusion) → (left : ℕ) → (new : List Conclusion) → (rest : ℕ) → {T : Type 0} → Result T ReplayFault → Type 0
IsStepped Q node place old left new rest (Ok _) = (c : Conclusion) × Infers Q old node c × IsPushed old left new rest c
IsStepped Q node place old left new rest (Err fault) = IsStepFault Q node place old left fault

-- The table is that of the nodes: it has the conclusions of their lines, and what these leave of the room.
pub record IsTable (Q : Content) (nodes : List Node) (cs : List Conclusion) (left : ℕ) : Type 0 where
  pub lines : List lines.Line
  pub are : AreLines Q nodes lines
  pub is : cs ≡ conclusions_of lines
  pub room : left + lines_size lines ≡ most_size

-- The first of the nodes that is wrong, or too big.
abbrev pub IsLineFault : Content → List Node → ReplayFault → Type 0
IsLineFault Q nodes (Line line) = IsStopped Q nodes line (IsWrong Q)
IsLineFault Q nodes (Big line) = IsStopped Q nodes line (IsTooBig Q)
IsLineFault Q nodes Memory = Unit {0}
IsLineFault Q nodes _ = ⊥

-- The answer for all nodes: what their lines conclude, or the first that is wrong or too big.
abbrev pub AreConcluded : {T : Type 0} → (items : T → List Conclusion) → Content → List Node → Result T ReplayFault → Type 0
AreConcluded items Q nodes (Ok cs) = (lines : List lines.Line) × AreLines Q nodes lines × (items cs ≡ conclusions_of lines)
AreConcluded items Q nodes (Err fault) = IsLineFault Q nodes fault

-- The answer for the conclusions of all lines: the last one's proposition, where it has no hypothesis; or that there is none; or that it has one.
abbrev pub IsLast : List Conclusion → Result Term ReplayFault → Type 0
IsLast cs (Ok A) = (front : List Conclusion) × (c : Conclusion) × (cs ≡ front ++ c ∷ []) × (c.hyps ≡ []) × (A ≡ c.prop)
IsLast cs (Err Empty) = cs ≡ []
IsLast cs (Err Open) = (front : List Conclusion) × (c : Conclusion) × (cs ≡ front ++ c ∷ []) × (c.hyps ≢ [])
IsLast cs (Err Memory) = Unit {0}
IsLast cs (Err _) = ⊥

-- The answer of a call that puts a conclusion behind others.
abbrev pub IsPut : (old : List Conclusion) → (left : ℕ) → (new : List Conclusion) → (rest : ℕ) → Conclusion → (place : ℕ) → {T : Type 0} → Result T ReplayFault → Type 0
IsPut old left new rest c place (Ok _) = IsPushed old left new rest c
IsPut old left new rest c place (Err (Big line)) = (line ≡ cut_off place) × ¬ HasRoom left c
IsPut old left new rest c place (Err Memory) = Unit {0}
IsPut old left new rest c place (Err _) = ⊥

-- the fault of a node, as that of the line at its place
abbrev pub fault_of : NodeFault → (place : ℕ) → ReplayFault
fault_of node.Wrong place = Line (cut_off place)
fault_of node.Big place = Big (cut_off place)
fault_of node.Memory place = Memory
