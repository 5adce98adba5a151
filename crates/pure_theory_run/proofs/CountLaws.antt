-- How many notes a command leaves.
use Rattle.std.proofs.Common.{◌≡◌, ◌∙◌, ◌+◌, ◌≤◌, ℕ, inl, inr, List, [], ◌∷◌, length, length-append, map, ap, arith}
use Rattle.std.proofs.lemmas.List.{length-map}
use Rattle.pure_definitions.specs.Names.{Label}
use Rattle.pure_grammar.specs.Theories.TheoryText.{Command, Class, TypeDecl, Arity, Const, Axiom, Definition, Lemma}
use Rattle.pure_logic.specs.Content.{Content}
use Rattle.pure_graph.specs.Outcome.{command_parts}
use Rattle.pure_session_meaning.specs.Declare.Commands.{Place}
use Rattle.pure_session_meaning.specs.Declare.Fold.{HasParts, part_label, Declares}
use Rattle.pure_session_meaning.specs.Declare.Notes.{Note}
use Rattle.pure_session_meaning.specs.Declare.Parts.{Part, Within, End}
use Rattle.pure_session_meaning.proofs.Declare.HaveSteps.{parts-count}

one-part : (part : Part) (parts : List Part) → parts ≡ part ∷ [] → (1 ≤ length parts) × (length parts ≤ 1)
one-part part parts h = let one : length parts ≡ 1 = ap length h in (omega (arith, one), omega (arith, one))

-- A command has a part at least, and its haves and itself at most.
parts-some : (P : Place) (command : Command) (parts : List Part) → HasParts P command parts → (1 ≤ length parts) × (length parts ≤ command_parts command)
parts-some P (Class x above) parts h = one-part _ parts h
parts-some P (TypeDecl x params) parts h = one-part _ parts h
parts-some P (Arity con domains class) parts h = one-part _ parts h
parts-some P (Const x typ) parts h = one-part _ parts h
parts-some P (Axiom x prop) parts h = one-part _ parts h
parts-some P (Definition x typ prop) parts h = one-part _ parts h
parts-some P (Lemma x span haves script) parts (inl h) =
    let count : length parts ≡ length haves + 1 = ap length h.1 ∙ length-append (map (Within x) haves) (End x span script ∷ []) ∙ ap (λ (n : ℕ). n + 1) (length-map haves (Within x)) in
    (omega (arith, count), omega (arith, count))
parts-some P (Lemma x span haves script) parts (inr h) = let one = one-part _ parts h in (one.0, omega (arith, one.1))

-- So it leaves a note at least, and as many as it has parts at most.
pub notes-some : (texts : List (List ℕ)) (source : List ℕ) (label : Label) (Q : Content) (command : Command) (notes : List Note) (next : Content) → Declares texts source label Q command notes next
    → (1 ≤ length notes) × (length notes ≤ command_parts command)
notes-some texts source label Q command notes next d =
    let some = parts-some (record { texts = texts; source = source; label = part_label label 0; theory = d.theory; content = Q }) command d.parts d.has in
    let count = parts-count texts source label 0 Q d.parts notes next d.are in
    (omega (arith, some.0, count), omega (arith, some.1, count))
