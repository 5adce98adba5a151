-- Lemmas and haves that are bound in a session: where each is bound.
use Rattle.std.proofs.Common.{ℕ, ◌+◌, List, ◌∷◌, ◌++◌, ◌≡◌, length, append_assoc, sym, ap, ◌∙◌, subst, arith}
use Rattle.pure_definitions.specs.Names.{Label}
use Rattle.pure_grammar.specs.Theories.TheoryText.{Command}
use Rattle.pure_logic.specs.Content.{Content}
use Rattle.pure_graph.specs.Order.{Loaded}
use Rattle.pure_session_laws.specs.Theory.Refusals.{IsLabelAbove}
use Rattle.pure_session_laws.specs.Declare.Notes.{Note, Fork, Forked}
use Rattle.pure_session_laws.specs.Declare.Parts.{Part, DeclaresPart}
use Rattle.pure_session_laws.specs.Declare.Fold.{HasParts, part_label, Declares}
use Rattle.pure_session_laws.specs.Declare.Bound.{IsBoundIn}
use Rattle.pure_session_laws.proofs.Declare.PartLaws.{part_forks_bound}
use Rattle.pure_session_laws.specs.Loaded.{IsLoadedSession}
use Rattle.pure_session_meaning.specs.Statements.{IsRun, IsFork}
use Rattle.pure_session_meaning.specs.Steps.{command_label}
use Rattle.pure_session_meaning.specs.Laws.{IsOrderly, IsAmid, ForksStand}
use Rattle.pure_session_meaning.proofs.PartLaws.{parts-cut}
use Rattle.pure_session_meaning.proofs.FoldLaws.{declared-split}
use Rattle.pure_session_meaning.proofs.OrderlyLaws.{HasOrder, parts-orderly, run-ordered}

-- Where a run left the fork behind these notes: the run before its command, what the parts of the command before its own left, and its part.
pub record IsLeft (texts : List (List ℕ)) (theories : List Loaded) (index : ℕ) (notes : List Note) (f : Fork) : Type 0 where
  pub whole : List Note
  pub before : Content
  pub command : Command
  pub left : List Command
  pub run : IsRun texts theories index whole before (command ∷ left)
  pub inner : List Note
  pub notes_are : notes ≡ whole ++ inner
  pub part : Part
  pub now : Content
  pub amid : IsAmid texts run.theory.source (command_label index (length run.done)) before command inner now part
  pub next : Content
  pub declares : DeclaresPart texts run.theory.source (part_label (command_label index (length run.done)) (length inner)) now part (Forked f) next

pub fork-left : (texts : List (List ℕ)) (theories : List Loaded) (index others : ℕ) (f : Fork) (is : IsFork texts theories index others f) → IsLeft texts theories index is.notes f
fork-left texts theories index others f is =
    let r = is.run in
    let source = r.theory.source in
    let split = declared-split texts source index (Forked f) is.more is.now r.done 0 r.first is.notes r.declared in
    let label : Label = command_label index (length split.front) in
    let place : 0 + length split.front ≡ length split.front = omega arith in
    let d : Declares texts source label split.before split.command (split.inner ++ Forked f ∷ split.rest) split.after =
    subst (λ (n : ℕ). Declares texts source (command_label index n) split.before split.command (split.inner ++ Forked f ∷ split.rest) split.after) place split.declares in
    let cut = parts-cut texts source label (Forked f) split.rest split.after d.parts 0 split.before split.inner d.are in
    let count : 0 + length split.inner ≡ length split.inner = omega arith in
    record {
      whole = split.whole;
      before = split.before;
      command = split.command;
      left = split.back ++ is.left;
      run = record {
        theory = r.theory;
        is_at = r.is_at;
        parents = r.parents;
        closed = r.closed;
        first = r.first;
        begins = r.begins;
        done = split.front;
        commands = r.commands ∙ ap (λ (cs : List Command). cs ++ is.left) split.commands ∙ append_assoc split.front (split.command ∷ split.back) is.left;
        declared = split.first;
      };
      inner = split.inner;
      notes_are = split.notes_are;
      part = cut.part;
      now = cut.now;
      amid = record {
        theory = d.theory;
        own = d.own;
        passed = cut.passed;
        ahead = cut.ahead;
        has = subst (λ (ps : List Part). HasParts (record { texts = texts; source = source; label = part_label label 0; theory = d.theory; content = split.before }) split.command ps) cut.parts_are d.has;
        are = cut.are;
      };
      next = cut.next;
      declares = subst (λ (n : ℕ). DeclaresPart texts source (part_label label n) cut.now cut.part (Forked f) cut.next) count cut.declares;
    }

module _ (texts : List (List ℕ)) (theories : List Loaded) (session : IsLoadedSession texts theories) (index : ℕ) (notes : List Note) (f : Fork) (left : IsLeft texts theories index notes f) where
  abbrev pub own_label : Label
  own_label = part_label (command_label index (length left.run.done)) (length left.inner)

  -- The content over which it is bound is what each of a session is,
  pub left-ordered : HasOrder texts own_label left.now
  left-ordered =
      let label = command_label index (length left.run.done) in
      let count : 0 + length left.inner ≡ length left.inner = omega arith in
      let order = run-ordered texts theories session index left.whole left.before (left.command ∷ left.left) left.run in
      subst (λ (n : ℕ). HasOrder texts (part_label label n) left.now) count (parts-orderly texts theories session left.run.theory.source label left.amid.passed 0 left.before left.inner left.now order left.amid.are)

  -- and it is bound by its part, over that content.
  pub left-bound : IsBoundIn texts own_label left.now left.part f
  left-bound =
      let order = left-ordered in
      part_forks_bound texts left.run.theory.source own_label left.now left.part f left.next order.orderly.in_session order.orderly.good.sound left.declares

pub forks_stand : ForksStand
forks_stand texts theories session f (index, others, is) =
    let left = fork-left texts theories index others f is in
    let label = own_label texts theories session index is.notes f left in
    let bound = left-bound texts theories session index is.notes f left in
    let order = left-ordered texts theories session index is.notes f left in
    record {
      index = index;
      notes = left.whole;
      before = left.before;
      command = left.command;
      left = left.left;
      run = left.run;
      inner = left.inner;
      part = left.part;
      amid = subst (λ (Q : Content). IsAmid texts left.run.theory.source (command_label index (length left.run.done)) left.before left.command left.inner Q left.part) (sym bound.content_is) left.amid;
      label = bound.label_is;
      next = left.next;
      declares = subst (λ (l : Label). DeclaresPart texts left.run.theory.source l f.content left.part (Forked f) left.next) (sym bound.label_is)
          (subst (λ (Q : Content). DeclaresPart texts left.run.theory.source label Q left.part (Forked f) left.next) (sym bound.content_is) left.declares);
      above = subst (λ (l : Label). IsLabelAbove f.content.declarations l) (sym bound.label_is) (subst (λ (Q : Content). IsLabelAbove Q.declarations label) (sym bound.content_is) order.labels);
      orderly = subst (λ (Q : Content). IsOrderly texts Q) (sym bound.content_is) order.orderly;
    }
