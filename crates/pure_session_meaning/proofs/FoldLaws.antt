-- Folds over commands, put together and taken apart.
use Rattle.std.proofs.Common.{◌≡◌, ℕ, ◌+◌, List, [], ◌∷◌, ◌++◌, length, append_assoc, append-nil, refl, sym, ap, ◌∙◌, subst, arith}
use Rattle.pure_grammar.specs.Theories.TheoryText.{Command}
use Rattle.pure_logic.specs.Content.{Content}
use Rattle.pure_session_laws.specs.Declare.Notes.{Note}
use Rattle.pure_session_laws.specs.Declare.Fold.{Declares, AreDeclared}
use Rattle.pure_session_meaning.specs.Steps.{command_label}
use Rattle.pure_session_meaning.proofs.PartLaws.{not-empty, IsPlaced, inside, behind, placed}

-- First some commands, and then others.
pub declared-append : (texts : List (List ℕ)) (source : List ℕ) (index place : ℕ) (cs ds : List Command) (Q R S : Content) (ns ms : List Note) → AreDeclared texts source index place Q cs ns R
    → (n : ℕ) → n ≡ place + length cs → AreDeclared texts source index n R ds ms S → AreDeclared texts source index place Q (cs ++ ds) (ns ++ ms) S
declared-append texts source index place [] ds Q R S ns ms h n count k =
    let at_start : n ≡ place = omega (arith, count) in
    rw h.0 (subst (λ (p : ℕ). AreDeclared texts source index p Q ds ms S) at_start (subst (λ (X : Content). AreDeclared texts source index n X ds ms S) h.1 k))
declared-append texts source index place (c ∷ cs) ds Q R S ns ms h n count k =
    (h.0, h.1, h.2 ++ ms, h.3, declared-append texts source index (place + 1) cs ds h.1 R S h.2 ms h.4 n (omega (arith, count)) k, ap (λ (x : List Note). x ++ ms) h.5 ∙ append_assoc h.0 h.2 ms)

-- One command alone.
pub declared-one : (texts : List (List ℕ)) (source : List ℕ) (index place : ℕ) (c : Command) (Q R : Content) (notes : List Note) → Declares texts source (command_label index place) Q c notes R → AreDeclared texts source index place Q (c ∷ []) notes R
declared-one texts source index place c Q R notes h = (notes, R, [], h, (refl, refl), sym (append-nil notes))

-- The commands before the one that left this note behind these, that command, and those ahead of it: its notes are these behind those of the commands before it, the note, and the rest.
pub record IsSplit (texts : List (List ℕ)) (source : List ℕ) (index place : ℕ) (cs : List Command) (Q : Content) (notes : List Note) (note : Note) : Type 0 where
  pub front : List Command
  pub command : Command
  pub back : List Command
  pub before : Content
  pub after : Content
  pub whole : List Note
  pub inner : List Note
  pub rest : List Note
  pub commands : cs ≡ front ++ command ∷ back
  pub notes_are : notes ≡ whole ++ inner
  pub first : AreDeclared texts source index place Q front whole before
  pub declares : Declares texts source (command_label index (place + length front)) before command (inner ++ note ∷ rest) after

module _ (texts : List (List ℕ)) (source : List ℕ) (index : ℕ) (note : Note) (more : List Note) (last : Content) where
  pub declared-split : (cs : List Command) (place : ℕ) (Q : Content) (notes : List Note) → AreDeclared texts source index place Q cs (notes ++ note ∷ more) last → IsSplit texts source index place cs Q notes note
  declared-split [] place Q notes h = absurd (not-empty notes note more h.0)
  declared-split (c ∷ cs) place Q notes (first, next, second, d, h, e) =
      by (placed notes note more first second e) (λ between is. declared-split cs (place + 1) next between (subst (λ (ns : List Note). AreDeclared texts source index (place + 1) next cs ns last) is h))
    where
      by : IsPlaced notes note more first second → ((between : List Note) → second ≡ between ++ note ∷ more → IsSplit texts source index (place + 1) cs next between note) → IsSplit texts source index place (c ∷ cs) Q notes note
      by (inside rest is) on =
          let here : place ≡ place + 0 = omega arith in
          record {
            front = [];
            command = c;
            back = cs;
            before = Q;
            after = next;
            whole = [];
            inner = notes;
            rest = rest;
            commands = refl;
            notes_are = refl;
            first = (refl, refl);
            declares = subst (λ (n : ℕ). Declares texts source (command_label index n) Q c (notes ++ note ∷ rest) next) here (subst (λ (ns : List Note). Declares texts source (command_label index place) Q c ns next) is d);
          }
      by (behind between a b) on =
          let w = on between b in
          let count : place + 1 + length w.front ≡ place + length (c ∷ w.front) = omega arith in
          record {
            front = c ∷ w.front;
            command = w.command;
            back = w.back;
            before = w.before;
            after = w.after;
            whole = first ++ w.whole;
            inner = w.inner;
            rest = w.rest;
            commands = ap (λ (ds : List Command). c ∷ ds) w.commands;
            notes_are = a ∙ ap (λ (ns : List Note). first ++ ns) w.notes_are ∙ sym (append_assoc first w.whole w.inner);
            first = (first, next, w.whole, d, w.first, refl);
            declares = subst (λ (n : ℕ). Declares texts source (command_label index n) w.before w.command (w.inner ++ note ∷ w.rest) w.after) count w.declares;
          }
