-- Turns of runs.
use Rattle.std.proofs.Common.{◌≡◌, ◌∙◌, ℕ, zero, suc, ◌+◌, ◌-◌, ◌<◌, ◌≤◌, List, [], ◌∷◌, ◌++◌, length, append-nil, append_assoc, ap, sym, refl, subst, arith}
use Rattle.std.specs.Prelude.{Option, Some, None, Result, Ok, Err, IfOk, OnErr, slice_get}
use Rattle.std.specs.declared.alloc.AllocError.{AllocError}
use Rattle.std.proofs.lemmas.List.{length-map, map-append}
use Rattle.std.proofs.lemmas.List.Sums.{sum_by-cons}
use Rattle.std.proofs.lemmas.Option.{same_Some}
use Rattle.pure_grammar.specs.Theories.TheoryText.{Command}
use Rattle.pure_logic.specs.Content.{Content}
use Rattle.pure_print.specs.declared.row.Row.{Row}
use Rattle.pure_graph.specs.Order.{Loaded}
use Rattle.pure_graph.specs.Outcome.{command_parts, part_count}
use Rattle.pure_session_meaning.specs.Declare.Fold.{Declares}
use Rattle.pure_session_meaning.specs.Declare.Notes.{Note, Said, Forked}
use Rattle.pure_session_meaning.specs.Declare.Seen.{seen_note, seen_notes}
use Rattle.pure_session_meaning.specs.Declare.declared.notes.Note as code_note
use Rattle.pure_session_meaning.specs.SessionLaws.Loaded.{IsLoadedSession}
use Rattle.pure_session_meaning.specs.Given.{IsNextGiven}
use Rattle.pure_session_meaning.specs.Verdicts.{IsTheoryAt, barred}
use Rattle.pure_session_meaning.specs.Verdicts as verdicts
use Rattle.pure_session_meaning.specs.Statements.{IsRun, forks_of}
use Rattle.pure_session_meaning.specs.Steps.{command_label}
use Rattle.pure_session_meaning.proofs.StepLaws.{theory-once, done-count, run_goes_on, run_closes}
use Rattle.pure_session_meaning.proofs.OwnLaws.{runs_give}
use Rattle.pure_theory_run.specs.Outline.{Barred, Ran, row_of}
use Rattle.pure_theory_run.specs.Runs.{IsBarredBy, IsUnderWay, IsGoing, IsStandingOf, IsRunOf, IsSameGoing, IsSameRun, notes_left, left_of}
use Rattle.pure_theory_run.specs.Turns.{ClosesWith, HandsOut, IsGoingTurn, IsTurn, turn_of}
use Rattle.pure_theory_run.specs.declared.run.Going.{Going}
use Rattle.pure_theory_run.specs.declared.run.Standing.{Standing}
use Rattle.pure_theory_run.specs.declared.run.Standing.TheVariants as code
use Rattle.pure_theory_run.specs.declared.run.Run.{Run}
use Rattle.pure_theory_run.specs.declared.run.Turn.{Turn}
use Rattle.pure_theory_run.specs.declared.run.Turn.TheVariants as turns
use Rattle.pure_theory_run.proofs.CountLaws.{notes-some}

-- The place behind the first of two lists is the first one of the second.
get-behind : {A : Type 0} (xs ys zs : List A) (n : ℕ) → zs ≡ xs ++ ys → n ≡ length xs → slice_get zs n ≡ slice_get ys 0
get-behind [] ys zs n whole count = rw (whole, count) refl
get-behind (x ∷ xs) ys zs zero whole count = absurd (omega (arith, count))
get-behind (x ∷ xs) ys zs (suc n) whole count = rw whole (get-behind xs ys (xs ++ ys) n refl (omega (arith, count)))

head-is : {A : Type 0} (xs : List A) (x : A) → slice_get xs 0 ≡ Some x → (ys : List A) × (xs ≡ x ∷ ys)
head-is [] x e = absurd (cc)
head-is (y ∷ ys) x e = (ys, ap (λ z. z ∷ ys) (same_Some y x e))

none-is : {A : Type 0} (xs : List A) → slice_get xs 0 ≡ None → xs ≡ []
none-is [] e = refl
none-is (y ∷ ys) e = absurd (cc)

-- A note that is handed out takes a turn.
out-fewer : (old new : Going) (turn : Turn) → HandsOut old new turn → notes_left new + 1 ≡ notes_left old
out-fewer old new turn h =
    omega (arith, ap length h.waiting, length-map old.waiting.items seen_note, length-map new.waiting.items seen_note, h.parts)

module _ (texts : List (List ℕ)) (theories : List Loaded) (index : ℕ) where
  -- The first note that waits is handed out.
  going-out : (notes : List Note) (old new : Going) (turn : Turn) → IsGoing texts theories index notes old → (h : HandsOut old new turn) → IsGoing texts theories index (notes ++ h.note ∷ []) new
  going-out notes old new turn going h =
      let behind : notes ++ seen_notes old.waiting.items ≡ (notes ++ h.note ∷ []) ++ seen_notes new.waiting.items =
      ap (λ (ns : List Note). notes ++ ns) h.waiting ∙ sym (append_assoc notes (h.note ∷ []) (seen_notes new.waiting.items)) in
      let moved = subst (λ (ns : List Note). IsUnderWay texts theories index ns old.now.value old.left old.parts) behind going.way in
      let all = (notes ++ h.note ∷ []) ++ seen_notes new.waiting.items in
      record {
        way = subst (λ (p : ℕ). IsUnderWay texts theories index all new.now.value new.left p) (sym h.parts)
            (subst (λ (n : ℕ). IsUnderWay texts theories index all new.now.value n old.parts) (sym h.left)
            (subst (λ (Q : Content). IsUnderWay texts theories index all Q old.left old.parts) (sym h.content) moved));
        rows = h.rows ∙ ap (λ (rs : List (Option Row)). rs ++ row_of h.note ∷ []) going.rows ∙ sym (map-append row_of notes (h.note ∷ []));
      }

  turn-by : (notes : List Note) (old new : Going) (note : Note) (turn : Turn) → turn ≡ turn_of note → IsGoing texts theories index (notes ++ note ∷ []) new → notes_left new < notes_left old → IsGoingTurn texts theories index notes old new turn
  turn-by notes old new (Said row) turn e going fewer = rw e (row, going, fewer)
  turn-by notes old new (Forked goal) turn e going fewer = rw e (going, fewer, refl)

  -- A turn by a note that waits.
  turn-out : (notes : List Note) (old new : Going) (turn : Turn) → IsGoing texts theories index notes old → HandsOut old new turn → IsGoingTurn texts theories index notes old new turn
  turn-out notes old new turn going h = turn-by notes old new h.note turn h.turn_is (going-out notes old new turn going h) (omega (arith, out-fewer old new turn h))

-- The notes of a command wait: rows stay, so much fewer is left, and this content is next.
pub record GoesOn (old new : Going) (command : Command) (notes : List Note) (next : Content) : Type 0 where
  pub rows : new.rows.items ≡ old.rows.items
  pub now : new.now.value ≡ next
  pub left : new.left + 1 ≡ old.left
  pub parts : new.parts + command_parts command ≡ old.parts
  pub waiting : seen_notes new.waiting.items ≡ notes

module _ (texts : List (List ℕ)) (theories : List Loaded) (index : ℕ) (T : Loaded) (at : IsTheoryAt theories index T) where
  -- The next command is the first of those that are left.
  next-at : (notes : List Note) (now : Content) (left : List Command) → IsRun texts theories index notes now left → slice_get T.text.commands (length T.text.commands - length left) ≡ slice_get left 0
  next-at notes now left run =
      let place : length T.text.commands - length left ≡ length run.done = omega (arith, done-count texts theories index T at notes now left run) in
      ap (λ (n : ℕ). slice_get T.text.commands n) place ∙ subst (λ (U : Loaded). slice_get U.text.commands (length run.done) ≡ slice_get left 0) (theory-once theories index run.theory T run.is_at at)
      (get-behind run.done left run.theory.text.commands (length run.done) run.commands refl)

  held-at : (notes : List Note) (now : Content) (n p : ℕ) (way : IsUnderWay texts theories index notes now n p) (o : Option Command) → slice_get T.text.commands (length T.text.commands - n) ≡ o → slice_get way.commands 0 ≡ o
  held-at notes now n p way o held = sym (next-at notes now way.commands way.run) ∙ ap (λ (k : ℕ). slice_get T.text.commands (length T.text.commands - k)) (sym way.count) ∙ held

  -- The run where this is the next command.
  record IsNext (notes : List Note) (now : Content) (n p : ℕ) (command : Command) : Type 0 where
    more : List Command
    run : IsRun texts theories index notes now (command ∷ more)
    count : n ≡ length more + 1
    parts : p ≡ command_parts command + part_count more
    place : length T.text.commands - n ≡ length run.done

  next-run : (notes : List Note) (now : Content) (n p : ℕ) (command : Command) → IsUnderWay texts theories index notes now n p → slice_get T.text.commands (length T.text.commands - n) ≡ Some command → IsNext notes now n p command
  next-run notes now n p command way held =
      let head = head-is way.commands command (held-at notes now n p way (Some command) held) in
      let run = subst (λ (cs : List Command). IsRun texts theories index notes now cs) head.1 way.run in
      let count : n ≡ length head.0 + 1 = omega (arith, way.count, ap length head.1) in
      record {
        more = head.0;
        run = run;
        count = count;
        parts = way.parts_are ∙ ap part_count head.1 ∙ sum_by-cons command_parts command head.0;
        place = omega (arith, done-count texts theories index T at notes now (command ∷ head.0) run, count);
      }

  way-next : (notes inner : List Note) (now next : Content) (n p less fewer : ℕ) (command : Command) → IsUnderWay texts theories index notes now n p → slice_get T.text.commands (length T.text.commands - n) ≡ Some command
      → less + 1 ≡ n → fewer + command_parts command ≡ p → Declares texts T.source (command_label index (length T.text.commands - n)) now command inner next → IsUnderWay texts theories index (notes ++ inner) next less fewer
  way-next notes inner now next n p less fewer command way held one own d =
      let here = next-run notes now n p command way held in
      record {
        commands = here.more;
        run = run_goes_on texts theories index T at notes now command here.more here.run inner next (subst (λ (k : ℕ). Declares texts T.source (command_label index k) now command inner next) here.place d);
        count = omega (arith, one, here.count);
        parts_are = omega (arith, own, here.parts);
      }

  -- Where no note waits, all notes were handed out.
  way-whole : (notes : List Note) (g : Going) → IsGoing texts theories index notes g → g.waiting.items ≡ [] → IsUnderWay texts theories index notes g.now.value g.left g.parts
  way-whole notes g going none =
      subst (λ (ns : List Note). IsUnderWay texts theories index ns g.now.value g.left g.parts) (ap (λ (ws : List code_note.Note). notes ++ seen_notes ws) none ∙ append-nil notes) going.way

  -- No more commands are left than there are.
  pub left-within : (notes : List Note) (g : Going) → IsGoing texts theories index notes g → g.left ≤ length T.text.commands
  left-within notes g going = omega (arith, going.way.count, done-count texts theories index T at (notes ++ seen_notes g.waiting.items) g.now.value going.way.commands going.way.run)

  next-going : (notes : List Note) (g : Going) (command : Command) → IsGoing texts theories index notes g → slice_get T.text.commands (length T.text.commands - g.left) ≡ Some command
      → IsNext (notes ++ seen_notes g.waiting.items) g.now.value g.left g.parts command
  next-going notes g command going held = next-run (notes ++ seen_notes g.waiting.items) g.now.value g.left g.parts command going.way held

  -- Where there is a next command, some is left, and its parts are among those that are.
  pub some-left : (notes : List Note) (g : Going) (command : Command) → IsGoing texts theories index notes g → slice_get T.text.commands (length T.text.commands - g.left) ≡ Some command → 0 < g.left
  some-left notes g command going held = omega (arith, (next-going notes g command going held).count)

  pub parts-left : (notes : List Note) (g : Going) (command : Command) → IsGoing texts theories index notes g → slice_get T.text.commands (length T.text.commands - g.left) ≡ Some command → command_parts command ≤ g.parts
  parts-left notes g command going held = omega (arith, (next-going notes g command going held).parts)

  -- What the next command is given.
  pub next-given : IsLoadedSession texts theories → (notes : List Note) (g : Going) (n : ℕ) (command : Command) → IsGoing texts theories index notes g → n ≡ length T.text.commands - g.left
      → slice_get T.text.commands (length T.text.commands - g.left) ≡ Some command → IsNextGiven texts T.source g.now.value (command_label index n) command
  next-given session notes g n command going count held =
      let here = next-going notes g command going held in
      subst (λ (k : ℕ). IsNextGiven texts T.source g.now.value (command_label index k) command) (sym (count ∙ here.place))
      (runs_give texts theories session index T at (notes ++ seen_notes g.waiting.items) g.now.value command here.more here.run)

  -- The notes of the next command wait.
  going-next : (notes : List Note) (old new : Going) (command : Command) (inner : List Note) (next : Content) → IsGoing texts theories index notes old → old.waiting.items ≡ []
      → slice_get T.text.commands (length T.text.commands - old.left) ≡ Some command → Declares texts T.source (command_label index (length T.text.commands - old.left)) old.now.value command inner next
      → GoesOn old new command inner next → IsGoing texts theories index notes new
  going-next notes old new command inner next going none held d g = record {
    way = subst (λ (Q : Content). IsUnderWay texts theories index (notes ++ seen_notes new.waiting.items) Q new.left new.parts) (sym g.now)
        (subst (λ (ns : List Note). IsUnderWay texts theories index (notes ++ ns) next new.left new.parts) (sym g.waiting)
        (way-next notes inner old.now.value next old.left old.parts new.left new.parts command (way-whole notes old going none) held g.left g.parts d));
    rows = g.rows ∙ going.rows;
  }

  -- A turn by the next command.
  pub turn-next : (notes : List Note) (old mid new : Going) (command : Command) (inner : List Note) (next : Content) (n : ℕ) → IsGoing texts theories index notes old → old.waiting.items ≡ []
      → slice_get T.text.commands (length T.text.commands - old.left) ≡ Some command → n ≡ length T.text.commands - old.left → Declares texts T.source (command_label index n) old.now.value command inner next
      → GoesOn old mid command inner next → (turn : Turn) → HandsOut mid new turn → IsGoingTurn texts theories index notes old new turn
  turn-next notes old mid new command inner next n going none held count d g turn h =
      let here = subst (λ (k : ℕ). Declares texts T.source (command_label index k) old.now.value command inner next) count d in
      let few = (notes-some texts T.source (command_label index n) old.now.value command inner next d).1 in
      let many : length mid.waiting.items ≡ length inner = sym (length-map mid.waiting.items seen_note) ∙ ap length g.waiting in
      turn-by texts theories index notes old new h.note turn h.turn_is (going-out texts theories index notes mid new turn (going-next notes old mid command inner next going none held here g) h)
      (omega (arith, out-fewer mid new turn h, g.parts, few, many))

  -- The turn where no command is left.
  turn-last : (notes : List Note) (old new : Going) → IsGoing texts theories index notes old → old.waiting.items ≡ [] → slice_get T.text.commands (length T.text.commands - old.left) ≡ None
      → (turn : Turn) → turn ≡ turns.Closed (Ran old.rows.items old.now.value) → IsGoingTurn texts theories index notes old new turn
  turn-last notes old new going none past turn e =
      let way = way-whole notes old going none in
      let no_more : way.commands ≡ [] = none-is way.commands (held-at notes old.now.value old.left old.parts way None past) in
      let no_parts : old.parts ≡ 0 = way.parts_are ∙ ap part_count no_more in
      rw e (
        omega (arith, no_parts, ap length none),
        record {
          verdict = verdicts.Ran notes old.now.value;
          closes = run_closes texts theories index notes old.now.value (subst (λ (cs : List Command). IsRun texts theories index notes old.now.value cs) no_more way.run);
          value_is = ap (λ (rs : List (Option Row)). Ran rs old.now.value) going.rows;
          forks = refl;
        },
      )

-- A theory that was refused when it began closes.
closes-barred : (texts : List (List ℕ)) (theories : List Loaded) (index : ℕ) (notes : List Note) (row : Row) → notes ≡ [] → IsBarredBy texts theories index row → ClosesWith texts theories index notes (Barred row)
closes-barred texts theories index notes row none b = record {
  verdict = verdicts.Barred row;
  closes = barred b.is_at b.closed b.barred;
  value_is = refl;
  forks = sym (ap forks_of none);
}

module _ (texts : List (List ℕ)) (theories : List Loaded) (index : ℕ) (notes : List Note) (old new : Run) where
  pub turn-barred : (row : Row) (turn : Turn) → old.standing ≡ code.Barred row → turn ≡ turns.Closed (Barred row) → IsRunOf texts theories index notes old → IsTurn texts theories index notes old new turn
  turn-barred row turn stands e run =
      let b : IsStandingOf texts theories index notes (code.Barred row) = subst (λ (s : Standing). IsStandingOf texts theories index notes s) stands run.standing in
      rw e (ap left_of stands, closes-barred texts theories index notes row b.0 b.1)

-- Turns as calls answer them.
pub out-made : (texts : List (List ℕ)) (theories : List Loaded) (index : ℕ) (old new : Going) (r : Result Turn AllocError) → IfOk r (HandsOut old new)
    → IfOk r (λ turn. (notes : List Note) → IsGoing texts theories index notes old → IsGoingTurn texts theories index notes old new turn)
out-made texts theories index old new (Ok turn) h = λ notes going. turn-out texts theories index notes old new turn going h
out-made texts theories index old new (Err e) h = h

pub last-made : (texts : List (List ℕ)) (theories : List Loaded) (index : ℕ) (T : Loaded) → IsTheoryAt theories index T → (old new : Going) → old.waiting.items ≡ [] → slice_get T.text.commands (length T.text.commands - old.left) ≡ None
    → (r : Result Turn AllocError) → IfOk r (λ turn. turn ≡ turns.Closed (Ran old.rows.items old.now.value)) → IfOk r (λ turn. (notes : List Note) → IsGoing texts theories index notes old → IsGoingTurn texts theories index notes old new turn)
last-made texts theories index T at old new none past (Ok turn) e = λ notes going. turn-last texts theories index T at notes old new going none past turn e
last-made texts theories index T at old new none past (Err e) h = h

pub barred-made : (texts : List (List ℕ)) (theories : List Loaded) (old new : Run) (row : Row) → old.standing ≡ code.Barred row → (r : Result Turn AllocError) → IfOk r (λ turn. turn ≡ turns.Closed (Barred row))
    → IfOk r (λ turn. (index : ℕ) (notes : List Note) → IsRunOf texts theories index notes old → IsTurn texts theories index notes old new turn)
barred-made texts theories old new row stands (Ok turn) e = λ index notes run. turn-barred texts theories index notes old new row turn stands e run
barred-made texts theories old new row stands (Err e) h = h

-- Where memory is wanted the run is as it was.
pub barred-keeps : (old new : Run) (row : Row) → old.standing ≡ code.Barred row → new.index ≡ old.index → new.standing ≡ code.Barred row → (r : Result Turn AllocError) → OnErr r (IsSameRun old new)
barred-keeps old new row before index_is after (Ok turn) = tt
barred-keeps old new row before index_is after (Err e) = record { index = index_is; standing = rw (before, after) refl }

pub going-keeps : (old new : Run) (before after : Going) → old.standing ≡ code.Going before → new.index ≡ old.index → new.standing ≡ code.Going after → (r : Result Turn AllocError) → OnErr r (IsSameGoing before after)
    → OnErr r (IsSameRun old new)
going-keeps old new before after was index_is is (Ok turn) h = tt
going-keeps old new before after was index_is is (Err e) h = record { index = index_is; standing = rw (was, is) h }
