-- What the contents of a session keep, each of them has.
use Rattle.std.proofs.Common.{◌≡◌, ℕ, ◌+◌, ◌≤◌, suc, List, [], ◌∷◌, ◌++◌, length, append_assoc, append-nil, length-append, inl, refl, sym, ◌∙◌, subst, arith}
use Rattle.pure_text.specs.Lists.{Each, EachTwo}
use Rattle.pure_definitions.specs.Names.{Label}
use Rattle.pure_grammar.specs.Theories.TheoryText.{Command}
use Rattle.pure_logic.specs.Content.{Content}
use Rattle.pure_graph.specs.Order.{Loaded}
use Rattle.pure_session_laws.specs.Declare.Notes.{Note}
use Rattle.pure_session_laws.specs.Declare.Fold.{AreDeclared}
use Rattle.pure_session_laws.specs.Loaded.{IsLoadedSession}
use Rattle.pure_session_meaning.specs.Verdicts.{Verdict, Barred, Ran, IsTheoryAt, AreLast, Begins, beginning_over, Closes, barred, ran, AllClose, nothing, also}
use Rattle.pure_session_meaning.specs.Statements.{IsRun}
use Rattle.pure_session_meaning.specs.Steps.{command_label}
use Rattle.pure_session_meaning.specs.Kept.{IsKept}
use Rattle.pure_session_meaning.proofs.FoldLaws.{declared-append, declared-one}

module _ (texts : List (List ℕ)) (theories : List Loaded) (session : IsLoadedSession texts theories) (Has : Label → Content → Type 0) (kept : IsKept texts theories Has) where
  -- The last content of a theory that ran has the property, with the label of some place.
  abbrev pub HasLast : ℕ → Verdict → Type 0
  HasLast index (Barred row) = Unit {0}
  HasLast index (Ran notes last) = (place : ℕ) × Has (command_label index place) last

  last-later : (place index p : ℕ) (v : Verdict) (Q : Content) → index ≡ suc place → p ≤ place → HasLast p v → (notes : List Note) → v ≡ Ran notes Q → Has (command_label index 0) Q
  last-later place index p v Q is short h notes e =
      let w = subst (λ (w : Verdict). HasLast p w) e h in
      kept.later (command_label p w.0) (command_label index 0) Q (inl (omega (arith, is, short))) w.1

  lasts-have : (place index : ℕ) → index ≡ suc place → (parents : List ℕ) (verdicts : List Verdict) (contents : List Content) → Each (λ p. (1 ≤ p) × (p ≤ place)) parents → EachTwo HasLast parents verdicts → AreLast verdicts contents
      → Each (Has (command_label index 0)) contents
  lasts-have place index is parents verdicts [] early h last = tt
  lasts-have place index is [] [] (Q ∷ Qs) early h last = absurd last
  lasts-have place index is [] (v ∷ vs) (Q ∷ Qs) early h last = absurd h
  lasts-have place index is (p ∷ ps) [] (Q ∷ Qs) early h last = absurd h
  lasts-have place index is (p ∷ ps) (v ∷ vs) (Q ∷ Qs) early h last = (last-later place index p v Q is early.0.1 h.0 last.0.0 last.0.1, lasts-have place index is ps vs Qs early.1 h.1 last.1)

  over-have : (label : Label) (contents : List Content) → Each (Has label) contents → Each (Has label) (beginning_over contents)
  over-have label [] h = (kept.pure label, tt)
  over-have label (Q ∷ Qs) h = h

  module _ (index : ℕ) (theory : Loaded) (is_at : IsTheoryAt theories index theory) (parents : List Verdict) (closed : AllClose texts theories theory.parents parents) (first : Content) (begins : Begins texts index theory parents first) (h : EachTwo HasLast theory.parents parents) where
    first-has : Has (command_label index 0) first
    first-has =
        let contents = lasts-have is_at.0 index is_at.1 theory.parents parents begins.contents (session.parents is_at.0 theory is_at.2) h begins.last in
        kept.begins index theory is_at parents closed first begins (over-have (command_label index 0) begins.contents contents)

    -- Some commands of a run more.
    walk : (todo left done : List Command) (notes more : List Note) (now last : Content) → AreDeclared texts theory.source index 0 first done notes now → theory.text.commands ≡ done ++ (todo ++ left) → Has (command_label index (length done)) now
        → AreDeclared texts theory.source index (length done) now todo more last → Has (command_label index (length done + length todo)) last
    walk [] left done notes more now last before commands k d =
        let count : length done ≡ length done + 0 = omega arith in
        subst (λ (n : ℕ). Has (command_label index n) last) count (subst (λ (Q : Content). Has (command_label index (length done)) Q) (sym d.1) k)
    walk (c ∷ todo) left done notes more now last before commands k d =
        let run : IsRun texts theories index notes now (c ∷ (todo ++ left)) = record {
          theory = theory;
          is_at = is_at;
          parents = parents;
          closed = closed;
          first = first;
          begins = begins;
          done = done;
          commands = commands;
          declared = before;
        } in
        let longer : length (done ++ c ∷ []) ≡ length done + 1 = omega (arith, length-append done (c ∷ [])) in
        let next-has : Has (command_label index (length done + 1)) d.1 = kept.declares index notes now c (todo ++ left) run d.0 d.1 d.3 k in
        let one = declared-append texts theory.source index 0 done (c ∷ []) first now d.1 notes d.0 before (length done) (omega arith) (declared-one texts theory.source index (length done) c now d.1 d.0 d.3) in
        let rest : AreDeclared texts theory.source index (length (done ++ c ∷ [])) d.1 todo d.2 last = subst (λ (n : ℕ). AreDeclared texts theory.source index n d.1 todo d.2 last) (sym longer) d.4 in
        let here : Has (command_label index (length (done ++ c ∷ []))) d.1 = subst (λ (n : ℕ). Has (command_label index n) d.1) (sym longer) next-has in
        let count : length (done ++ c ∷ []) + length todo ≡ length done + length (c ∷ todo) = omega (arith, longer) in
        subst (λ (n : ℕ). Has (command_label index n) last) count
        (walk todo left (done ++ c ∷ []) (notes ++ d.0) d.2 d.1 last one (commands ∙ sym (append_assoc done (c ∷ []) (todo ++ left))) here rest)

    pub run-has-so : (todo left : List Command) (notes : List Note) (last : Content) → theory.text.commands ≡ todo ++ left → AreDeclared texts theory.source index 0 first todo notes last → Has (command_label index (length todo)) last
    run-has-so todo left notes last commands d =
        let count : 0 + length todo ≡ length todo = omega arith in
        subst (λ (n : ℕ). Has (command_label index n) last) count (walk todo left [] [] notes first last (refl, refl) commands first-has d)

  mutual
    pub closes-has : {index : ℕ} {v : Verdict} → Closes texts theories index v → HasLast index v
    closes-has (barred is_at all is) = tt
    closes-has (ran {index = index} {theory = theory} {parents = parents} {first = first} {last = last} {notes = notes} is_at all begins declared) =
        (length theory.text.commands, run-has-so index theory is_at parents all first begins (all-have all) theory.text.commands [] notes last (sym (append-nil theory.text.commands)) declared)

    pub all-have : {parents : List ℕ} {verdicts : List Verdict} → AllClose texts theories parents verdicts → EachTwo HasLast parents verdicts
    all-have nothing = tt
    all-have (also c cs) = (closes-has c, all-have cs)

  -- The content with which a theory begins has it,
  pub begun-has : (index : ℕ) (theory : Loaded) → IsTheoryAt theories index theory → (parents : List Verdict) → AllClose texts theories theory.parents parents → (first : Content) → Begins texts index theory parents first → Has (command_label index 0) first
  begun-has index theory is_at parents closed first begins = first-has index theory is_at parents closed first begins (all-have closed)

  -- and so has each content of a run.
  pub run-has : (index : ℕ) (notes : List Note) (now : Content) (left : List Command) (run : IsRun texts theories index notes now left) → Has (command_label index (length run.done)) now
  run-has index notes now left run = run-has-so index run.theory run.is_at run.parents run.closed run.first run.begins (all-have run.closed) run.done left notes now run.commands run.declared
