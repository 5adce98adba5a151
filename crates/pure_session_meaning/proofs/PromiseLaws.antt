-- The promises of each content are those of lemmas and haves that were bound before.
use Rattle.std.proofs.Common.{◌≡◌, ℕ, ◌+◌, List, [], ◌∷◌, ◌++◌, length, sym, subst, inl, inr}
use Rattle.pure_text.specs.Lists.{IsIn, Each}
use Rattle.pure_text.proofs.ListLaws.{each_at, any_some, in-append_left, in-append_right}
use Rattle.pure_definitions.specs.Names.{Label}
use Rattle.pure_definitions.specs.Terms.Term.{Term}
use Rattle.pure_definitions.specs.Declarations.Decl.{PromiseDecl}
use Rattle.pure_grammar.specs.Theories.TheoryText.{Command}
use Rattle.pure_logic.specs.Content.{TheoryId, Content, IsBelow}
use Rattle.pure_logic.proofs.MergeLaws.{merge_has_declarations, parents_are_below}
use Rattle.pure_graph.specs.Order.{Loaded}
use Rattle.pure_session_laws.specs.Declare.Notes.{Note, Fork, Forked}
use Rattle.pure_session_laws.specs.Declare.Parts.{Part, DeclaresPart}
use Rattle.pure_session_laws.specs.Declare.Fold.{part_label, AreParts, Declares}
use Rattle.pure_session_laws.proofs.Declare.PartLaws.{parts_grow, parts_promise, part_forks_bound}
use Rattle.pure_session_laws.specs.Loaded.{IsLoadedSession}
use Rattle.pure_session_meaning.specs.Verdicts.{Verdict, Begins, beginning_over}
use Rattle.pure_session_meaning.specs.Statements.{IsRun}
use Rattle.pure_session_meaning.specs.Steps.{command_label}
use Rattle.pure_session_meaning.specs.Kept.{IsKept}
use Rattle.pure_session_meaning.specs.Laws.{IsSomeFork, IsPromiseOf, PromisesAreForks, PromisesBeforeForks}
use Rattle.pure_session_meaning.proofs.StepLaws.{run_goes_on}
use Rattle.pure_session_meaning.proofs.KeptLaws.{run-has}
use Rattle.pure_session_meaning.proofs.OrderlyLaws.{no_promise-in_pure, classes-above, HasOrder, part-orderly, run-ordered}
use Rattle.pure_session_meaning.proofs.NoteLaws.{run-fork}
use Rattle.pure_session_meaning.proofs.ForkLaws.{fork-left, left-bound}

-- Each promise of the content is that of a lemma or have.
abbrev pub HasForks : (texts : List (List ℕ)) → (theories : List Loaded) → Content → Type 0
HasForks texts theories Q = (x : ℕ) (l : Label) (A : Term) → IsIn (PromiseDecl x l A) Q.declarations → (f : Fork) × IsSomeFork texts theories f × IsPromiseOf l A Q f

higher : (l : Label) (A : Term) (P Q : Content) (f : Fork) → IsBelow P Q → IsPromiseOf l A P f → IsPromiseOf l A Q f
higher l A P Q f below h = record { label = h.label; prop = h.prop; below = λ d m. below d (h.below d m) }

module _ (texts : List (List ℕ)) (theories : List Loaded) (session : IsLoadedSession texts theories) where
  abbrev IsForked : Content → Type 0
  IsForked = HasForks texts theories

  abbrev AreBound : List Note → Type 0
  AreBound notes = (f : Fork) → IsIn (Forked f) notes → IsSomeFork texts theories f

  raised : (P Q : Content) → IsBelow P Q → IsForked P → (x : ℕ) (l : Label) (A : Term) → IsIn (PromiseDecl x l A) P.declarations → (f : Fork) × IsSomeFork texts theories f × IsPromiseOf l A Q f
  raised P Q below h x l A m = let w = h x l A m in (w.0, w.1, higher l A P Q w.0 below w.2)

  first-forks : (index : ℕ) (theory : Loaded) (parents : List Verdict) (first : Content) (b : Begins texts index theory parents first) → Each IsForked (beginning_over b.contents) → IsForked first
  first-forks index theory parents first b h x l A m =
      let over = beginning_over b.contents in
      let id : TheoryId = record { name = b.name; index = index } in
      let P = any_some (λ (P : Content). IsIn (PromiseDecl x l A) P.declarations) over ((merge_has_declarations over first.declarations b.begins.merge (PromiseDecl x l A)).0 m) in
      let below = each_at (λ (P : Content). IsBelow P first) over (parents_are_below id over first b.begins) P.0 P.1 in
      raised P.0 first below (each_at IsForked over h P.0 P.1) x l A P.2

  module _ (source : List ℕ) (label : Label) where
    -- what a part does
    module _ (place : ℕ) (Q : Content) (part : Part) (note : Note) (next : Content) (order : HasOrder texts (part_label label place) Q) (d : DeclaresPart texts source (part_label label place) Q part note next) where
      below : IsBelow Q next
      below = (parts_grow texts source (part_label label place) Q part note next order.orderly.in_session order.orderly.good.sound.content (classes-above Q order.orderly.good.sound) order.labels d).below

      new-fork : (l : Label) (A : Term) (f : Fork) → note ≡ Forked f → f.label ≡ l → f.prop ≡ A → IsPromiseOf l A next f
      new-fork l A f is at prop =
          let binds = subst (λ (n : Note). DeclaresPart texts source (part_label label place) Q part n next) is d in
          let bound = part_forks_bound texts source (part_label label place) Q part f next order.orderly.in_session order.orderly.good.sound binds in
          record { label = at; prop = prop; below = subst (λ (P : Content). IsBelow P next) (sym bound.content_is) below }

      part-forks : ((f : Fork) → note ≡ Forked f → IsSomeFork texts theories f) → IsForked Q → IsForked next
      part-forks some h x l A m = elim (parts_promise texts source (part_label label place) Q part note next d x l A m) [
        | inl old ↦ raised Q next below h x l A old
        | inr new ↦ (new.0, some new.0 new.1, new-fork l A new.0 new.1 new.3 new.4)
      ]

    -- Behind some parts each promise is that of a fork, where the forks among what they left are of the session.
    parts-forks : (parts : List Part) (place : ℕ) (Q : Content) (notes : List Note) (last : Content) → HasOrder texts (part_label label place) Q → AreBound notes → IsForked Q → AreParts texts source label place Q parts notes last → IsForked last
    parts-forks [] place Q notes last order some h d = subst IsForked (sym d.1) h
    parts-forks (part ∷ parts) place Q notes last order some h d =
        let here : AreBound (d.0 ∷ d.2) = λ f m. some f (subst (λ (ns : List Note). IsIn (Forked f) ns) (sym d.5) m) in
        let next = part-forks place Q part d.0 d.1 order d.3 (λ f is. here f (inl (sym is))) h in
        parts-forks parts (place + 1) d.1 d.2 last (part-orderly texts theories session source label place Q part d.0 d.1 order d.3) (λ f m. here f (inr m)) next d.4

  next-forks : (index : ℕ) (notes : List Note) (now : Content) (command : Command) (left : List Command) (run : IsRun texts theories index notes now (command ∷ left)) (more : List Note) (next : Content)
      → Declares texts run.theory.source (command_label index (length run.done)) now command more next → IsForked now → IsForked next
  next-forks index notes now command left run more next d h =
      let order = run-ordered texts theories session index notes now (command ∷ left) run in
      let goes = run_goes_on texts theories index run.theory run.is_at notes now command left run more next d in
      let some : AreBound more = λ f m. run-fork texts theories index (notes ++ more) next left goes f (in-append_right (Forked f) notes more m) in
      parts-forks run.theory.source (command_label index (length run.done)) d.parts 0 now more next order some h d.are

  forks-kept : IsKept texts theories (λ label Q. IsForked Q)
  forks-kept = record {
    pure = λ label x l A m. absurd (no_promise-in_pure x l A m);
    later = λ label other Q before h. h;
    begins = λ index theory is_at parents closed first b h. first-forks index theory parents first b h;
    declares = λ index notes now command left run more next d h. next-forks index notes now command left run more next d h;
  }

  pub run-forks : (index : ℕ) (notes : List Note) (now : Content) (left : List Command) → IsRun texts theories index notes now left → HasForks texts theories now
  run-forks index notes now left run = run-has texts theories session (λ label Q. IsForked Q) forks-kept index notes now left run

pub promises_are_forks : PromisesAreForks
promises_are_forks texts theories session index notes now left run x l A m = run-forks texts theories session index notes now left run x l A m

pub promises_before_forks : PromisesBeforeForks
promises_before_forks texts theories session f (index, others, is) =
    let left = fork-left texts theories index others f is in
    let order = run-ordered texts theories session index left.whole left.before (left.command ∷ left.left) left.run in
    let before = run-forks texts theories session index left.whole left.before (left.command ∷ left.left) left.run in
    let some = λ (g : Fork) (m : IsIn (Forked g) left.inner).
    run-fork texts theories index (is.notes ++ Forked f ∷ is.more) is.now is.left is.run g
    (in-append_left (Forked g) is.notes (Forked f ∷ is.more) (subst (λ (ns : List Note). IsIn (Forked g) ns) (sym left.notes_are) (in-append_right (Forked g) left.whole left.inner m))) in
    let there = parts-forks texts theories session left.run.theory.source (command_label index (length left.run.done)) left.amid.passed 0 left.before left.inner left.now order some before left.amid.are in
    subst (λ (Q : Content). HasForks texts theories Q) (sym (left-bound texts theories session index is.notes f left).content_is) there
