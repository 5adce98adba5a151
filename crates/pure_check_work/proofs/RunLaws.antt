-- The runs of a session as runs of the core's work.
use Rattle.std.proofs.Common.{◌≡◌, ◌≢◌, ◌∙◌, ◌<◌, ◌≤◌, ℕ, zero, suc, ◌+◌, List, [], ◌∷◌, ◌++◌, length, map, append_assoc, length-append, refl, sym, ap, subst, arith, Some, None, slice_get}
use Rattle.std.specs.Prelude.{Result, Ok, Err, OnErr}
use Rattle.std.proofs.lemmas.Option.{none-some}
use Rattle.pure_text.specs.Lists.{Each, EachTwo}
use Rattle.pure_text.proofs.ListLaws.{each_imply}
use Rattle.pure_graph.specs.Order.{Loaded}
use Rattle.pure_grammar.specs.Theories.TheoryText.{Command}
use Rattle.pure_logic.specs.Content.{Content}
use Rattle.pure_table.specs.Declare.Notes.{Fork, Note, Said, Forked}
use Rattle.pure_table.specs.Declare.Seen.{seen_notes}
use Rattle.pure_table.specs.SessionMeaning.Verdicts.{Verdict, IsTheoryAt, Closes, AllClose, nothing, also}
use Rattle.pure_table.specs.SessionMeaning.Statements.{notes_of, forks_of, IsRun}
use Rattle.pure_table.specs.SessionLaws.Loaded.{IsLoadedSession}
use Rattle.pure_table.proofs.SessionMeaning.NoteLaws.{forks-append}
use Rattle.pure_table.specs.TheoryRun.Outline.{Outline, outline}
use Rattle.pure_table.specs.TheoryRun.Parents.{AreOutlinesOf, HasParents}
use Rattle.pure_table.specs.TheoryRun.Runs.{IsBarredBy, IsStandingOf, IsRunOf, IsSameStanding, IsSameRun, left_of, turns_left}
use Rattle.pure_table.specs.TheoryRun.Turns as turns
use Rattle.pure_table.specs.TheoryRun.Checked.{Checked}
use Rattle.pure_table.specs.TheoryRun.declared.run.Run.{Run}
use Rattle.pure_table.specs.TheoryRun.declared.run.Standing.{Standing}
use Rattle.pure_table.specs.TheoryRun.declared.run.Standing.TheVariants as standing
use Rattle.pure_table.specs.TheoryRun.declared.run.Turn.{Turn}
use Rattle.pure_table.specs.TheoryRun.declared.run.Turn.TheVariants as turn
use Rattle.pure_machine.specs.State.{parents_at}
use Rattle.pure_machine.specs.Step.{IsShape}
use Rattle.pure_machine.proofs.PromiseLaws.{slice_get-mapped}
use Rattle.pure_core.specs.declared.work.Turn as core
use Rattle.pure_core.specs.Turns.{IsTurn, IsRunKept}
use Rattle.pure_check_work.specs.Relations.{shape_of, ForksAfter, ClosesAfter, RunsAfter}
use Rattle.pure_check_work.specs.Turns.{core_turn}

-- the theory whose parents the shape has
theory-of : (theories : List Loaded) (i : ℕ) (numbers : List ℕ) → parents_at (shape_of theories) i ≡ Some numbers → (T : Loaded) × IsTheoryAt theories i T × (T.parents ≡ numbers)
theory-of theories zero numbers e = absurd (none-some numbers e)
theory-of theories (suc k) numbers e = let there = slice_get-mapped (λ (l : Loaded). l.parents) theories k numbers e in (there.0, (k, refl, there.1), there.2)

-- parents come first
pub shape-formed : (texts : List (List ℕ)) (theories : List Loaded) → IsLoadedSession texts theories → IsShape (shape_of theories)
shape-formed texts theories loaded i numbers e =
    let there = theory-of theories i numbers e in
    subst (Each (λ p. (0 < p) × (p < i))) there.2
    (each_imply (λ p. (1 ≤ p) × (p ≤ there.1.0)) (λ p. (0 < p) × (p < i)) (there.0).parents (λ p b. (omega (arith, b.0), omega (arith, b.1, there.1.1))) (loaded.parents there.1.0 there.0 there.1.2))

-- what became of theories of which these are what is left
record AreBehind {A : Type 0} (texts : List (List ℕ)) (theories : List Loaded) (f : A → Outline) (numbers : List ℕ) (values : List A) : Type 0 where
  verdicts : List Verdict
  closed : AllClose texts theories numbers verdicts
  outlines_are : map f values ≡ map outline verdicts

behind : {A : Type 0} (texts : List (List ℕ)) (theories : List Loaded) (f : A → Outline) (numbers : List ℕ) (values : List A) → EachTwo (λ i c. (n : ℕ) × ClosesAfter texts theories i n (f c)) numbers values → AreBehind texts theories f numbers values
behind texts theories f [] [] h = record { verdicts = []; closed = nothing; outlines_are = refl }
behind texts theories f [] (c ∷ cs) h = absurd h
behind texts theories f (i ∷ is) [] h = absurd h
behind texts theories f (i ∷ is) (c ∷ cs) h =
    let rest = behind texts theories f is cs h.1 in
    let here : ClosesAfter texts theories i h.0.0 (f c) = h.0.1 in
    record {
      verdicts = here.0 ∷ rest.verdicts;
      closed = also here.1 rest.closed;
      outlines_are = (λ k. here.2 k ∷ rest.outlines_are k);
    }

-- a theory's parents have closed
pub has-parents : {A : Type 0} (texts : List (List ℕ)) (theories : List Loaded) (f : A → Outline) (i : ℕ) (values : List A) → ((numbers : List ℕ) × (parents_at (shape_of theories) i ≡ Some numbers) × EachTwo (λ j c. (n : ℕ) × ClosesAfter texts theories j n (f c)) numbers values)
    → HasParents texts theories i (map f values)
has-parents texts theories f i values h =
    let there = theory-of theories i h.0 h.1 in
    let all = behind texts theories f h.0 values h.2 in
    record {
      theory = there.0;
      is_at = there.1;
      outlines = record { verdicts = all.verdicts; closed = subst (λ ns. AllClose texts theories ns all.verdicts) (sym there.2) all.closed; values_are = all.outlines_are };
    }

-- a theory that has a note runs
not-empty : {A : Type 0} (xs : List A) (x : A) → (xs ++ x ∷ []) ≡ [] → ⊥
not-empty xs x e = absurd (omega (arith, ap length e, length-append xs (x ∷ [])))

runs-under : (texts : List (List ℕ)) (theories : List Loaded) (i : ℕ) (notes : List Note) (note : Note) (s : Standing) → IsStandingOf texts theories i (notes ++ note ∷ []) s
    → (more : List Note) × (now : Content) × (left : List Command) × IsRun texts theories i (notes ++ note ∷ more) now left
runs-under texts theories i notes note (standing.Barred row) h = absurd (not-empty notes note h.0)
runs-under texts theories i notes note (standing.Going going) h =
    let more = seen_notes going.waiting.items in
    (more, going.now.value, h.way.commands, subst (λ (ns : List Note). IsRun texts theories i ns going.now.value h.way.commands) (append_assoc notes (note ∷ []) more) h.way.run)

one-more : (notes : List Note) (f : Fork) (n : ℕ) → length (forks_of notes) ≡ n → length (forks_of (notes ++ Forked f ∷ [])) ≡ n + 1
one-more notes f n count = ap length (forks-append notes (Forked f ∷ [])) ∙ length-append (forks_of notes) (f ∷ []) ∙ ap (λ m. m + 1) count

no-more : (notes : List Note) (row : _) (n : ℕ) → length (forks_of notes) ≡ n → length (forks_of (notes ++ Said row ∷ [])) ≡ n
no-more notes row n count = ap length (forks-append notes (Said row ∷ [])) ∙ length-append (forks_of notes) [] ∙ same (length (forks_of notes)) ∙ count
  where
    same : (m : ℕ) → m + 0 ≡ m
    same m = omega arith

-- a turn of the session is one of the work
pub turn-of : (texts : List (List ℕ)) (theories : List Loaded) (i n : ℕ) (notes : List Note) (old new : Run) (t : Turn) → length (forks_of notes) ≡ n → turns.IsTurn texts theories i notes old new t
    → IsTurn (ForksAfter texts theories) (ClosesAfter texts theories) (RunsAfter texts theories) turns_left i n old new (core_turn t)
turn-of texts theories i n notes old new turn.Declared count h = ((notes ++ Said h.0 ∷ [], h.1, no-more notes h.0 n count), h.2)
turn-of texts theories i n notes old new (turn.Forked command goal) count h =
    let run = runs-under texts theories i notes (Forked goal) new.standing h.0.standing in
    (record { lemma = record { notes = notes; more = run.0; now = run.1; left = run.2; run = run.3; count = count }; command_is = h.2 }, (notes ++ Forked goal ∷ [], h.0, one-more notes goal n count), h.1)
turn-of texts theories i n notes old new (turn.Closed value) count h = (h.1.verdict, h.1.closes, h.1.value_is, ap length h.1.forks ∙ count)

-- at the beginning
pub runs-first : (texts : List (List ℕ)) (theories : List Loaded) (i : ℕ) (run : Run) → IsRunOf texts theories i [] run → RunsAfter texts theories i 0 run
runs-first texts theories i run h = ([], h, refl)

-- what is run
pub some-run : (texts : List (List ℕ)) (theories : List Loaded) (run : Run) → ((i : ℕ) × (n : ℕ) × RunsAfter texts theories i n run) → (i : ℕ) × (notes : List Note) × IsRunOf texts theories i notes run
some-run texts theories run h = (h.0, h.2.0, h.2.1)

-- what the call answers, of the checker that the session holds
pub command-of : (session held : Checked) → held ≡ session → (i n : ℕ) (old new : Run) (t : Turn) (u : core.Turn Fork Outline) → u ≡ core_turn t → ((index : ℕ) (past : List Note) → IsRunOf held.texts held.theories index past old → turns.IsTurn held.texts held.theories index past old new t)
    → RunsAfter session.texts session.theories i n old → IsTurn (ForksAfter session.texts session.theories) (ClosesAfter session.texts session.theories) (RunsAfter session.texts session.theories) turns_left i n old new u
command-of session held same i n old new t u is answered h =
    subst (IsTurn (ForksAfter session.texts session.theories) (ClosesAfter session.texts session.theories) (RunsAfter session.texts session.theories) turns_left i n old new) (sym is)
    (turn-of session.texts session.theories i n h.0 old new t h.2 (subst (λ (c : Checked). turns.IsTurn c.texts c.theories i h.0 old new t) same (answered i h.0 (subst (λ (c : Checked). IsRunOf c.texts c.theories i h.0 old) (sym same) h.1))))

-- a run that stands where it stood
same-standing : (texts : List (List ℕ)) (theories : List Loaded) (i : ℕ) (notes : List Note) (old new : Standing) → IsSameStanding old new → IsStandingOf texts theories i notes old → IsStandingOf texts theories i notes new
same-standing texts theories i notes (standing.Barred old) (standing.Barred new) same h = (h.0, subst (IsBarredBy texts theories i) (sym same) h.1)
same-standing texts theories i notes (standing.Barred old) (standing.Going new) same h = absurd same
same-standing texts theories i notes (standing.Going old) (standing.Barred new) same h = absurd same
same-standing texts theories i notes (standing.Going old) (standing.Going new) same h = record {
  way = record {
    commands = h.way.commands;
    run = subst (λ (items : List _). IsRun texts theories i (notes ++ seen_notes items) new.now.value h.way.commands) (sym same.waiting)
        (subst (λ (now : Content). IsRun texts theories i (notes ++ seen_notes old.waiting.items) now h.way.commands) (sym same.content) h.way.run);
    count = same.left ∙ h.way.count;
    parts_are = same.parts ∙ h.way.parts_are;
  };
  rows = same.rows ∙ h.rows;
}

same-left : (old new : Standing) → IsSameStanding old new → left_of new ≡ left_of old
same-left (standing.Barred old) (standing.Barred new) same = refl
same-left (standing.Barred old) (standing.Going new) same = absurd same
same-left (standing.Going old) (standing.Barred new) same = absurd same
same-left (standing.Going old) (standing.Going new) same = λ j. same.parts j + length (same.waiting j)

same-run : (texts : List (List ℕ)) (theories : List Loaded) (i : ℕ) (notes : List Note) (old new : Run) → IsSameRun old new → IsRunOf texts theories i notes old → IsRunOf texts theories i notes new
same-run texts theories i notes old new same h = record { index_is = same.index ∙ h.index_is; standing = same-standing texts theories i notes old.standing new.standing same.standing h.standing }

-- what the call keeps
pub keeps-run : {A E : Type 0} (texts : List (List ℕ)) (theories : List Loaded) (old new : Run) → IsSameRun old new → (r : Result A E) → OnErr r (IsRunKept (RunsAfter texts theories) turns_left old new)
keeps-run texts theories old new same (Ok x) = tt
keeps-run texts theories old new same (Err e) = (λ i n h. (h.0, same-run texts theories i h.0 old new same h.1, h.2), same-left old.standing new.standing same.standing)
