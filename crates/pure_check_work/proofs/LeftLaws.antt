-- What a core's theories left is what the statements of the session leave.
use Rattle.std.proofs.Common.{◌≡◌, ◌∙◌, ◌<◌, ℕ, zero, suc, ◌+◌, List, [], ◌∷◌, ◌++◌, length, map, filter, cond, refl, sym, ap, subst, arith, Bool, true, false, Option, Some, None, slice_get, inl, inr}
use Rattle.std.specs.List.{flat_map}
use Rattle.std.proofs.lemmas.Option.{none-some, same_Some}
use Rattle.std.proofs.lemmas.List.{map-append, length-map}
use Rattle.pure_text.specs.Lists.{IsIn, Each, EachTwo}
use Rattle.pure_graph.specs.Order.{Loaded}
use Rattle.pure_table.specs.Declare.Notes.{Fork, Note, Said, Forked}
use Rattle.pure_table.specs.Method.Outcome.{IsOutcomeOf}
use Rattle.pure_table.specs.Method.declared.outcome.Outcome.{Outcome}
use Rattle.pure_table.specs.SessionLaws.Loaded.{IsLoadedSession}
use Rattle.pure_table.specs.SessionMeaning.Verdicts.{Verdict, Barred, Ran, Closes}
use Rattle.pure_table.specs.SessionMeaning.Statements.{notes_of, forks_of, IsRun, IsFork}
use Rattle.pure_table.proofs.SessionMeaning.NoteLaws.{forks-append, closes-run}
use Rattle.pure_table.proofs.SessionMeaning.StatementLaws.{fork_once}
use Rattle.pure_table.specs.TheoryRun.Outline.{Outline, outline}
use Rattle.pure_table.specs.TheoryRun.Sessions.{HaveClosed, AreSaid}
use Rattle.pure_machine.specs.State.{Promise}
use Rattle.pure_core_end.specs.Joined.{IsJoined, AreJoinedFrom, AreJoined}
use Rattle.pure_check_work.specs.Relations.{shape_of, ForksAfter, ClosesAfter}
use Rattle.pure_check_work.specs.Cancelled.{lemmas_of}

-- where the lemma after so many others stands among notes
pub fork-at : (ns : List Note) (n : ℕ) (f : Fork) → slice_get (forks_of ns) n ≡ Some f → (front : List Note) × (back : List Note) × (ns ≡ front ++ Forked f ∷ back) × (length (forks_of front) ≡ n)
fork-at [] n f e = absurd (none-some f e)
fork-at (Said row ∷ ns) n f e = let w = fork-at ns n f e in (Said row ∷ w.0, w.1, ap (λ (x : List Note). Said row ∷ x) w.2, w.3)
fork-at (Forked g ∷ ns) zero f e = ([], ns, ap (λ (x : Fork). Forked x ∷ ns) (same_Some g f e), refl)
fork-at (Forked g ∷ ns) (suc n) f e = let w = fork-at ns n f e in (Forked g ∷ w.0, w.1, ap (λ (x : List Note). Forked g ∷ x) w.2, ap suc w.3)

module _ (texts : List (List ℕ)) (theories : List Loaded) where
  -- the lemmas of a theory that closed are its forks
  pub verdict-forks : (i : ℕ) (v : Verdict) → Closes texts theories i v → (n : ℕ) (f : Fork) → slice_get (forks_of (notes_of v)) n ≡ Some f → IsFork texts theories i n f
  verdict-forks i (Barred row) closes n f e = absurd (none-some f e)
  verdict-forks i (Ran notes last) closes n f e =
      let w = fork-at notes n f e in
      let run = closes-run closes notes last refl in
      record { notes = w.0; more = w.1; now = last; left = []; run = subst (λ (ns : List Note). IsRun texts theories i ns last []) w.2 run; count = w.3 }

  module _ (loaded : IsLoadedSession texts theories) where
    -- lists of forks of one theory that are as long are equal
    forks-same : (i k : ℕ) (fs gs : List Fork) → length fs ≡ length gs → ((n m : ℕ) (f : Fork) → m ≡ k + n → slice_get fs n ≡ Some f → IsFork texts theories i m f) → ((n m : ℕ) (f : Fork) → m ≡ k + n → slice_get gs n ≡ Some f → IsFork texts theories i m f) → fs ≡ gs
    forks-same i k [] [] long one two = refl
    forks-same i k [] (g ∷ gs) long one two = absurd (omega (arith, long))
    forks-same i k (f ∷ fs) [] long one two = absurd (omega (arith, long))
    forks-same i k (f ∷ fs) (g ∷ gs) long one two =
        let here : f ≡ g = fork_once texts theories loaded i k f g (one 0 k f (omega arith) refl) (two 0 k g (omega arith) refl) in
        let rest : fs ≡ gs = forks-same i (suc k) fs gs (omega (arith, long)) (λ n m x e at. one (suc n) m x (omega (arith, e)) at) (λ n m x e at. two (suc n) m x (omega (arith, e)) at) in
        λ j. here j ∷ rest j

    goal-at : (ps : List (Promise Fork Outcome)) (n : ℕ) (f : Fork) → slice_get (lemmas_of ps) n ≡ Some f → (p : Promise Fork Outcome) × (slice_get ps n ≡ Some p) × (p.goal ≡ f)
    goal-at [] n f e = absurd (none-some f e)
    goal-at (p ∷ ps) zero f e = (p, refl, same_Some p.goal f e)
    goal-at (p ∷ ps) (suc n) f e = goal-at ps n f e

    -- the lemmas that a theory left are those that it binds
    own-lemmas : (i : ℕ) (value : Outline) (own : List (Promise Fork Outcome)) → (j : IsJoined (ForksAfter texts theories) (ClosesAfter texts theories) (IsOutcomeOf texts) i value own) → lemmas_of own ≡ forks_of (notes_of (j.closed).0)
    own-lemmas i value own j = forks-same i 0 (lemmas_of own) (forks_of (notes_of (j.closed).0)) (length-map own (λ (p : Promise Fork Outcome). p.goal) ∙ sym (j.closed).3)
        (λ n m f e at. let there = goal-at own n f at in subst (λ k. IsFork texts theories i k f) (same n m e) (subst (IsFork texts theories i n) there.2 (j.forked n there.0 there.1).lemma))
        (λ n m f e at. subst (λ k. IsFork texts theories i k f) (same n m e) (verdict-forks i (j.closed).0 (j.closed).1 n f at))
      where
        same : (n m : ℕ) → m ≡ 0 + n → n ≡ m
        same n m e = omega (arith, e)

    -- what became of theories from one index on
    record HaveLeft (i : ℕ) (values : List Outline) (promises : List (Promise Fork Outcome)) : Type 0 where
      verdicts : List Verdict
      are : (place index : ℕ) (v : Verdict) → index ≡ i + place → slice_get verdicts place ≡ Some v → Closes texts theories index v
      values_are : values ≡ map outline verdicts
      lemmas_are : lemmas_of promises ≡ forks_of (flat_map notes_of verdicts)

    have-left : (i : ℕ) (values : List Outline) (promises : List (Promise Fork Outcome)) → AreJoinedFrom (ForksAfter texts theories) (ClosesAfter texts theories) (IsOutcomeOf texts) i values promises → HaveLeft i values promises
    have-left i [] promises h = record { verdicts = []; are = λ place index v e at. absurd (none-some v at); values_are = refl; lemmas_are = ap lemmas_of h }
    have-left i (value ∷ values) promises h =
        let rest = have-left (suc i) values h.1 h.4 in
        let v = (h.3.closed).0 in
        record {
          verdicts = v ∷ rest.verdicts;
          are = are-so i v rest.verdicts (h.3.closed).1 rest.are;
          values_are = (λ k. (h.3.closed).2 k ∷ rest.values_are k);
          lemmas_are =
              ap lemmas_of h.2 ∙ map-append (λ (p : Promise Fork Outcome). p.goal) h.0 h.1
              ∙ (λ k. own-lemmas i value h.0 h.3 k ++ rest.lemmas_are k) ∙ sym (forks-append (notes_of v) (flat_map notes_of rest.verdicts));
        }
      where
        are-so : (i : ℕ) (v : Verdict) (vs : List Verdict) → Closes texts theories i v → ((place index : ℕ) (w : Verdict) → index ≡ suc i + place → slice_get vs place ≡ Some w → Closes texts theories index w)
            → (place index : ℕ) (w : Verdict) → index ≡ i + place → slice_get (v ∷ vs) place ≡ Some w → Closes texts theories index w
        are-so i v vs first later zero index w e at = subst (λ k. Closes texts theories k w) (same i index e) (subst (Closes texts theories i) (same_Some v w at) first)
          where
            same : (i k : ℕ) → k ≡ i + 0 → i ≡ k
            same i k e = omega (arith, e)
        are-so i v vs first later (suc place) index w e at = later place index w (omega (arith, e)) at

    -- what all theories left
    pub said-joined : (values : List Outline) (promises : List (Promise Fork Outcome)) → AreJoined (shape_of theories) (ForksAfter texts theories) (ClosesAfter texts theories) (IsOutcomeOf texts) values promises → AreSaid texts theories values (lemmas_of promises)
    said-joined values promises h =
        let all = have-left 1 values promises h.left in
        record {
          closed = record { verdicts = all.verdicts; are = λ place v at. all.are place (suc place) v (omega arith) at; values_are = all.values_are; forks_are = all.lemmas_are };
          all = sym (length-map all.verdicts outline) ∙ ap length (sym all.values_are) ∙ h.all ∙ length-map theories (λ (l : Loaded). l.parents);
        }
