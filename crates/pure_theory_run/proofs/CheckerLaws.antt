-- The theories of a session, run one after the other.
use Rattle.std.proofs.Common.{◌≡◌, ◌∙◌, ℕ, zero, suc, ◌+◌, ◌<◌, ◌≤◌, get_or, ◌⊎◌, inl, inr, List, [], ◌∷◌, ◌++◌, length, map, take, ap, sym, refl, subst, arith, length-append, append_assoc}
use Rattle.std.specs.Prelude.{Option, Some, None, slice_get}
use Rattle.std.specs.Option.{option_map}
use Rattle.std.specs.List.{flat_map}
use Rattle.std.specs.declared.alloc.Global.{Global}
use Rattle.std.specs.declared.sync.Arc.{Arc}
use Rattle.std.proofs.lemmas.Grind.{flat_map-append, get_or_default_zero}
use Rattle.pure_text.proofs.ListLaws.{two-append}
use Rattle.pure_text.proofs.LoopLaws.{longer_by}
use Rattle.pure_session.specs.declared.order.Loaded as loaded
use Rattle.pure_session.specs.Waiting.{seen_loaded, all_loaded}
use Rattle.std.proofs.lemmas.List.{length-map, map-append, append-nil}
use Rattle.std.proofs.lemmas.Option.{same_Some, slice_get-map}
use Rattle.pure_text.specs.Lists.{EachTwo}
use Rattle.pure_graph.specs.Order.{Loaded}
use Rattle.pure_session_meaning.specs.Declare.Notes.{Fork, Note, Said, Forked}
use Rattle.pure_session_meaning.specs.Verdicts.{Verdict, Closes, nothing, also}
use Rattle.pure_session_meaning.specs.Statements.{notes_of, forks_of}
use Rattle.pure_theory_run.specs.Outline.{Outline, outline, outlines}
use Rattle.pure_theory_run.specs.Parents.{AreOutlinesOf, IsLeftBy}
use Rattle.pure_theory_run.specs.Runs.{IsRunOf, turns_left}
use Rattle.pure_theory_run.specs.Turns.{IsTurn}
use Rattle.pure_theory_run.specs.Sessions.{IsTaken, RanOut, HaveClosed, AreSaid}
use Rattle.pure_theory_run.specs.declared.run.Run.{Run}
use Rattle.pure_theory_run.specs.declared.run.Turn.{Turn}
use Rattle.pure_theory_run.specs.declared.run.Turn.TheVariants as turns
use Rattle.pure_session_meaning.proofs.NoteLaws.{forks-append}

-- Turns that are taken.
module _ (texts : List (List ℕ)) (theories : List Loaded) (index : ℕ) (notes : List Note) (old new : Run) (before after : List Fork) where
  pub taken-declared : (turn : Turn) → turn ≡ turns.Declared → after ≡ before → IsTurn texts theories index notes old new turn → IsTaken texts theories index notes old new before after None
  taken-declared turn e same h =
      let t : IsTurn texts theories index notes old new turns.Declared = subst (λ (x : Turn). IsTurn texts theories index notes old new x) e h in
      (Said t.0, record { run = t.1; fewer = t.2 }, same ∙ sym (append-nil before))

  pub taken-forked : (turn : Turn) (command : ℕ) (goal : Fork) → turn ≡ turns.Forked command goal → after ≡ before ++ goal ∷ [] → IsTurn texts theories index notes old new turn → IsTaken texts theories index notes old new before after None
  taken-forked turn command goal e more h =
      let t : IsTurn texts theories index notes old new (turns.Forked command goal) = subst (λ (x : Turn). IsTurn texts theories index notes old new x) e h in
      (Forked goal, record { run = t.0; fewer = t.1 }, more)

  pub taken-closed : (turn : Turn) (value : Outline) → turn ≡ turns.Closed value → after ≡ before → IsTurn texts theories index notes old new turn → IsTaken texts theories index notes old new before after (Some value)
  taken-closed turn value e same h =
      let t : IsTurn texts theories index notes old new (turns.Closed value) = subst (λ (x : Turn). IsTurn texts theories index notes old new x) e h in
      (t.1, same)

-- A run from its first turn on, with the lemmas so far behind those that were there.
pub record IsOnTheWay (texts : List (List ℕ)) (theories : List Loaded) (index : ℕ) (start now : List Fork) (run : Run) : Type 0 where
  pub notes : List Note
  pub is_run : IsRunOf texts theories index notes run
  pub forks : now ≡ start ++ forks_of notes

module _ (texts : List (List ℕ)) (theories : List Loaded) (index : ℕ) (start : List Fork) where
  pub way-on : (old new : Run) (before after : List Fork) (w : IsOnTheWay texts theories index start before old) (o : Option Outline) → o ≡ None → IsTaken texts theories index w.notes old new before after o → IsOnTheWay texts theories index start after new
  way-on old new before after w o e h =
      let t : IsTaken texts theories index w.notes old new before after None = subst (λ (x : Option Outline). IsTaken texts theories index w.notes old new before after x) e h in
      record {
        notes = w.notes ++ t.0 ∷ [];
        is_run = t.1.run;
        forks = t.2 ∙ ap (λ (fs : List Fork). fs ++ forks_of (t.0 ∷ [])) w.forks ∙ append_assoc start (forks_of w.notes) (forks_of (t.0 ∷ [])) ∙ ap (λ (fs : List Fork). start ++ fs) (sym (forks-append w.notes (t.0 ∷ [])));
      }

  pub way-fewer : (old new : Run) (before after : List Fork) (notes : List Note) (o : Option Outline) → o ≡ None → IsTaken texts theories index notes old new before after o → turns_left new < turns_left old
  way-fewer old new before after notes o e h =
      let t : IsTaken texts theories index notes old new before after None = subst (λ (x : Option Outline). IsTaken texts theories index notes old new before after x) e h in
      t.1.fewer

  pub way-closed : (old new : Run) (before after : List Fork) (w : IsOnTheWay texts theories index start before old) (o : Option Outline) (value : Outline) → o ≡ Some value → IsTaken texts theories index w.notes old new before after o
      → RanOut texts theories index start after value
  way-closed old new before after w o value e h =
      let t : IsTaken texts theories index w.notes old new before after (Some value) = subst (λ (x : Option Outline). IsTaken texts theories index w.notes old new before after x) e h in
      record {
        verdict = t.0.verdict;
        closes = t.0.closes;
        value_is = t.0.value_is;
        forks = t.1 ∙ w.forks ∙ ap (λ (fs : List Fork). start ++ fs) (sym t.0.forks);
      }

-- What an image of an element is, is the image of some element.
map-some : {A B : Type 0} (f : A → B) (o : Option A) (b : B) → option_map f o ≡ Some b → (a : A) × (o ≡ Some a) × (b ≡ f a)
map-some f None b e = absurd (cc)
map-some f (Some a) b e = (a, refl, sym (same_Some (f a) b e))

-- What the theories with these indexes left are outlines of what became of them.
left-outline : (texts : List (List ℕ)) (theories : List Loaded) (values : List Outline) (forks : List Fork) (index : ℕ) (value : Outline) → HaveClosed texts theories values forks → IsLeftBy values index value
    → (v : Verdict) × Closes texts theories index v × (value ≡ outline v)
left-outline texts theories values forks index value h l =
    let image : option_map outline (slice_get h.verdicts l.place) ≡ Some value =
    sym (slice_get-map outline h.verdicts l.place) ∙ ap (λ (os : List Outline). slice_get os l.place) (sym h.values_are) ∙ l.held in
    let some = map-some outline (slice_get h.verdicts l.place) value image in
    (some.0, subst (λ (i : ℕ). Closes texts theories i some.0) (sym l.index_is) (h.are l.place some.0 some.1), some.2)

pub left-outlines : (texts : List (List ℕ)) (theories : List Loaded) (values : List Outline) (forks : List Fork) (indexes : List ℕ) (os : List Outline) → HaveClosed texts theories values forks → EachTwo (IsLeftBy values) indexes os
    → AreOutlinesOf texts theories indexes os
left-outlines texts theories values forks [] [] h two = record { verdicts = []; closed = nothing; values_are = refl }
left-outlines texts theories values forks [] (o ∷ os) h two = absurd two
left-outlines texts theories values forks (i ∷ is) [] h two = absurd two
left-outlines texts theories values forks (i ∷ is) (o ∷ os) h two =
    let one = left-outline texts theories values forks i o h two.0 in
    let rest = left-outlines texts theories values forks is os h two.1 in
    record {
      verdicts = one.0 ∷ rest.verdicts;
      closed = also one.1 rest.closed;
      values_are = ap (λ (x : Outline). x ∷ os) one.2 ∙ ap (λ (xs : List Outline). outline one.0 ∷ xs) rest.values_are;
    }

get-snoc : {A : Type 0} (xs : List A) (x : A) (place : ℕ) (y : A) → slice_get (xs ++ x ∷ []) place ≡ Some y → (slice_get xs place ≡ Some y) ⊎ ((place ≡ length xs) × (x ≡ y))
get-snoc [] x zero y e = inr (refl, same_Some x y e)
get-snoc [] x (suc place) y e = absurd (cc)
get-snoc (z ∷ zs) x zero y e = inl e
get-snoc (z ∷ zs) x (suc place) y e = elim (get-snoc zs x place y e) [ inl h ↦ inl h | inr h ↦ inr (ap suc h.0, h.1) ]

-- No theory has closed yet, and one more has.
pub closed-more : (texts : List (List ℕ)) (theories : List Loaded) (values more : List Outline) (forks forks' : List Fork) (value : Outline) → HaveClosed texts theories values forks → RanOut texts theories (suc (length values)) forks forks' value
    → more ≡ values ++ value ∷ [] → HaveClosed texts theories more forks'
closed-more texts theories values more forks forks' value h r longer = record {
  verdicts = h.verdicts ++ r.verdict ∷ [];
  are = λ place w e. elim (get-snoc h.verdicts r.verdict place w e) [ inl old ↦ h.are place w old | inr here ↦ newest place w here.0 here.1 ];
  values_are = longer ∙ ap (λ (os : List Outline). os ++ value ∷ []) h.values_are ∙ ap (λ (o : Outline). map outline h.verdicts ++ o ∷ []) r.value_is ∙ sym (map-append outline h.verdicts (r.verdict ∷ []));
  forks_are = r.forks ∙ ap (λ (fs : List Fork). fs ++ forks_of (notes_of r.verdict)) h.forks_are ∙ sym (forks-append (flat_map notes_of h.verdicts) (notes_of r.verdict))
      ∙ ap forks_of (ap (λ (ns : List Note). flat_map notes_of h.verdicts ++ ns) (sym (append-nil (notes_of r.verdict))) ∙ sym (flat_map-append notes_of h.verdicts (r.verdict ∷ [])));
}
  where
    count : length values ≡ length h.verdicts
    count = ap length h.values_are ∙ length-map h.verdicts outline

    newest : (place : ℕ) (w : Verdict) → place ≡ length h.verdicts → r.verdict ≡ w → Closes texts theories (suc place) w
    newest place w here same =
        subst (λ (x : Verdict). Closes texts theories (suc place) x) same (subst (λ (n : ℕ). Closes texts theories (suc n) r.verdict) (count ∙ sym here) r.closes)

pub closed-all : (texts : List (List ℕ)) (theories : List Loaded) (values : List Outline) (forks : List Fork) → HaveClosed texts theories values forks → length values ≡ length theories → AreSaid texts theories values forks
closed-all texts theories values forks h all = record { closed = h; all = sym (ap length h.values_are ∙ length-map h.verdicts outline) ∙ all }

-- What one more theory left.
pub left-turn : (values : List Outline) (xs : List ℕ) (i : ℕ) (ps more : List (Arc Outline Global)) (p : Arc Outline Global) → i < length xs → IsLeftBy values (get_or xs i 0) p.value → more ≡ ps ++ p ∷ []
    → EachTwo (IsLeftBy values) (take i xs) (outlines ps) → EachTwo (IsLeftBy values) (take (i + 1) xs) (outlines more)
left-turn values xs i ps more p within left longer h =
    let read : get_or xs i 0 ≡ get_or xs i (get_or xs i 0) = sym (get_or_default_zero xs i (get_or xs i 0) within) in
    rw (longer_by xs i (get_or xs i 0) within read, longer, map-append (λ (q : Arc Outline Global). q.value) ps (p ∷ []))
    (two-append (IsLeftBy values) (take i xs) (get_or xs i 0 ∷ []) (outlines ps) (p.value ∷ []) h (left, tt))

pub closed-turn : (texts : List (List ℕ)) (theories : List Loaded) (ps more : List (Arc Outline Global)) (p : Arc Outline Global) (forks forks' : List Fork) (place : ℕ) → HaveClosed texts theories (outlines ps) forks → length ps ≡ place
    → RanOut texts theories (suc place) forks forks' p.value → more ≡ ps ++ p ∷ [] → HaveClosed texts theories (outlines more) forks'
closed-turn texts theories ps more p forks forks' place h count r longer =
    closed-more texts theories (outlines ps) (outlines more) forks forks' p.value h
    (subst (λ (n : ℕ). RanOut texts theories (suc n) forks forks' p.value) (sym (length-map ps (λ (q : Arc Outline Global). q.value) ∙ count)) r)
    (ap outlines longer ∙ map-append (λ (q : Arc Outline Global). q.value) ps (p ∷ []))

pub longer-count : {A : Type 0} (ps more : List A) (p : A) (place : ℕ) → length ps ≡ place → more ≡ ps ++ p ∷ [] → length more ≡ place + 1
longer-count ps more p place count longer = ap length longer ∙ length-append ps (p ∷ []) ∙ ap (λ (n : ℕ). n + 1) count

pub all-closed : (ps : List (Arc Outline Global)) (items : List loaded.Loaded) (theories : List Loaded) (place : ℕ) → all_loaded items ≡ theories → length ps ≡ place → place ≤ length items → length items ≤ place → length (outlines ps) ≡ length theories
all-closed ps items theories place same count up down =
    let here : place ≡ length items = omega (arith, up, down) in
    length-map ps (λ (q : Arc Outline Global). q.value) ∙ count ∙ here ∙ sym (length-map items seen_loaded) ∙ ap length same
