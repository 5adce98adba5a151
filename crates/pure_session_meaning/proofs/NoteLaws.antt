-- The notes of a theory that closed, and the lemmas and haves among them.
use Rattle.std.proofs.Common.{◌≡◌, ℕ, List, [], ◌∷◌, ◌++◌, append-nil, length, refl, sym, ap, subst, inl, inr}
use Rattle.pure_text.specs.Lists.{IsIn}
use Rattle.pure_text.proofs.ListLaws.{in-append_right}
use Rattle.pure_grammar.specs.Theories.TheoryText.{Command}
use Rattle.pure_logic.specs.Content.{Content}
use Rattle.pure_graph.specs.Order.{Loaded}
use Rattle.pure_session_laws.specs.Declare.Notes.{Note, Fork, Said, Forked}
use Rattle.pure_session_meaning.specs.Verdicts.{Verdict, Ran, Closes, barred, ran}
use Rattle.pure_session_meaning.specs.Statements.{forks_of, IsRun}
use Rattle.pure_session_meaning.specs.Laws.{IsSomeFork}

pub forks-append : (ns ms : List Note) → forks_of (ns ++ ms) ≡ forks_of ns ++ forks_of ms
forks-append [] ms = refl
forks-append (Said row ∷ ns) ms = forks-append ns ms
forks-append (Forked f ∷ ns) ms = ap (λ (fs : List Fork). f ∷ fs) (forks-append ns ms)

-- A theory that closed with a last content ran to its end.
pub closes-run : {texts : List (List ℕ)} {theories : List Loaded} {index : ℕ} {v : Verdict} → Closes texts theories index v → (notes : List Note) (last : Content) → v ≡ Ran notes last → IsRun texts theories index notes last []
closes-run (barred is_at closed is) notes last e = absurd (cc)
closes-run {texts = texts} {theories = theories} {index = index} (ran {theory = theory} {parents = parents} {first = first} {last = final} {notes = all} is_at closed begins declared) notes last e =
    moved all final notes last e (record {
      theory = theory;
      is_at = is_at;
      parents = parents;
      closed = closed;
      first = first;
      begins = begins;
      done = theory.text.commands;
      commands = sym (append-nil theory.text.commands);
      declared = declared;
    })
  where
    moved : (xs : List Note) (P : Content) (ys : List Note) (Q : Content) → Ran xs P ≡ Ran ys Q → IsRun texts theories index xs P [] → IsRun texts theories index ys Q []
    moved xs P ys Q same run =
        let first : xs ≡ ys = cc in
        let second : P ≡ Q = cc in
        subst (λ (x : List Note). IsRun texts theories index x Q []) first (subst (λ (x : Content). IsRun texts theories index xs x []) second run)

-- Where a fork stands among notes.
fork-place : (ns : List Note) (f : Fork) → IsIn (Forked f) ns → (front : List Note) × (back : List Note) × (ns ≡ front ++ Forked f ∷ back)
fork-place [] f m = absurd m
fork-place (n ∷ ns) f m = elim m [
  | inl same ↦ ([], ns, ap (λ (x : Note). x ∷ ns) (sym same))
  | inr later ↦ (let w = fork-place ns f later in (n ∷ w.0, w.1, ap (λ (x : List Note). n ∷ x) w.2))
]

pub forked-in : (ns : List Note) (f : Fork) → IsIn f (forks_of ns) → IsIn (Forked f) ns
forked-in [] f m = m
forked-in (Said row ∷ ns) f m = inr (forked-in ns f m)
forked-in (Forked g ∷ ns) f m = elim m [ inl same ↦ inl (ap Forked same) | inr later ↦ inr (forked-in ns f later) ]

pub fork-here : (f : Fork) (ns ms : List Note) → IsIn (Forked f) (ns ++ Forked f ∷ ms)
fork-here f ns ms = in-append_right (Forked f) ns (Forked f ∷ ms) (inl refl)

pub fork-in : (f : Fork) (ns ms : List Note) → IsIn f (forks_of (ns ++ Forked f ∷ ms))
fork-in f ns ms = subst (λ (fs : List Fork). IsIn f fs) (sym (forks-append ns (Forked f ∷ ms))) (in-append_right f (forks_of ns) (f ∷ forks_of ms) (inl refl))

-- A fork among the notes of a run is bound in the session.
pub run-fork : (texts : List (List ℕ)) (theories : List Loaded) (index : ℕ) (notes : List Note) (now : Content) (left : List Command) → IsRun texts theories index notes now left → (f : Fork) → IsIn (Forked f) notes → IsSomeFork texts theories f
run-fork texts theories index notes now left run f m =
    let w = fork-place notes f m in
    (index, length (forks_of w.0), record { notes = w.0; more = w.1; now = now; left = left; run = subst (λ (ns : List Note). IsRun texts theories index ns now left) w.2 run; count = refl })
