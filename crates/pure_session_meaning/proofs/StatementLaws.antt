-- The notes of a session, and the lemmas and haves that are bound among them.
use Rattle.std.proofs.Common.{◌≡◌, ◌<◌, ℕ, zero, suc, List, [], ◌∷◌, ◌++◌, length, append_assoc, length-append, refl, sym, ap, ◌∙◌, subst, inl, inr, arith}
use Rattle.std.proofs.lemmas.Option.{slice_get_within}
use Rattle.std.specs.Prelude.{Some, slice_get}
use Rattle.std.specs.List.{flat_map}
use Rattle.pure_text.specs.Lists.{IsIn}
use Rattle.pure_text.proofs.ListLaws.{in_split, in-append_left, in-append_right}
use Rattle.pure_logic.specs.Content.{Content}
use Rattle.pure_graph.specs.Order.{Loaded}
use Rattle.pure_session_laws.specs.Declare.Notes.{Note, Fork, Forked}
use Rattle.pure_session_laws.specs.Loaded.{IsLoadedSession}
use Rattle.pure_session_meaning.specs.Verdicts.{Verdict, Barred, Ran, Closes}
use Rattle.pure_session_meaning.specs.Statements.{notes_of, forks_of, AreStatements, IsFork}
use Rattle.pure_session_meaning.specs.Laws.{IsSomeFork, StatementsBindForks, StatementsOnce, ForkOnce}
use Rattle.pure_session_meaning.proofs.OnceLaws.{closes-once}
use Rattle.pure_session_meaning.proofs.FrontLaws.{run-closed, runs-compare}
use Rattle.pure_session_meaning.proofs.NoteLaws.{forks-append, closes-run, forked-in, fork-in, run-fork}
use Rattle.pure_session_meaning.proofs.ConflictLaws.{AreCuts, at_one, further, before, cuts}

fork-longer : (ns : List Note) (f : Fork) (ms : List Note) (n : ℕ) → length (forks_of (ns ++ Forked f ∷ ms)) ≡ n → length (forks_of ns) ≡ n → ⊥
fork-longer ns f ms n h k =
    let whole : length (forks_of (ns ++ Forked f ∷ ms)) ≡ length (forks_of ns ++ f ∷ forks_of ms) = ap length (forks-append ns (Forked f ∷ ms)) in
    absurd (omega (arith, whole, h, k, length-append (forks_of ns) (f ∷ forks_of ms)))

same-forked : (f g : Fork) → Forked f ≡ Forked g → f ≡ g
same-forked f g e = cc

-- In one list the lemma after so many others is one.
one-fork : (ns ms back more rest : List Note) (f g : Fork) (n : ℕ) → length (forks_of ns) ≡ n → length (forks_of ms) ≡ n → ms ++ Forked g ∷ more ≡ (ns ++ Forked f ∷ back) ++ rest → f ≡ g
one-fork ns ms back more rest f g n h k e = by (cuts ns (Forked f) (back ++ rest) ms (Forked g) more (sym (e ∙ append_assoc ns (Forked f ∷ back) rest)))
  where
    by : AreCuts ns (Forked f) ms (Forked g) → f ≡ g
    by (at_one a b) = same-forked f g b
    by (further between is) = absurd (fork-longer ns f between n (ap (λ (x : List Note). length (forks_of x)) (sym is) ∙ k) h)
    by (before between is) = absurd (fork-longer ms g between n (ap (λ (x : List Note). length (forks_of x)) (sym is) ∙ h) k)

pub fork_once : ForkOnce
fork_once texts theories session index others f g h k = elim (runs-compare texts theories session index (h.notes ++ Forked f ∷ h.more) (k.notes ++ Forked g ∷ k.more) h.now k.now h.left k.left h.run k.run) [
  | inl w ↦ one-fork h.notes k.notes h.more k.more w.0 f g others h.count k.count w.1
  | inr w ↦ sym (one-fork k.notes h.notes k.more h.more w.0 g f others k.count h.count w.1)
]

same-verdicts : (vs ws : List Verdict) → ((p : ℕ) (v w : Verdict) → slice_get vs p ≡ Some v → slice_get ws p ≡ Some w → v ≡ w) → length vs ≡ length ws → vs ≡ ws
same-verdicts [] [] f e = refl
same-verdicts [] (w ∷ ws) f e = absurd (omega (arith, e))
same-verdicts (v ∷ vs) [] f e = absurd (omega (arith, e))
same-verdicts (v ∷ vs) (w ∷ ws) f e =
    let first : v ≡ w = f zero v w refl refl in
    let rest : vs ≡ ws = same-verdicts vs ws (λ p a b h k. f (suc p) a b h k) (omega (arith, e)) in
    cc

pub statements_once : StatementsOnce
statements_once texts theories session notes others h k =
    let same = same-verdicts h.verdicts k.verdicts (λ p v w a b. closes-once texts theories session (h.are p v a) (k.are p w b)) (h.all ∙ sym k.all) in
    h.notes_are ∙ ap (λ (vs : List Verdict). flat_map notes_of vs) same ∙ sym k.notes_are

-- Whose lemma it is.
verdict-of : (vs : List Verdict) (f : Fork) → IsIn f (forks_of (flat_map notes_of vs)) → (p : ℕ) × (v : Verdict) × (slice_get vs p ≡ Some v) × IsIn f (forks_of (notes_of v))
verdict-of [] f m = absurd m
verdict-of (v ∷ vs) f m = elim (in_split f (forks_of (notes_of v)) (forks_of (flat_map notes_of vs)) (subst (λ (fs : List Fork). IsIn f fs) (forks-append (notes_of v) (flat_map notes_of vs)) m)) [
  | inl here ↦ (zero, v, refl, here)
  | inr later ↦ (let w = verdict-of vs f later in (suc w.0, w.1, w.2, w.3))
]

of-verdict : (vs : List Verdict) (f : Fork) (p : ℕ) (v : Verdict) → slice_get vs p ≡ Some v → IsIn f (forks_of (notes_of v)) → IsIn f (forks_of (flat_map notes_of vs))
of-verdict [] f zero v h m = absurd (cc)
of-verdict [] f (suc p) v h m = absurd (cc)
of-verdict (w ∷ vs) f zero v h m =
    let same : w ≡ v = cc in
    subst (λ (fs : List Fork). IsIn f fs) (sym (forks-append (notes_of w) (flat_map notes_of vs))) (in-append_left f (forks_of (notes_of w)) (forks_of (flat_map notes_of vs)) (subst (λ (x : Verdict). IsIn f (forks_of (notes_of x))) (sym same) m))
of-verdict (w ∷ vs) f (suc p) v h m =
    subst (λ (fs : List Fork). IsIn f fs) (sym (forks-append (notes_of w) (flat_map notes_of vs))) (in-append_right f (forks_of (notes_of w)) (forks_of (flat_map notes_of vs)) (of-verdict vs f p v h m))

module _ (texts : List (List ℕ)) (theories : List Loaded) (session : IsLoadedSession texts theories) where
  bound-there : (index : ℕ) (v : Verdict) (f : Fork) → Closes texts theories index v → IsIn f (forks_of (notes_of v)) → IsSomeFork texts theories f
  bound-there index (Barred row) f closes m = absurd m
  bound-there index (Ran notes last) f closes m =
      run-fork texts theories index notes last [] (closes-run closes notes last refl) f (forked-in notes f m)

  some-verdict : (vs : List Verdict) (p : ℕ) → p < length vs → (v : Verdict) × (slice_get vs p ≡ Some v)
  some-verdict [] p h = absurd (omega (arith, h))
  some-verdict (v ∷ vs) zero h = (v, refl)
  some-verdict (v ∷ vs) (suc p) h = some-verdict vs p (omega (arith, h))

  -- It is among the notes of the theory that binds it.
  bound-at : (notes : List Note) (s : AreStatements texts theories notes) (f : Fork) (place : ℕ) (v : Verdict) (all : List Note) (last : Content) (ns more rest : List Note) → slice_get s.verdicts place ≡ Some v → v ≡ Ran all last
      → all ≡ (ns ++ Forked f ∷ more) ++ rest → IsIn f (forks_of notes)
  bound-at notes s f place v all last ns more rest held is split =
      let there : IsIn f (forks_of all) = subst (λ (ms : List Note). IsIn f (forks_of ms)) (sym (split ∙ append_assoc ns (Forked f ∷ more) rest)) (fork-in f ns (more ++ rest)) in
      let here : IsIn f (forks_of (notes_of v)) = subst (λ (x : Verdict). IsIn f (forks_of (notes_of x))) (sym is) there in
      subst (λ (ms : List Note). IsIn f (forks_of ms)) (sym s.notes_are) (of-verdict s.verdicts f place v held here)

  bound-here : (notes : List Note) → AreStatements texts theories notes → (index others : ℕ) (f : Fork) → IsFork texts theories index others f → IsIn f (forks_of notes)
  bound-here notes s index others f is =
      let place = is.run.is_at.0 in
      let within : place < length theories = slice_get_within theories place is.run.theory is.run.is_at.2 in
      let v = some-verdict s.verdicts place (omega (arith, within, s.all)) in
      let closes : Closes texts theories index v.0 = subst (λ (i : ℕ). Closes texts theories i v.0) (sym is.run.is_at.1) (s.are place v.0 v.1) in
      let w = run-closed texts theories session index (is.notes ++ Forked f ∷ is.more) is.now is.left is.run closes in
      bound-at notes s f place v.0 w.0 w.1 is.notes is.more w.3 v.1 w.2 w.4

pub statements_bind_forks : StatementsBindForks
statements_bind_forks texts theories session notes s f = (
  λ m. let w = verdict-of s.verdicts f (subst (λ (ns : List Note). IsIn f (forks_of ns)) s.notes_are m) in bound-there texts theories session (suc w.0) w.1 f (s.are w.0 w.1 w.2) w.3,
  λ k. bound-here texts theories session notes s k.0 k.1 f k.2,
)
