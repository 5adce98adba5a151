-- Lemmas of a session with one label are one, bound at one place.
use Rattle.std.proofs.Common.{◌≡◌, ◌∙◌, ℕ, zero, suc, List, [], ◌∷◌, ◌++◌, length, map, append_assoc, append-nil, refl, sym, ap, subst, inl, inr, Some, slice_get}
use Rattle.std.proofs.lemmas.Option.{none-some, same_Some}
use Rattle.pure_text.specs.Lists.{IsIn}
use Rattle.pure_text.proofs.ListLaws.{in-map}
use Rattle.pure_definitions.specs.Names.{Label}
use Rattle.pure_promise_fates.proofs.LabelSets.{first_below, rest_is_set, not_itself}
use Rattle.pure_graph.specs.Order.{Loaded}
use Rattle.pure_check_work.specs.Declare.Notes.{Fork, Note, Said, Forked}
use Rattle.pure_check_work.specs.SessionLaws.Loaded.{IsLoadedSession}
use Rattle.pure_check_work.specs.SessionMeaning.Statements.{forks_of, IsFork}
use Rattle.pure_check_work.proofs.SessionMeaning.FrontLaws.{runs-compare}
use Rattle.pure_check_work.proofs.SessionMeaning.LabelLaws.{AreOf, run-labels, fork-theory}

in-list : {A : Type 0} (xs : List A) (n : ℕ) (x : A) → slice_get xs n ≡ Some x → IsIn x xs
in-list [] n x e = absurd (none-some x e)
in-list (y ∷ ys) zero x e = inl (sym (same_Some y x e))
in-list (y ∷ ys) (suc n) x e = inr (in-list ys n x e)

-- Behind the first of a theory's lemmas, whose labels ascend, none has its label.
apart : (i : ℕ) (d : Fork) (ds : List Fork) → AreOf i (d ∷ ds) → (n : ℕ) (g : Fork) → slice_get ds n ≡ Some g → d.label ≡ g.label → ⊥
apart i d ds h n g e same = not_itself d.label (rw (← same) at (first_below d.label (map Fork.label ds) h.ascend g.label (in-map Fork.label g ds (in-list ds n g e))))

-- Of a theory's lemmas those with one label are one, at one place.
one-place : (i : ℕ) (fs : List Fork) → AreOf i fs → (n m : ℕ) (f g : Fork) → slice_get fs n ≡ Some f → slice_get fs m ≡ Some g → f.label ≡ g.label → (n ≡ m) × (f ≡ g)
one-place i [] h n m f g a b same = absurd (none-some f a)
one-place i (d ∷ ds) h zero zero f g a b same = (refl, sym (same_Some d f a) ∙ same_Some d g b)
one-place i (d ∷ ds) h zero (suc m) f g a b same = absurd (apart i d ds h m g b (ap Fork.label (same_Some d f a) ∙ same))
one-place i (d ∷ ds) h (suc n) zero f g a b same = absurd (apart i d ds h n f a (ap Fork.label (same_Some d g b) ∙ sym same))
one-place i (d ∷ ds) h (suc n) (suc m) f g a b same =
    let rest = one-place i ds (record { ascend = rest_is_set d.label (map Fork.label ds) h.ascend; of_theory = h.of_theory.1 }) n m f g a b same in
    (ap suc rest.0, rest.1)

-- The place of a lemma among those of notes is the number of those before it.
fork-place : (ns : List Note) (f : Fork) (ms : List Note) → slice_get (forks_of (ns ++ Forked f ∷ ms)) (length (forks_of ns)) ≡ Some f
fork-place [] f ms = refl
fork-place (Said row ∷ ns) f ms = fork-place ns f ms
fork-place (Forked g ∷ ns) f ms = fork-place ns f ms

-- Two lemmas are one, and so are the theories that bind them and how many they bind before.
pub record IsOne (i n j m : ℕ) (f g : Fork) : Type 0 where
  pub theory : i ≡ j
  pub others : n ≡ m
  pub lemma : f ≡ g

module _ (texts : List (List ℕ)) (theories : List Loaded) (loaded : IsLoadedSession texts theories) where
  -- where a lemma stands among notes that begin with those of its run
  placed : (i n : ℕ) (f : Fork) (is : IsFork texts theories i n f) (all rest : List Note) → all ≡ (is.notes ++ Forked f ∷ is.more) ++ rest → slice_get (forks_of all) n ≡ Some f
  placed i n f is all rest e =
      let here : all ≡ is.notes ++ Forked f ∷ (is.more ++ rest) = e ∙ append_assoc is.notes (Forked f ∷ is.more) rest in
      subst (λ k. slice_get (forks_of all) k ≡ Some f) is.count
      (subst (λ (ns : List Note). slice_get (forks_of ns) (length (forks_of is.notes)) ≡ Some f) (sym here) (fork-place is.notes f (is.more ++ rest)))

  own-place : (i n : ℕ) (f : Fork) (is : IsFork texts theories i n f) → slice_get (forks_of (is.notes ++ Forked f ∷ is.more)) n ≡ Some f
  own-place i n f is = placed i n f is (is.notes ++ Forked f ∷ is.more) [] (sym (append-nil (is.notes ++ Forked f ∷ is.more)))

  in-one : (i n m : ℕ) (f g : Fork) → IsFork texts theories i n f → IsFork texts theories i m g → f.label ≡ g.label → (n ≡ m) × (f ≡ g)
  in-one i n m f g h k same =
      let ns = h.notes ++ Forked f ∷ h.more in
      let ms = k.notes ++ Forked g ∷ k.more in
      elim (runs-compare texts theories loaded i ns ms h.now k.now h.left k.left h.run k.run) [
        | inl w ↦ one-place i (forks_of ms) (run-labels texts theories i ms k.now k.left k.run) n m f g (placed i n f h ms w.0 w.1) (own-place i m g k) same
        | inr w ↦ one-place i (forks_of ns) (run-labels texts theories i ns h.now h.left h.run) n m f g (own-place i n f h) (placed i m g k ns w.0 w.1) same
      ]

  -- where two lemmas have one label
  pub one_lemma : (i n j m : ℕ) (f g : Fork) → IsFork texts theories i n f → IsFork texts theories j m g → f.label ≡ g.label → IsOne i n j m f g
  one_lemma i n j m f g h k same =
      let theory : i ≡ j = sym (fork-theory texts theories i n f h) ∙ ap (λ (l : Label). l.theory) same ∙ fork-theory texts theories j m g k in
      let one = in-one i n m f g h (subst (λ x. IsFork texts theories x m g) (sym theory) k) same in
      record { theory = theory; others = one.0; lemma = one.1 }
