-- A proof stays one over the content without the axioms that its steps don't name.
use Rattle.std.proofs.Common.{◌≡◌, ℕ, ◌+◌, List, [], ◌∷◌, inl, inr, refl, sym, subst}
use Rattle.std.specs.Prelude.{Option, Some, Ok}
use Rattle.std.proofs.lemmas.Option.{same_Some}
use Rattle.pure_text.specs.Lists.{IsIn, AnyOf, EachTwo}
use Rattle.pure_text.proofs.ListLaws.{any_imply}
use Rattle.pure_definitions.specs.Names.{Label}
use Rattle.pure_definitions.specs.Types.Order.{Algebra}
use Rattle.pure_definitions.specs.Terms.Term.{Term}
use Rattle.pure_definitions.specs.Declarations.Decl.{AxiomDecl, PromiseDecl}
use Rattle.pure_grammar.specs.Theories.TheoryText.{Step, Rule, Erule, Drule, Assumption, Unfold, Prefer, Defer, Close, Done}
use Rattle.pure_logic.specs.Content.{Content, IsContent}
use Rattle.pure_logic.specs.Derivable.{Theorem}
use Rattle.pure_lookup.specs.Meaning.{facts, IsDeclaredIn, Meaning, Declared, Built, IsVisible, IsMeant}
use Rattle.pure_lookup.specs.LookUps.{Fact, BuiltFact, AxiomFact, PromisedFact, IsFoundFact, IsLocal, IsFoundLocal, local, elsewhere}
use Rattle.pure_lookup.specs.Laws.{IsInSession}
use Rattle.pure_lookup.proofs.MeaningLaws.{one_local}
use Rattle.pure_resolve.specs.GoalSteps.State.{State}
use Rattle.pure_resolve.specs.GoalSteps.Steps.{RuleStep, EliminationStep, DestructionStep, AssumptionStep}
use Rattle.pure_table.specs.Method.Facts.{IsFoundIn, named_facts, MeansPromiseIn, IsNamedIn}
use Rattle.pure_table.specs.Method.Unfolding.{UnfoldStep}
use Rattle.pure_table.specs.Method.Proof.{ByFactsOf, GivesIn, Closes, Proved, EndsBy, EndsIn, IsProofBy, IsProofIn}
use Rattle.pure_citations.specs.Without.{with_axioms}
use Rattle.pure_citations.specs.Named.{MeansAxiom, NamesAxiom}
use Rattle.pure_citations.specs.Laws.{ProofIsKept}
use Rattle.pure_citations.proofs.WithoutLaws.{in-kept, kept-in, algebra-kept, content-kept}

module _ (texts : List (List ℕ)) (Q : Content) (names : List ℕ) (lemma : ℕ) where
  abbrev R : Content
  R = with_axioms names Q

  -- What may be written over the smaller content may be over the larger one.
  declared-back : (n : ℕ) → IsDeclaredIn facts R.declarations n → IsDeclaredIn facts Q.declarations n
  declared-back n (inl (A, m)) = inl (A, kept-in names (AxiomDecl n A) Q.declarations m)
  declared-back n (inr (l, A, m)) = inr (l, A, kept-in names (PromiseDecl n l A) Q.declarations m)

  visible-back : (p : ℕ) (t b : List ℕ) (m : Meaning) → IsVisible texts R facts p t b m → IsVisible texts Q facts p t b m
  visible-back p t b (Declared n) (inl h) = inl (h.0, h.1, (record { declared = declared-back n h.2.0.declared; other = h.2.0.other }, h.2.1))
  visible-back p t b (Built i) (inl h) = inl h
  visible-back p t b (Declared n) (inr (v, i, place, text, h)) = inr (v, i, place, text, (record { declared = declared-back n h.0.declared; other = h.0.other }, h.1))
  visible-back p t b (Built j) (inr h) = inr h

  -- What is meant stays so where it is still declared.
  abbrev IsStill : Meaning → Type 0
  IsStill (Declared n) = IsDeclaredIn facts R.declarations n
  IsStill (Built place) = Unit {0}

  visible-still : (p : ℕ) (t b : List ℕ) (m : Meaning) → IsStill m → IsVisible texts Q facts p t b m → IsVisible texts R facts p t b m
  visible-still p t b (Declared n) still (inl h) = inl (h.0, h.1, (record { declared = still; other = h.2.0.other }, h.2.1))
  visible-still p t b (Built i) still (inl h) = inl h
  visible-still p t b (Declared n) still (inr (v, i, place, text, h)) = inr (v, i, place, text, (record { declared = still; other = h.0.other }, h.1))
  visible-still p t b (Built j) still (inr h) = inr h

  meant-still : (written : List ℕ) (m : Meaning) → IsStill m → IsMeant texts Q facts written m → IsMeant texts R facts written m
  meant-still written m still (inl (dot, h)) = inl (
    dot,
    record { place = h.place; theory = h.theory; base = h.base; full = h.full; clean = h.clean; visible = visible-still h.place h.theory h.base m still h.visible },
  )
  meant-still written m still (inr (dot, h)) = inr (
    dot,
    record {
      place = h.place;
      theory = h.theory;
      visible = visible-still h.place h.theory written m still h.visible;
      last = λ q t n v. h.last q t n (visible-back q t written n v);
    },
  )

  everywhere-still : (written : List ℕ) (fact : Fact) → ((n : ℕ) (A : Term) → fact ≡ AxiomFact n A → IsIn n names) → IsFoundFact texts Q written (Some fact) → IsFoundFact texts R written (Some fact)
  everywhere-still written (BuiltFact place) listed (m, meant, is) = (m, meant-still written m (subst IsStill (sym is) tt) meant, is)
  everywhere-still written (AxiomFact n A) listed (m, meant, is) =
      let stays : IsIn (AxiomDecl n A) R.declarations = in-kept names (AxiomDecl n A) Q.declarations (inr (listed n A refl)) is.1 in
      (m, meant-still written m (subst IsStill (sym is.0) (inl (A, stays))) meant, (is.0, stays))
  everywhere-still written (PromisedFact n l A) listed (m, meant, is) =
      let stays : IsIn (PromiseDecl n l A) R.declarations = in-kept names (PromiseDecl n l A) Q.declarations tt is.1 in
      (m, meant-still written m (subst IsStill (sym is.0) (inr (l, A, stays))) meant, (is.0, stays))

  -- The same promises are local to the lemma.
  local-still : (written : List ℕ) (n : ℕ) (l : Label) (A : Term) → IsLocal texts Q lemma written n l A → IsLocal texts R lemma written n l A
  local-still written n l A h = record { text = h.text; lemma_text = h.lemma_text; base = h.base; full = h.full; promised = in-kept names (PromiseDecl n l A) Q.declarations tt h.promised }

  local-back : (written : List ℕ) (n : ℕ) (l : Label) (A : Term) → IsLocal texts R lemma written n l A → IsLocal texts Q lemma written n l A
  local-back written n l A h = record { text = h.text; lemma_text = h.lemma_text; base = h.base; full = h.full; promised = kept-in names (PromiseDecl n l A) Q.declarations h.promised }

  -- A fact that is found still is, where it is no axiom or one that is listed.
  answer-still : (written : List ℕ) (answer : Option Fact) → IsFoundLocal texts Q lemma written answer → (fact : Fact) → answer ≡ Some fact → ((n : ℕ) (A : Term) → fact ≡ AxiomFact n A → IsIn n names) → IsFoundLocal texts R lemma written (Some fact)
  answer-still written (Some (PromisedFact n l A)) (local h) fact e listed = subst (λ (f : Fact). IsFoundLocal texts R lemma written (Some f)) (same_Some (PromisedFact n l A) fact e) (local (local-still written n l A h))
  answer-still written answer (elsewhere none h) fact e listed = elsewhere (λ n l A k. none n l A (local-back written n l A k)) (everywhere-still written fact listed (subst (IsFoundFact texts Q written) e h))

  -- Each axiom that the written name means is listed.
  abbrev IsListed : (written : List ℕ) → Type 0
  IsListed written = (n : ℕ) → MeansAxiom texts Q lemma n written → IsIn n names

  found-still : (written : List ℕ) (fact : Fact) → IsListed written → IsFoundLocal texts Q lemma written (Some fact) → IsFoundLocal texts R lemma written (Some fact)
  found-still written fact listed found = answer-still written (Some fact) found fact refl (λ n A same. listed n (A, subst (λ (f : Fact). IsFoundLocal texts Q lemma written (Some f)) same found))

  is_found-still : (written : List ℕ) (th : Theorem) → IsListed written → IsFoundIn texts Q lemma written th → IsFoundIn texts R lemma written th
  is_found-still written th listed h = record { fact = h.fact; found = found-still written h.fact listed h.found; is = h.is }

  -- Each axiom that one of the written names means is listed.
  abbrev AreListed : List (List ℕ) → Type 0
  AreListed written = (n : ℕ) → AnyOf (MeansAxiom texts Q lemma n) written → IsIn n names

  all_found-still : (written : List (List ℕ)) (ths : List Theorem) → AreListed written → EachTwo (IsFoundIn texts Q lemma) written ths → EachTwo (IsFoundIn texts R lemma) written ths
  all_found-still [] [] listed h = tt
  all_found-still [] (th ∷ ths) listed h = absurd h
  all_found-still (w ∷ ws) [] listed h = absurd h
  all_found-still (w ∷ ws) (th ∷ ths) listed h = (is_found-still w th (λ n m. listed n (inl m)) h.0, all_found-still ws ths (λ n m. listed n (inr m)) h.1)

  -- What a step gives it gives over the smaller content.
  gives-still : (step : Step) (s new : State) → AreListed (named_facts step) → GivesIn texts Q lemma step s (Ok new) → GivesIn texts R lemma step s (Ok new)
  gives-still (Rule fact) s new listed (ByFactsOf.known {facts = ths} found (th, e, f)) =
      ByFactsOf.known (all_found-still (fact ∷ []) ths listed found) (th, e, subst (λ (A : Algebra). RuleStep A s th (Ok new)) (sym (algebra-kept names Q.declarations)) f)
  gives-still (Erule fact) s new listed (ByFactsOf.known {facts = ths} found (th, e, f)) =
      ByFactsOf.known (all_found-still (fact ∷ []) ths listed found) (th, e, subst (λ (A : Algebra). EliminationStep A s th (Ok new)) (sym (algebra-kept names Q.declarations)) f)
  gives-still (Drule fact) s new listed (ByFactsOf.known {facts = ths} found (th, e, f)) =
      ByFactsOf.known (all_found-still (fact ∷ []) ths listed found) (th, e, subst (λ (A : Algebra). DestructionStep A s th (Ok new)) (sym (algebra-kept names Q.declarations)) f)
  gives-still (Unfold written) s new listed (ByFactsOf.known {facts = ths} found f) =
      ByFactsOf.known (all_found-still written ths listed found) (subst (λ (A : Algebra). UnfoldStep A s ths (Ok new)) (sym (algebra-kept names Q.declarations)) f)
  gives-still Assumption s new listed f = subst (λ (A : Algebra). AssumptionStep A s (Ok new)) (sym (algebra-kept names Q.declarations)) f
  gives-still (Prefer n) s new listed f = f
  gives-still Defer s new listed f = f
  gives-still Close s new listed f = absurd f
  gives-still Done s new listed f = absurd f

  -- Each axiom that the steps name is listed.
  abbrev AreStepsListed : List Step → Type 0
  AreStepsListed steps = (n : ℕ) → NamesAxiom texts Q lemma steps n → IsIn n names

  ends-still : (number : ℕ) (s : State) (steps : List Step) → AreStepsListed steps → EndsIn texts Q lemma number s steps Proved → EndsIn texts R lemma number s steps Proved
  ends-still number s steps listed (EndsBy.finished f) = EndsBy.finished f
  ends-still number s steps listed (EndsBy.closed {next = next} {steps = left} f rest) =
      EndsBy.closed (subst (λ (A : Algebra). Closes A s next) (sym (algebra-kept names Q.declarations)) f) (ends-still number next left (λ n m. listed n (inr m)) rest)
  ends-still number s steps listed (EndsBy.goes_on {next = next} {step = step} {steps = left} f rest) =
      EndsBy.goes_on (gives-still step s next (λ n m. listed n (inl m)) f) (ends-still (number + 1) next left (λ n m. listed n (inr m)) rest)

  module _ (session : IsInSession texts Q) (content : IsContent Q) where
    smaller-session : IsInSession texts R
    smaller-session = record { names = session.names; apart = record { ancestors = session.apart.ancestors; own = session.apart.own }; theories = session.theories }

    -- A name that is found means no other promise over the smaller content.
    promise-back : (l : Label) (written : List ℕ) (th : Theorem) → IsListed written → IsFoundIn texts Q lemma written th → MeansPromiseIn texts R lemma l written → MeansPromiseIn texts Q lemma l written
    promise-back l written th listed h (n, A, found) =
        let same : h.fact ≡ PromisedFact n l A = same_Some h.fact (PromisedFact n l A)
        (one_local texts R smaller-session (content-kept names Q content) lemma written (Some h.fact) (Some (PromisedFact n l A)) (found-still written h.fact listed h.found) found) in
        (n, A, subst (λ (f : Fact). IsFoundLocal texts Q lemma written (Some f)) same h.found)

    promises-back : (l : Label) (written : List (List ℕ)) (ths : List Theorem) → AreListed written → EachTwo (IsFoundIn texts Q lemma) written ths → AnyOf (MeansPromiseIn texts R lemma l) written → AnyOf (MeansPromiseIn texts Q lemma l) written
    promises-back l [] ths listed h m = absurd m
    promises-back l (w ∷ ws) [] listed h m = absurd h
    promises-back l (w ∷ ws) (th ∷ ths) listed h (inl m) = inl (promise-back l w th (λ n a. listed n (inl a)) h.0 m)
    promises-back l (w ∷ ws) (th ∷ ths) listed h (inr m) = inr (promises-back l ws ths (λ n a. listed n (inr a)) h.1 m)

    step-back : (l : Label) (step : Step) (s new : State) → AreListed (named_facts step) → GivesIn texts Q lemma step s (Ok new) → AnyOf (MeansPromiseIn texts R lemma l) (named_facts step) → AnyOf (MeansPromiseIn texts Q lemma l) (named_facts step)
    step-back l (Rule fact) s new listed (ByFactsOf.known {facts = ths} found f) m = promises-back l (fact ∷ []) ths listed found m
    step-back l (Erule fact) s new listed (ByFactsOf.known {facts = ths} found f) m = promises-back l (fact ∷ []) ths listed found m
    step-back l (Drule fact) s new listed (ByFactsOf.known {facts = ths} found f) m = promises-back l (fact ∷ []) ths listed found m
    step-back l (Unfold written) s new listed (ByFactsOf.known {facts = ths} found f) m = promises-back l written ths listed found m
    step-back l Assumption s new listed f m = absurd m
    step-back l (Prefer n) s new listed f m = absurd m
    step-back l Defer s new listed f m = absurd m
    step-back l Close s new listed f m = absurd m
    step-back l Done s new listed f m = absurd m

    named-back : (l : Label) (number : ℕ) (s : State) (steps : List Step) → AreStepsListed steps → EndsIn texts Q lemma number s steps Proved → IsNamedIn texts R lemma steps l → IsNamedIn texts Q lemma steps l
    named-back l number s steps listed (EndsBy.finished f) m = elim m [ inl n ↦ absurd n | inr n ↦ absurd n ]
    named-back l number s steps listed (EndsBy.closed {next = next} {steps = left} f rest) m = elim m [
      | inl n ↦ absurd n
      | inr n ↦ inr (named-back l number next left (λ k a. listed k (inr a)) rest n)
    ]
    named-back l number s steps listed (EndsBy.goes_on {next = next} {step = step} {steps = left} f rest) m = elim m [
      | inl n ↦ inl (step-back l step s next (λ k a. listed k (inl a)) f n)
      | inr n ↦ inr (named-back l (number + 1) next left (λ k a. listed k (inr a)) rest n)
    ]

  -- A name that means a promise still does.
  promise-still : (l : Label) (written : List ℕ) → MeansPromiseIn texts Q lemma l written → MeansPromiseIn texts R lemma l written
  promise-still l written (n, A, found) = (n, A, answer-still written (Some (PromisedFact n l A)) found (PromisedFact n l A) refl (λ m B same. no-axiom n l A m B same))
    where
      no-axiom : (n : ℕ) (l : Label) (A : Term) (m : ℕ) (B : Term) → PromisedFact n l A ≡ AxiomFact m B → IsIn m names
      no-axiom n l A m B same = let no : ⊥ = cc in absurd no

  named-still : (l : Label) (steps : List Step) → IsNamedIn texts Q lemma steps l → IsNamedIn texts R lemma steps l
  named-still l steps h =
      any_imply (λ step. AnyOf (MeansPromiseIn texts Q lemma l) (named_facts step)) (λ step. AnyOf (MeansPromiseIn texts R lemma l) (named_facts step)) steps
      (λ step. any_imply (MeansPromiseIn texts Q lemma l) (MeansPromiseIn texts R lemma l) (named_facts step) (promise-still l)) h

  pub proof-kept : IsInSession texts Q → IsContent Q → (C : Term) (script : List Step) (labels : List Label) → AreStepsListed script → IsProofIn texts Q lemma C script (Ok labels) → IsProofIn texts R lemma C script (Ok labels)
  proof-kept session content C script labels listed (IsProofBy.proved {s = s} begun ended named) =
      IsProofBy.proved begun (ends-still 1 s script listed ended) (record {
        ascend = named.ascend;
        exactly = λ l. (λ m. named-still l script ((named.exactly l).0 m), λ n. (named.exactly l).1 (named-back session content l 1 s script listed ended n));
      })

pub proof_is_kept : ProofIsKept
proof_is_kept texts Q session content names lemma statement script labels listed proof = proof-kept texts Q names lemma session content statement script labels listed proof
