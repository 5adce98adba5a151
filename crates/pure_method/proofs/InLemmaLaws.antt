-- Proofs in a lemma: each written name has an answer there too, and where nothing is local to the lemma they are as otherwise.
use Rattle.std.proofs.Common.{◌≡◌, ◌⊎◌, ℕ, List, [], ◌∷◌, inl, inr, refl, ap, sym, subst, ◌∙◌}
use Rattle.std.specs.Prelude.{Option, Some, None, Bool, true, false, Ok, slice_get, bytes_eq}
use Rattle.std.proofs.lemmas.Slice.Eq.{bytes_eq-Decides}
use Rattle.std.proofs.lemmas.Option.{same_Some, none-some}
use Rattle.pure_text.specs.Lists.{IsIn, AnyOf, EachTwo}
use Rattle.pure_text.proofs.ListLaws.{in_or_not, any_imply}
use Rattle.pure_definitions.specs.Names.{Label}
use Rattle.pure_definitions.specs.Terms.Term.{Term}
use Rattle.pure_definitions.specs.Declarations.Decl.{Decl, ClassDecl, ConDecl, ArityDecl, ConstDecl, AxiomDecl, PromiseDecl}
use Rattle.pure_grammar.specs.Theories.TheoryText.{Step, Rule, Erule, Drule, Assumption, Unfold, Prefer, Defer, Close, Done}
use Rattle.pure_logic.specs.Content.{Content}
use Rattle.pure_logic.specs.Derivable.{Theorem}
use Rattle.pure_typ.specs.NameTexts.{HasText, name_texts}
use Rattle.pure_lookup.specs.Meaning.{full_text}
use Rattle.pure_lookup.specs.LookUps.{Fact, PromisedFact, IsFoundFact, IsLocal, IsFoundLocal, local, elsewhere}
use Rattle.pure_resolve.specs.GoalSteps.State.{State}
use Rattle.pure_resolve.specs.GoalSteps.Follows.{Outcome}
use Rattle.pure_method.specs.Facts.{LookUp, IsFoundBy, IsUnknownBy, named_facts, MeansPromiseBy, IsNamedBy}
use Rattle.pure_method.specs.Proof.{ByFactsOf, GivesBy, ProofOutcome, Ending, EndsBy, IsProofBy}
use Rattle.pure_method.specs.Laws.{NamesHaveAnswersIn, NothingIsLocal}

-- ---- a promise is local to the lemma, or none is

texts_or_not : (s t : List ℕ) → (s ≡ t) ⊎ ¬ (s ≡ t)
texts_or_not s t = by (bytes_eq s t) refl
  where
    by : (b : Bool) → bytes_eq s t ≡ b → (s ≡ t) ⊎ ¬ (s ≡ t)
    by true e = inl ((bytes_eq-Decides s t).0 e)
    by false e = inr (λ same. let also = (bytes_eq-Decides s t).1 same in absurd (cc))

is_text_or_not : (o : Option (List ℕ)) (t : List ℕ) → (o ≡ Some t) ⊎ ¬ (o ≡ Some t)
is_text_or_not None t = inr (λ e. none-some t e)
is_text_or_not (Some s) t = elim (texts_or_not s t) [ inl same ↦ inl (ap Some same) | inr other ↦ inr (λ e. other (same_Some s t e)) ]

module _ (texts : List (List ℕ)) (full : List ℕ) where
  -- A promise among these declarations has the full name.
  record IsPromised (ds : List Decl) (n : ℕ) (l : Label) (A : Term) : Type 0 where
    text : HasText texts n full
    promised : IsIn (PromiseDecl n l A) ds

  abbrev IsSomePromised : List Decl → Type 0
  IsSomePromised ds = ((n : ℕ) × (l : Label) × (A : Term) × IsPromised ds n l A) ⊎ ((n : ℕ) (l : Label) (A : Term) → ¬ IsPromised ds n l A)

  behind : (d : Decl) (ds : List Decl) → ((n : ℕ) (l : Label) (A : Term) → HasText texts n full → ¬ (PromiseDecl n l A ≡ d)) → IsSomePromised ds → IsSomePromised (d ∷ ds)
  behind d ds other (inl (n, l, A, h)) = inl (n, l, A, record { text = h.text; promised = inr h.promised })
  behind d ds other (inr missing) = inr (λ n l A h. elim h.promised [ inl same ↦ other n l A h.text same | inr m ↦ missing n l A (record { text = h.text; promised = m }) ])

  promised_or_not : (ds : List Decl) → IsSomePromised ds
  promised_or_not [] = inr (λ n l A h. h.promised)
  promised_or_not (ClassDecl k ∷ ds) = behind (ClassDecl k) ds (λ n l A t e. absurd (cc)) (promised_or_not ds)
  promised_or_not (ConDecl k c ∷ ds) = behind (ConDecl k c) ds (λ n l A t e. absurd (cc)) (promised_or_not ds)
  promised_or_not (ArityDecl a ∷ ds) = behind (ArityDecl a) ds (λ n l A t e. absurd (cc)) (promised_or_not ds)
  promised_or_not (ConstDecl c T ∷ ds) = behind (ConstDecl c T) ds (λ n l A t e. absurd (cc)) (promised_or_not ds)
  promised_or_not (AxiomDecl x B ∷ ds) = behind (AxiomDecl x B) ds (λ n l A t e. absurd (cc)) (promised_or_not ds)
  promised_or_not (PromiseDecl x k B ∷ ds) = by (is_text_or_not (slice_get (name_texts texts) x) full) (promised_or_not ds)
    where
      names-same : (n : ℕ) (l : Label) (A : Term) → PromiseDecl n l A ≡ PromiseDecl x k B → n ≡ x
      names-same n l A e = cc

      by : HasText texts x full ⊎ ¬ HasText texts x full → IsSomePromised ds → IsSomePromised (PromiseDecl x k B ∷ ds)
      by (inl text) rest = inl (x, k, B, record { text = text; promised = inl refl })
      by (inr other) rest = behind (PromiseDecl x k B) ds (λ n l A t e. other (subst (λ (m : ℕ). HasText texts m full) (names-same n l A e) t)) rest

module _ (texts : List (List ℕ)) (Q : Content) (lemma : ℕ) (written : List ℕ) where
  abbrev IsSomeLocal : Type 0
  IsSomeLocal = ((n : ℕ) × (l : Label) × (A : Term) × IsLocal texts Q lemma written n l A) ⊎ ((n : ℕ) (l : Label) (A : Term) → ¬ IsLocal texts Q lemma written n l A)

  of_text : (text : List ℕ) → HasText texts lemma text → ¬ IsIn 46 written → IsSomePromised texts (full_text text written) Q.declarations → IsSomeLocal
  of_text text is clean (inl (n, l, A, h)) = inl (n, l, A, record { text = text; lemma_text = is; base = clean; full = h.text; promised = h.promised })
  of_text text is clean (inr missing) = inr (λ n l A h.
      let same : h.text ≡ text = same_Some h.text text (sym h.lemma_text ∙ is) in
      missing n l A (record { text = subst (λ (t : List ℕ). HasText texts n (full_text t written)) same h.full; promised = h.promised }))

  local_or_not : IsSomeLocal
  local_or_not = elim (in_or_not 46 written) [ inl dot ↦ inr (λ n l A h. h.base dot) | inr clean ↦ named clean (slice_get (name_texts texts) lemma) refl ]
    where
      named : ¬ IsIn 46 written → (o : Option (List ℕ)) → slice_get (name_texts texts) lemma ≡ o → IsSomeLocal
      named clean None e = inr (λ n l A h. none-some h.text (sym e ∙ h.lemma_text))
      named clean (Some text) e = of_text text e clean (promised_or_not texts (full_text text written) Q.declarations)

pub names_have_answers : NamesHaveAnswersIn
names_have_answers texts Q lemma found written = elim (local_or_not texts Q lemma written) [
  | inl (n, l, A, h) ↦ (Some (PromisedFact n l A), local h)
  | inr none ↦ ((found written).0, elsewhere none (found written).1)
]

-- ---- look-ups that answer alike make the same proofs

module _ (L M : LookUp) (alike : (written : List ℕ) (found : Option Fact) → L written found → M written found) where
  names-alike : (script : List Step) (l : Label) → IsNamedBy L script l → IsNamedBy M script l
  names-alike script l h =
      any_imply (λ step. AnyOf (MeansPromiseBy L l) (named_facts step)) (λ step. AnyOf (MeansPromiseBy M l) (named_facts step)) script
      (λ step. any_imply (MeansPromiseBy L l) (MeansPromiseBy M l) (named_facts step) (λ written p. (p.0, p.1, alike written (Some (PromisedFact p.0 l p.1)) p.2))) h

  all_found-alike : (written : List (List ℕ)) (ths : List Theorem) → EachTwo (IsFoundBy L) written ths → EachTwo (IsFoundBy M) written ths
  all_found-alike [] [] h = tt
  all_found-alike [] (th ∷ ths) h = absurd h
  all_found-alike (w ∷ ws) [] h = absurd h
  all_found-alike (w ∷ ws) (th ∷ ths) h = (record { fact = h.0.fact; found = alike w (Some h.0.fact) h.0.found; is = h.0.is }, all_found-alike ws ths h.1)

  by_facts-alike : (With : List Theorem → Outcome → Type 0) (written : List (List ℕ)) (outcome : Outcome) → ByFactsOf L With written outcome → ByFactsOf M With written outcome
  by_facts-alike With written outcome (ByFactsOf.unknown h) = ByFactsOf.unknown (any_imply (IsUnknownBy L) (IsUnknownBy M) written (λ w u. alike w None u) h)
  by_facts-alike With written outcome (ByFactsOf.known {facts = facts} found h) = ByFactsOf.known (all_found-alike written facts found) h

  module _ (Q : Content) where
    gives-alike : (step : Step) (s : State) (outcome : Outcome) → GivesBy L Q step s outcome → GivesBy M Q step s outcome
    gives-alike (Rule fact) s outcome h = by_facts-alike _ (fact ∷ []) outcome h
    gives-alike (Erule fact) s outcome h = by_facts-alike _ (fact ∷ []) outcome h
    gives-alike (Drule fact) s outcome h = by_facts-alike _ (fact ∷ []) outcome h
    gives-alike (Unfold written) s outcome h = by_facts-alike _ written outcome h
    gives-alike Assumption s outcome h = h
    gives-alike (Prefer n) s outcome h = h
    gives-alike Defer s outcome h = h
    gives-alike Close s outcome h = h
    gives-alike Done s outcome h = h

    ends-alike : (number : ℕ) (s : State) (steps : List Step) (end : Ending) → EndsBy L Q number s steps end → EndsBy M Q number s steps end
    ends-alike number s steps end (EndsBy.finished h) = EndsBy.finished h
    ends-alike number s steps end (EndsBy.unfinished h) = EndsBy.unfinished h
    ends-alike number s steps end (EndsBy.closed {next = next} {steps = left} h rest) = EndsBy.closed h (ends-alike number next left end rest)
    ends-alike number s steps end (EndsBy.refused {step = step} {f = f} h) = EndsBy.refused (gives-alike step s _ h)
    ends-alike number s steps end (EndsBy.goes_on {next = next} {step = step} {steps = left} h rest) = EndsBy.goes_on (gives-alike step s (Ok next) h) (ends-alike _ next left end rest)

    proof-alike : ((script : List Step) (l : Label) → IsNamedBy M script l → IsNamedBy L script l) → (statement : Term) (script : List Step) (outcome : ProofOutcome) → IsProofBy L Q statement script outcome → IsProofBy M Q statement script outcome
    proof-alike back statement script outcome (IsProofBy.not_begun h) = IsProofBy.not_begun h
    proof-alike back statement script outcome (IsProofBy.failed {s = s} b e) = IsProofBy.failed b (ends-alike 1 s script _ e)
    proof-alike back statement script outcome (IsProofBy.proved {s = s} b e named) = IsProofBy.proved b (ends-alike 1 s script _ e) (record {
      ascend = named.ascend;
      exactly = λ l. (λ m. names-alike script l ((named.exactly l).0 m), λ n. (named.exactly l).1 (back script l n));
    })

pub nothing_is_local : NothingIsLocal
nothing_is_local texts Q lemma none statement script outcome = (
  proof-alike (IsFoundLocal texts Q lemma) (IsFoundFact texts Q) outside Q (names-alike (IsFoundFact texts Q) (IsFoundLocal texts Q lemma) inside) statement script outcome,
  proof-alike (IsFoundFact texts Q) (IsFoundLocal texts Q lemma) inside Q (names-alike (IsFoundLocal texts Q lemma) (IsFoundFact texts Q) outside) statement script outcome,
)
  where
    inside : (written : List ℕ) (found : Option Fact) → IsFoundFact texts Q written found → IsFoundLocal texts Q lemma written found
    inside written found h = elsewhere (none written) h

    outside : (written : List ℕ) (found : Option Fact) → IsFoundLocal texts Q lemma written found → IsFoundFact texts Q written found
    outside written (Some (PromisedFact n l A)) (local h) = absurd (none written n l A h)
    outside written found (elsewhere other h) = h
