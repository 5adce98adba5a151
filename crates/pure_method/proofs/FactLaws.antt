-- Facts by name: each name means one theorem at most, which is derivable and rests on a promise only where it is one.
use Rattle.std.proofs.Common.{◌≡◌, ℕ, zero, suc, List, [], ◌∷◌, length, inl, inr, refl, ap, sym, subst, ◌∙◌}
use Rattle.std.specs.Prelude.{Option, Some, None, slice_get}
use Rattle.std.proofs.lemmas.Option.{same_Some, none-some}
use Rattle.pure_text.specs.Lists.{IsIn, Each, AnyOf, EachTwo}
use Rattle.pure_definitions.specs.Names.{Label}
use Rattle.pure_definitions.specs.Terms.Term.{Term}
use Rattle.pure_definitions.specs.Declarations.Decl.{AxiomDecl, PromiseDecl}
use Rattle.pure_logic.specs.Content.{Content, IsContent, IsBelow}
use Rattle.pure_logic.specs.PureContent.{pure_content}
use Rattle.pure_logic.specs.Derivable.{Theorem, IsDerivable, IsDerivableAlone}
use Rattle.pure_logic.specs.BuiltFacts.{built_facts}
use Rattle.pure_logic.proofs.DerivableLaws.{axiom_is_derivable, promise_is_derivable}
use Rattle.pure_logic.proofs.BuiltFactLaws.{built_facts_are_derivable_above}
use Rattle.pure_lookup.specs.Meaning.{facts, Built, built_texts, IsVisible, IsMeant}
use Rattle.pure_lookup.specs.LookUps.{Fact, BuiltFact, AxiomFact, PromisedFact, IsFoundFact, IsFoundLocal, local, elsewhere}
use Rattle.pure_lookup.specs.Laws.{IsInSession}
use Rattle.pure_lookup.proofs.MeaningLaws.{one_fact, one_local}
use Rattle.pure_method.specs.Facts.{theorem, IsFact, LookUp, IsFoundBy, IsUnknownBy, MeansPromiseBy}

fact-once : (fact : Fact) (th other : Theorem) → IsFact fact th → IsFact fact other → th ≡ other
fact-once (BuiltFact place) th other h k =
    let same : h.0 ≡ k.0 = same_Some h.0 k.0 (sym h.1 ∙ k.1) in
    h.2 ∙ ap (λ A. theorem A []) same ∙ sym k.2
fact-once (AxiomFact name A) th other h k = h ∙ sym k
fact-once (PromisedFact name label A) th other h k = h ∙ sym k

-- ---- what look-ups are asked for

-- The look-up has one answer at most to each written name.
abbrev pub IsOnce : LookUp → Type 0
IsOnce L = (written : List ℕ) (a b : Option Fact) → L written a → L written b → a ≡ b

-- The fact is one over the content: a built one, an axiom, or the statement of a promise.
abbrev pub IsFactOver : Content → Fact → Type 0
IsFactOver Q (BuiltFact place) = (A : Term) × (slice_get built_facts place ≡ Some A)
IsFactOver Q (AxiomFact name A) = IsIn (AxiomDecl name A) Q.declarations
IsFactOver Q (PromisedFact name label A) = IsIn (PromiseDecl name label A) Q.declarations

-- The look-up finds facts over the content alone.
abbrev pub FindsOver : Content → LookUp → Type 0
FindsOver Q L = (written : List ℕ) (fact : Fact) → L written (Some fact) → IsFactOver Q fact

-- What has a place in a list has one in each list that is as long.
placed : (xs : List (List ℕ)) (ys : List Term) → length xs ≡ length ys → (place : ℕ) (x : List ℕ) → slice_get xs place ≡ Some x → (y : Term) × (slice_get ys place ≡ Some y)
placed [] ys e place x h = let no : ⊥ = cc in absurd no
placed (z ∷ zs) [] e place x h = let no : ⊥ = cc in absurd no
placed (z ∷ zs) (y ∷ ys) e zero x h = (y, refl)
placed (z ∷ zs) (y ∷ ys) e (suc place) x h = placed zs ys (suc-same (length zs) (length ys) e) place x h
  where
    suc-same : (m n : ℕ) → suc m ≡ suc n → m ≡ n
    suc-same m n e = cc

as-long : length built_texts ≡ length built_facts
unfolding built_texts
as-long = refl

-- The look-up over the content alone, and that in a lemma, are such.
module _ (texts : List (List ℕ)) (Q : Content) where
  built-visible : (p place : ℕ) (theory base : List ℕ) → IsVisible texts Q facts p theory base (Built place) → (B : Term) × (slice_get built_facts place ≡ Some B)
  built-visible p place theory base (inl h) = placed built_texts built_facts as-long place _ h.2.1
  built-visible p place theory base (inr h) = absurd h.4

  built-found : (written : List ℕ) (place : ℕ) → IsMeant texts Q facts written (Built place) → (B : Term) × (slice_get built_facts place ≡ Some B)
  built-found written place (inl h) = built-visible h.1.place place h.1.theory h.1.base h.1.visible
  built-found written place (inr h) = built-visible h.1.place place h.1.theory written h.1.visible

  pub everywhere-over : FindsOver Q (IsFoundFact texts Q)
  everywhere-over written (BuiltFact place) h = built-found written place (subst (IsMeant texts Q facts written) h.2 h.1)
  everywhere-over written (AxiomFact name A) h = h.2.1
  everywhere-over written (PromisedFact name label A) h = h.2.1

  pub everywhere-once : IsInSession texts Q → IsContent Q → IsOnce (IsFoundFact texts Q)
  everywhere-once s q = one_fact texts Q s q

  local-over : (lemma : ℕ) (written : List ℕ) (answer : Option Fact) → IsFoundLocal texts Q lemma written answer → (fact : Fact) → answer ≡ Some fact → IsFactOver Q fact
  local-over lemma written (Some (PromisedFact n l A)) (local h) fact e = subst (IsFactOver Q) (same_Some (PromisedFact n l A) fact e) h.promised
  local-over lemma written answer (elsewhere none h) fact e = everywhere-over written fact (subst (IsFoundFact texts Q written) e h)

  pub in_lemma-over : (lemma : ℕ) → FindsOver Q (IsFoundLocal texts Q lemma)
  in_lemma-over lemma written fact h = local-over lemma written (Some fact) h fact refl

  pub in_lemma-once : IsInSession texts Q → IsContent Q → (lemma : ℕ) → IsOnce (IsFoundLocal texts Q lemma)
  in_lemma-once s q lemma = one_local texts Q s q lemma

-- ---- what is found by one

module _ (L : LookUp) where
  pub found-once : IsOnce L → (written : List ℕ) (th other : Theorem) → IsFoundBy L written th → IsFoundBy L written other → th ≡ other
  found-once once written th other h k =
      let same : h.fact ≡ k.fact = same_Some h.fact k.fact (once written (Some h.fact) (Some k.fact) h.found k.found) in
      fact-once k.fact th other (subst (λ (f : Fact). IsFact f th) same h.is) k.is

  found-known : IsOnce L → (written : List ℕ) (th : Theorem) → IsFoundBy L written th → ¬ IsUnknownBy L written
  found-known once written th h unknown = none-some h.fact (once written None (Some h.fact) unknown h.found)

  pub all_found-once : IsOnce L → (written : List (List ℕ)) (ths others : List Theorem) → EachTwo (IsFoundBy L) written ths → EachTwo (IsFoundBy L) written others → ths ≡ others
  all_found-once once [] [] [] h k = refl
  all_found-once once [] [] (b ∷ bs) h k = absurd k
  all_found-once once [] (a ∷ as') others h k = absurd h
  all_found-once once (w ∷ ws) [] others h k = absurd h
  all_found-once once (w ∷ ws) (a ∷ as') [] h k = absurd k
  all_found-once once (w ∷ ws) (a ∷ as') (b ∷ bs) h k =
      let first = found-once once w a b h.0 k.0 in
      let rest = all_found-once once ws as' bs h.1 k.1 in
      λ i. first i ∷ rest i

  pub all_found-known : IsOnce L → (written : List (List ℕ)) (ths : List Theorem) → EachTwo (IsFoundBy L) written ths → ¬ AnyOf (IsUnknownBy L) written
  all_found-known once [] ths h unknown = unknown
  all_found-known once (w ∷ ws) [] h unknown = h
  all_found-known once (w ∷ ws) (a ∷ as') h (inl unknown) = found-known once w a h.0 unknown
  all_found-known once (w ∷ ws) (a ∷ as') h (inr unknown) = all_found-known once ws as' h.1 unknown

module _ (L : LookUp) (Q : Content) (over : FindsOver Q L) where
  -- What is found may be used: it is derivable, without hypotheses and pairs; and what it rests on it names.
  pub record IsUsable (written : List ℕ) (th : Theorem) : Type 0 where
    pub no_hyps : th.hyps ≡ []
    pub no_pairs : th.pairs ≡ []
    pub derivable : IsDerivable Q th
    pub named : (l : Label) → IsIn l th.rests → MeansPromiseBy L l written

  alone-usable : (written : List ℕ) (A : Term) (th : Theorem) → th ≡ theorem A [] → IsDerivableAlone Q A → IsUsable written th
  alone-usable written A th e h = subst (IsUsable written) (sym e) (record { no_hyps = refl; no_pairs = refl; derivable = h; named = λ l m. absurd m })

  built-at : (As : List Term) → Each (IsDerivableAlone Q) As → (place : ℕ) (A : Term) → slice_get As place ≡ Some A → IsDerivableAlone Q A
  built-at [] h place A e = let no : ⊥ = cc in absurd no
  built-at (B ∷ Bs) h zero A e = let same : B ≡ A = same_Some B A e in subst (IsDerivableAlone Q) same h.0
  built-at (B ∷ Bs) h (suc place) A e = built-at Bs h.1 place A e

  usable : IsBelow pure_content Q → (written : List ℕ) (fact : Fact) (th : Theorem) → L written (Some fact) → IsFactOver Q fact → IsFact fact th → IsUsable written th
  usable above written (BuiltFact place) th found there is = alone-usable written is.0 th is.2 (built-at built_facts (built_facts_are_derivable_above Q above) place is.0 is.1)
  usable above written (AxiomFact name A) th found there is = alone-usable written A th is (axiom_is_derivable Q name A there)
  usable above written (PromisedFact name label A) th found there is = subst (IsUsable written) (sym is) (record {
    no_hyps = refl;
    no_pairs = refl;
    derivable = promise_is_derivable Q name label A there;
    named = λ l m. elim m [ inl e ↦ (name, A, subst (λ (k : Label). L written (Some (PromisedFact name k A))) (sym e) found) | inr n ↦ absurd n ];
  })

  pub found-usable : IsBelow pure_content Q → (written : List ℕ) (th : Theorem) → IsFoundBy L written th → IsUsable written th
  found-usable above written th h = usable above written h.fact th h.found (over written h.fact h.found) h.is

  -- The promise of a name is one of the content.
  pub promised : (label : Label) (written : List ℕ) → MeansPromiseBy L label written → (A : Term) × (name : ℕ) × IsIn (PromiseDecl name label A) Q.declarations
  promised label written h = (h.1, h.0, over written (PromisedFact h.0 label h.1) h.2)
