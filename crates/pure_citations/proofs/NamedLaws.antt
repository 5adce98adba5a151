-- The axioms that written names mean.
use Rattle.std.proofs.Common.{◌≡◌, ◌↔◌, ◌⊎◌, ℕ, List, inl, inr, sym, subst}
use Rattle.std.specs.Prelude.{Option, Some, None, MatchOption}
use Rattle.std.proofs.lemmas.Option.{same_Some, none-some}
use Rattle.pure_definitions.specs.Terms.Term.{Term}
use Rattle.pure_logic.specs.Content.{Content, IsContent}
use Rattle.pure_lookup.specs.LookUps.{Fact, AxiomFact, PromisedFact, IsFoundFact, IsFoundLocal, local, elsewhere}
use Rattle.pure_lookup.specs.Laws.{IsInSession}
use Rattle.pure_lookup.proofs.MeaningLaws.{one_local}
use Rattle.pure_order_tables.specs.Rows.{Holds}
use Rattle.pure_citations.specs.Named.{MeansAxiom, IsNoAxiom, IsAxiomWritten}

axiom-names : (m n : ℕ) (A B : Term) → AxiomFact m B ≡ AxiomFact n A → m ≡ n
axiom-names m n A B e = cc

-- What holds of nothing changes nothing.
pub unchanged : (X O : Type 0) → (X → ⊥) → O ↔ (X ⊎ O)
unchanged X O none = (λ o. inr o, λ h. elim h [ inl x ↦ absurd (none x) | inr o ↦ o ])

pub alone : (N M O : Type 0) → N ↔ (M ⊎ O) → N ↔ ((M ⊎ ⊥) ⊎ O)
alone N M O h = (
  λ n. elim (h.0 n) [ inl m ↦ inl (inl m) | inr o ↦ inr o ],
  λ w. elim w [ inl x ↦ elim x [ inl m ↦ h.1 (inl m) | inr none ↦ absurd none ] | inr o ↦ h.1 (inr o) ],
)

-- What a row holds after a name was put in that is the one of which something holds.
pub put-one : (P : ℕ → Type 0) (old new : List ℕ) (name : ℕ) → ((n : ℕ) → P n ↔ (n ≡ name)) → ((n : ℕ) → Holds new n ↔ ((n ≡ name) ⊎ Holds old n)) → (n : ℕ) → Holds new n ↔ (P n ⊎ Holds old n)
put-one P old new name is put n = (
  λ h. elim ((put n).0 h) [ inl e ↦ inl ((is n).1 e) | inr o ↦ inr o ],
  λ h. elim h [ inl p ↦ (put n).1 (inl ((is n).0 p)) | inr o ↦ (put n).1 (inr o) ],
)

module _ (texts : List (List ℕ)) (Q : Content) (lemma : ℕ) (written : List ℕ) where
  -- The row holds the axiom that is written so too.
  pub put-written : (found : Option ℕ) (name : ℕ) → IsAxiomWritten texts Q lemma written found → found ≡ Some name → (old new : List ℕ) → ((n : ℕ) → Holds new n ↔ ((n ≡ name) ⊎ Holds old n))
      → (n : ℕ) → Holds new n ↔ (MeansAxiom texts Q lemma n written ⊎ Holds old n)
  put-written found name h e old new put = put-one (λ n. MeansAxiom texts Q lemma n written) old new name (subst (IsAxiomWritten texts Q lemma written) e h) put

  pub keep-written : (found : Option ℕ) → IsAxiomWritten texts Q lemma written found → found ≡ None → (old : List ℕ) (n : ℕ) → Holds old n ↔ (MeansAxiom texts Q lemma n written ⊎ Holds old n)
  keep-written found h e old n = unchanged (MeansAxiom texts Q lemma n written) (Holds old n) ((subst (IsAxiomWritten texts Q lemma written) e h) n)

  -- An axiom that is found is found everywhere: what is local is a promise.
  pub axiom-found : (answer : Option Fact) → IsFoundLocal texts Q lemma written answer → (n : ℕ) (A : Term) → answer ≡ Some (AxiomFact n A) → IsFoundFact texts Q written (Some (AxiomFact n A))
  axiom-found (Some (PromisedFact m l B)) (local h) n A e = let no : ⊥ = cc in absurd no
  axiom-found answer (elsewhere none h) n A e = subst (IsFoundFact texts Q written) e h

  module _ (session : IsInSession texts Q) (content : IsContent Q) where
    pub written-none : (found : Option Fact) → IsFoundLocal texts Q lemma written found → found ≡ None → (n : ℕ) → ¬ MeansAxiom texts Q lemma n written
    written-none found h e n w = none-some (AxiomFact n w.0) (one_local texts Q session content lemma written None (Some (AxiomFact n w.0)) (subst (IsFoundLocal texts Q lemma written) e h) w.1)

    names-one : (fact : Fact) (name n : ℕ) (A : Term) → IsFoundLocal texts Q lemma written (Some fact) → fact ≡ AxiomFact name A → MeansAxiom texts Q lemma n written ↔ (n ≡ name)
    names-one fact name n A found is = (
      λ w. axiom-names n name A w.0 (same_Some (AxiomFact n w.0) (AxiomFact name A) (one_local texts Q session content lemma written (Some (AxiomFact n w.0)) (Some (AxiomFact name A)) w.1 here)),
      λ e. (A, subst (λ k. IsFoundLocal texts Q lemma written (Some (AxiomFact k A))) (sym e) here),
    )
      where
        here : IsFoundLocal texts Q lemma written (Some (AxiomFact name A))
        here = subst (λ (f : Fact). IsFoundLocal texts Q lemma written (Some f)) is found

    pub written-some : (found : Option Fact) (fact : Fact) → IsFoundLocal texts Q lemma written found → found ≡ Some fact → (answer : Option ℕ) → MatchOption answer (IsNoAxiom fact) (λ name. (A : Term) × (fact ≡ AxiomFact name A))
        → IsAxiomWritten texts Q lemma written answer
    written-some found fact h e None no_axiom = λ n w.
        subst IsNoAxiom (same_Some fact (AxiomFact n w.0) (one_local texts Q session content lemma written (Some fact) (Some (AxiomFact n w.0)) (subst (IsFoundLocal texts Q lemma written) e h) w.1)) no_axiom
    written-some found fact h e (Some name) is = λ n. names-one fact name n is.0 (subst (IsFoundLocal texts Q lemma written) e h) is.1

pub seen-too : (N S T O : Type 0) → T ↔ S → N ↔ (S ⊎ O) → N ↔ (T ⊎ O)
seen-too N S T O same h = (
  λ n. elim (h.0 n) [ inl s ↦ inl (same.1 s) | inr o ↦ inr o ],
  λ w. elim w [ inl t ↦ h.1 (inl (same.0 t)) | inr o ↦ h.1 (inr o) ],
)
