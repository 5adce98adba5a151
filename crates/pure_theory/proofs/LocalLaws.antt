-- Promises that are local to a lemma.
use Rattle.std.proofs.Common.{◌≡◌, ◌↔◌, ℕ, List, ◌∷◌, refl, sym, ◌∙◌, inl, subst}
use Rattle.std.proofs.lemmas.Option.{same_Some, none-some}
use Rattle.std.specs.Prelude.{Option, Some, None, Result, Ok, Err, IfOk, MatchOption}
use Rattle.pure_text.specs.Lists.{IsIn}
use Rattle.pure_text.proofs.ListLaws.{in-append_right}
use Rattle.pure_definitions.specs.Names.{Label}
use Rattle.pure_definitions.specs.Terms.Term.{Term}
use Rattle.pure_definitions.specs.Declarations.Decl.{Decl, PromiseDecl}
use Rattle.pure_typ.specs.NameTexts.{HasText}
use Rattle.pure_logic.specs.Content.{Content}
use Rattle.pure_theory_tables.specs.Facts.{Stated, fact, fact_decl}
use Rattle.pure_lookup.specs.Meaning.{full_text}
use Rattle.pure_lookup.specs.Laws.{IsInSession}
use Rattle.pure_lookup.specs.LookUps.{Fact, IsLocal, IsFoundFact, IsFoundLocal, elsewhere}
use Rattle.pure_lookup.proofs.TextLemmas.{one_name}

-- ---- the promise of a name

pub no_fact : (ds : List Decl) (n : ℕ) → ((s : Stated) → ¬ IsIn (fact_decl n s) ds) → (l : Label) (A : Term) → ¬ IsIn (PromiseDecl n l A) ds
no_fact ds n none l A i = none (record { label = Some l; prop = A }) i

pub no_label : (ds : List Decl) (n : ℕ) (s : Stated) → ((t : Stated) → IsIn (fact_decl n t) ds ↔ (t ≡ s)) → s.label ≡ None → (l : Label) (A : Term) → ¬ IsIn (PromiseDecl n l A) ds
no_label ds n s is none l A i =
    let same : record { label = Some l; prop = A } ≡ s = (is (record { label = Some l; prop = A })).0 i in
    none-some l (sym none ∙ (λ at. (sym same at).label))

pub with_label : (ds : List Decl) (n : ℕ) (s : Stated) → ((t : Stated) → IsIn (fact_decl n t) ds ↔ (t ≡ s)) → (l : Label) → s.label ≡ Some l → IsIn (PromiseDecl n l s.prop) ds
with_label ds n s is l e = subst (λ o. IsIn (fact n o s.prop) ds) e ((is s).1 refl)

-- ---- the one that is local

module _ (texts : List (List ℕ)) (Q : Content) (s : IsInSession texts Q) (lemma : ℕ) (written text : List ℕ) (lemma_text : HasText texts lemma text) where
  pub with_dot : (theory : List ℕ) (base : List ℕ) → written ≡ full_text theory base → (n : ℕ) (l : Label) (A : Term) → ¬ IsLocal texts Q lemma written n l A
  with_dot theory base e n l A h = h.base (rw e (in-append_right 46 theory (46 ∷ base) (inl refl)))

  module _ (clean : ¬ IsIn 46 written) (name : ℕ) (full : HasText texts name (full_text text written)) where
    other_name : (n : ℕ) (l : Label) (A : Term) → IsLocal texts Q lemma written n l A → n ≡ name
    other_name n l A h =
        let same : h.text ≡ text = same_Some h.text text (sym h.lemma_text ∙ lemma_text) in
        one_name texts s.names (full_text text written) n name (rw (← same) h.full) full

    -- What is answered of the promises of the name, by the parts of an answer.
    pub local_answer : {X : Type 0} (named : X → ℕ) (label : X → Label) (prop : X → Term) (r : Option X)
        → MatchOption r ((l : Label) (A : Term) → ¬ IsIn (PromiseDecl name l A) Q.declarations) (λ x. (named x ≡ name) × IsIn (PromiseDecl name (label x) (prop x)) Q.declarations)
        → MatchOption r ((n : ℕ) (l : Label) (A : Term) → ¬ IsLocal texts Q lemma written n l A) (λ x. IsLocal texts Q lemma written (named x) (label x) (prop x))
    local_answer named label prop None none = λ n l A h. none l A (rw (← other_name n l A h) h.promised)
    local_answer named label prop (Some x) h = record { text = text; lemma_text = lemma_text; base = clean; full = rw h.0 full; promised = rw h.0 h.1 }

-- Where none is local, what is found everywhere is the answer.
pub found_elsewhere : (texts : List (List ℕ)) (Q : Content) (lemma : ℕ) (written : List ℕ) {X E : Type 0} (seen : X → Option Fact) (r : Result X E)
    → ((n : ℕ) (l : Label) (A : Term) → ¬ IsLocal texts Q lemma written n l A) → IfOk r (λ x. IsFoundFact texts Q written (seen x)) → IfOk r (λ x. IsFoundLocal texts Q lemma written (seen x))
found_elsewhere texts Q lemma written seen (Ok x) none h = elsewhere none h
found_elsewhere texts Q lemma written seen (Err e) none h = h
