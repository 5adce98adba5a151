-- The tables of declarations, and one declaration more.
use Rattle.std.proofs.Common.{◌≡◌, ℕ, List, [], ◌∷◌, ◌++◌, ap, sym, ◌∙◌, inl, inr}
use Rattle.std.proofs.lemmas.Option.{same_Some}
use Rattle.std.specs.Prelude.{Option, Some, None, MatchOption}
use Rattle.std.specs.FinMap.{get, insert, empty}
use Rattle.pure_text.specs.Lists.{IsIn}
use Rattle.pure_text.proofs.ListLaws.{in_split}
use Rattle.pure_definitions.specs.Names.{Label}
use Rattle.pure_definitions.specs.Types.Typ.{Typ}
use Rattle.pure_definitions.specs.Terms.Term.{Term}
use Rattle.pure_definitions.specs.Declarations.Decl.{Decl, ClassDecl, ConDecl, ArityDecl, ConstDecl, AxiomDecl, PromiseDecl}
use Rattle.pure_theory_tables.specs.declared.index.Index.{Index}
use Rattle.pure_theory_tables.specs.Facts.{Stated, fact_decl}
use Rattle.pure_theory_tables.specs.Keys.{label_key}
use Rattle.pure_theory_tables.specs.Kept.{IsKept}
use Rattle.pure_theory_tables.specs.Tables.{IsIndexOf, IsOther}
use Rattle.pure_theory_tables.proofs.TableLaws.{no_table, other_kind, one_more}
use Rattle.pure_theory_tables.proofs.FactLaws.{not_fact_decl, same_stated}

-- Each promise among the declarations keeps its name, where the new one is none.
kept_by : (i j : Index) (ds : List Decl) (d : Decl) → ((x : ℕ) (l : Label) → IsKept i.labels x l → IsKept j.labels x l) → ((x : ℕ) (l : Label) (A : Term) → PromiseDecl x l A ≡ d → IsKept j.labels x l) → IsIndexOf i ds
    → (x : ℕ) (l : Label) (A : Term) → IsIn (PromiseDecl x l A) (ds ++ d ∷ []) → IsKept j.labels x l
kept_by i j ds d kept new h x l A m = elim (in_split (PromiseDecl x l A) ds (d ∷ []) m) [
  | inl old ↦ kept x l (h.labels x l A old)
  | inr one ↦ elim one [ inl e ↦ new x l A e | inr none ↦ absurd none ]
]

pub no_index : (i : Index) → i.typs ≡ empty → i.consts ≡ empty → i.facts ≡ empty → IsIndexOf i []
no_index i typs consts facts = record { typs = rw typs (no_table ConDecl); consts = rw consts (no_table ConstDecl); facts = rw facts (no_table fact_decl); labels = λ x l A m. absurd m }

module _ (i j : Index) (kept : (x : ℕ) (l : Label) → IsKept i.labels x l → IsKept j.labels x l) where
  pub same_index : j.typs ≡ i.typs → j.consts ≡ i.consts → j.facts ≡ i.facts → (ds : List Decl) → IsIndexOf i ds → IsIndexOf j ds
  same_index typs consts facts ds h = record { typs = rw typs h.typs; consts = rw consts h.consts; facts = rw facts h.facts; labels = λ x l A m. kept x l (h.labels x l A m) }

  pub other_added : j.typs ≡ i.typs → j.consts ≡ i.consts → j.facts ≡ i.facts → (ds : List Decl) (d : Decl) → IsOther d → IsIndexOf i ds → IsIndexOf j (ds ++ d ∷ [])
  other_added typs consts facts ds (ClassDecl k) is h = record {
    typs = rw typs (other_kind ConDecl i.typs ds (ClassDecl k) (λ x n e. absurd (cc)) h.typs);
    consts = rw consts (other_kind ConstDecl i.consts ds (ClassDecl k) (λ x T e. absurd (cc)) h.consts);
    facts = rw facts (other_kind fact_decl i.facts ds (ClassDecl k) (not_fact_decl (ClassDecl k) tt) h.facts);
    labels = kept_by i j ds (ClassDecl k) kept (λ x l A e. absurd (cc)) h;
  }
  other_added typs consts facts ds (ArityDecl a) is h = record {
    typs = rw typs (other_kind ConDecl i.typs ds (ArityDecl a) (λ x n e. absurd (cc)) h.typs);
    consts = rw consts (other_kind ConstDecl i.consts ds (ArityDecl a) (λ x T e. absurd (cc)) h.consts);
    facts = rw facts (other_kind fact_decl i.facts ds (ArityDecl a) (not_fact_decl (ArityDecl a) tt) h.facts);
    labels = kept_by i j ds (ArityDecl a) kept (λ x l A e. absurd (cc)) h;
  }
  other_added typs consts facts ds (ConDecl k n) is h = absurd is
  other_added typs consts facts ds (ConstDecl c T) is h = absurd is
  other_added typs consts facts ds (AxiomDecl x A) is h = absurd is
  other_added typs consts facts ds (PromiseDecl x l A) is h = absurd is

  pub typ_added : (k n : ℕ) → get i.typs k ≡ None → j.typs ≡ insert i.typs k n → j.consts ≡ i.consts → j.facts ≡ i.facts → (ds : List Decl) → IsIndexOf i ds → IsIndexOf j (ds ++ ConDecl k n ∷ [])
  typ_added k n new typs consts facts ds h = record {
    typs = rw typs (one_more ConDecl i.typs ds k n (λ x m e. (cc, cc)) new h.typs);
    consts = rw consts (other_kind ConstDecl i.consts ds (ConDecl k n) (λ x T e. absurd (cc)) h.consts);
    facts = rw facts (other_kind fact_decl i.facts ds (ConDecl k n) (not_fact_decl (ConDecl k n) tt) h.facts);
    labels = kept_by i j ds (ConDecl k n) kept (λ x l A e. absurd (cc)) h;
  }

  pub const_added : (c : ℕ) (T : Typ) → get i.consts c ≡ None → j.typs ≡ i.typs → j.consts ≡ insert i.consts c T → j.facts ≡ i.facts → (ds : List Decl) → IsIndexOf i ds → IsIndexOf j (ds ++ ConstDecl c T ∷ [])
  const_added c T new typs consts facts ds h = record {
    typs = rw typs (other_kind ConDecl i.typs ds (ConstDecl c T) (λ x n e. absurd (cc)) h.typs);
    consts = rw consts (one_more ConstDecl i.consts ds c T (λ x U e. (cc, cc)) new h.consts);
    facts = rw facts (other_kind fact_decl i.facts ds (ConstDecl c T) (not_fact_decl (ConstDecl c T) tt) h.facts);
    labels = kept_by i j ds (ConstDecl c T) kept (λ x l A e. absurd (cc)) h;
  }

  pub axiom_added : (x : ℕ) (s : Stated) (A : Term) → s ≡ record { label = None; prop = A } → get i.facts x ≡ None → j.typs ≡ i.typs → j.consts ≡ i.consts → j.facts ≡ insert i.facts x s → (ds : List Decl) → IsIndexOf i ds → IsIndexOf j (ds ++ AxiomDecl x A ∷ [])
  axiom_added x s A is new typs consts facts ds h = record {
    typs = rw typs (other_kind ConDecl i.typs ds (AxiomDecl x A) (λ y n e. absurd (cc)) h.typs);
    consts = rw consts (other_kind ConstDecl i.consts ds (AxiomDecl x A) (λ y T e. absurd (cc)) h.consts);
    facts = rw (facts, is) (one_more fact_decl i.facts ds x (record { label = None; prop = A }) (λ y t e. same_stated y x t (record { label = None; prop = A }) e) new h.facts);
    labels = kept_by i j ds (AxiomDecl x A) kept (λ y l B e. absurd (cc)) h;
  }

  pub promise_added : (x : ℕ) (s : Stated) (l : Label) (A : Term) → s ≡ record { label = Some l; prop = A } → IsKept j.labels x l → get i.facts x ≡ None → j.typs ≡ i.typs → j.consts ≡ i.consts → j.facts ≡ insert i.facts x s → (ds : List Decl) → IsIndexOf i ds
      → IsIndexOf j (ds ++ PromiseDecl x l A ∷ [])
  promise_added x s l A is here new typs consts facts ds h = record {
    typs = rw typs (other_kind ConDecl i.typs ds (PromiseDecl x l A) (λ y n e. absurd (cc)) h.typs);
    consts = rw consts (other_kind ConstDecl i.consts ds (PromiseDecl x l A) (λ y T e. absurd (cc)) h.consts);
    facts = rw (facts, is) (one_more fact_decl i.facts ds x (record { label = Some l; prop = A }) (λ y t e. same_stated y x t (record { label = Some l; prop = A }) e) new h.facts);
    labels = kept_by i j ds (PromiseDecl x l A) kept (λ y m B e. (let p : y ≡ x = cc in let q : m ≡ l = cc in rw (p, q) here)) h;
  }

-- What is found of a promise, under its label's number and then among the rest.
pub found_promise : (i : Index) (ds : List Decl) (l : Label) (x : ℕ) (A : Term) → IsIndexOf i ds → get i.facts x ≡ Some (record { label = Some l; prop = A }) → IsIn (PromiseDecl x l A) ds
found_promise i ds l x A h e = (h.facts.is x (record { label = Some l; prop = A })).1 e

pub missed_promise : (i : Index) (ds : List Decl) (l : Label) → IsIndexOf i ds
    → ((x : ℕ) (A : Term) → get i.labels.by_key (label_key l) ≡ Some x → ¬ (get i.facts x ≡ Some (record { label = Some l; prop = A })))
    → ((x : ℕ) (A : Term) → IsIn x i.labels.rest.value.items → ¬ (get i.facts x ≡ Some (record { label = Some l; prop = A })))
    → (x : ℕ) (A : Term) → ¬ IsIn (PromiseDecl x l A) ds
missed_promise i ds l h first rest x A m =
    let found : get i.facts x ≡ Some (record { label = Some l; prop = A }) = (h.facts.is x (record { label = Some l; prop = A })).0 m in
    elim (h.labels x l A m) [ inl under ↦ first x A under found | inr among ↦ rest x A among found ]

-- What a look at a fact says of the promise with a label.
pub stated_promise : {B : Type 0} (now : B → Term) (o : Option B) (found : Option Stated) (s : Stated) (l : Label) → found ≡ Some s
    → MatchOption o (¬ (s.label ≡ Some l)) (λ A. s ≡ record { label = Some l; prop = now A })
    → MatchOption o ((A : Term) → ¬ (found ≡ Some (record { label = Some l; prop = A }))) (λ A. found ≡ Some (record { label = Some l; prop = now A }))
stated_promise now None found s l is other = λ A e. other (ap (λ (t : Stated). t.label) (same_Some s (record { label = Some l; prop = A }) (sym is ∙ e)))
stated_promise now (Some b) found s l is same = is ∙ ap Some same
