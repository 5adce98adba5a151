-- Facts as declarations.
use Rattle.std.proofs.Common.{◌≡◌, ◌↔◌, ℕ, List, refl, ap, sym, ◌∙◌, subst}
use Rattle.std.specs.Prelude.{Option, Some, None, MatchOption}
use Rattle.pure_text.specs.Lists.{IsIn}
use Rattle.pure_definitions.specs.Names.{Label}
use Rattle.pure_definitions.specs.Terms.Term.{Term}
use Rattle.pure_definitions.specs.Declarations.Decl.{Decl, AxiomDecl, PromiseDecl}
use Rattle.pure_logic.specs.Content.{AreNamedAlike}
use Rattle.pure_theory_tables.specs.Facts.{Stated, fact, fact_decl}

-- The declaration is no fact.
abbrev pub IsNoFact : Decl → Type 0
IsNoFact (AxiomDecl x A) = ⊥
IsNoFact (PromiseDecl x l A) = ⊥
IsNoFact _ = Unit {0}

not_fact : (x : ℕ) (l : Option Label) (A : Term) (d : Decl) → IsNoFact d → ¬ (fact x l A ≡ d)
not_fact x None A d plain e = subst IsNoFact (sym e) plain
not_fact x (Some l) A d plain e = subst IsNoFact (sym e) plain

pub not_fact_decl : (d : Decl) → IsNoFact d → (x : ℕ) (s : Stated) → ¬ (fact_decl x s ≡ d)
not_fact_decl d plain x s = not_fact x s.label s.prop d plain

same_fact : (x : ℕ) (a : Option Label) (A : Term) (y : ℕ) (b : Option Label) (B : Term) → fact x a A ≡ fact y b B → (x ≡ y) × (a ≡ b) × (A ≡ B)
same_fact x None A y None B e = (cc, refl, cc)
same_fact x (Some l) A y (Some m) B e = (cc, (let p : l ≡ m = cc in ap Some p), cc)
same_fact x None A y (Some m) B e = absurd (cc)
same_fact x (Some l) A y None B e = absurd (cc)

pub same_stated : (x y : ℕ) (s t : Stated) → fact_decl x s ≡ fact_decl y t → (x ≡ y) × (s ≡ t)
same_stated x y s t e =
    let parts = same_fact x s.label s.prop y t.label t.prop e in
    (parts.0, λ i. record { label = parts.1 i; prop = parts.2 i })

-- What an axiom states, of what stands under its name.
pub axiom_of : {B : Type 0} (now : B → Term) (o : Option B) (ds : List Decl) (x : ℕ) (s : Stated) → ((t : Stated) → IsIn (fact_decl x t) ds ↔ (t ≡ s))
    → MatchOption o (¬ (s.label ≡ None)) (λ A. s ≡ record { label = None; prop = now A })
    → MatchOption o ((A : Term) → ¬ IsIn (AxiomDecl x A) ds) (λ A. (C : Term) → IsIn (AxiomDecl x C) ds ↔ (C ≡ now A))
axiom_of now None ds x s is denied = λ A m. denied (sym (ap (λ (t : Stated). t.label) ((is (record { label = None; prop = A })).0 m)))
axiom_of now (Some b) ds x s is same = λ C. (
  λ m. ap (λ (t : Stated). t.prop) ((is (record { label = None; prop = C })).0 m ∙ same),
  λ e. (is (record { label = None; prop = C })).1 (ap (λ D. record { label = None; prop = D }) e ∙ sym same),
)

-- What a promise states, of what stands under its name.
pub promise_of : {B : Type 0} (now : B → Term) (o : Option B) (ds : List Decl) (x : ℕ) (l : Label) (s : Stated) → ((t : Stated) → IsIn (fact_decl x t) ds ↔ (t ≡ s))
    → MatchOption o (¬ (s.label ≡ Some l)) (λ A. s ≡ record { label = Some l; prop = now A })
    → MatchOption o ((A : Term) → ¬ IsIn (PromiseDecl x l A) ds) (λ A. (C : Term) → IsIn (PromiseDecl x l C) ds ↔ (C ≡ now A))
promise_of now None ds x l s is denied = λ A m. denied (sym (ap (λ (t : Stated). t.label) ((is (record { label = Some l; prop = A })).0 m)))
promise_of now (Some b) ds x l s is same = λ C. (
  λ m. ap (λ (t : Stated). t.prop) ((is (record { label = Some l; prop = C })).0 m ∙ same),
  λ e. (is (record { label = Some l; prop = C })).1 (ap (λ D. record { label = Some l; prop = D }) e ∙ sym same),
)

pub named : (x : ℕ) (l : Option Label) (A B : Term) → AreNamedAlike (AxiomDecl x A) (fact x l B)
named x None A B = refl
named x (Some l) A B = refl

promised : (x : ℕ) (m : Label) (l : Option Label) (A B : Term) → AreNamedAlike (PromiseDecl x m A) (fact x l B)
promised x m None A B = refl
promised x m (Some l) A B = refl

-- Facts of one name are named alike.
pub axiom_named : (x : ℕ) (A : Term) (s : Stated) → AreNamedAlike (AxiomDecl x A) (fact_decl x s)
axiom_named x A s = named x s.label A s.prop

pub promise_named : (x : ℕ) (m : Label) (A : Term) (s : Stated) → AreNamedAlike (PromiseDecl x m A) (fact_decl x s)
promise_named x m A s = promised x m s.label A s.prop
