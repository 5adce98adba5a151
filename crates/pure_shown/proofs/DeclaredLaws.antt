-- Declarations of an algebra declare that algebra and nothing else.
use Rattle.std.proofs.Common.{◌≡◌, ℕ, List, [], ◌∷◌, refl, ap, inl, inr, ◌∙◌}
use Rattle.pure_text.specs.Lists.{IsIn}
use Rattle.pure_definitions.specs.Names.{Label}
use Rattle.pure_definitions.specs.Terms.Term.{Term}
use Rattle.pure_definitions.specs.Types.Order.{Class, Arity, Algebra}
use Rattle.pure_definitions.specs.Declarations.Decl.{Decl, ClassDecl, ArityDecl, AxiomDecl, PromiseDecl, classes_of, arities_of, algebra_of}
use Rattle.pure_shown.specs.Declarations.{arities_declared, classes_declared, declared}

no_classes : (rs : List Arity) → classes_of (arities_declared rs) ≡ []
no_classes [] = refl
no_classes (r ∷ rs) = no_classes rs

classes_are : (ks : List Class) (rest : List Decl) → classes_of rest ≡ [] → classes_of (classes_declared ks rest) ≡ ks
classes_are [] rest e = e
classes_are (k ∷ ks) rest e = ap (λ xs. k ∷ xs) (classes_are ks rest e)

arities_behind : (ks : List Class) (rest : List Decl) → arities_of (classes_declared ks rest) ≡ arities_of rest
arities_behind [] rest = refl
arities_behind (k ∷ ks) rest = arities_behind ks rest

arities_are : (rs : List Arity) → arities_of (arities_declared rs) ≡ rs
arities_are [] = refl
arities_are (r ∷ rs) = ap (λ xs. r ∷ xs) (arities_are rs)

pub declared-algebra : (A : Algebra) → algebra_of (declared A) ≡ A
declared-algebra A =
    let classes = classes_are A.classes (arities_declared A.arities) (no_classes A.arities) in
    let arities = arities_behind A.classes (arities_declared A.arities) ∙ arities_are A.arities in
    λ l. record { classes = classes l; arities = arities l }

-- A declaration of another kind isn't among them.
module _ (d : Decl) (no_class : (k : Class) → d ≡ ClassDecl k → ⊥) (no_arity : (r : Arity) → d ≡ ArityDecl r → ⊥) where
  behind : (rs : List Arity) → ¬ IsIn d (arities_declared rs)
  behind [] m = m
  behind (r ∷ rs) m = elim m [ inl e ↦ no_arity r e | inr n ↦ behind rs n ]

  before : (ks : List Class) (rest : List Decl) → (¬ IsIn d rest) → ¬ IsIn d (classes_declared ks rest)
  before [] rest isnt m = isnt m
  before (k ∷ ks) rest isnt m = elim m [ inl e ↦ no_class k e | inr n ↦ before ks rest isnt n ]

  neither : (A : Algebra) → ¬ IsIn d (declared A)
  neither A = before A.classes (arities_declared A.arities) (behind A.arities)

pub no_axiom : (A : Algebra) (name : ℕ) (B : Term) → ¬ IsIn (AxiomDecl name B) (declared A)
no_axiom A name B = neither (AxiomDecl name B) (λ k e. (let other : AxiomDecl name B ≡ ClassDecl k = e in cc)) (λ r e. (let other : AxiomDecl name B ≡ ArityDecl r = e in cc)) A

pub no_promise : (A : Algebra) (name : ℕ) (label : Label) (B : Term) → ¬ IsIn (PromiseDecl name label B) (declared A)
no_promise A name label B = neither (PromiseDecl name label B) (λ k e. (let other : PromiseDecl name label B ≡ ClassDecl k = e in cc)) (λ r e. (let other : PromiseDecl name label B ≡ ArityDecl r = e in cc)) A
