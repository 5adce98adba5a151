-- A goal's proposition is taken apart premise by premise, and made from behind.
use Rattle.std.proofs.Common.{◌≡◌, ℕ, zero, suc, ◌<◌, List, Option, Some, None, IfSome, Result, Ok, Err, IfOk, [], ◌∷◌, ◌++◌, length, refl, ap, sym, ◌∙◌, arith, append_assoc}
use Rattle.pure_definitions.specs.Names.{imp_name}
use Rattle.pure_definitions.specs.Terms.Term.{Term, Const, App}
use Rattle.pure_logic.specs.Connectives.{imp_typ, imp, protect, chain}
use Rattle.pure_theorem.specs.Shapes.{IsNoImplication}

pub no-premise : (t : Term) (As : List Term) (C : Term) → IsNoImplication t → t ≡ chain As (protect C) → As ≡ []
no-premise t [] C n e = refl
no-premise t (A ∷ As) C n e = absurd (n A (chain As (protect C)) e)

-- The first premise, and what is behind it.
pub record IsPremise (A B : Term) (As : List Term) (C : Term) : Type 0 where
  pub rest : List Term
  pub is : As ≡ A ∷ rest
  pub chained : B ≡ chain rest (protect C)

imp-no-mark : (A B C : Term) → imp A B ≡ protect C → ⊥
imp-no-mark A B C e = absurd (cc)

pub imp-premise : (A B D E : Term) → imp A B ≡ imp D E → (D ≡ A) × (B ≡ E)
imp-premise A B D E e = (cc, cc)

-- The connective of an implication, as the function of its function.
application-parts : (f c a b : Term) → App f a ≡ App c b → (f ≡ c) × (a ≡ b)
application-parts f c a b e = (cc, cc)

imp-connective : (t f c A B a b : Term) → t ≡ imp A B → t ≡ App f a → f ≡ App c b → c ≡ Const imp_name imp_typ
imp-connective t f c A B a b e d g =
    let outer = application-parts f (App (Const imp_name imp_typ) A) a B (sym d ∙ e) in
    (application-parts c (Const imp_name imp_typ) b A (sym g ∙ outer.0)).0

pub connective_found : {X : Type 0} (value : X → Term) (t f A B a : Term) (r : Option X) → t ≡ imp A B → t ≡ App f a → IfSome r (λ c. (b : Term) × (f ≡ App (value c) b)) → IfSome r (λ c. value c ≡ Const imp_name imp_typ)
connective_found value t f A B a None e d h = tt
connective_found value t f A B a (Some c) e d h = imp-connective t f (value c) A B a h.0 e d h.1

pub first-premise : (t A B : Term) (As : List Term) (C : Term) → t ≡ imp A B → t ≡ chain As (protect C) → IsPremise A B As C
first-premise t A B [] C e f = absurd (imp-no-mark A B C (sym e ∙ f))
first-premise t A B (D ∷ As) C e f = let parts = imp-premise A B D (chain As (protect C)) (sym e ∙ f) in record { rest = As; is = ap (λ (E : Term). E ∷ As) parts.0; chained = parts.1 }

pub chain-last : (As : List Term) (A G : Term) → chain (As ++ A ∷ []) G ≡ chain As (imp A G)
chain-last [] A G = refl
chain-last (B ∷ As) A G = ap (imp B) (chain-last As A G)

-- What stands at a place in a list.
pub record IsCut (xs : List Term) (place : ℕ) : Type 0 where
  pub before : List Term
  pub at : Term
  pub after : List Term
  pub stands : xs ≡ before ++ at ∷ after
  pub count : place ≡ length before

pub cut_at : (xs : List Term) (place : ℕ) → place < length xs → IsCut xs place
cut_at [] place l = absurd (omega arith)
cut_at (x ∷ xs) zero l = record { before = []; at = x; after = xs; stands = refl; count = refl }
cut_at (x ∷ xs) (suc place) l =
    let rest = cut_at xs place (omega arith) in
    record { before = x ∷ rest.before; at = rest.at; after = rest.after; stands = ap (λ (ys : List Term). x ∷ ys) rest.stands; count = omega (arith, rest.count) }

pub marks-same : (C D : Term) → protect C ≡ protect D → C ≡ D
marks-same C D e = cc

-- A goal's proposition has one list of premises and one statement.
pub chain_once : (As Bs : List Term) (C D : Term) → chain As (protect C) ≡ chain Bs (protect D) → (As ≡ Bs) × (C ≡ D)
chain_once [] [] C D e = (refl, marks-same C D e)
chain_once [] (B ∷ Bs) C D e = absurd (imp-no-mark B (chain Bs (protect D)) C (sym e))
chain_once (A ∷ As) [] C D e = absurd (imp-no-mark A (chain As (protect C)) D e)
chain_once (A ∷ As) (B ∷ Bs) C D e =
    let parts = imp-premise A (chain As (protect C)) B (chain Bs (protect D)) e in
    let rest = chain_once As Bs C D parts.1 in
    (ap (λ (E : Term). E ∷ As) (sym parts.0) ∙ ap (λ (Es : List Term). B ∷ Es) rest.0, rest.1)

-- One turn of the loop that makes the chain.
pub chained-turn : (new all : List Term) (p g c : Term) → all ≡ new ++ p ∷ [] → c ≡ imp p g → chain new c ≡ chain all g
chained-turn new all p g c e d = ap (chain new) d ∙ (sym (chain-last new p g) ∙ ap (λ (As : List Term). chain As g) (sym e))

pub nothing-more : (xs : List Term) → xs ≡ xs ++ []
nothing-more [] = refl
nothing-more (x ∷ xs) = ap (λ (ys : List Term). x ∷ ys) (nothing-more xs)

-- What is read where there is no premise, and where there is one.
pub end-premises : {E : Type 0} (t : Term) (As : List Term) (C : Term) (items : List Term) (r : Result Term E) → IsNoImplication t → t ≡ chain As (protect C) → IfOk r (λ u. u ≡ t) → IfOk r (λ marked. (items ≡ items ++ As) × (marked ≡ protect C))
end-premises t As C items (Ok u) n e h =
    let none = no-premise t As C n e in
    (nothing-more items ∙ ap (λ (Bs : List Term). items ++ Bs) (sym none), h ∙ (e ∙ ap (λ (Bs : List Term). chain Bs (protect C)) none))
end-premises t As C items (Err fault) n e h = tt

pub more-premises : {E : Type 0} (news items mid : List Term) (A B G : Term) (rest As : List Term) (r : Result Term E) → mid ≡ items ++ B ∷ [] → B ≡ A → As ≡ A ∷ rest → IfOk r (λ m. (news ≡ mid ++ rest) × (m ≡ G)) → IfOk r (λ m. (news ≡ items ++ As) × (m ≡ G))
more-premises news items mid A B G rest As (Ok u) e d f h =
    (h.0 ∙ (ap (λ (xs : List Term). xs ++ rest) e ∙ (append_assoc items (B ∷ []) rest ∙ ap (λ (xs : List Term). items ++ xs) (ap (λ (D : Term). D ∷ rest) d ∙ sym f))), h.1)
more-premises news items mid A B G rest As (Err fault) e d f h = tt
