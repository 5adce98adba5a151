-- Premises before a mark in another order.
use Rattle.std.proofs.Common.{◌≡◌, ◌≢◌, ℕ, ◌-◌, ◌<◌, List, [], ◌∷◌, ◌++◌, length, Result, Ok, Err, IfOk, refl, ap, sym, ◌∙◌, arith}
use Rattle.pure_definitions.specs.Names.{imp_name, protect_name}
use Rattle.pure_definitions.specs.Types.Typ.{Typ}
use Rattle.pure_definitions.specs.Terms.Term.{Term, Const, App, term_size}
use Rattle.pure_logic.specs.Connectives.{imp_typ, protect_typ, imp, protect, chain}
use Rattle.pure_theorem.specs.Shapes.{IsNoApplication}
use Rattle.pure_resolve.specs.Premises.{implied_by, IsFirstPremise, IsTaken}
use Rattle.pure_resolve.specs.declared.shared.Taken.{Taken}

-- What is no application of an application has no premise, and what is one has a first.
pub none_first : (t : Term) (As : List Term) (C : Term) → IsNoApplication t → t ≡ chain As (protect C) → As ≡ []
none_first t [] C none e = refl
none_first t (A ∷ As) C none e = absurd (none (implied_by A) (chain As (protect C)) e)

function-of : (f a : Term) (A B : Term) → App f a ≡ imp A B → f ≡ implied_by A
function-of f a A B e = cc

argument-of : (f a : Term) (A B : Term) → App f a ≡ imp A B → a ≡ B
argument-of f a A B e = cc

marked-function : (f a C : Term) → App f a ≡ protect C → f ≡ Const protect_name protect_typ
marked-function f a C e = cc

no-constant : (f a : Term) (name : ℕ) (T : Typ) → App f a ≡ Const name T → ⊥
no-constant f a name T e = absurd (cc)

pub marked_first : (t f a : Term) (As : List Term) (C : Term) → t ≡ App f a → IsNoApplication f → t ≡ chain As (protect C) → As ≡ []
marked_first t f a [] C d none e = refl
marked_first t f a (A ∷ As) C d none e = absurd (none (Const imp_name imp_typ) A (function-of f a A (chain As (protect C)) (sym d ∙ e)))

pub is_first : (t f a g b : Term) (As : List Term) (C : Term) → t ≡ App f a → f ≡ App g b → t ≡ chain As (protect C) → IsFirstPremise As C f a
is_first t f a g b [] C d h e = absurd (no-constant g b protect_name protect_typ (sym h ∙ marked-function f a C (sym d ∙ e)))
is_first t f a g b (A ∷ As) C d h e =
    record { premise = A; others = As; stand = refl; applied = function-of f a A (chain As (protect C)) (sym d ∙ e); behind = argument-of f a A (chain As (protect C)) (sym d ∙ e) }

pub behind_smaller : (t f a : Term) → t ≡ App f a → term_size a < term_size t
behind_smaller t f a e = let same : term_size t ≡ term_size (App f a) = ap term_size e in omega arith

-- One more premise, behind none.
pub last_alone : {X E : Type 0} (value : X → Term) (t last marked : Term) (As : List Term) (A C : Term) (r : Result X E) → As ≡ [] → t ≡ chain As (protect C) → last ≡ implied_by A → marked ≡ t
    → IfOk r (λ u. value u ≡ App last marked) → IfOk r (λ u. value u ≡ chain (As ++ A ∷ []) (protect C))
last_alone value t last marked As A C (Ok u) none e l m h =
    let mark : marked ≡ protect C = m ∙ (e ∙ ap (λ (Bs : List Term). chain Bs (protect C)) none) in
    h ∙ ((λ i. App (l i) (mark i)) ∙ ap (λ (Bs : List Term). chain (Bs ++ A ∷ []) (protect C)) (sym none))
last_alone value t last marked As A C (Err fault) none e l m h = tt

-- One more, behind the first and others.
pub last_behind : {X E : Type 0} (value : X → Term) (first rest last inner : Term) (As : List Term) (A C : Term) (r : Result X E) → IsFirstPremise As C first rest → last ≡ implied_by A
    → ((Bs : List Term) (B M : Term) → rest ≡ chain Bs (protect M) → last ≡ implied_by B → inner ≡ chain (Bs ++ B ∷ []) (protect M)) → IfOk r (λ u. value u ≡ App first inner)
    → IfOk r (λ u. value u ≡ chain (As ++ A ∷ []) (protect C))
last_behind value first rest last inner As A C (Ok u) p l made h =
    let is : inner ≡ chain (p.others ++ A ∷ []) (protect C) = made p.others A C p.behind l in
    h ∙ ((λ i. App (p.applied i) (is i)) ∙ ap (λ (Bs : List Term). chain (Bs ++ A ∷ []) (protect C)) (sym p.stand))
last_behind value first rest last inner As A C (Err fault) p l made h = tt

-- The premise is taken out where it is the first.
heads : (A D : Term) (xs ys : List Term) → A ∷ xs ≡ D ∷ ys → A ≡ D
heads A D xs ys e = cc

tails : (A D : Term) (xs ys : List Term) → A ∷ xs ≡ D ∷ ys → xs ≡ ys
tails A D xs ys e = cc

pub taken_first : {E : Type 0} (first rest : Term) (front : List Term) (A : Term) (others : List Term) (C : Term) (place : ℕ) (r : Result Taken E) → IsFirstPremise (front ++ A ∷ others) C first rest
    → place ≡ length front → place ≡ 0 → IfOk r (λ taken. taken.first.value ≡ first) → IfOk r (λ taken. taken.rest.value ≡ rest) → IfOk r (IsTaken A (front ++ others) C)
taken_first first rest [] A others C place (Ok taken) p count zero h k =
    record { first = h ∙ (p.applied ∙ ap implied_by (sym (heads A p.premise others p.others p.stand))); rest = k ∙ (p.behind ∙ ap (λ (Bs : List Term). chain Bs (protect C)) (sym (tails A p.premise others p.others p.stand))) }
taken_first first rest (B ∷ front) A others C place (Ok taken) p count zero h k = absurd (omega (arith, count, zero))
taken_first first rest front A others C place (Err fault) p count zero h k = tt

-- It is taken out of those behind the first.
pub taken_behind : {E : Type 0} (first rest : Term) (inner : Taken) (front : List Term) (A : Term) (others : List Term) (C : Term) (place : ℕ) (r : Result Taken E) → IsFirstPremise (front ++ A ∷ others) C first rest
    → place ≡ length front → place ≢ 0
    → ((front : List Term) (A : Term) (others : List Term) (C : Term) → rest ≡ chain (front ++ A ∷ others) (protect C) → place - 1 ≡ length front → IsTaken A (front ++ others) C inner)
    → IfOk r (λ taken. taken.first.value ≡ inner.first.value) → IfOk r (λ taken. taken.rest.value ≡ App first inner.rest.value) → IfOk r (IsTaken A (front ++ others) C)
taken_behind first rest inner [] A others C place (Ok taken) p count some made h k = absurd (some count)
taken_behind first rest inner (B ∷ front) A others C place (Ok taken) p count some made h k =
    let behind : rest ≡ chain (front ++ A ∷ others) (protect C) = p.behind ∙ ap (λ (Bs : List Term). chain Bs (protect C)) (sym (tails B p.premise (front ++ A ∷ others) p.others p.stand)) in
    let found = made front A others C behind (omega (arith, count)) in
    record { first = h ∙ found.first; rest = k ∙ (λ i. App ((p.applied ∙ ap implied_by (sym (heads B p.premise (front ++ A ∷ others) p.others p.stand))) i) (found.rest i)) }
taken_behind first rest inner front A others C place (Err fault) p count some made h k = tt

-- What was taken, before what is left.
pub preferred_taken : (taken : Taken) (A : Term) (others : List Term) (C : Term) → IsTaken A others C taken → App taken.first.value taken.rest.value ≡ chain (A ∷ others) (protect C)
preferred_taken taken A others C h = λ i. App (h.first i) (h.rest i)

-- A first premise in place of another.
pub first_replaced : {E : Type 0} (t old rest copy first A B : Term) (r : Result Term E) → t ≡ imp old rest → copy ≡ rest → t ≡ imp A B → IfOk r (λ u. u ≡ imp first copy) → IfOk r (λ u. u ≡ imp first B)
first_replaced t old rest copy first A B (Ok u) d c e h =
    let same : imp old rest ≡ imp A B = sym d ∙ e in
    let conclusions : rest ≡ B = cc in
    h ∙ ap (imp first) (c ∙ conclusions)
first_replaced t old rest copy first A B (Err fault) d c e h = tt
