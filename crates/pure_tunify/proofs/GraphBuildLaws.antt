-- How a graph of types grows by the nodes of one more type.
use Rattle.std.proofs.Common.{◌≡◌, ℕ, zero, suc, ◌+◌, ◌<◌, ◌≤◌, List, [], ◌∷◌, ◌++◌, length, take, take_all, get_or, Some, inl, inr, ◌⊎◌, refl, ap, sym, subst, ◌∙◌}
use Rattle.std.specs.List.{slice_get}
use Rattle.std.proofs.lemmas.Option.{slice_get_within, same_Some, none-some}
use Rattle.pure_text.specs.Lists.{Each}
use Rattle.pure_text.proofs.LoopLaws.{longer_by}
use Rattle.pure_definitions.specs.Types.Typ.{Typ, TFree, TVar, Con, Typs, none, also, typs_of}
use Rattle.pure_tunify.specs.Graphs.{Part, fixed, variable, made, StandsFor, StandForEach}
use Rattle.pure_tunify.specs.GraphCode.{IsPut, IsGrown, IsAdded, IsMadeAt}

pub grown_on : (a b c : List Part) → IsGrown a b → IsGrown b c → IsGrown a c
grown_on a b c g h = record { keeps = λ i p at. h.keeps i p (g.keeps i p at); before = λ w. h.before (g.before w) }

-- A node stands for its type where there are more.
mutual
  pub stands_on : (a b : List Part) → IsGrown a b → (i : ℕ) (t : Typ) → StandsFor a i t → StandsFor b i t
  stands_on a b g i (TFree x s) at = g.keeps i (fixed x s) at
  stands_on a b g i (TVar x k s) at = g.keeps i (variable x k s) at
  stands_on a b g i (Con k ts) at = (at.0, g.keeps i (made k at.0) at.1, stand_on a b g at.0 ts at.2)

  stand_on : (a b : List Part) → IsGrown a b → (is : List ℕ) (ts : Typs) → StandForEach a is ts → StandForEach b is ts
  stand_on a b g [] none each = tt
  stand_on a b g [] (also t ts) each = absurd each
  stand_on a b g (i ∷ is) none each = absurd each
  stand_on a b g (i ∷ is) (also t ts) each = (stands_on a b g i t each.0, stand_on a b g is ts each.1)

put_old : (old : List Part) (p q : Part) (i : ℕ) → slice_get old i ≡ Some q → slice_get (old ++ p ∷ []) i ≡ Some q
put_old [] p q zero e = absurd (none-some q e)
put_old [] p q (suc i) e = absurd (none-some q e)
put_old (r ∷ old) p q zero e = e
put_old (r ∷ old) p q (suc i) e = put_old old p q i e

put_new : (old : List Part) (p : Part) → slice_get (old ++ p ∷ []) (length old) ≡ Some p
put_new [] p = refl
put_new (r ∷ old) p = put_new old p

put_cases : (old : List Part) (p q : Part) (i : ℕ) → slice_get (old ++ p ∷ []) i ≡ Some q → (slice_get old i ≡ Some q) ⊎ ((i ≡ length old) × (p ≡ q))
put_cases [] p q zero e = inr (refl, same_Some p q e)
put_cases [] p q (suc i) e = absurd (none-some q e)
put_cases (r ∷ old) p q zero e = inl e
put_cases (r ∷ old) p q (suc i) e = elim (put_cases old p q i e) [ inl o ↦ inl o | inr n ↦ inr (ap suc n.0, n.1) ]

kids_same : (k l : ℕ) (ks ls : List ℕ) → made k ks ≡ made l ls → ks ≡ ls
kids_same k l ks ls e = cc

-- The node's own arguments stand before it.
abbrev IsBehind : (old : List Part) → Part → Type 0
IsBehind old p = (k : ℕ) (kids : List ℕ) → p ≡ made k kids → Each (λ kid. kid < length old) kids

put_grown : (old : List Part) (p : Part) → IsBehind old p → IsGrown old (old ++ p ∷ [])
put_grown old p behind = record {
  keeps = λ i q at. put_old old p q i at;
  before = λ b i k kids at. elim (put_cases old p (made k kids) i at) [
    | inl o ↦ b i k kids o
    | inr n ↦ subst (λ (m : ℕ). Each (λ kid. kid < m) kids) (sym n.0) (behind k kids n.1)
  ];
}

put_at : (old new : List Part) (p : Part) (i : ℕ) → IsPut old new p i → slice_get new i ≡ Some p
put_at old new p i put = ap (λ xs. slice_get xs i) put.0 ∙ (ap (slice_get (old ++ p ∷ [])) put.1 ∙ put_new old p)

pub made_put : (old new : List Part) (k : ℕ) (kids : List ℕ) (i : ℕ) → IsPut old new (made k kids) i → IsMadeAt old new k kids i
made_put old new k kids i put = record {
  grown = λ below. subst (IsGrown old) (sym put.0) (put_grown old (made k kids) (λ l others e. subst (Each (λ kid. kid < length old)) (kids_same k l kids others e) below));
  stands = put_at old new (made k kids) i put;
}

-- Nodes of the arguments so far.
stand_more : (parts : List Part) (is : List ℕ) (ts : List Typ) (i : ℕ) (t : Typ) → StandForEach parts is (typs_of ts) → StandsFor parts i t → StandForEach parts (is ++ i ∷ []) (typs_of (ts ++ t ∷ []))
stand_more parts [] [] i t each at = (at, tt)
stand_more parts [] (u ∷ ts) i t each at = absurd each
stand_more parts (j ∷ is) [] i t each at = absurd each
stand_more parts (j ∷ is) (u ∷ ts) i t each at = (each.0, stand_more parts is ts i t each.1 at)

pub argument_added : (now new : List Part) (args : List Typ) (n : ℕ) (t : Typ) (is js : List ℕ) (i : ℕ) → StandForEach now is (typs_of (take n args)) → n < length args → t ≡ get_or args n t → IsAdded now new t i → js ≡ is ++ i ∷ []
    → StandForEach new js (typs_of (take (n + 1) args))
argument_added now new args n t is js i each within read added e =
    subst (λ (ts : List Typ). StandForEach new js (typs_of ts)) (sym (longer_by args n t within read))
    (subst (λ (ks : List ℕ). StandForEach new ks (typs_of (take n args ++ t ∷ []))) (sym e)
    (stand_more new is (take n args) i t (stand_on now new added.grown is (typs_of (take n args)) each) added.stands))

node_within : (parts : List Part) (i : ℕ) (t : Typ) → StandsFor parts i t → i < length parts
node_within parts i (TFree x s) at = slice_get_within parts i (fixed x s) at
node_within parts i (TVar x k s) at = slice_get_within parts i (variable x k s) at
node_within parts i (Con k ts) at = slice_get_within parts i (made k at.0) at.1

nodes_within : (parts : List Part) (is : List ℕ) (ts : Typs) → StandForEach parts is ts → Each (λ i. i < length parts) is
nodes_within parts [] ts each = tt
nodes_within parts (i ∷ is) none each = absurd each
nodes_within parts (i ∷ is) (also t ts) each = (node_within parts i t each.0, nodes_within parts is ts each.1)

pub constructor_added : (old now new : List Part) (args : List Typ) (n k : ℕ) (is : List ℕ) (i : ℕ) → IsGrown old now → StandForEach now is (typs_of (take n args)) → length args ≤ n → IsMadeAt now new k is i → IsAdded old new (Con k (typs_of args)) i
constructor_added old now new args n k is i grown each full put =
    let all : StandForEach now is (typs_of args) = subst (λ (ts : List Typ). StandForEach now is (typs_of ts)) (take_all n args full) each in
    let step : IsGrown now new = put.grown (nodes_within now is (typs_of args) all) in
    record { grown = grown_on old now new grown step; stands = (is, put.stands, stand_on now new step is (typs_of args) all) }

-- One more node of the list stands for its type.
pub stand_turn : (parts : List Part) (is : List ℕ) (ts : List Typ) (n i : ℕ) (t : Typ) → n < length is → n < length ts → i ≡ get_or is n i → t ≡ get_or ts n t → StandForEach parts (take n is) (typs_of (take n ts)) → StandsFor parts i t
    → StandForEach parts (take (n + 1) is) (typs_of (take (n + 1) ts))
stand_turn parts is ts n i t within inside read found each at =
    subst (λ (us : List Typ). StandForEach parts (take (n + 1) is) (typs_of us)) (sym (longer_by ts n t inside found))
    (subst (λ (js : List ℕ). StandForEach parts js (typs_of (take n ts ++ t ∷ []))) (sym (longer_by is n i within read)) (stand_more parts (take n is) (take n ts) i t each at))

-- All do.
pub stand_all : (parts : List Part) (is : List ℕ) (ts : List Typ) (n : ℕ) → length is ≤ n → length ts ≤ n → StandForEach parts (take n is) (typs_of (take n ts)) → StandForEach parts is (typs_of ts)
stand_all parts is ts n full all each =
    subst (λ (us : List Typ). StandForEach parts is (typs_of us)) (take_all n ts all) (subst (λ (js : List ℕ). StandForEach parts js (typs_of (take n ts))) (take_all n is full) each)
