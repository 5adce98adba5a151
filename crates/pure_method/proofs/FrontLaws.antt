-- Each term is read as a prefix and a conclusion, and is stripped as a rule is; so that each proposition is a rule.
use Rattle.std.proofs.Common.{◌≡◌, ◌⊎◌, ℕ, zero, suc, ◌+◌, ◌<◌, List, [], ◌∷◌, Bool, true, false, cond, inl, inr, refl, ap, sym, subst, ◌∙◌, arith}
use Rattle.std.specs.Prelude.{nat_lt, nat_eq}
use Rattle.pure_definitions.specs.Names.{all_name, imp_name}
use Rattle.pure_definitions.specs.Types.Typ.{Typ, prop}
use Rattle.pure_definitions.specs.Terms.Term.{Term, Const, Free, Var, Bound, Abs, App}
use Rattle.pure_definitions.specs.Terms.Bounds.{subst_bound, subst_under}
use Rattle.pure_definitions.specs.Terms.Subst.{term_instance}
use Rattle.pure_eta.proofs.FormLaws.{each_typed_normal_term_has_long_form}
use Rattle.pure_logic.specs.Connectives.{all_typ, imp_typ, all, imp}
use Rattle.pure_logic.specs.Laws.Maps.{raised_typs, raised_terms}
use Rattle.pure_resolve.proofs.UnifyAnswers.TreatmentLaws.{terms_same_or_not}
use Rattle.pure_goal_laws.specs.Prefix.{Item, Parameter, Hypothesis}
use Rattle.pure_resolve.specs.GoalSteps.State.{greatest_index}
use Rattle.pure_resolve.specs.GoalSteps.Reading.{IsConclusion, IsRead, Strips, bare, quantified, supposed}
use Rattle.pure_method.specs.Outcomes.{IsSomeRule}

-- What stands at the front of a term: a quantification, an implication, or neither.
data Front (t : Term) : Type 0 where
  at_all : (T : Typ) (B : Term) → t ≡ all T B → Front t
  at_imp : (A B : Term) → t ≡ imp A B → Front t
  at_end : IsConclusion t → Front t

no_application : (t : Term) → ((f a : Term) → t ≡ App f a → ⊥) → Front t
no_application t h = at_end (record { no_quantification = λ T B e. h (Const all_name (all_typ T)) (Abs T B) e; no_implication = λ A B e. h (App (Const imp_name imp_typ) A) B e })

function-same : (f a g b : Term) → App f a ≡ App g b → f ≡ g
function-same f a g b e = cc

argument-same : (f a g b : Term) → App f a ≡ App g b → a ≡ b
argument-same f a g b e = cc

domain-same : (T U : Typ) (b c : Term) → Abs T b ≡ Abs U c → T ≡ U
domain-same T U b c e = cc

-- a function that is that of quantification, over the type of an argument that is an abstraction; and one that is an implication from a premise
abbrev IsAllOf : (f a : Term) → Type 0
IsAllOf f a = (T : Typ) × (B : Term) × (f ≡ Const all_name (all_typ T)) × (a ≡ Abs T B)

abbrev IsImpFrom : Term → Type 0
IsImpFrom f = (A : Term) × (f ≡ App (Const imp_name imp_typ) A)

all_or_not : (f a : Term) → IsAllOf f a ⊎ ¬ IsAllOf f a
all_or_not f (Abs T b) = elim (terms_same_or_not f (Const all_name (all_typ T))) [
  | inl e ↦ inl (T, b, e, refl)
  | inr n ↦ inr (λ h. n (h.2 ∙ ap (λ (U : Typ). Const all_name (all_typ U)) (sym (domain-same T h.0 b h.1 h.3))))
]
all_or_not f (Const c T) = inr (λ h. let e : Const c T ≡ Abs h.0 h.1 = h.3 in let no : ⊥ = cc in no)
all_or_not f (Free x T) = inr (λ h. let e : Free x T ≡ Abs h.0 h.1 = h.3 in let no : ⊥ = cc in no)
all_or_not f (Var x i T) = inr (λ h. let e : Var x i T ≡ Abs h.0 h.1 = h.3 in let no : ⊥ = cc in no)
all_or_not f (Bound n) = inr (λ h. let e : Bound n ≡ Abs h.0 h.1 = h.3 in let no : ⊥ = cc in no)
all_or_not f (App g b) = inr (λ h. let e : App g b ≡ Abs h.0 h.1 = h.3 in let no : ⊥ = cc in no)

imp_or_not : (f : Term) → IsImpFrom f ⊎ ¬ IsImpFrom f
imp_or_not (App g A) = elim (terms_same_or_not g (Const imp_name imp_typ)) [
  | inl e ↦ inl (A, ap (λ (h : Term). App h A) e)
  | inr n ↦ inr (λ h. n (function-same g A (Const imp_name imp_typ) h.0 h.1))
]
imp_or_not (Const c T) = inr (λ h. let e : Const c T ≡ App (Const imp_name imp_typ) h.0 = h.1 in let no : ⊥ = cc in no)
imp_or_not (Free x T) = inr (λ h. let e : Free x T ≡ App (Const imp_name imp_typ) h.0 = h.1 in let no : ⊥ = cc in no)
imp_or_not (Var x i T) = inr (λ h. let e : Var x i T ≡ App (Const imp_name imp_typ) h.0 = h.1 in let no : ⊥ = cc in no)
imp_or_not (Bound n) = inr (λ h. let e : Bound n ≡ App (Const imp_name imp_typ) h.0 = h.1 in let no : ⊥ = cc in no)
imp_or_not (Abs T b) = inr (λ h. let e : Abs T b ≡ App (Const imp_name imp_typ) h.0 = h.1 in let no : ⊥ = cc in no)

front-application : (f a : Term) → IsAllOf f a ⊎ ¬ IsAllOf f a → IsImpFrom f ⊎ ¬ IsImpFrom f → Front (App f a)
front-application f a (inl h) i = at_all h.0 h.1 (λ j. App (h.2 j) (h.3 j))
front-application f a (inr n) (inl h) = at_imp h.0 a (ap (λ (g : Term). App g a) h.1)
front-application f a (inr n) (inr m) = at_end (record {
  no_quantification = λ T B e. n (T, B, function-same f a (Const all_name (all_typ T)) (Abs T B) e, argument-same f a (Const all_name (all_typ T)) (Abs T B) e);
  no_implication = λ A B e. m (A, function-same f a (App (Const imp_name imp_typ) A) B e);
})

some_front : (t : Term) → Front t
some_front (Const c T) = no_application (Const c T) (λ f a e. let no : ⊥ = cc in no)
some_front (Free x T) = no_application (Free x T) (λ f a e. let no : ⊥ = cc in no)
some_front (Var x i T) = no_application (Var x i T) (λ f a e. let no : ⊥ = cc in no)
some_front (Bound n) = no_application (Bound n) (λ f a e. let no : ⊥ = cc in no)
some_front (Abs T b) = no_application (Abs T b) (λ f a e. let no : ⊥ = cc in no)
some_front (App f a) = front-application f a (all_or_not f a) (imp_or_not f)

-- the count of a term's nodes, without those of types
abbrev nodes : Term → ℕ
nodes (Const c T) = 1
nodes (Free x T) = 1
nodes (Var x i T) = 1
nodes (Bound n) = 1
nodes (Abs T b) = 1 + nodes b
nodes (App f a) = 1 + (nodes f + nodes a)

-- A variable in place of a bound one leaves it as it is.
one-node : (b : Bool) (t u : Term) → nodes t ≡ 1 → nodes u ≡ 1 → nodes (cond b t u) ≡ 1
one-node true t u h k = h
one-node false t u h k = k

nodes-put : (n x i : ℕ) (T : Typ) (b : Term) → nodes (subst_under n (Var x i T) b) ≡ nodes b
nodes-put n x i T (Const c U) = refl
nodes-put n x i T (Free y U) = refl
nodes-put n x i T (Var y j U) = refl
nodes-put n x i T (Bound p) = one-node (nat_lt p n) _ _ refl (one-node (nat_eq p n) _ _ refl refl)
nodes-put n x i T (Abs U b) = ap (λ (m : ℕ). 1 + m) (nodes-put (n + 1) x i T b)
nodes-put n x i T (App f a) = λ j. 1 + (nodes-put n x i T f j + nodes-put n x i T a j)

fewer-all : (n : ℕ) (t : Term) (T : Typ) (B : Term) → t ≡ all T B → nodes t < suc n → nodes B < n
fewer-all n t T B e h = let inside : nodes (all T B) < suc n = subst (λ (u : Term). nodes u < suc n) e h in omega arith

fewer-imp : (n : ℕ) (t A B : Term) → t ≡ imp A B → nodes t < suc n → nodes B < n
fewer-imp n t A B e h = let inside : nodes (imp A B) < suc n = subst (λ (u : Term). nodes u < suc n) e h in omega arith

none_fewer : (m : ℕ) → m < zero → ⊥
none_fewer m h = absurd (omega arith)

next_above : (m : ℕ) → m < suc m
next_above m = omega arith

same_fewer : (m k n : ℕ) → m ≡ k → k < n → m < n
same_fewer m k n e h = omega (arith, e)

abbrev IsSomehowRead : Term → Type 0
IsSomehowRead t = (ps : List Item) × (C : Term) × IsRead t ps C

read-front : (n : ℕ) → ((B : Term) → nodes B < n → IsSomehowRead B) → (t : Term) → nodes t < suc n → Front t → IsSomehowRead t
read-front n read t h (at_all T B e) = let rest = read B (fewer-all n t T B e h) in (Parameter T ∷ rest.0, rest.1, record { stands = e ∙ ap (all T) rest.2.stands; ends = rest.2.ends })
read-front n read t h (at_imp A B e) = let rest = read B (fewer-imp n t A B e h) in (Hypothesis A ∷ rest.0, rest.1, record { stands = e ∙ ap (imp A) rest.2.stands; ends = rest.2.ends })
read-front n read t h (at_end c) = ([], t, record { stands = refl; ends = c })

read-within : (n : ℕ) (t : Term) → nodes t < n → IsSomehowRead t
read-within zero t h = absurd (none_fewer (nodes t) h)
read-within (suc n) t h = read-front n (read-within n) t h (some_front t)

pub some_reading : (t : Term) → (ps : List Item) × (C : Term) × IsRead t ps C
some_reading t = read-within (suc (nodes t)) t (next_above (nodes t))

abbrev IsSomehowStripped : (index name : ℕ) → Term → Type 0
IsSomehowStripped index name t = (As : List Term) × (C : Term) × Strips index name t As C

strip-front : (index n : ℕ) → ((name : ℕ) (B : Term) → nodes B < n → IsSomehowStripped index name B) → (name : ℕ) (t : Term) → nodes t < suc n → Front t → IsSomehowStripped index name t
strip-front index n strip name t h (at_all T B e) =
    let put : Term = subst_bound B (Var name index T) in
    let rest = strip (name + 1) put (same_fewer (nodes put) (nodes B) n (nodes-put 0 name index T B) (fewer-all n t T B e h)) in
    (rest.0, rest.1, subst (λ (u : Term). Strips index name u rest.0 rest.1) (sym e) (quantified rest.2))
strip-front index n strip name t h (at_imp A B e) =
    let rest = strip name B (fewer-imp n t A B e h) in
    (A ∷ rest.0, rest.1, subst (λ (u : Term). Strips index name u (A ∷ rest.0) rest.1) (sym e) (supposed rest.2))
strip-front index n strip name t h (at_end c) = ([], t, bare c)

strip-within : (index n name : ℕ) (t : Term) → nodes t < n → IsSomehowStripped index name t
strip-within index zero name t h = absurd (none_fewer (nodes t) h)
strip-within index (suc n) name t h = strip-front index n (strip-within index n) name t h (some_front t)

some_stripping : (index name : ℕ) (t : Term) → IsSomehowStripped index name t
some_stripping index name t = strip-within index (suc (nodes t)) name t (next_above (nodes t))

pub some_rule : IsSomeRule
some_rule Q goal fact is normal =
    let form = each_typed_normal_term_has_long_form fact.prop prop is.typed normal in
    let by : ℕ = greatest_index goal + 1 in
    let stripped = some_stripping (greatest_index goal + greatest_index fact + 2) 0 (term_instance (raised_typs by) (raised_terms by) form.0) in
    (stripped.0, stripped.1, record { form = form.0; long = form.1; strips = stripped.2 })
