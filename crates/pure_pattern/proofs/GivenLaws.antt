-- Which variables stand in pairs.
use Rattle.std.proofs.Common.{◌≡◌, ◌∙◌, ℕ, ◌+◌, ◌<◌, ◌≤◌, inl, inr, List, [], ◌∷◌, ◌++◌, length, get_or, take, drop, Bool, true, false, ◌||◌, ap, refl, sym, arith}
use Rattle.std.proofs.lemmas.List.{append_assoc, append-nil}
use Rattle.std.specs.Prelude.{if◌then◌else◌}
use Rattle.std.specs.List.{list_any}
use Rattle.pure_text.specs.Lists.{Each}
use Rattle.pure_text.proofs.ListLaws.{split_at}
use Rattle.pure_text.proofs.LoopLaws.{longer_by}
use Rattle.pure_definitions.specs.Types.Typ.{Typ}
use Rattle.pure_definitions.specs.Terms.Term.{Term, Const, Free, Var, Bound, Abs, App, term_eq}
use Rattle.pure_definitions.specs.Terms.Subst.{TermBind, term_variable}
use Rattle.pure_definitions.specs.Terms.Measures.{term_index_above}
use Rattle.pure_definitions.specs.Models.Equality.{term_eq-same}
use Rattle.pure_logic.specs.Derivable.{Pair}
use Rattle.pure_unify_definitions.specs.Fronts.{variables, pair_variables}
use Rattle.pure_unify_final.specs.Laws.{HasVariablesUpTo, AreVariablesUpTo}
use Rattle.pure_pattern_laws.specs.Steps.{given_binds}
use Rattle.pure_pattern.specs.Given.{stands_in_sides}

pub any-joined : {A : Type 0} (test : A → Bool) (xs ys : List A) → list_any test (xs ++ ys) ≡ (list_any test xs || list_any test ys)
any-joined test [] ys = refl
any-joined test (x ∷ xs) ys = ap (λ b. test x || b) (any-joined test xs ys) ∙ by_cases (test x)
  where
    by_cases : (b : Bool) → (b || (list_any test xs || list_any test ys)) ≡ ((b || list_any test xs) || list_any test ys)
    by_cases true = refl
    by_cases false = refl

either-false : (a b : Bool) → a ≡ false → b ≡ false → (a || b) ≡ false
either-false a b e f = ap (λ c. c || b) e ∙ f

any-none : {A : Type 0} (test : A → Bool) (xs ys : List A) → list_any test xs ≡ false → list_any test ys ≡ false → list_any test (xs ++ ys) ≡ false
any-none test xs ys e f = any-joined test xs ys ∙ either-false (list_any test xs) (list_any test ys) e f

index-same : (x i y j : ℕ) (T U : Typ) → Var x i T ≡ Var y j U → i ≡ j
index-same x i y j T U e = cc

-- Variables of different indexes.
other-index : (x i y j : ℕ) (T U : Typ) → (¬ (i ≡ j)) → list_any (term_eq (Var x i T)) (Var y j U ∷ []) ≡ false
other-index x i y j T U n = by_cases (term_eq (Var x i T) (Var y j U)) refl
  where
    by_cases : (b : Bool) → term_eq (Var x i T) (Var y j U) ≡ b → (b || false) ≡ false
    by_cases true e = absurd (n (index-same x i y j T U (term_eq-same (Var x i T) (Var y j U) e)))
    by_cases false e = refl

pub low-none : (x i : ℕ) (T : Typ) (t : Term) → term_index_above t ≤ i → list_any (term_eq (Var x i T)) (variables t) ≡ false
low-none x i T (Const c U) h = refl
low-none x i T (Free y U) h = refl
low-none x i T (Var y j U) h = other-index x i y j T U (λ e. omega arith)
low-none x i T (Bound p) h = refl
low-none x i T (Abs U b) h = low-none x i T b (omega arith)
low-none x i T (App f a) h = any-none (term_eq (Var x i T)) (variables f) (variables a) (low-none x i T f (omega arith)) (low-none x i T a (omega arith))

none-above : (n x i : ℕ) (T : Typ) → n < i → (t : Term) → HasVariablesUpTo n t → list_any (term_eq (Var x i T)) (variables t) ≡ false
none-above n x i T less (Const c U) h = refl
none-above n x i T less (Free y U) h = refl
none-above n x i T less (Var y j U) h = other-index x i y j T U (λ e. (let low = h y j U refl in omega arith))
none-above n x i T less (Bound p) h = refl
none-above n x i T less (Abs U b) h = none-above n x i T less b (λ y j V o. h y j V (inr o))
none-above n x i T less (App f a) h =
    any-none (term_eq (Var x i T)) (variables f) (variables a) (none-above n x i T less f (λ y j V o. h y j V (inr (inl o)))) (none-above n x i T less a (λ y j V o. h y j V (inr (inr o))))

pub none-above_pairs : (n x i : ℕ) (T : Typ) → n < i → (ps : List Pair) → Each (AreVariablesUpTo n) ps → list_any (term_eq (Var x i T)) (pair_variables ps) ≡ false
none-above_pairs n x i T less [] h = refl
none-above_pairs n x i T less (p ∷ ps) h =
    any-none (term_eq (Var x i T)) (variables p.left) (variables p.right ++ pair_variables ps) (none-above n x i T less p.left h.0.0)
    (any-none (term_eq (Var x i T)) (variables p.right) (pair_variables ps) (none-above n x i T less p.right h.0.1) (none-above_pairs n x i T less ps h.1))

-- The pairs as far as a loop has come.
pairs-joined : (ps qs : List Pair) → pair_variables (ps ++ qs) ≡ pair_variables ps ++ pair_variables qs
pairs-joined [] qs = refl
pairs-joined (p ∷ ps) qs =
    ap (λ us. variables p.left ++ (variables p.right ++ us)) (pairs-joined ps qs)
    ∙ (ap (λ us. variables p.left ++ us) (sym (append_assoc (variables p.right) (pair_variables ps) (pair_variables qs))) ∙ sym (append_assoc (variables p.left) (variables p.right ++ pair_variables ps) (pair_variables qs)))

one-pair : (v : Term) (p : Pair) → list_any (term_eq v) (pair_variables (p ∷ [])) ≡ stands_in_sides v p
one-pair v p = any-joined (term_eq v) (variables p.left) (variables p.right ++ []) ∙ ap (λ us. list_any (term_eq v) (variables p.left) || list_any (term_eq v) us) (append-nil (variables p.right))

any-pairs : (v : Term) (ps qs : List Pair) → list_any (term_eq v) (pair_variables (ps ++ qs)) ≡ (list_any (term_eq v) (pair_variables ps) || list_any (term_eq v) (pair_variables qs))
any-pairs v ps qs = ap (list_any (term_eq v)) (pairs-joined ps qs) ∙ any-joined (term_eq v) (pair_variables ps) (pair_variables qs)

pub none-turn : (v : Term) (ps : List Pair) (i : ℕ) (p : Pair) → i < length ps → p ≡ get_or ps i p → list_any (term_eq v) (pair_variables (take i ps)) ≡ false → stands_in_sides v p ≡ false → list_any (term_eq v) (pair_variables (take (i + 1) ps)) ≡ false
none-turn v ps i p less read none lacks =
    ap (λ qs. list_any (term_eq v) (pair_variables qs)) (longer_by ps i p less read)
    ∙ (any-pairs v (take i ps) (p ∷ []) ∙ either-false (list_any (term_eq v) (pair_variables (take i ps))) (list_any (term_eq v) (pair_variables (p ∷ []))) none (one-pair v p ∙ lacks))

right-true : (a b : Bool) → b ≡ true → (a || b) ≡ true
right-true true b e = refl
right-true false b e = e

pub some-turn : (v : Term) (ps : List Pair) (i : ℕ) (p : Pair) → i < length ps → p ≡ get_or ps i p → stands_in_sides v p ≡ true → list_any (term_eq v) (pair_variables ps) ≡ true
some-turn v ps i p less read stands =
    let test = λ (qs : List Pair). list_any (term_eq v) (pair_variables qs) in
    let rest = drop (i + 1) ps in
    ap test (split_at ps i p less read)
    ∙ (any-pairs v (take i ps) (p ∷ rest)
    ∙ right-true (test (take i ps)) (test (p ∷ rest)) (any-pairs v (p ∷ []) rest ∙ (ap (λ b. b || test rest) (one-pair v p ∙ stands))))

-- The entries as far as a loop has come.
given-split : (ps : List Pair) (b : TermBind) (rest : List TermBind) → given_binds ps (b ∷ rest) ≡ given_binds ps (b ∷ []) ++ given_binds ps rest
given-split ps b rest = by_cases (list_any (term_eq (term_variable b)) (pair_variables ps))
  where
    by_cases : (test : Bool) → (if test then (b ∷ given_binds ps rest) else given_binds ps rest) ≡ (if test then (b ∷ []) else []) ++ given_binds ps rest
    by_cases true = refl
    by_cases false = refl

pub given-more : (ps : List Pair) (made left rest whole : List TermBind) (b : TermBind) → made ++ given_binds ps left ≡ whole → left ≡ b ∷ rest → (made ++ given_binds ps (b ∷ [])) ++ given_binds ps rest ≡ whole
given-more ps made left rest whole b e is =
    append_assoc made (given_binds ps (b ∷ [])) (given_binds ps rest) ∙ (ap (λ zs. made ++ zs) (sym (ap (given_binds ps) is ∙ given-split ps b rest)) ∙ e)

pub given-one : (ps : List Pair) (made : List TermBind) (b : TermBind) → list_any (term_eq (term_variable b)) (pair_variables ps) ≡ true → made ++ b ∷ [] ≡ made ++ given_binds ps (b ∷ [])
given-one ps made b test = rw test refl

pub given-none : (ps : List Pair) (made : List TermBind) (b : TermBind) → list_any (term_eq (term_variable b)) (pair_variables ps) ≡ false → made ≡ made ++ given_binds ps (b ∷ [])
given-none ps made b test = rw test (sym (append-nil made))
