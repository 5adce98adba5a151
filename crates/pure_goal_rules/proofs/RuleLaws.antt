-- Facts as rules: variables put for quantified ones, and fronts stripped.
use Rattle.std.proofs.Common.{◌≡◌, ◌≢◌, ℕ, ◌+◌, ◌-◌, ◌<◌, ◌≤◌, Bool, true, false, List, [], ◌∷◌, ◌++◌, Result, Ok, Err, IfOk, refl, ap, sym, subst, ◌∙◌, arith, append_assoc}
use Rattle.std.specs.Prelude.{if◌then◌else◌, nat_lt, nat_eq}
use Rattle.std.proofs.lemmas.Bool.Decides.{nat_tests}
use Rattle.pure_definitions.specs.Types.Typ.{Typ}
use Rattle.pure_definitions.specs.Terms.Term.{Term, Const, Free, Var, Bound, Abs, App}
use Rattle.pure_definitions.specs.Terms.Bounds.{lift_term, place_at, subst_under, subst_bound}
use Rattle.pure_definitions.specs.Terms.Conditions.{IsVariable}
use Rattle.pure_definitions.specs.Terms.Typing.{node_count}
use Rattle.pure_definitions.specs.Terms.Subst.{term_instance}
use Rattle.pure_definitions.specs.Reduction.Eta.{IsLongForm}
use Rattle.pure_logic.specs.Connectives.{all, imp}
use Rattle.pure_logic.specs.Derivable.{Theorem}
use Rattle.pure_logic.specs.Laws.Maps.{raised_typs, raised_terms}
use Rattle.pure_theorem.specs.Shapes.{IsNoImplication}
use Rattle.pure_goal_steps.specs.State.{greatest_index}
use Rattle.pure_goal_steps.specs.Reading.{Strips, bare, quantified, supposed, IsRuleOf}
use Rattle.pure_goal_rules.specs.Shown.{IsNoQuantified}
use Rattle.pure_goal_rules.specs.Rules.{IsStrippedOn}

pub variable-lift : (v : Term) (by from : ℕ) → IsVariable v → lift_term by from v ≡ v
variable-lift (Free x T) by from h = refl
variable-lift (Var x i T) by from h = refl
variable-lift (Const c T) by from h = absurd h
variable-lift (Bound p) by from h = absurd h
variable-lift (Abs T b) by from h = absurd h
variable-lift (App f a) by from h = absurd h

variable-count : (v : Term) → IsVariable v → node_count v ≡ 1
variable-count (Free x T) h = refl
variable-count (Var x i T) h = refl
variable-count (Const c T) h = absurd h
variable-count (Bound p) h = absurd h
variable-count (Abs T b) h = absurd h
variable-count (App f a) h = absurd h

choice-count : (b : Bool) (t u : Term) → node_count t ≡ 1 → node_count u ≡ 1 → node_count (if b then t else u) ≡ 1
choice-count true t u h k = h
choice-count false t u h k = k

place-count : (n p : ℕ) (v : Term) → IsVariable v → node_count (place_at n v p) ≡ 1
place-count n p v h =
    choice-count (nat_lt p n) (Bound p) (if nat_eq p n then lift_term n 0 v else Bound (p - 1)) refl
    (choice-count (nat_eq p n) (lift_term n 0 v) (Bound (p - 1)) (ap node_count (variable-lift v n 0 h) ∙ variable-count v h) refl)

-- What holds of an answer.
pub ok_map : {X E : Type 0} (P R : X → Type 0) → ((x : X) → P x → R x) → (r : Result X E) → IfOk r P → IfOk r R
ok_map P R f (Ok x) h = f x h
ok_map P R f (Err e) h = tt

-- A variable put for a bound one leaves the count of nodes.
pub put-count : (n : ℕ) (v t : Term) → IsVariable v → node_count (subst_under n v t) ≡ node_count t
put-count n v (Const c T) h = refl
put-count n v (Free x T) h = refl
put-count n v (Var x i T) h = refl
put-count n v (Bound p) h = place-count n p v h
put-count n v (Abs T b) h = ap (λ k. 1 + k) (put-count (n + 1) v b h)
put-count n v (App f a) h = λ i. 1 + (put-count n v f h i + put-count n v a h i)

-- What a place becomes.
pub place-same : (n p : ℕ) (v : Term) → IsVariable v → p ≡ n → place_at n v p ≡ v
place-same n p v h e = grind (arith, nat_tests, variable-lift v n 0 h)

pub place-below : (n p : ℕ) (v : Term) → p < n → place_at n v p ≡ Bound p
place-below n p v l = grind (arith, nat_tests)

pub place-above : (n p : ℕ) (v : Term) → n ≤ p → p ≢ n → place_at n v p ≡ Bound (p - 1)
place-above n p v l d = grind (arith, nat_tests)

-- The rule is stripped premise by premise.
pub strip-end : (index name : ℕ) (t u : Term) (old : List Term) → IsNoImplication t → IsNoQuantified t → u ≡ t → IsStrippedOn index name t old old u
strip-end index name t u old other none e =
    subst (λ (C : Term). IsStrippedOn index name t old old C) (sym e)
    (record { further = []; are = nothing-more old; strips = bare (record { no_quantification = none; no_implication = other }) })
  where
    nothing-more : (xs : List Term) → xs ≡ xs ++ []
    nothing-more [] = refl
    nothing-more (x ∷ xs) = ap (λ (ys : List Term). x ∷ ys) (nothing-more xs)

pub strip-premise : (index name : ℕ) (t A rest B : Term) (old mid new : List Term) (C : Term) → t ≡ imp A rest → B ≡ A → mid ≡ old ++ B ∷ [] → IsStrippedOn index name rest mid new C → IsStrippedOn index name t old new C
strip-premise index name t A rest B old mid new C e d m s =
    subst (λ (u : Term). IsStrippedOn index name u old new C) (sym e) (record {
      further = A ∷ s.further;
      are = s.are ∙ (ap (λ (xs : List Term). xs ++ s.further) (m ∙ ap (λ (D : Term). old ++ D ∷ []) d) ∙ append_assoc old (A ∷ []) s.further);
      strips = supposed s.strips;
    })

pub strip-variable : (index name next : ℕ) (t : Term) (T : Typ) (B rest : Term) (old new : List Term) (C : Term) → t ≡ all T B → next ≡ name + 1 → rest ≡ subst_bound B (Var name index T) → IsStrippedOn index next rest old new C → IsStrippedOn index name t old new C
strip-variable index name next t T B rest old new C e n r s =
    subst (λ (u : Term). IsStrippedOn index name u old new C) (sym e)
    (record { further = s.further; are = s.are; strips = quantified (subst (λ (k : ℕ × Term). Strips index k.0 k.1 s.further C) (λ i. (n i, r i)) s.strips) })

pub specialised-count : (t : Term) (T : Typ) (B rest : Term) (name index : ℕ) → t ≡ all T B → rest ≡ subst_bound B (Var name index T) → node_count rest < node_count t
specialised-count t T B rest name index e r =
    let same : node_count rest ≡ node_count B = ap node_count r ∙ put-count 0 (Var name index T) B tt in
    let whole = ap node_count e in
    omega (arith, same, whole)

-- The fact as a rule, from its parts.
pub rule_is : (s fact : Theorem) (goal index above by : ℕ) → goal ≡ greatest_index s → index ≡ greatest_index fact → above ≡ goal + index + 2 → by ≡ goal + 1 → (own form apart : Term) → own ≡ fact.prop → IsLongForm own form → apart ≡ term_instance (raised_typs by) (raised_terms by) form
    → (old new : List Term) → old ≡ [] → (C : Term) → IsStrippedOn above 0 apart old new C → IsRuleOf s fact new C
rule_is s fact goal index above by g i a b own form apart o long r old new e C strips =
    let stripped : Strips above 0 apart new C = subst (λ (As : List Term). Strips above 0 apart As C) (sym (strips.are ∙ ap (λ (As : List Term). As ++ strips.further) e)) strips.strips in
    let raised : by ≡ greatest_index s + 1 = b ∙ ap (λ (n : ℕ). n + 1) g in
    let top : above ≡ greatest_index s + greatest_index fact + 2 = a ∙ (λ j. g j + i j + 2) in
    record {
      form = form;
      long = subst (λ (A : Term). IsLongForm A form) o long;
      strips = subst (λ (k : ℕ × Term). Strips k.0 0 k.1 new C) (λ j. (top j, (r ∙ ap (λ (n : ℕ). term_instance (raised_typs n) (raised_terms n) form) raised) j)) stripped;
    }
