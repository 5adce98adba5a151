-- The occurrences of a term's own bound variables stay as they are in what is meant.
use Rattle.std.proofs.Common.{◌≡◌, ◌∙◌, inl, inr, ℕ, ◌+◌, ◌≤◌, false, refl, ap, sym, arith}
use Rattle.std.proofs.lemmas.Bool.Decides.{nat_tests}
use Rattle.std.specs.Prelude.{nat_eq}
use Rattle.pure_definitions.specs.Terms.Term.{Term, Const, Free, Var, Bound, Abs, App}
use Rattle.pure_definitions.specs.Terms.Bounds.{lift_term}
use Rattle.pure_definitions.proofs.LiftLaws.{lifted, lift_term-bound}
use Rattle.pure_norm.specs.Env.{Env, meant_under, meant}
use Rattle.pure_norm.specs.Occurrences.{occurrence_count, deepest_occurrence}
use Rattle.pure_norm.proofs.OccurrenceLemmas.{deepest-none}
use Rattle.pure_norm.proofs.MeantLemmas.{meant-leaf, meant-abs, meant-app, meant-own, meant-out, side}

count-other : (m p : ℕ) → (p ≡ m → ⊥) → occurrence_count m (Bound p) ≡ 0
count-other m p other = let e : nat_eq p m ≡ false = grind (arith, nat_tests) in rw e refl

lifted-other : (m k from p : ℕ) → from ≤ m → m + 1 ≤ from + k → lifted k from p ≡ m → ⊥
lifted-other m k from p low high e = let no : ⊥ = grind (arith, nat_tests) in no

-- A bound variable that is lifted over doesn't occur.
count-lifted : (m k from : ℕ) (t : Term) → from ≤ m → m + 1 ≤ from + k → occurrence_count m (lift_term k from t) ≡ 0
count-lifted m k from (Const c T) low high = refl
count-lifted m k from (Free x T) low high = refl
count-lifted m k from (Var x i T) low high = refl
count-lifted m k from (Bound p) low high = ap (occurrence_count m) (lift_term-bound k from p) ∙ count-other m (lifted k from p) (lifted-other m k from p low high)
count-lifted m k from (Abs T b) low high = count-lifted (m + 1) k (from + 1) b (omega arith) (omega arith)
count-lifted m k from (App f a) low high = let function = count-lifted m k from f low high in let argument = count-lifted m k from a low high in omega arith

-- a bound variable further out
module _ (m n q p : ℕ) (e : Env) (inside : m + 1 ≤ n) (out : p ≡ q + n) where
  stands : meant_under n e (Bound p) ≡ lift_term n 0 (meant e (Bound q))
  stands = ap (λ (r : ℕ). meant_under n e (Bound r)) out ∙ meant-out n e q

  nowhere : occurrence_count m (lift_term n 0 (meant e (Bound q))) ≡ 0
  nowhere = count-lifted m n 0 (meant e (Bound q)) (omega arith) (omega arith)

  not_here : occurrence_count m (Bound p) ≡ 0
  not_here = count-other m p (λ same. let no : ⊥ = omega arith in no)

  count-out : occurrence_count m (meant_under n e (Bound p)) ≡ occurrence_count m (Bound p)
  count-out = ap (occurrence_count m) stands ∙ (nowhere ∙ sym not_here)

  deepest-out : (above : ℕ) → deepest_occurrence m above (meant_under n e (Bound p)) ≡ deepest_occurrence m above (Bound p)
  deepest-out above =
      ap (deepest_occurrence m above) stands
      ∙ (deepest-none m above (lift_term n 0 (meant e (Bound q))) nowhere ∙ sym (deepest-none m above (Bound p) not_here))

pub count-kept : (m n : ℕ) (e : Env) (t : Term) → m + 1 ≤ n → occurrence_count m (meant_under n e t) ≡ occurrence_count m t
count-kept m n e (Const c T) h = ap (occurrence_count m) (meant-leaf n e (Const c T) tt)
count-kept m n e (Free x T) h = ap (occurrence_count m) (meant-leaf n e (Free x T) tt)
count-kept m n e (Var x i T) h = ap (occurrence_count m) (meant-leaf n e (Var x i T) tt)
count-kept m n e (Bound p) h = elim (side n p) [
  | inl own ↦ ap (occurrence_count m) (meant-own n e p own)
  | inr out ↦ count-out m n out.0 p e h out.1
]
count-kept m n e (Abs T b) h = ap (occurrence_count m) (meant-abs n e T b) ∙ count-kept (m + 1) (n + 1) e b (omega arith)
count-kept m n e (App f a) h =
    let function = count-kept m n e f h in
    let argument = count-kept m n e a h in
    let whole = ap (occurrence_count m) (meant-app n e f a) in
    omega arith

pub deepest-kept : (m n above : ℕ) (e : Env) (t : Term) → m + 1 ≤ n → deepest_occurrence m above (meant_under n e t) ≡ deepest_occurrence m above t
deepest-kept m n above e (Const c T) h = ap (deepest_occurrence m above) (meant-leaf n e (Const c T) tt)
deepest-kept m n above e (Free x T) h = ap (deepest_occurrence m above) (meant-leaf n e (Free x T) tt)
deepest-kept m n above e (Var x i T) h = ap (deepest_occurrence m above) (meant-leaf n e (Var x i T) tt)
deepest-kept m n above e (Bound p) h = elim (side n p) [
  | inl own ↦ ap (deepest_occurrence m above) (meant-own n e p own)
  | inr out ↦ deepest-out m n out.0 p e h out.1 above
]
deepest-kept m n above e (Abs T b) h = ap (deepest_occurrence m above) (meant-abs n e T b) ∙ deepest-kept (m + 1) (n + 1) (above + 1) e b (omega arith)
deepest-kept m n above e (App f a) h =
    let function = deepest-kept m n (above + 1) e f h in
    let argument = deepest-kept m n (above + 1) e a h in
    let whole = ap (deepest_occurrence m above) (meant-app n e f a) in
    omega arith
