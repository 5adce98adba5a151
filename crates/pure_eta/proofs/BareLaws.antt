-- Loose bound variables that are lowered at once, after several contractions.
use Rattle.std.proofs.Common.{◌≡◌, ◌⊎◌, inl, inr, ℕ, ◌+◌, ◌<◌, ◌≤◌, Bool, true, false, refl, ap, sym, ◌∙◌, arith}
use Rattle.std.proofs.lemmas.Bool.Decides.{nat_tests}
use Rattle.std.specs.Prelude.{◌-◌, min, nat_eq, nat_lt, if◌then◌else◌}
use Rattle.pure_definitions.specs.Types.Typ.{Typ}
use Rattle.pure_definitions.specs.Terms.Term.{Term, Const, Free, Var, Bound, Abs, App}
use Rattle.pure_eta.specs.EtaForm.{is_loose, lower_term, contracted, lower_by, Lacks}
use Rattle.pure_eta.proofs.LooseLaws.{neither}

-- Lowering by 0 changes nothing.
pub lower_by-zero : (n : ℕ) (t : Term) → lower_by 0 n t ≡ t
lower_by-zero n (Const c T) = refl
lower_by-zero n (Free x T) = refl
lower_by-zero n (Var x i T) = refl
lower_by-zero n (Bound p) = by (nat_lt p n)
  where
    by : (b : Bool) → (if b then Bound p else Bound (p - 0)) ≡ Bound p
    by true = refl
    by false = ap Bound (omega arith)
lower_by-zero n (Abs T b) = ap (Abs T) (lower_by-zero (n + 1) b)
lower_by-zero n (App f a) = λ l. App (lower_by-zero n f l) (lower_by-zero n a l)

pub lacks-none : (n : ℕ) (t : Term) → Lacks n 0 t
lacks-none n (Const c T) = tt
lacks-none n (Free x T) = tt
lacks-none n (Var x i T) = tt
lacks-none n (Bound p) = by (nat_lt p n) refl
  where
    by : (b : Bool) → nat_lt p n ≡ b → (p < n) ⊎ (n + 0 ≤ p)
    by true e = inl (grind (arith, nat_tests))
    by false e = inr (grind (arith, nat_tests))
lacks-none n (Abs T b) = lacks-none (n + 1) b
lacks-none n (App f a) = (lacks-none n f, lacks-none n a)

pub lacks-less : (n k m : ℕ) (t : Term) → m ≤ k → Lacks n k t → Lacks n m t
lacks-less n k m (Const c T) le h = tt
lacks-less n k m (Free x T) le h = tt
lacks-less n k m (Var x i T) le h = tt
lacks-less n k m (Bound p) le (inl h) = inl h
lacks-less n k m (Bound p) le (inr h) = inr (omega arith)
lacks-less n k m (Abs T b) le h = lacks-less (n + 1) k m b le h
lacks-less n k m (App f a) le h = (lacks-less n k m f le h.0, lacks-less n k m a le h.1)

lowered-place : (n k p : ℕ) → nat_lt p n ≡ false → lower_by k n (Bound p) ≡ Bound (p - k)
lowered-place n k p e = rw e refl

kept-place : (n k p : ℕ) → nat_lt p n ≡ true → lower_by k n (Bound p) ≡ Bound p
kept-place n k p e = rw e refl

-- The next that isn't loose isn't when those before it are gone.
pub lowered-free : (n k : ℕ) (t : Term) → Lacks n (k + 1) t → is_loose n (lower_by k n t) ≡ false
lowered-free n k (Const c T) h = refl
lowered-free n k (Free x T) h = refl
lowered-free n k (Var x i T) h = refl
lowered-free n k (Bound p) (inl h) =
    let below : nat_lt p n ≡ true = grind (arith, nat_tests) in
    let other : nat_eq p n ≡ false = grind (arith, nat_tests) in
    ap (is_loose n) (kept-place n k p below) ∙ other
lowered-free n k (Bound p) (inr h) =
    let above : nat_lt p n ≡ false = grind (arith, nat_tests) in
    let other : nat_eq (p - k) n ≡ false = grind (arith, nat_tests) in
    ap (is_loose n) (lowered-place n k p above) ∙ other
lowered-free n k (Abs T b) h = lowered-free (n + 1) k b h
lowered-free n k (App f a) h = rw (lowered-free n k f h.0) (lowered-free n k a h.1)

-- Lowering once more is lowering by one more.
pub lower-again : (n k : ℕ) (t : Term) → Lacks n (k + 1) t → lower_term n (lower_by k n t) ≡ lower_by (k + 1) n t
lower-again n k (Const c T) h = refl
lower-again n k (Free x T) h = refl
lower-again n k (Var x i T) h = refl
lower-again n k (Bound p) (inl h) =
    let below : nat_lt p n ≡ true = grind (arith, nat_tests) in
    let other : nat_lt n p ≡ false = grind (arith, nat_tests) in
    let stays : lower_term n (Bound p) ≡ Bound p = rw other refl in
    ap (lower_term n) (kept-place n k p below) ∙ stays ∙ sym (kept-place n (k + 1) p below)
lower-again n k (Bound p) (inr h) =
    let above : nat_lt p n ≡ false = grind (arith, nat_tests) in
    let other : nat_lt n (p - k) ≡ true = grind (arith, nat_tests) in
    let goes : lower_term n (Bound (p - k)) ≡ Bound (p - k - 1) = rw other refl in
    let same : p - k - 1 ≡ p - (k + 1) = omega arith in
    ap (lower_term n) (lowered-place n k p above) ∙ goes ∙ ap Bound same ∙ sym (lowered-place n (k + 1) p above)
lower-again n k (Abs T b) h = ap (Abs T) (lower-again (n + 1) k b h)
lower-again n k (App f a) h = λ l. App (lower-again n k f h.0 l) (lower-again n k a h.1 l)

-- a contraction whose variable isn't loose
pub contracted-bare : (T : Typ) (f a : Term) (k free : ℕ) → a ≡ Bound 0 → k < free → Lacks 0 free f → contracted T (App (lower_by k 0 f) a) ≡ lower_by (k + 1) 0 f
contracted-bare T f a k free e less h =
    let lacks = lacks-less 0 free (k + 1) f (omega arith) h in
    ap (λ b. contracted T (App (lower_by k 0 f) b)) e ∙ rw (lowered-free 0 k f lacks) (lower-again 0 k f lacks)

-- what both parts of an application lack
pub lacks-app : (n k m : ℕ) (f a : Term) → Lacks n k f → Lacks n m a → Lacks n (min k m) (App f a)
lacks-app n k m f a h g = (lacks-less n k (min k m) f (omega arith) h, lacks-less n m (min k m) a (omega arith) g)

-- Lowering by one, where the place itself isn't loose.
pub lower_by-one : (n : ℕ) (t : Term) → is_loose n t ≡ false → lower_by 1 n t ≡ lower_term n t
lower_by-one n (Const c T) h = refl
lower_by-one n (Free x T) h = refl
lower_by-one n (Var x i T) h = refl
lower_by-one n (Bound p) h = by (nat_lt p n) (nat_lt n p) refl refl
  where
    by : (b c : Bool) → nat_lt p n ≡ b → nat_lt n p ≡ c → (if b then Bound p else Bound (p - 1)) ≡ (if c then Bound (p - 1) else Bound p)
    by true true e f = absurd (let no : ⊥ = grind (arith, nat_tests) in no)
    by true false e f = refl
    by false true e f = refl
    by false false e f = absurd (let other : nat_eq p n ≡ false = h in let no : ⊥ = grind (arith, nat_tests) in no)
lower_by-one n (Abs T b) h = ap (Abs T) (lower_by-one (n + 1) b h)
lower_by-one n (App f a) h = let parts = neither (is_loose n f) (is_loose n a) h in λ l. App (lower_by-one n f parts.0 l) (lower_by-one n a parts.1 l)

-- one contraction
pub contracted-once : (T : Typ) (b f a u : Term) → b ≡ App f a → a ≡ Bound 0 → is_loose 0 f ≡ false → u ≡ lower_by 1 0 f → u ≡ contracted T b
contracted-once T b f a u e own free lowered =
    let same : contracted T (App f (Bound 0)) ≡ lower_term 0 f = rw free refl in
    lowered ∙ lower_by-one 0 f free ∙ sym same ∙ ap (contracted T) (sym (e ∙ ap (App f) own))
