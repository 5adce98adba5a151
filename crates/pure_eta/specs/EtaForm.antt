-- The eta-normal form of a term, as a function.
use Rattle.std.specs.Prelude.{◌≡◌, ◌⊎◌, ℕ, zero, ◌+◌, ◌-◌, ◌<◌, ◌≤◌, nat_eq, nat_lt, Bool, false, ◌||◌, if◌then◌else◌}
use Rattle.pure_definitions.specs.Types.Typ.{Typ}
use Rattle.pure_definitions.specs.Terms.Term.{Term, Const, Free, Var, Bound, Abs, App}

-- whether bound variable n is loose in the term
abbrev pub is_loose : ℕ → Term → Bool
is_loose n (Bound p) = nat_eq p n
is_loose n (Abs T b) = is_loose (n + 1) b
is_loose n (App f a) = is_loose n f || is_loose n a
is_loose n _ = false

-- the term with each loose bound variable above n lowered by one
abbrev pub lower_term : ℕ → Term → Term
lower_term n (Const c T) = Const c T
lower_term n (Free x T) = Free x T
lower_term n (Var x i T) = Var x i T
lower_term n (Bound p) = if nat_lt n p then Bound (p - 1) else Bound p
lower_term n (Abs T b) = Abs T (lower_term (n + 1) b)
lower_term n (App f a) = App (lower_term n f) (lower_term n a)

-- the abstraction over T of the body; or, where the body is g applied to the abstraction's own variable and g is without that variable, g alone, lowered
abbrev pub contracted : Typ → Term → Term
contracted T (App g (Bound zero)) = if is_loose 0 g then Abs T (App g (Bound 0)) else lower_term 0 g
contracted T b = Abs T b

-- the term with its abstractions contracted, the innermost first
abbrev pub eta_form : Term → Term
eta_form (Abs T b) = contracted T (eta_form b)
eta_form (App f a) = App (eta_form f) (eta_form a)
eta_form t = t

-- the term with each loose bound variable from n on lowered by k
abbrev pub lower_by : (k n : ℕ) → Term → Term
lower_by k n (Const c T) = Const c T
lower_by k n (Free x T) = Free x T
lower_by k n (Var x i T) = Var x i T
lower_by k n (Bound p) = if nat_lt p n then Bound p else Bound (p - k)
lower_by k n (Abs T b) = Abs T (lower_by k (n + 1) b)
lower_by k n (App f a) = App (lower_by k n f) (lower_by k n a)

-- Of the bound variables from n on, the first k aren't loose in the term.
abbrev pub Lacks : (n k : ℕ) → Term → Type 0
Lacks n k (Bound p) = (p < n) ⊎ (n + k ≤ p)
Lacks n k (Abs T b) = Lacks (n + 1) k b
Lacks n k (App f a) = Lacks n k f × Lacks n k a
Lacks n k _ = Unit {0}

-- u is the term when what has gone from above it is lowered; at least `free` bound variables aren't loose.
pub record IsBare (u term : Term) (gone free : ℕ) : Type 0 where
  pub form : u ≡ lower_by gone 0 term
  pub lacks : Lacks 0 free term
