-- Bound variables: which are loose, lifting, putting a term for bound variable 0, and abstraction over a variable (Isabelle/Isar Implementation manual, section 2.2).
use Rattle.std.specs.Prelude.{◌≡◌, ◌⊎◌, ℕ, ◌+◌, ◌-◌, ◌<◌, nat_lt, nat_eq, if◌then◌else◌}
use Rattle.pure_definitions.specs.Terms.Term.{Term, Const, Free, Var, Bound, Abs, App, term_eq}

-- Under n binders no bound variable is loose: each stands for one of these binders or for one of the term's own.
abbrev pub IsClosedUnder : ℕ → Term → Type 0
IsClosedUnder n (Const c T) = Unit {0}
IsClosedUnder n (Free x T) = Unit {0}
IsClosedUnder n (Var x i T) = Unit {0}
IsClosedUnder n (Bound p) = p < n
IsClosedUnder n (Abs T b) = IsClosedUnder (n + 1) b
IsClosedUnder n (App f a) = IsClosedUnder n f × IsClosedUnder n a

-- The term has no loose bound variable.
abbrev pub IsClosed : Term → Type 0
IsClosed t = IsClosedUnder 0 t

-- the term with `by` added to each loose bound variable at or above `from`
abbrev pub lift_term : (by from : ℕ) → Term → Term
lift_term by from (Const c T) = Const c T
lift_term by from (Free x T) = Free x T
lift_term by from (Var x i T) = Var x i T
lift_term by from (Bound p) = if nat_lt p from then Bound p else Bound (p + by)
lift_term by from (Abs T b) = Abs T (lift_term by (from + 1) b)
lift_term by from (App f a) = App (lift_term by from f) (lift_term by from a)

-- what bound variable p of the body becomes under n binders of the body
abbrev pub place_at : ℕ → Term → ℕ → Term
place_at n arg p = if nat_lt p n then Bound p else (if nat_eq p n then lift_term n 0 arg else Bound (p - 1))

-- Under n binders of the body: their own bound variables stay, the next becomes the argument, lifted over them, and those above it are lowered by one.
abbrev pub subst_under : ℕ → Term → Term → Term
subst_under n arg (Const c T) = Const c T
subst_under n arg (Free x T) = Free x T
subst_under n arg (Var x i T) = Var x i T
subst_under n arg (Bound p) = place_at n arg p
subst_under n arg (Abs T b) = Abs T (subst_under (n + 1) arg b)
subst_under n arg (App f a) = App (subst_under n arg f) (subst_under n arg a)

-- the body with the argument in place of bound variable 0, and the other loose bound variables lowered by one
abbrev pub subst_bound : (body arg : Term) → Term
subst_bound body arg = subst_under 0 arg body

-- Under n binders of the term: each occurrence of the variable becomes the bound variable n, and the loose bound variables are raised by one to make room.
abbrev pub bind_under : ℕ → Term → Term → Term
bind_under n v (Const c T) = Const c T
bind_under n v (Free x T) = if term_eq v (Free x T) then Bound n else Free x T
bind_under n v (Var x i T) = if term_eq v (Var x i T) then Bound n else Var x i T
bind_under n v (Bound p) = if nat_lt p n then Bound p else Bound (p + 1)
bind_under n v (Abs T b) = Abs T (bind_under (n + 1) v b)
bind_under n v (App f a) = App (bind_under n v f) (bind_under n v a)

-- the abstraction of a term over a fixed or schematic variable; it is asked of no other term
abbrev pub abstract_over : (t variable : Term) → Term
abstract_over t (Free x T) = Abs T (bind_under 0 (Free x T) t)
abstract_over t (Var x i T) = Abs T (bind_under 0 (Var x i T) t)
abstract_over t _ = t

-- Some subtree of the term is v as it stands.
abbrev pub Occurs : (v t : Term) → Type 0
Occurs v (Abs T b) = (v ≡ Abs T b) ⊎ Occurs v b
Occurs v (App f a) = (v ≡ App f a) ⊎ Occurs v f ⊎ Occurs v a
Occurs v t = v ≡ t
