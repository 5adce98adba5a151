-- Terms without loose bound variables may be lifted and put anywhere.
use Rattle.std.proofs.Common.{ℕ, ◌+◌, ◌<◌, ◌≤◌, arith}
use Rattle.pure_definitions.specs.Terms.Term.{Term, Const, Free, Var, Bound, Abs, App}
use Rattle.pure_definitions.specs.Terms.Bounds.{IsClosedUnder, IsClosed}
use Rattle.pure_definitions.specs.Terms.Conditions.{IsLiftable, IsPuttable}

pub closed-liftable : (by from : ℕ) (t : Term) → IsClosedUnder from t → IsLiftable by from t
closed-liftable by from (Const c T) h = tt
closed-liftable by from (Free x T) h = tt
closed-liftable by from (Var x i T) h = tt
closed-liftable by from (Bound p) h = λ above. absurd (omega arith)
closed-liftable by from (Abs T b) h = closed-liftable by (from + 1) b h
closed-liftable by from (App f a) h = (closed-liftable by from f h.0, closed-liftable by from a h.1)

pub closed-puttable : (n : ℕ) (arg body : Term) → IsClosed arg → IsPuttable n arg body
closed-puttable n arg (Const c T) h = tt
closed-puttable n arg (Free x T) h = tt
closed-puttable n arg (Var x i T) h = tt
closed-puttable n arg (Bound p) h = λ here. closed-liftable n 0 arg h
closed-puttable n arg (Abs T b) h = closed-puttable (n + 1) arg b h
closed-puttable n arg (App f a) h = (closed-puttable n arg f h, closed-puttable n arg a h)
