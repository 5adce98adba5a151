-- What the kept measure of loose bound variables tells: a part in which none is loose at a place or above stays as it is.
use Rattle.std.proofs.Common.{◌≡◌, inl, ℕ, ◌+◌, ◌<◌, ◌≤◌, true, false, refl, ap, arith}
use Rattle.std.proofs.lemmas.Bool.Decides.{nat_tests}
use Rattle.std.specs.Prelude.{nat_eq, nat_lt}
use Rattle.pure_definitions.specs.Terms.Term.{Term, Const, Free, Var, Bound, Abs, App}
use Rattle.pure_definitions.specs.Terms.Measures.{loose_above}
use Rattle.pure_eta.specs.EtaForm.{is_loose, lower_by, Lacks}

-- Lowering from a place above all loose bound variables changes nothing.
pub lower_by-stays : (k n : ℕ) (t : Term) → loose_above t ≤ n → lower_by k n t ≡ t
lower_by-stays k n (Const c T) h = refl
lower_by-stays k n (Free x T) h = refl
lower_by-stays k n (Var x i T) h = refl
lower_by-stays k n (Bound p) h = let below : nat_lt p n ≡ true = grind (arith, nat_tests) in rw below refl
lower_by-stays k n (Abs T b) h = ap (Abs T) (lower_by-stays k (n + 1) b (omega arith))
lower_by-stays k n (App f a) h = λ l. App (lower_by-stays k n f (omega arith) l) (lower_by-stays k n a (omega arith) l)

-- None of the bound variables from there on is loose.
pub lacks-above : (n k : ℕ) (t : Term) → loose_above t ≤ n → Lacks n k t
lacks-above n k (Const c T) h = tt
lacks-above n k (Free x T) h = tt
lacks-above n k (Var x i T) h = tt
lacks-above n k (Bound p) h = inl (omega arith)
lacks-above n k (Abs T b) h = lacks-above (n + 1) k b (omega arith)
lacks-above n k (App f a) h = (lacks-above n k f (omega arith), lacks-above n k a (omega arith))

-- Nor is the one of that place.
pub not_loose-above : (n : ℕ) (t : Term) → loose_above t ≤ n → is_loose n t ≡ false
not_loose-above n (Const c T) h = refl
not_loose-above n (Free x T) h = refl
not_loose-above n (Var x i T) h = refl
not_loose-above n (Bound p) h = let other : nat_eq p n ≡ false = grind (arith, nat_tests) in other
not_loose-above n (Abs T b) h = not_loose-above (n + 1) b (omega arith)
not_loose-above n (App f a) h = rw (not_loose-above n f (omega arith)) (not_loose-above n a (omega arith))
