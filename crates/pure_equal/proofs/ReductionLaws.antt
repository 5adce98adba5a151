-- Redexes and expansions, from their parts.
use Rattle.std.proofs.Common.{◌≡◌, ℕ, ◌+◌, ◌<◌, Bool, true, false, refl, ap, sym, ◌∙◌, subst, arith}
use Rattle.std.specs.Prelude.{nat_lt, if◌then◌else◌}
use borrow.Author.Tests.{ltb-true}
use Rattle.pure_definitions.specs.Types.Typ.{Typ}
use Rattle.pure_definitions.specs.Terms.Term.{Term, Const, Free, Var, Bound, Abs, App}
use Rattle.pure_definitions.specs.Terms.Bounds.{IsClosedUnder, IsClosed, lift_term}
use Rattle.pure_term_laws.proofs.TypingLaws.{lift-closed}
use Rattle.pure_equal.specs.Reduction.{IsApplied, IsNotApplied, IsNoExpansion}

-- A term that is closed under one binder more when it is lifted is closed.
lifted-closed : (n : ℕ) (f : Term) → IsClosedUnder (n + 1) (lift_term 1 n f) → IsClosedUnder n f
lifted-closed n (Const c T) h = tt
lifted-closed n (Free x T) h = tt
lifted-closed n (Var x i T) h = tt
lifted-closed n (Bound p) h = at (nat_lt p n) refl h
  where
    at : (b : Bool) → nat_lt p n ≡ b → IsClosedUnder (n + 1) (if b then Bound p else Bound (p + 1)) → p < n
    at true e k = ltb-true p n e
    at false e k = omega arith
lifted-closed n (Abs T b) h = lifted-closed (n + 1) b h
lifted-closed n (App f a) h = (lifted-closed n f h.0, lifted-closed n a h.1)

-- Of a closed term: where the function under the binder is closed, the term is its expansion; and where it isn't, the term is none.
pub is_expansion : (t g : Term) (T : Typ) → t ≡ Abs T (App g (Bound 0)) → IsClosed g → t ≡ Abs T (App (lift_term 1 0 g) (Bound 0))
is_expansion t g T is closed = is ∙ ap (λ f. Abs T (App f (Bound 0))) (sym (lift-closed 1 0 g closed))

pub is_no_expansion : (t g : Term) → IsClosed t → IsApplied t g → (¬ IsClosed g) → IsNoExpansion t
is_no_expansion t g closed (T, is) loose U f e =
    let same : g ≡ lift_term 1 0 f = cc in
    let under : IsClosedUnder 1 (lift_term 1 0 f) = (let all : IsClosed (Abs U (App (lift_term 1 0 f) (Bound 0))) = subst IsClosed e closed in all.0) in
    let inner = lifted-closed 0 f under in
    loose (subst IsClosed (sym (same ∙ lift-closed 1 0 f inner)) inner)

pub not_applied-no_expansion : (t : Term) → IsNotApplied t → IsNoExpansion t
not_applied-no_expansion t isnt T f e = isnt T (lift_term 1 0 f) e
