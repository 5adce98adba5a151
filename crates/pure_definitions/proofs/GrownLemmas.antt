-- The room that is measured before a term is made, and the limits.
use Rattle.std.proofs.Common.{◌≡◌, ◌≢◌, ℕ, ◌+◌, ◌-◌, ◌<◌, ◌≤◌, max, refl, ap, sym, subst, ◌∙◌, arith}
use Rattle.std.proofs.lemmas.Bool.Decides.{nat_tests}
use Rattle.std.specs.Prelude.{Option, Some, None, nat_eq, nat_lt, true, false}
use Rattle.pure_definitions.specs.Terms.Term.{Term, Bound, term_size, term_depth}
use Rattle.pure_definitions.specs.Terms.Bounds.{lift_term, place_at, subst_under}
use Rattle.pure_definitions.specs.Terms.Limits.{cut_off, Leaves}
use Rattle.pure_definitions.proofs.TermLemmas.{term_size-lift, term_depth-lift, term_depth-le-size}

-- Small rooms don't tell a number from what is left of it when it is cut off.
leaves-cut_off : (left room size depth s d : ℕ) (r : Option ℕ) → s ≡ cut_off size → d ≡ cut_off depth → left ≤ 200000 → room ≤ 2000 → Leaves left room s d r → Leaves left room size depth r
leaves-cut_off left room size depth s d None e f few low h = λ fits. let deep : room < d = h (omega arith) in omega arith
leaves-cut_off left room size depth s d (Some rest) e f few low h = let a = h.0 in let b = h.1 in (omega arith, omega arith)

-- The argument, lifted, stands in the place of the bound variable.
place_at-same : (n p : ℕ) (arg : Term) → p ≡ n → place_at n arg p ≡ lift_term n 0 arg
place_at-same n p arg e =
    let below : nat_lt p n ≡ false = grind (arith, nat_tests) in
    let same : nat_eq p n ≡ true = grind (arith, nat_tests) in
    rw (below, same) refl

term_size-put : (n p : ℕ) (arg t : Term) → t ≡ Bound p → p ≡ n → term_size (subst_under n arg t) ≡ term_size arg
term_size-put n p arg t e f = ap (λ u. term_size (subst_under n arg u)) e ∙ (ap term_size (place_at-same n p arg f) ∙ term_size-lift n 0 arg)

term_depth-put : (n p : ℕ) (arg t : Term) → t ≡ Bound p → p ≡ n → term_depth (subst_under n arg t) ≡ term_depth arg
term_depth-put n p arg t e f = ap (λ u. term_depth (subst_under n arg u)) e ∙ (ap term_depth (place_at-same n p arg f) ∙ term_depth-lift n 0 arg)

pub leaves-put : (n p : ℕ) (arg t : Term) (left room s d : ℕ) (r : Option ℕ) → t ≡ Bound p → p ≡ n → s ≡ cut_off (term_size arg) → d ≡ cut_off (term_depth arg) → left ≤ 200000 → room ≤ 2000
    → Leaves left room s d r → Leaves left room (term_size (subst_under n arg t)) (term_depth (subst_under n arg t)) r
leaves-put n p arg t left room s d r e f g k few low h =
    let size : s ≡ cut_off (term_size (subst_under n arg t)) = rw (term_size-put n p arg t e f) g in
    let depth : d ≡ cut_off (term_depth (subst_under n arg t)) = rw (term_depth-put n p arg t e f) k in
    leaves-cut_off left room (term_size (subst_under n arg t)) (term_depth (subst_under n arg t)) s d r size depth few low h

pub put-shallow : (n p : ℕ) (arg t : Term) → t ≡ Bound p → p ≡ n → n + term_size (subst_under n arg t) ≤ 200000 → term_depth arg ≤ 200000
put-shallow n p arg t e f few = omega (arith, term_size-put n p arg t e f, term_depth-le-size arg)

pub leaves-equal : (left room s d size depth : ℕ) (r : Option ℕ) → size ≡ s → depth ≡ d → Leaves left room s d r → Leaves left room size depth r
leaves-equal left room s d size depth r e f h = subst (λ n. Leaves left room n depth r) (sym e) (subst (λ n. Leaves left room s n r) (sym f) h)

-- What is left after an abstraction's type and its body.
pub leaves-abs : (left room rest size depth s d : ℕ) (r : Option ℕ) → (left ≢ 0) → (room ≢ 0) → Leaves (left - 1) (room - 1) size depth (Some rest) → Leaves rest (room - 1) s d r
    → Leaves left room (1 + (size + s)) (1 + max depth d) r
leaves-abs left room rest size depth s d None a b h k = λ fits. let e = h.0 in let deep : room - 1 < d = k (omega arith) in omega arith
leaves-abs left room rest size depth s d (Some more) a b h k = let e = h.0 in let f = h.1 in let g = k.0 in let i = k.1 in (omega arith, omega arith)

leaves-abs_none : (left room size depth s d : ℕ) → (left ≢ 0) → (room ≢ 0) → Leaves (left - 1) (room - 1) size depth None → Leaves left room (1 + (size + s)) (1 + max depth d) None
leaves-abs_none left room size depth s d a b h = λ fits. let deep : room - 1 < depth = h (omega arith) in omega arith

-- the same where a part doesn't fit
pub leaves-part_none : (left room size depth s d all high : ℕ) → all ≡ 1 + (size + s) → high ≡ 1 + max depth d → (left ≢ 0) → (room ≢ 0) → Leaves (left - 1) (room - 1) size depth None
    → Leaves left room all high None
leaves-part_none left room size depth s d all high e f a b h = leaves-equal left room _ _ all high None e f (leaves-abs_none left room size depth s d a b h)

-- what is left after a node with one part
pub leaves-node : (left room s d all high : ℕ) (r : Option ℕ) → all ≡ 1 + s → high ≡ 1 + d → (left ≢ 0) → (room ≢ 0) → Leaves (left - 1) (room - 1) s d r → Leaves left room all high r
leaves-node left room s d all high None e f a b h = λ fits. let deep : room - 1 < d = h (omega arith) in omega arith
leaves-node left room s d all high (Some rest) e f a b h = let g = h.0 in let i = h.1 in (omega arith, omega arith)
