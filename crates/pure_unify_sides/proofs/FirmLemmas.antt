-- The depth of what stands inside a term.
use Rattle.std.proofs.Common.{◌≡◌, ℕ, ◌+◌, ◌<◌, ◌≤◌, max, ap, arith}
use Rattle.pure_definitions.specs.Types.Typ.{Typ, typ_depth}
use Rattle.pure_definitions.specs.Terms.Term.{Term, Abs, App, term_depth}

pub body_within : (inner : ℕ) (t : Term) (T : Typ) (b r : Term) → t ≡ Abs T b → r ≡ b → inner + term_depth t < 4294967296 → (term_depth r + 1 ≤ term_depth t) × (inner + 1 + term_depth r < 4294967296)
body_within inner t T b r e f h =
    let deep : term_depth t ≡ 1 + max (typ_depth T) (term_depth b) = ap term_depth e in
    let same : term_depth r ≡ term_depth b = ap term_depth f in
    (omega arith, omega arith)

pub function_within : (inner : ℕ) (t f a r : Term) → t ≡ App f a → r ≡ f → inner + term_depth t < 4294967296 → (term_depth r + 1 ≤ term_depth t) × (inner + term_depth r < 4294967296)
function_within inner t f a r e g h =
    let deep : term_depth t ≡ 1 + max (term_depth f) (term_depth a) = ap term_depth e in
    let same : term_depth r ≡ term_depth f = ap term_depth g in
    (omega arith, omega arith)

pub argument_within : (inner : ℕ) (t f a r : Term) → t ≡ App f a → r ≡ a → inner + term_depth t < 4294967296 → (term_depth r + 1 ≤ term_depth t) × (inner + term_depth r < 4294967296)
argument_within inner t f a r e g h =
    let deep : term_depth t ≡ 1 + max (term_depth f) (term_depth a) = ap term_depth e in
    let same : term_depth r ≡ term_depth a = ap term_depth g in
    (omega arith, omega arith)
