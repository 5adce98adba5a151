-- Renamed terms: those that stay, and the places of a list.
use Rattle.std.proofs.Common.{◌≡◌, ℕ, zero, suc, ◌+◌, ◌<◌, ◌≤◌, List, [], ◌∷◌, length, slice_index_or, true, false, ap, refl, sym, subst, arith, nat_lt}
use Rattle.std.proofs.lemmas.Bool.Decides.{nat_tests}
use Rattle.std.specs.Prelude.{◌-◌}
use Rattle.pure_text.proofs.ListLaws.{each_imply}
use Rattle.pure_definitions.specs.Types.Typ.{Typ}
use Rattle.pure_pattern_terms.specs.Room.{HaveRoom}
use Rattle.pure_definitions.specs.Terms.Term.{Term, Const, Free, Var, Bound, Abs, App, term_depth}
use Rattle.pure_definitions.specs.Terms.Measures.{loose_above}
use Rattle.pure_pattern_laws.specs.Putting.{place_in, renamed}

pub renamed_stays : (n : ℕ) (ws : List ℕ) (t : Term) → loose_above t ≤ n → renamed n ws t ≡ t
renamed_stays n ws (Const c T) h = refl
renamed_stays n ws (Free x T) h = refl
renamed_stays n ws (Var x i T) h = refl
renamed_stays n ws (Bound p) h = (let low : nat_lt p n ≡ true = grind (arith, nat_tests) in rw low refl)
renamed_stays n ws (Abs T b) h = ap (Abs T) (renamed_stays (n + 1) ws b (omega arith))
renamed_stays n ws (App f a) h = λ l. App (renamed_stays n ws f (omega arith) l) (renamed_stays n ws a (omega arith) l)

pub place-read : (ws : List ℕ) (p d : ℕ) → p < length ws → place_in ws p ≡ slice_index_or ws p d
place-read [] p d h = absurd (omega arith)
place-read (w ∷ ws) zero d h = refl
place-read (w ∷ ws) (suc p) d h = place-read ws p d (omega arith)

pub place-past : (ws : List ℕ) (p : ℕ) → length ws ≤ p → place_in ws p ≡ p - length ws
place-past [] p h = omega arith
place-past (w ∷ ws) zero h = absurd (omega arith)
place-past (w ∷ ws) (suc p) h = (let rest = place-past ws p (omega arith) in omega arith)

-- What a bound variable above the binders becomes.
pub place-within : (n : ℕ) (ws : List ℕ) (p : ℕ) → ¬ (p < n) → p - n < length ws → Bound (n + slice_index_or ws (p - n) 0) ≡ renamed n ws (Bound p)
place-within n ws p out within =
    let high : nat_lt p n ≡ false = grind (arith, nat_tests) in
    rw high (ap (λ w. Bound (n + w)) (sym (place-read ws (p - n) 0 within)))

pub place-behind : (n : ℕ) (ws : List ℕ) (p : ℕ) → ¬ (p < n) → ¬ (p - n < length ws) → Bound (p - length ws) ≡ renamed n ws (Bound p)
place-behind n ws p out past =
    let high : nat_lt p n ≡ false = grind (arith, nat_tests) in
    let least : length ws ≤ p - n = omega arith in
    let rest = place-past ws (p - n) least in
    let number : p - length ws ≡ n + place_in ws (p - n) = omega arith in
    rw high (ap Bound number)

-- Room for parts.
pub less-room : (m n : ℕ) (ws : List ℕ) → m ≤ n → HaveRoom n ws → HaveRoom m ws
less-room m n ws le h = record { small = (let s = h.small in omega arith); each = each_imply (λ w. w + n < 4294967296) (λ w. w + m < 4294967296) ws (λ w k. omega arith) h.each }

pub abstraction-fits : (n : ℕ) (ws : List ℕ) (t b : Term) (T : Typ) → t ≡ Abs T b → HaveRoom (n + term_depth t) ws → n + 1 < 4294967296
abstraction-fits n ws t b T e h = (let room = subst (λ u. HaveRoom (n + term_depth u) ws) e h in let small = room.small in omega arith)

pub body-room : (n : ℕ) (ws : List ℕ) (t b : Term) (T : Typ) → t ≡ Abs T b → HaveRoom (n + term_depth t) ws → HaveRoom ((n + 1) + term_depth b) ws
body-room n ws t b T e h = less-room ((n + 1) + term_depth b) (n + term_depth (Abs T b)) ws (omega arith) (subst (λ u. HaveRoom (n + term_depth u) ws) e h)

pub function-room : (n : ℕ) (ws : List ℕ) (t f a : Term) → t ≡ App f a → HaveRoom (n + term_depth t) ws → HaveRoom (n + term_depth f) ws
function-room n ws t f a e h = less-room (n + term_depth f) (n + term_depth (App f a)) ws (omega arith) (subst (λ u. HaveRoom (n + term_depth u) ws) e h)

pub argument-room : (n : ℕ) (ws : List ℕ) (t f a : Term) → t ≡ App f a → HaveRoom (n + term_depth t) ws → HaveRoom (n + term_depth a) ws
argument-room n ws t f a e h = less-room (n + term_depth a) (n + term_depth (App f a)) ws (omega arith) (subst (λ u. HaveRoom (n + term_depth u) ws) e h)

pub body-shorter : (t b : Term) (T : Typ) → t ≡ Abs T b → term_depth b < term_depth t
body-shorter t b T e = subst (λ u. term_depth b < term_depth u) (sym e) (omega arith)

pub parts-shorter : (t f a : Term) → t ≡ App f a → (term_depth f < term_depth t) × (term_depth a < term_depth t)
parts-shorter t f a e = subst (λ u. (term_depth f < term_depth u) × (term_depth a < term_depth u)) (sym e) (omega arith, omega arith)
