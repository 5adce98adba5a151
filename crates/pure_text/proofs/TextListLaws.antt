-- Texts whose bytes stand one behind the other.
use Rattle.std.proofs.Common.{◌≡◌, ◌≢◌, ◌≤◌, ◌<◌, ◌+◌, ◌-◌, ◌∙◌, ℕ, List, [], ◌∷◌, ◌++◌, Some, length, take, drop, get_or, slice_get, ap, refl, zero, suc, arith}
use Rattle.std.specs.Prelude.{slice_range}
use Rattle.std.proofs.Math.Seq.{drop-append_seam}
use Rattle.std.proofs.lemmas.List.{take-append-le, drop-append-le, length-drop, take_all}
use Rattle.std.proofs.lemmas.Option.{same_Some}
use Rattle.pure_text.specs.TextLists.{pieces, AreEnds, beginning}

pub pieces-length : (bytes : List ℕ) (from : ℕ) (ends : List ℕ) → length (pieces bytes from ends) ≡ length ends
pieces-length bytes from [] = refl
pieces-length bytes from (end ∷ ends) = ap suc (pieces-length bytes end ends)

-- The first text begins within all bytes.
ends-within : (count from : ℕ) (ends : List ℕ) → AreEnds count from ends → from ≤ count
ends-within count from [] is = omega (arith, is)
ends-within count from (end ∷ ends) is = let rest = ends-within count end ends is.1 in omega (arith, is.0, rest)

pub ends-more : (count more from : ℕ) (ends : List ℕ) → AreEnds count from ends → AreEnds (count + more) from (ends ++ (count + more) ∷ [])
ends-more count more from [] is = (omega (arith, is), refl)
ends-more count more from (end ∷ ends) is = (is.0, ends-more count more end ends is.1)

range-before : (xs ys : List ℕ) (from to : ℕ) → from ≤ to → to ≤ length xs → slice_range (xs ++ ys) from to ≡ slice_range xs from to
range-before xs ys from to rises within =
    let front : drop from (xs ++ ys) ≡ drop from xs ++ ys = drop-append-le from xs ys (omega (arith, rises, within)) in
    let left = length-drop from xs in
    ap (λ zs. take (to - from) zs) front ∙ take-append-le (to - from) (drop from xs) ys (omega (arith, rises, within, left))

range-behind : (xs ys : List ℕ) → slice_range (xs ++ ys) (length xs) (length xs + length ys) ≡ ys
range-behind xs ys =
    let count : (length xs + length ys) - length xs ≡ length ys = omega arith in
    ap (λ n. take n (drop (length xs) (xs ++ ys))) count ∙ (ap (λ zs. take (length ys) zs) (drop-append_seam xs ys) ∙ take_all (length ys) ys (omega arith))

pub pieces-more : (bytes text : List ℕ) (from : ℕ) (ends : List ℕ) → AreEnds (length bytes) from ends → pieces (bytes ++ text) from (ends ++ (length bytes + length text) ∷ []) ≡ pieces bytes from ends ++ text ∷ []
pieces-more bytes text from [] is = rw is (ap (λ t. t ∷ []) (range-behind bytes text))
pieces-more bytes text from (end ∷ ends) is =
    let within = ends-within (length bytes) end ends is.1 in
    ap (λ t. t ∷ pieces (bytes ++ text) end (ends ++ (length bytes + length text) ∷ [])) (range-before bytes text from end is.0 within)
    ∙ ap (λ ts. slice_range bytes from end ∷ ts) (pieces-more bytes text end ends is.1)

pub piece-at : (bytes : List ℕ) (from : ℕ) (ends : List ℕ) (place end : ℕ) → slice_get ends place ≡ Some end → slice_get (pieces bytes from ends) place ≡ Some (slice_range bytes (beginning from ends place) end)
piece-at bytes from [] place end is = cc
piece-at bytes from (e ∷ ends) zero end is = ap (λ n. Some (slice_range bytes from n)) (same_Some e end is)
piece-at bytes from (e ∷ ends) (suc place) end is = piece-at bytes e ends place end is

-- A text ends where it begins or behind, within all bytes.
pub piece-within : (count from : ℕ) (ends : List ℕ) (place end : ℕ) → AreEnds count from ends → slice_get ends place ≡ Some end → (beginning from ends place ≤ end) × (end ≤ count)
piece-within count from [] place end are is = cc
piece-within count from (e ∷ ends) zero end are is =
    let same = same_Some e end is in
    let within = ends-within count e ends are.1 in
    (omega (arith, same, are.0), omega (arith, same, within))
piece-within count from (e ∷ ends) (suc place) end are is = piece-within count e ends place end are.1 is

-- The first text begins where all begin.
pub begins-first : (from : ℕ) (ends : List ℕ) (place : ℕ) → place ≡ 0 → from ≡ beginning from ends place
begins-first from [] place is = refl
begins-first from (e ∷ ends) zero is = refl
begins-first from (e ∷ ends) (suc place) is = absurd (omega (arith, is))

-- A text that isn't the first begins where the one before it ends.
begins-next : (from : ℕ) (ends : List ℕ) (place d : ℕ) → suc place < length ends → get_or ends place d ≡ beginning from ends (suc place)
begins-next from [] place d h = absurd (omega (arith, h))
begins-next from (e ∷ []) place d h = absurd (omega (arith, h))
begins-next from (e ∷ f ∷ ends) zero d h = refl
begins-next from (e ∷ f ∷ ends) (suc place) d h = begins-next e (f ∷ ends) place d (omega (arith, h))

pub begins-behind : (from : ℕ) (ends : List ℕ) (place d : ℕ) → place ≢ 0 → place < length ends → get_or ends (place - 1) d ≡ beginning from ends place
begins-behind from ends zero d some h = absurd (some refl)
begins-behind from ends (suc place) d some h =
    let last : suc place - 1 ≡ place = omega arith in
    rw last (begins-next from ends place d h)
