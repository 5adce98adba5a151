-- Texts whose bytes are all those of names.
use Rattle.std.proofs.Common.{◌≡◌, ◌∙◌, ◌<◌, ◌+◌, ℕ, Bool, true, false, List, ◌∷◌, ap, sym, refl, drop, length, get_or, add-one, drop-cons, ◌&&◌}
use Rattle.pure_grammar.specs.Tokens.Bytes.{behind, is_empty, is_name_byte}

-- one byte further
pub name_goes_on : (text : List ℕ) (i : ℕ) → i < length text → is_name_byte (get_or text i 0) ≡ true
    → behind is_name_byte (drop (i + 1) text) ≡ behind is_name_byte (drop i text)
name_goes_on text i within is =
    let cut : drop i text ≡ get_or text i 0 ∷ drop (i + 1) text = rw add-one (drop-cons text i 0 within) in
    let step : behind is_name_byte (get_or text i 0 ∷ drop (i + 1) text) ≡ behind is_name_byte (drop (i + 1) text) = rw is refl in
    sym (ap (behind is_name_byte) cut ∙ step)

-- a byte of another kind
pub name_stops : (text : List ℕ) (i : ℕ) → i < length text → is_name_byte (get_or text i 0) ≡ false
    → is_empty (behind is_name_byte (drop i text)) ≡ false
name_stops text i within other =
    let cut : drop i text ≡ get_or text i 0 ∷ drop (i + 1) text = rw add-one (drop-cons text i 0 within) in
    let step : is_empty (behind is_name_byte (get_or text i 0 ∷ drop (i + 1) text)) ≡ false = rw other refl in
    ap (λ bs. is_empty (behind is_name_byte bs)) cut ∙ step

-- what fails in the middle fails
pub middle_fails : (a b c : Bool) → b ≡ false → ((a && b) && c) ≡ false
middle_fails true b c e = rw e refl
middle_fails false b c e = refl
