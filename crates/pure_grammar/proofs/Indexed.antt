-- Names with and without an index.
use Rattle.std.proofs.Common.{◌≡◌, ℕ, Bool, true, false, ◌||◌, List, ◌∷◌, refl, sym, ap, ◌∙◌}
use Rattle.std.proofs.lemmas.Bool.{and_parts, both_ways}
use Rattle.pure_grammar.specs.Tokens.Bytes.{is_letter, is_name_byte, is_empty, head_is, marked, behind}
use Rattle.pure_grammar.specs.Tokens.Token.{is_number, is_indexed}
use Rattle.pure_grammar.proofs.Fronts.{marked-is}

-- what stands behind the mark of a schematic variable
abbrev pub name_or_type : List ℕ → Bool
name_or_type name = is_indexed name || marked 39 is_indexed name

pub letter-not_mark : is_letter 39 ≡ false
unfolding is_letter
letter-not_mark = refl

pub indexed-head : (bs : List ℕ) → is_indexed bs ≡ true → head_is is_letter bs ≡ true
indexed-head bs p = (and_parts (head_is is_letter bs) (is_empty (behind is_name_byte bs) || marked 46 is_number (behind is_name_byte bs)) p).0

-- no name begins with the mark of a type variable
pub not-indexed : (bs : List ℕ) → is_indexed (39 ∷ bs) ≡ true → ⊥
not-indexed bs p = both_ways (is_letter 39) letter-not_mark (indexed-head (39 ∷ bs) p)

pub not-marked : (bs : List ℕ) → head_is is_letter bs ≡ true → marked 39 is_indexed bs ≡ true → ⊥
not-marked bs letter p =
    let mark = marked-is 39 is_indexed bs p in
    both_ways (is_letter 39) letter-not_mark (sym (ap (λ x. head_is is_letter x) mark.is) ∙ letter)
