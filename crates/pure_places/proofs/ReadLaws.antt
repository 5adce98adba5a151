-- What is found in a source are the places of the theory that it is.
use Rattle.std.proofs.Common.{◌≡◌, ℕ, ◌-◌, List, length, take, ◌∙◌, ap, subst, arith, take_all, Result, Ok, Err, IfOk}
use Rattle.std.specs.Prelude.{slice_range}
use Rattle.std.specs.declared.alloc.AllocError.{AllocError}
use Rattle.pure_grammar.specs.declared.token.Token.{Token}
use Rattle.pure_grammar.specs.Tokens.Spelling.{Spells, HasFault}
use Rattle.pure_grammar.proofs.Readings.{one_list, list_or_fault}
use Rattle.pure_lex.specs.Faults.{IsFaultOf}
use Rattle.pure_lex.specs.declared.reading.LexFault.{LexFault}
use Rattle.pure_lex.specs.declared.reading.LexFault.TheVariants.{At}
use Rattle.pure_places.specs.Parts.{Parts}
use Rattle.pure_places.specs.Found.{found}
use Rattle.pure_places.specs.Laws.{FindsParts}
use Rattle.pure_places.specs.Seen.{seen_places, ArePlaces}
use Rattle.pure_places.specs.declared.parts.Places.{Places}

whole-range : (source : List ℕ) → slice_range source 0 (length source) ≡ source
whole-range source =
    let all : length source - 0 ≡ length source = omega arith in
    ap (λ n. take n source) all ∙ take_all (length source) source (omega arith)

pub found-places : FindsParts → (source : List ℕ) (tokens now : List Token) → Spells (length source) tokens (slice_range source 0 (length source)) → now ≡ tokens
    → (r : Result Places AllocError) → IfOk r (λ p. seen_places p ≡ found source now) → IfOk r (λ p. ArePlaces source (seen_places p))
found-places law source tokens now spells lent (Ok p) is = λ us f read.
    let here : Spells (length source) tokens source = subst (λ s. Spells (length source) tokens s) (whole-range source) spells in
    is ∙ ap (found source) (lent ∙ one_list (length source) source tokens us here read.tokens_are) ∙ law source us f read.spelled
found-places law source tokens now spells lent (Err e) is = tt

pub no-places : (source : List ℕ) (at : ℕ) (fault : LexFault) → IsFaultOf (length source) (slice_range source 0 (length source)) fault → fault ≡ At at → (places : Parts ℕ) → ArePlaces source places
no-places source at fault is e places us f read =
    let stands : HasFault (length source) source at =
    subst (λ s. HasFault (length source) s at) (whole-range source) (subst (IsFaultOf (length source) (slice_range source 0 (length source))) e is) in
    absurd (list_or_fault (length source) at source us read.tokens_are stands)
