-- What the tokens that were found in a source say of its spellings.
use Rattle.std.proofs.Common.{◌≡◌, ◌⊎◌, ◌↔◌, ℕ, ◌+◌, ◌-◌, true, false, List, length, subst}
use Rattle.std.specs.Prelude.{slice_range}
use Rattle.pure_text.specs.Lists.{AnyOf}
use Rattle.pure_grammar.specs.declared.token.Token.{Token}
use Rattle.pure_grammar.specs.declared.token.TokenKind.TheVariants.{Quote}
use Rattle.pure_grammar.specs.Tokens.Spelling.{Spells, HasFault}
use Rattle.pure_grammar.proofs.Readings.{one_list, list_or_fault}
use Rattle.pure_graph.specs.SessionNames.{Gives, GivesInside, IsSpelled}
use Rattle.pure_graph.proofs.SourceLemmas.{whole-range}

pub inside-given : (source : List ℕ) (quote : Token) (found : List Token) → quote.kind ≡ Quote → Spells (quote.to - 1) found (slice_range source (quote.from + 1) (quote.to - 1)) → (t : List ℕ)
    → AnyOf (λ token. Gives source true token t) found ↔ GivesInside source quote t
inside-given source quote found kind spells t = (
  λ some. (kind, (found, spells, some)),
  λ g. subst (AnyOf (λ token. Gives source true token t)) (one_list (quote.to - 1) (slice_range source (quote.from + 1) (quote.to - 1)) g.1.0 found g.1.1 spells) g.1.2,
)

pub inside-fault : (source : List ℕ) (quote : Token) (place : ℕ) (t : List ℕ) → HasFault (quote.to - 1) (slice_range source (quote.from + 1) (quote.to - 1)) place → GivesInside source quote t → ⊥
inside-fault source quote place t fault g = list_or_fault (quote.to - 1) place (slice_range source (quote.from + 1) (quote.to - 1)) g.1.0 g.1.1 fault

pub spelled-given : (source : List ℕ) (found : List Token) → Spells (length source) found (slice_range source 0 (length source)) → (t : List ℕ)
    → AnyOf (λ token. Gives source false token t ⊎ GivesInside source token t) found ↔ IsSpelled source t
spelled-given source found spells t =
    let spelled : Spells (length source) found source = subst (Spells (length source) found) (whole-range source) spells in (
      λ some. (found, spelled, some),
      λ g. subst (AnyOf (λ token. Gives source false token t ⊎ GivesInside source token t)) (one_list (length source) source g.0 found g.1 spelled) g.2,
    )

pub spelled-fault : (source : List ℕ) (place : ℕ) (t : List ℕ) → HasFault (length source) (slice_range source 0 (length source)) place → IsSpelled source t → ⊥
spelled-fault source place t fault g = list_or_fault (length source) place source g.0 g.1 (subst (λ s. HasFault (length source) s place) (whole-range source) fault)
