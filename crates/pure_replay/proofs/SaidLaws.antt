-- What is said of a source, by what its text comes to.
use Rattle.std.proofs.Common.{◌≡◌, ◌≢◌, ◌∙◌, ℕ, List, Bool, true, false, length, take, ap, sym, subst, arith, take_all, ◌-◌}
use Rattle.std.specs.Prelude.{Ok, Err, slice_range}
use Rattle.pure_definitions.specs.Terms.Term.{Term}
use Rattle.pure_grammar.specs.Tokens.Spelling.{Spells}
use Rattle.pure_grammar.specs.declared.token.Token.{Token}
use Rattle.pure_lex.specs.Faults as lexing
use Rattle.pure_lex.specs.declared.reading.LexFault.TheVariants.{At}
use Rattle.pure_print.specs.TermText.{term_text}
use Rattle.pure_record.specs.Items.{Item}
use Rattle.pure_record.specs.Lines.{Node}
use Rattle.pure_record.specs.Spelled.{SpellsRecord, IsFaultOf}
use Rattle.pure_record.specs.declared.record.RecordFault.{RecordFault}
use Rattle.pure_record.specs.declared.record.RecordFault.TheVariants as reading
use Rattle.pure_replay.specs.Replayed.{IsReplayed}
use Rattle.pure_replay.specs.Said.{yes_line, no_line, placed, syntax_words, reading_words, replay_words, IsSaid, untokened, unread, refused, replayed}
use Rattle.pure_replay.specs.declared.fault.ReplayFault.{ReplayFault}
use Rattle.pure_replay.specs.declared.fault.ReplayFault.TheVariants as fault

-- the line of a no with these words, which are those words
as_no : (source why words text : List ℕ) (clean : Bool) → IsSaid source (no_line why) false → words ≡ why → text ≡ no_line words → clean ≡ false → IsSaid source text clean
as_no source why words text clean said e is refusal = subst (λ t. IsSaid source t clean) (sym (is ∙ ap no_line e)) (subst (IsSaid source (no_line why)) (sym refusal) said)

whole_range : (source : List ℕ) → slice_range source 0 (length source) ≡ source
whole_range source =
    let all : length source - 0 ≡ length source = omega arith in
    ap (λ n. take n source) all ∙ take_all (length source) source (omega arith)

pub said-untokened : (source : List ℕ) (at : ℕ) → lexing.IsFaultOf (length source) (slice_range source 0 (length source)) (At at) → (words text : List ℕ) (clean : Bool) → words ≡ placed syntax_words source at → text ≡ no_line words → clean ≡ false
    → IsSaid source text clean
said-untokened source at h words text clean e is refusal =
    as_no source (placed syntax_words source at) words text clean (untokened at (subst (λ bytes. lexing.IsFaultOf (length source) bytes (At at)) (whole_range source) h)) e is refusal

module _ (source : List ℕ) (tokens : List Token) (spells : Spells (length source) tokens source) where
  pub said-unread : (f : RecordFault) → f ≢ reading.Memory → IsFaultOf source tokens f → (words text : List ℕ) (clean : Bool) → words ≡ reading_words source f → text ≡ no_line words → clean ≡ false → IsSaid source text clean
  said-unread f told h words text clean e is refusal = as_no source (reading_words source f) words text clean (unread tokens spells f told h) e is refusal

  module _ (texts : List (List ℕ)) (items : List Item) (lines : List Node) (spelled : SpellsRecord source tokens texts items lines) where
    pub said-refused : (f : ReplayFault) → f ≢ fault.Memory → IsReplayed items lines (Err f) → (words text : List ℕ) (clean : Bool) → words ≡ replay_words f → text ≡ no_line words → clean ≡ false → IsSaid source text clean
    said-refused f told h words text clean e is refusal = as_no source (replay_words f) words text clean (refused tokens spells texts items lines spelled f told h) e is refusal

    pub said-replayed : (A : Term) → IsReplayed items lines (Ok A) → (prop text : List ℕ) (clean : Bool) → prop ≡ term_text texts A → text ≡ yes_line prop → clean ≡ true → IsSaid source text clean
    said-replayed A h prop text clean e is yes_is =
        subst (λ t. IsSaid source t clean) (sym (is ∙ ap yes_line e)) (subst (IsSaid source (yes_line (term_text texts A))) (sym yes_is) (replayed tokens spells texts items lines spelled A h))
