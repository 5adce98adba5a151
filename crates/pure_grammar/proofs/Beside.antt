-- A chain of comparisons with words, as a table.
use Rattle.std.proofs.Common.{ℕ, List, [], ◌∷◌, if◌then◌else◌}
use Rattle.std.proofs.lemmas.Bool.{cond_both}
use Rattle.pure_text.specs.Lists.{Each}
use Rattle.pure_grammar.specs.Theories.Lexeme.{same}

-- what stands beside the first of these words that the bytes are, or the last one
abbrev pub beside : {A : Type 0} → List ℕ → List (List ℕ × A) → A → A
beside bytes [] last = last
beside bytes (w ∷ words) last = if same bytes w.0 then w.1 else beside bytes words last

pub beside-has : {A : Type 0} (P : A → Type 0) (bytes : List ℕ) (words : List (List ℕ × A)) (last : A) → Each (λ w. P w.1) words → P last → P (beside bytes words last)
beside-has P bytes [] last has h = h
beside-has P bytes (w ∷ words) last has h =
    cond_both (same bytes w.0) w.1 (beside bytes words last) P (λ _. has.0) (λ _. beside-has P bytes words last has.1 h)
