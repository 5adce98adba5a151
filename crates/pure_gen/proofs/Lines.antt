-- How the lines of a theory grow.
use Rattle.std.proofs.Common.{◌≡◌, ℕ, zero, suc, ◌+◌, ◌-◌, ◌*◌, ◌%◌, List, [], ◌∷◌, ◌++◌, map, refl, ap, sym, ◌∙◌, arith, add-one, append-nil}
use Rattle.std.proofs.Math.Nat.{suc-mul}
use Rattle.std.proofs.lemmas.List.FromFn.{map-range_with_len_more}
use Rattle.pure_io.specs.declared.library.File.{File}
use Rattle.pure_text.proofs.Joins.{joined_3}
use Rattle.std.specs.List.{flat_map, range_with_len}
use Rattle.std.proofs.lemmas.List.{flat_map_more, map-id}
use Rattle.pure_gen.specs.Generated.{next_number, number_behind, citing_text, by_rule, full_name, rule_end, drawn_line, lemma_line, header, end_text, source, ending, theory_name, file_of}

pub citing-behind : (lemmas n : ℕ) → (n ≡ 0 → ⊥) → citing_text lemmas n ≡ by_rule ++ (full_name lemmas (n - 1) ++ rule_end)
citing-behind lemmas zero some = absurd (some refl)
citing-behind lemmas (suc before) some = let e : suc before - 1 ≡ before = omega arith in rw e refl

pub number_behind-next : (start n : ℕ) → number_behind start (n + 1) ≡ next_number (number_behind start n)
number_behind-next start n = rw (add-one n) refl

-- what the lines come to with one line more
pub record HasLines (start lemmas first i last : ℕ) (old text : List ℕ) : Type 0 where
  pub lines : text ≡ old ++ flat_map (lemma_line start lemmas) (range_with_len first i)
  pub drawn : last ≡ number_behind start (first + i)

pub lines-more : (start lemmas first i last next : ℕ) (old text more : List ℕ) → HasLines start lemmas first i last old text
    → next ≡ next_number last → more ≡ text ++ drawn_line (next % 4) lemmas (first + i) → HasLines start lemmas first (i + 1) next old more
lines-more start lemmas first i last next old text more had drawn written =
    let further : first + (i + 1) ≡ first + i + 1 = omega arith in
    let now : next ≡ number_behind start (first + i + 1) = drawn ∙ ap next_number had.drawn ∙ sym (number_behind-next start (first + i)) in
    let longer : range_with_len first (i + 1) ≡ range_with_len first i ++ (first + i) ∷ [] =
    rw (map-id (range_with_len first (i + 1)), map-id (range_with_len first i)) at (map-range_with_len_more (λ m. m) first i (first + i) refl) in
    record {
      lines =
          rw longer
          (written ∙ ap (λ t. t ++ drawn_line (next % 4) lemmas (first + i)) had.lines
          ∙ ap (λ m. (old ++ flat_map (lemma_line start lemmas) (range_with_len first i)) ++ drawn_line (m % 4) lemmas (first + i)) now
          ∙ flat_map_more (lemma_line start lemmas) old (range_with_len first i) (first + i));
      drawn = rw further now;
    }

pub no-lines : (start lemmas first : ℕ) (text : List ℕ) → HasLines start lemmas first 0 (number_behind start first) text text
no-lines start lemmas first text = let e : first + 0 ≡ first = omega arith in record { lines = sym (append-nil text); drawn = rw e refl }

-- the lines of a whole theory
pub all-lines : (start lemmas k last : ℕ) (old text : List ℕ) → HasLines start lemmas (k * lemmas) lemmas last old text
    → (text ≡ old ++ flat_map (lemma_line start lemmas) (range_with_len (k * lemmas) lemmas)) × (last ≡ number_behind start ((k + 1) * lemmas))
all-lines start lemmas k last old text had =
    let further : (k + 1) * lemmas ≡ k * lemmas + lemmas = rw (add-one k) (suc-mul k lemmas) in
    (had.lines, rw further had.drawn)

-- the text of a whole theory
pub source-made : (start lemmas k : ℕ) (first second third fourth : List ℕ) → first ≡ [] → second ≡ first ++ header k
    → third ≡ second ++ flat_map (lemma_line start lemmas) (range_with_len (k * lemmas) lemmas) → fourth ≡ third ++ end_text → fourth ≡ source start lemmas k
source-made start lemmas k first second third fourth empty headed lined ended = joined_3 [] second third fourth _ _ _ (rw empty at headed) lined ended

-- one file more
pub files-more : (start lemmas k : ℕ) (files more : List File) (name text : List ℕ) → files ≡ map (file_of start lemmas) (range_with_len 0 k)
    → name ≡ theory_name k ++ ending → text ≡ source start lemmas k → more ≡ files ++ record { name = name; text = text } ∷ []
    → more ≡ map (file_of start lemmas) (range_with_len 0 (k + 1))
files-more start lemmas k files more name text had named written pushed =
    let there : 0 + k ≡ k = omega arith in
    rw (map-range_with_len_more (file_of start lemmas) 0 k k there, pushed, had, named, written) refl
