use Rattle.std.proofs.Common.{◌≡◌, ◌∙◌, ℕ, ◌+◌, ◌<◌, ◌≤◌, Bool, true, false, not, ◌&&◌, List, [], ◌∷◌, length, take, drop, refl, sym, ap, arith, nat_lt}
use Rattle.std.proofs.lemmas.List.{take-append-drop, drop_all, length-drop}
use Rattle.std.proofs.lemmas.Bool.{le-ltb}
use Rattle.pure_grammar.specs.Tokens.Bytes.{is_letter, is_name_byte, is_empty, head_is, behind}
use Rattle.pure_grammar.specs.Tokens.Token.{is_keyword}
use Rattle.pure_lex.specs.Fronts.{IsRun}
use Rattle.pure_lex.proofs.Longest.{behind-is}
use Rattle.pure_lex.proofs.identifier.is_identifier.Goals as goal

-- the parts of the test
abbrev tested : Bool → List ℕ → Bool → ℕ → Bool
tested letter rest keyword n = ((letter && is_empty rest) && not keyword) && not (nat_lt (length rest + 64) n)

behind_run : (bs : List ℕ) (len : ℕ) → IsRun is_name_byte bs len → behind is_name_byte bs ≡ drop len bs
behind_run bs len r = ap (behind is_name_byte) (sym (take-append-drop len bs)) ∙ behind-is is_name_byte (take len bs) (drop len bs) r.all r.next

more_no : (letter : Bool) (rest : List ℕ) (keyword : Bool) (n : ℕ) → 0 < length rest → tested letter rest keyword n ≡ false
more_no letter [] keyword n some = absurd (omega (arith, some))
more_no true (b ∷ rest) keyword n some = refl
more_no false (b ∷ rest) keyword n some = refl

whole_is : (letter : Bool) (rest : List ℕ) (keyword : Bool) (n : ℕ) → rest ≡ [] → letter ≡ true → n ≤ 64 → tested letter rest keyword n ≡ not keyword
whole_is letter rest keyword n none is few = rw (none, is, le-ltb 64 n few) (last keyword)
  where
    last : (k : Bool) → (not k && true) ≡ not k
    last true = refl
    last false = refl

pub returns-then-name_length-text : goal.returns-then-name_length-text
returns-then-name_length-text c =
    let t = c.args.text.now in
    let run = c.name_length.ensures in
    let left : 0 < length (behind is_name_byte t) = rw (behind_run t _ run, length-drop) (omega arith) in
    sym (more_no (head_is is_letter t) (behind is_name_byte t) (is_keyword t) (length t) left)

pub returns-then-begins_letter : goal.returns-then-begins_letter
returns-then-begins_letter c =
    let t = c.args.text.now in
    let run = c.name_length.ensures in
    let none : behind is_name_byte t ≡ [] = behind_run t _ run ∙ drop_all _ t (omega arith) in
    let letter : head_is is_letter t ≡ true = sym c.begins_letter.ensures ∙ c.if-begins_letter.true in
    ap not c.is_keyword.ensures ∙ sym (whole_is (head_is is_letter t) (behind is_name_byte t) (is_keyword t) (length t) none letter (omega arith))
