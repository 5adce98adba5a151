-- How far a class of bytes goes.
use Rattle.std.proofs.Common.{◌≡◌, ℕ, ◌<◌, ◌≤◌, Bool, true, false, List, length, get_or, take, drop, refl, sym, inl, inr, arith, drop-cons}
use Rattle.std.specs.List.{list_all}
use Rattle.std.proofs.lemmas.Bool.{cases_lt}
use Rattle.std.proofs.lemmas.List.{take-append-drop, length-take-le, drop_all, take_all}
use Rattle.pure_grammar.specs.Tokens.Bytes.{head_is, is_digit}
use Rattle.pure_lex.specs.Fronts.{IsCut, IsRun, IsDigits}

-- a list is cut at each of its places
pub cut : (text : List ℕ) (i : ℕ) → i ≤ length text → IsCut text (take i text) (drop i text) i
cut text i within = record { parts = sym (take-append-drop i text); size = length-take-le i text within; within = within }

pub head_is-drop : (test : ℕ → Bool) (text : List ℕ) (i : ℕ) → i ≤ length text → (i < length text → test (get_or text i 0) ≡ false) → head_is test (drop i text) ≡ false
head_is-drop test text i within stops = elim (cases_lt i (length text)) [
  | inl below ↦ rw (drop-cons text i 0 below) (stops below)
  | inr past ↦ rw (drop_all i text past) refl
]

pub run : (test : ℕ → Bool) (text : List ℕ) (i : ℕ) → i ≤ length text → list_all test (take i text) ≡ true → (i < length text → test (get_or text i 0) ≡ false) → IsRun test text i
run test text i within all stops = record {
  within = within;
  all = all;
  next = head_is-drop test text i within stops;
}

pub run_all : (test : ℕ → Bool) (text : List ℕ) (i : ℕ) → length text ≤ i → list_all test (take i text) ≡ true → IsRun test text (length text)
run_all test text i past all =
    let whole : take i text ≡ text = take_all i text past in
    let every : take (length text) text ≡ text = take_all (length text) text (omega arith) in
    let passes : list_all test (take (length text) text) ≡ true = rw every (rw whole at all) in
    run test text (length text) (omega arith) passes (λ below. absurd (omega (arith, below)))

pub digits : (text : List ℕ) (i : ℕ) → i ≤ length text → i ≤ 9 → list_all is_digit (take i text) ≡ true → (i < 9 → i < length text → is_digit (get_or text i 0) ≡ false) → IsDigits text i
digits text i within bound all stops = record {
  within = within;
  all = all;
  bound = bound;
  next = λ few. head_is-drop is_digit text i within (stops few);
}
