-- Which lemmas may be cancelled: a condition on the words, the theories and the lemmas, without any history.
use Rattle.std.specs.Prelude.{◌≡◌, ℕ, ◌<◌, ◌≤◌, suc, zero, Bool, false, IsTrue, ◌&&◌, ◌||◌, List, ◌∷◌, ◌++◌, codes, Option, Some, None, nat_le, slice_get}
use Rattle.std.specs.List.{list_any, count_by}
use Rattle.pure_text.specs.Lists.{Each}
use Rattle.pure_grammar.specs.Theories.Lexeme.{same}
use Rattle.pure_graph.specs.Order.{Loaded}
use Rattle.pure_words.specs.declared.job.CancelWord.{CancelWord}
use Rattle.pure_policy_laws.specs.Heeded.{Lot, is_kept, kept, faults, gone_in}
use Rattle.pure_policy.specs.Asked.{Asked}

-- the word for the group of all lemmas
unfoldable pub session_word : List ℕ
session_word = codes "session"

-- whether there is a theory, with this name
abbrev pub is_named : Option Loaded → (name : List ℕ) → Bool
is_named None name = false
is_named (Some theory) name = same name theory.name

-- whether the theory with this index, counted from 1, has the name
abbrev pub is_theory : (theories : List Loaded) → (name : List ℕ) → (index : ℕ) → Bool
is_theory theories name zero = false
is_theory theories name (suc place) = is_named (slice_get theories place) name

-- whether the lemma is of the group: each is of the session, which is meant by its word even where a theory has that name
abbrev pub is_of : (theories : List Loaded) → (group : List ℕ) → Lot → Bool
is_of theories group l = same group session_word || is_theory theories group l.theory

-- how many of a group are kept
abbrev pub kept_of : (theories : List Loaded) → (group : List ℕ) → List Lot → ℕ
kept_of theories group ls = count_by (λ l. is_kept l && is_of theories group l) ls

-- whether the cancellation has come for the lemma, by the kept ones among these
abbrev pub has_come : (theories : List Loaded) → List Lot → Lot → CancelWord → Bool
has_come theories ls l c = is_of theories c.group l && nat_le c.after (kept ls)

-- whether the lemma may be cancelled where these became so: a kept one is at fault and the first fault cancels all, or a cancellation of its group has come
abbrev pub is_licensed : (theories : List Loaded) → Asked → List Lot → Lot → Bool
is_licensed theories asked ls l = (asked.fail_fast && nat_le 1 (faults ls)) || list_any (has_come theories ls l) asked.cancels

-- The lemmas, in order of their labels, are cancelled as was asked: each that is cancelled might be; where the first fault cancels all, one kept lemma at most is at fault; of a group that is cancelled after some number no more are kept;
-- in each theory fewer cancelled lemmas than there are workers stand before a kept one; and with one worker a lemma is cancelled exactly where it might be by those before it.
pub record IsPolicyHeeded (theories : List Loaded) (asked : Asked) (ls : List Lot) : Type 0 where
  pub licensed : Each (λ l. IsTrue l.gone → IsTrue (is_licensed theories asked ls l)) ls
  pub one_fault : IsTrue asked.fail_fast → faults ls ≤ 1
  pub obeyed : Each (λ (c : CancelWord). kept_of theories c.group ls ≤ c.after) asked.cancels
  pub in_order : (before after : List Lot) (l : Lot) → ls ≡ before ++ l ∷ after → l.gone ≡ false → gone_in l.theory before < asked.workers
  pub one_worker : asked.workers ≡ 1 → (before after : List Lot) (l : Lot) → ls ≡ before ++ l ∷ after → l.gone ≡ is_licensed theories asked before l
