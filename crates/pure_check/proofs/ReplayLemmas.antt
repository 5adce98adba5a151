-- From what is said of a file that was read to the answer of the job.
use Rattle.std.proofs.Common.{◌≡◌, ◌∙◌, ◌⊎◌, ℕ, zero, suc, ◌+◌, ◌≤◌, ◌<◌, List, [], ◌∷◌, Bool, true, false, length, take, nat_eq, refl, sym, ap, subst, inl, inr, arith, take_all}
use Rattle.std.specs.Prelude.{Option, Some, None, Result, Ok, Err, IfOk, IfSome, filter, cond, if◌then◌else◌}
use Rattle.pure_grammar.specs.Theories.Lexeme.{same}
use Rattle.pure_io.specs.declared.library.File as library
use Rattle.pure_io.specs.declared.library.ReadFault.{ReadFault}
use Rattle.pure_io.specs.declared.library.ReadFault.TheVariants as reading
use Rattle.pure_io.specs.Outside.{text_named}
use Rattle.pure_grammar.proofs.Distinct.{same-is}
use Rattle.pure_check_work.specs.Declare.Notes.{Fork}
use Rattle.pure_check_work.specs.Method.declared.outcome.Outcome.{Outcome}
use Rattle.pure_check_work.specs.TheoryRun.Checked.{Checked}
use Rattle.pure_check_work.specs.TheoryRun.Outline.{Outline}
use Rattle.pure_board.specs.Boards.{Ending}
use Rattle.pure_replay.specs.Said.{IsSaid}
use Rattle.pure_check.specs.Sources.{OfNamed, files_in}
use Rattle.pure_check.specs.Replayed.{IsSaidOfRead}
use Rattle.pure_check.specs.Jobs.Replay.{most_bytes, file_of, IsSaidOfFile, IsReplayAnswer}

-- Of the files of one name the first is the library's.
pub filtered : (name : List ℕ) (fs : List library.File) → text_named name (filter (λ (file : library.File). same name file.name) fs) ≡ text_named name fs
filtered name [] = refl
filtered name (f ∷ fs) = by (same name f.name) refl (filtered name fs)
  where
    other : (b : Bool) → same f.name name ≡ b → same name f.name ≡ false → same f.name name ≡ false
    other true e no_name = let is : f.name ≡ name = same-is f.name name e in let there : same name name ≡ true = subst (λ x. same x name ≡ true) is e in let gone : same name name ≡ false = subst (λ x. same name x ≡ false) is no_name in cc
    other false e no_name = e

    by : (b : Bool) → same name f.name ≡ b → text_named name (filter (λ (file : library.File). same name file.name) fs) ≡ text_named name fs
        → text_named name (cond b (f ∷ filter (λ (file : library.File). same name file.name) fs) (filter (λ (file : library.File). same name file.name) fs)) ≡ text_named name (f ∷ fs)
    by true e rest = ap (λ (o : Option (List ℕ)). if same f.name name then Some f.text else o) rest
    by false e rest = rw (other (same f.name name) refl e) rest

told_named : (told : Option (List library.File)) (name : List ℕ) (found : Option (List ℕ)) → IfSome told (λ fs. text_named name fs ≡ found) → IfSome (files_in (OfNamed name) told) (λ fs. text_named name fs ≡ found)
told_named None name found h = tt
told_named (Some fs) name found h = filtered name fs ∙ h

take-shorter : (n : ℕ) (xs : List ℕ) → length (take n xs) ≤ length xs
take-shorter zero xs = omega arith
take-shorter (suc n) [] = omega arith
take-shorter (suc n) (x ∷ xs) = let rest = take-shorter n xs in omega (arith, rest)

-- A list of which fewer than so many were taken has fewer.
all_of : (xs : List ℕ) (m : ℕ) → length (take (m + 1) xs) ≤ m → length xs ≤ m
all_of [] m h = omega arith
all_of (x ∷ xs) zero h = absurd (omega (arith, h))
all_of (x ∷ xs) (suc m) h =
    let more : suc m + 1 ≡ suc (m + 1) = omega arith in
    let here : suc (length (take (m + 1) xs)) ≤ suc m = subst (λ k. length (take k (x ∷ xs)) ≤ suc m) more h in
    let rest = all_of xs m (omega (arith, here)) in
    omega (arith, rest)

-- What is said of the first bytes of a file, one more than it may have, is said of the file.
whole_said : (bytes start text : List ℕ) (clean : Bool) → start ≡ take (most_bytes + 1) bytes → IsSaidOfFile (Some start) text clean → IsSaidOfFile (Some bytes) text clean
whole_said bytes start text clean is (inl (large, line, unclean)) = inl (longer (length start) (length bytes) most_bytes (subst (λ (t : List ℕ). length t ≤ length bytes) (sym is) (take-shorter (most_bytes + 1) bytes)) large, line, unclean)
  where
    longer : (a b m : ℕ) → a ≤ b → m < a → m < b
    longer a b m h k = omega (arith, h, k)
whole_said bytes start text clean is (inr (small, said)) =
    let fits : length bytes ≤ most_bytes = all_of bytes most_bytes (subst (λ (t : List ℕ). length t ≤ most_bytes) is small) in
    inr (fits, subst (λ t. IsSaid t text clean) (is ∙ take_all (most_bytes + 1) bytes (more (length bytes) most_bytes fits)) said)
  where
    more : (a m : ℕ) → a ≤ m → a ≤ m + 1
    more a m h = omega (arith, h)

module _ (told : Option (List library.File)) (name file text : List ℕ) (clean : Bool) (run : Option (Ending Checked Fork Outline Outcome)) (no_board : run ≡ None) (is_file : file ≡ file_of name) where
  pub read-answer : (start : List ℕ) → IfSome told (λ fs. (bytes : List ℕ) × (text_named file fs ≡ Some bytes) × (start ≡ take (most_bytes + 1) bytes)) → IsSaidOfFile (Some start) text clean
      → IsReplayAnswer name (files_in (OfNamed (file_of name)) told) run text clean
  read-answer start read said = by told read
    where
      by : (told : Option (List library.File)) → IfSome told (λ fs. (bytes : List ℕ) × (text_named file fs ≡ Some bytes) × (start ≡ take (most_bytes + 1) bytes)) → IsReplayAnswer name (files_in (OfNamed (file_of name)) told) run text clean
      by None h = record { bytes = Some start; told = tt; no_board = no_board; said = said }
      by (Some fs) h = record {
        bytes = Some h.0;
        told = filtered (file_of name) fs ∙ subst (λ n. text_named n fs ≡ Some h.0) is_file h.1;
        no_board = no_board;
        said = whole_said h.0 start text clean h.2 said;
      }

  pub missing-answer : IfSome told (λ fs. text_named file fs ≡ None) → IsSaidOfFile None text clean → IsReplayAnswer name (files_in (OfNamed (file_of name)) told) run text clean
  missing-answer missing said = record { bytes = None; told = told_named told (file_of name) None (subst (λ n. IfSome told (λ fs. text_named n fs ≡ None)) is_file missing); no_board = no_board; said = said }

-- What is said of what was read is the answer of the job.
pub replay-answer : (told : Option (List library.File)) (name file text : List ℕ) (clean : Bool) (run : Option (Ending Checked Fork Outline Outcome)) → run ≡ None → file ≡ file_of name → (read : Result (List ℕ) ReadFault)
    → IfOk read (λ t. IfSome told (λ fs. (bytes : List ℕ) × (text_named file fs ≡ Some bytes) × (t ≡ take (most_bytes + 1) bytes))) → (read ≡ Err reading.Missing → IfSome told (λ fs. text_named file fs ≡ None))
    → IsSaidOfRead read text clean → IsReplayAnswer name (files_in (OfNamed (file_of name)) told) run text clean
replay-answer told name file text clean run no_board is_file (Ok start) found missing said = read-answer told name file text clean run no_board is_file start found said
replay-answer told name file text clean run no_board is_file (Err reading.Missing) found missing said = missing-answer told name file text clean run no_board is_file (missing refl) said
replay-answer told name file text clean run no_board is_file (Err reading.Failed) found missing said = absurd said
replay-answer told name file text clean run no_board is_file (Err reading.Memory) found missing said = absurd said
