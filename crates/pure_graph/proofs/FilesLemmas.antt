-- What was read of a library so far.
use Rattle.std.proofs.Common.{◌≡◌, ℕ, ◌+◌, ◌<◌, ◌≤◌, true, false, List, [], ◌∷◌, ◌++◌, length, map, refl, sym, ◌∙◌, ap, subst, arith, append_assoc, length-append, Option, Some, None, IfSome, nat_lt}
use Rattle.std.proofs.lemmas.List.{map-append, append-nil, length-map}
use Rattle.std.proofs.lemmas.Bool.Decides.{nat_tests}
use Rattle.pure_io.specs.declared.library.File as library
use Rattle.pure_io.specs.Outside.{text_named}
use Rattle.pure_graph.specs.Limits.{most_files}
use Rattle.pure_graph.specs.Listing.{AreTheories, file_name}
use Rattle.pure_graph.specs.Outcome.{Outcome, Refused, IsOwnOutcome}
use Rattle.pure_graph.specs.Reading.{Answer, File, IsTried, AreReadFrom, AreRead, counted, file_parts}
use Rattle.pure_graph.specs.Session.{answer_in}
use Rattle.pure_graph.specs.Told.{IsHeld, TellsBytes, IsTriedOf, AreReadOf, AreFilesOf}
use Rattle.pure_graph.specs.declared.outcome.Reason.TheVariants.{TooManyFiles}
use Rattle.pure_graph.specs.Drafts.{IsReadSoFar}
use Rattle.pure_graph.proofs.SourceLemmas.{front-outcome}

-- ---- one file
pub past-limit : (m n : ℕ) → m ≤ n → nat_lt n m ≡ false
past-limit m n h = grind (arith, nat_tests)

pub before-limit : (m n : ℕ) → n < m → nat_lt n m ≡ true
before-limit m n h = grind (arith, nat_tests)

tells-some : (told : Option (List library.File)) (theory : List ℕ) → (bytes : Option (List ℕ)) × TellsBytes told theory bytes
tells-some None theory = (None, tt)
tells-some (Some files) theory = (text_named (file_name theory) files, refl)

pub unread-file : (told : Option (List library.File)) (theory : List ℕ) (place : ℕ) (outcome : Outcome) → most_files ≤ place → outcome ≡ Refused TooManyFiles → IsTriedOf told (nat_lt place most_files) theory outcome
unread-file told theory place outcome past is =
    let some = tells-some told theory in
    (some.0, some.1, subst (λ b. IsTried b (record { theory = theory; bytes = some.0 }) outcome) (sym (past-limit most_files place past)) is)

held-file : (told : Option (List library.File)) (theory : List ℕ) (held : Option (List ℕ)) (outcome : Outcome)
    → IfSome told (λ files. IsHeld (text_named (file_name theory) files) held) → IsOwnOutcome theory held outcome → IsTriedOf told true theory outcome
held-file None theory held outcome is own = (held, tt, own)
held-file (Some files) theory None outcome is own = (None, sym is, own)
held-file (Some files) theory (Some text) outcome is own = (Some is.0, sym is.1, front-outcome theory is.0 text outcome is.2 own)

pub read-file : (told : Option (List library.File)) (theory : List ℕ) (place : ℕ) (held : Option (List ℕ)) (outcome : Outcome)
    → place < most_files → IfSome told (λ files. IsHeld (text_named (file_name theory) files) held) → IsOwnOutcome theory held outcome
    → IsTriedOf told (nat_lt place most_files) theory outcome
read-file told theory place held outcome before is own =
    subst (λ b. IsTriedOf told b theory outcome) (sym (before-limit most_files place before)) (held-file told theory held outcome is own)

-- ---- the files so far
tells-none : (told : Option (List library.File)) → IfSome told (λ library_files. [] ≡ map (answer_in library_files) [])
tells-none None = tt
tells-none (Some files) = refl

pub IsReadSoFar-none : (told : Option (List library.File)) (files : List File) → files ≡ [] → IsReadSoFar told [] files 0
IsReadSoFar-none told files none = rw none (record {
  answers = [];
  of_theories = refl;
  tells = tells-none told;
  on = λ more others h. h;
})

tells-more : (told : Option (List library.File)) (theories : List (List ℕ)) (theory : List ℕ) (answers : List Answer) (bytes : Option (List ℕ))
    → IfSome told (λ library_files. answers ≡ map (answer_in library_files) theories) → TellsBytes told theory bytes
    → IfSome told (λ library_files. answers ++ record { theory = theory; bytes = bytes } ∷ [] ≡ map (answer_in library_files) (theories ++ theory ∷ []))
tells-more None theories theory answers bytes all one = tt
tells-more (Some files) theories theory answers bytes all one =
    rw (all, one) (sym (map-append (answer_in files) theories (theory ∷ [])))

pub IsReadSoFar-more : (told : Option (List library.File)) (theories : List (List ℕ)) (theory : List ℕ) (files : List File) (file : File) (before : ℕ) (own : Outcome)
    → IsReadSoFar told theories files before → IsTriedOf told (nat_lt (length files) most_files) theory own → file ≡ record { theory = theory; outcome = counted before own }
    → IsReadSoFar told (theories ++ theory ∷ []) (files ++ file ∷ []) (before + file_parts (counted before own))
IsReadSoFar-more told theories theory files file before own so_far tried is =
    let answer : Answer = record { theory = theory; bytes = tried.0 } in
    record {
      answers = so_far.answers ++ answer ∷ [];
      of_theories = map-append (λ (a : Answer). a.theory) so_far.answers (answer ∷ []) ∙ ap (λ ts. ts ++ theory ∷ []) so_far.of_theories;
      tells = tells-more told theories theory so_far.answers tried.0 so_far.tells tried.1;
      on = λ more others rest.
          let behind : AreReadFrom (length files + 1) (before + file_parts (counted before own)) more others =
          subst (λ n. AreReadFrom n (before + file_parts (counted before own)) more others) (length-append files (file ∷ [])) rest in
          subst (λ given. AreRead given ((files ++ file ∷ []) ++ others)) (sym (append_assoc so_far.answers (answer ∷ []) more))
          (subst (λ fs. AreRead (so_far.answers ++ answer ∷ more) fs) (sym (append_assoc files (file ∷ []) others))
          (so_far.on (answer ∷ more) (file ∷ others) (own, tried.2, is, behind)));
    }

pub IsReadSoFar-all : (told : Option (List library.File)) (theories : List (List ℕ)) (files : List File) (before : ℕ) → IsReadSoFar told theories files before → AreReadOf told theories files
IsReadSoFar-all told theories files before so_far = record {
  answers = so_far.answers;
  of_theories = so_far.of_theories;
  tells = so_far.tells;
  are_read = subst (λ given. AreRead given files) (append-nil so_far.answers) (subst (λ fs. AreRead (so_far.answers ++ []) fs) (append-nil files) (so_far.on [] [] tt));
}

read_from-long : (place before : ℕ) (answers : List Answer) (files : List File) → AreReadFrom place before answers files → length answers ≡ length files
read_from-long place before [] [] all = refl
read_from-long place before [] (f ∷ files) all = absurd all
read_from-long place before (a ∷ answers) [] all = absurd all
read_from-long place before (a ∷ answers) (f ∷ files) all =
    let rest = read_from-long (place + 1) (before + file_parts (counted before all.0)) answers files all.3 in
    omega (arith, rest)

pub read-long : (told : Option (List library.File)) (theories : List (List ℕ)) (files : List File) (before : ℕ) → IsReadSoFar told theories files before → length theories ≡ length files
read-long told theories files before so_far =
    let all : AreRead so_far.answers files = subst (λ given. AreRead given files) (append-nil so_far.answers) (subst (λ fs. AreRead (so_far.answers ++ []) fs) (append-nil files) (so_far.on [] [] tt)) in
    ap length (sym so_far.of_theories) ∙ length-map so_far.answers (λ (a : Answer). a.theory) ∙ read_from-long 0 0 so_far.answers files all

pub files-of : (told now : Option (List library.File)) (names theories : List (List ℕ)) (files : List File) → now ≡ told
    → IfSome told (λ library_files. names ≡ map (λ (f : library.File). f.name) library_files) → AreTheories names theories → AreReadOf now theories files → AreFilesOf told files
files-of told now names theories files same tells listed read = record {
  names = names;
  theories = theories;
  tells = tells;
  listed = listed;
  read = subst (λ o. AreReadOf o theories files) same read;
}
