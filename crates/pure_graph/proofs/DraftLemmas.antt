-- Drafts of files: as they are read, once they say what they say, and as they are counted.
use Rattle.std.proofs.Common.{◌≡◌, ℕ, suc, ◌+◌, ◌-◌, ◌<◌, ◌≤◌, List, [], ◌∷◌, ◌++◌, length, get_or, take, drop, take_all, take-add, length-take-le, refl, sym, ap, ◌∙◌, subst, arith, append_assoc, length-append, Option, nat_lt}
use Rattle.std.proofs.lemmas.List.{map-append, append-nil}
use Rattle.std.specs.Prelude.{slice_range}
use Rattle.pure_io.specs.declared.library.File as library
use Rattle.pure_text.specs.Lists.{EachTwo}
use Rattle.std.proofs.Math.Seq.{take-append_seam}
use Rattle.pure_text.proofs.ListLaws.{two_long}
use Rattle.pure_text.proofs.LoopLaws.{longer_by}
use Rattle.pure_graph.specs.Limits.{most_files}
use Rattle.pure_graph.specs.Outcome.{Outcome}
use Rattle.pure_graph.specs.Reading.{counted, file_parts}
use Rattle.pure_graph.specs.Told.{IsTriedOf}
use Rattle.pure_graph.specs.Seen.{seen_outcome, seen_file, seen_files}
use Rattle.pure_graph.specs.Drafts.{IsKnownOf, AreDraftsFrom, IsSaidOf, IsReadSoFar, IsReadTo, IsReadOn, AreReadBehind}
use Rattle.pure_graph.specs.declared.drafts.Draft.{Draft}
use Rattle.pure_graph.specs.declared.files.ReadFiles.{ReadFiles}
use Rattle.pure_graph.specs.declared.outcome.TheoryFile.{TheoryFile}
use Rattle.pure_graph.proofs.FilesLemmas.{IsReadSoFar-none, IsReadSoFar-more, read-long}

-- what holds at each place holds of two lists
pub two_of : {A : Type 0} (R : A → A → Type 0) (xs ys : List A) → length ys ≡ length xs → ((i : ℕ) (d : A) → i < length xs → R (get_or xs i d) (get_or ys i d)) → EachTwo R xs ys
two_of R [] [] same h = tt
two_of R [] (y ∷ ys) same h = absurd (omega (arith, same))
two_of R (x ∷ xs) [] same h = absurd (omega (arith, same))
two_of R (x ∷ xs) (y ∷ ys) same h = (h 0 x (omega arith), two_of R xs ys (omega (arith, same)) (λ i d within. h (suc i) d (omega (arith, within))))

-- ---- as they are read
drafts-snoc : (told : Option (List library.File)) (place : ℕ) (theories : List (List ℕ)) (theory : List ℕ) (drafts : List Draft) (draft : Draft)
    → AreDraftsFrom told place theories drafts → draft.theory ≡ theory → IsKnownOf told (place + length drafts) theory draft.known → AreDraftsFrom told place (theories ++ theory ∷ []) (drafts ++ draft ∷ [])
drafts-snoc told place [] theory [] draft all is known = (is, subst (λ n. IsKnownOf told n theory draft.known) (omega arith) known, tt)
drafts-snoc told place [] theory (d ∷ drafts) draft all is known = absurd all
drafts-snoc told place (t ∷ theories) theory [] draft all is known = absurd all
drafts-snoc told place (t ∷ theories) theory (d ∷ drafts) draft all is known =
    (all.0, all.1, drafts-snoc told (place + 1) theories theory drafts draft all.2 is (subst (λ n. IsKnownOf told n theory draft.known) (omega arith) known))

pub long-none : (drafts : List Draft) → drafts ≡ [] → length drafts ≡ 0
long-none drafts none = ap length none

pub long-turn : (drafts : List Draft) (draft : Draft) (drafts' : List Draft) (i : ℕ) → length drafts ≡ i → drafts' ≡ drafts ++ draft ∷ [] → length drafts' ≡ i + 1
long-turn drafts draft drafts' i long longer = ap length longer ∙ length-append drafts (draft ∷ []) ∙ ap (λ n. n + 1) long

-- one turn of the loop
pub drafts-turn : (told now : Option (List library.File)) (start : ℕ) (theories : List (List ℕ)) (i : ℕ) (theory : List ℕ) (drafts drafts' : List Draft) (draft : Draft) (place : ℕ)
    → now ≡ told → i < length theories → theory ≡ get_or theories i theory → place ≡ start + length drafts → AreDraftsFrom told start (take i theories) drafts
    → IsKnownOf now place theory draft.known → draft.theory ≡ theory → drafts' ≡ drafts ++ draft ∷ [] → AreDraftsFrom told start (take (i + 1) theories) drafts'
drafts-turn told now start theories i theory drafts drafts' draft place same within read place_is so_far known is longer =
    rw (longer_by theories i theory within read, longer)
    (drafts-snoc told start (take i theories) theory drafts draft so_far is (subst (λ n. IsKnownOf told n theory draft.known) place_is (subst (λ o. IsKnownOf o place theory draft.known) same known)))

pub drafts-end : (told : Option (List library.File)) (start : ℕ) (theories : List (List ℕ)) (i : ℕ) (drafts : List Draft) → length theories ≤ i → AreDraftsFrom told start (take i theories) drafts → AreDraftsFrom told start theories drafts
drafts-end told start theories i drafts past so_far = rw (take_all i theories past) at so_far

-- ---- once they say what they say
pub drafts-said : (told : Option (List library.File)) (place : ℕ) (theories : List (List ℕ)) (old new : List Draft) → EachTwo IsSaidOf old new → AreDraftsFrom told place theories old → AreDraftsFrom told place theories new
drafts-said told place [] [] [] two all = tt
drafts-said told place [] [] (n ∷ new) two all = absurd two
drafts-said told place [] (o ∷ old) new two all = absurd all
drafts-said told place (t ∷ theories) [] new two all = absurd all
drafts-said told place (t ∷ theories) (o ∷ old) [] two all = absurd two
drafts-said told place (t ∷ theories) (o ∷ old) (n ∷ new) two all =
    (two.0.theory ∙ all.0, subst (λ (th : List ℕ). IsKnownOf told place th n.known) all.0 (two.0.known told place (subst (λ (th : List ℕ). IsKnownOf told place th o.known) (sym all.0) all.1)), drafts-said told (place + 1) theories old new two.1 all.2)

-- the drafts that were lent to the threads, as they come back
pub lent-back : (old lent new : List Draft) (n : ℕ) → lent ≡ old → length lent ≡ n → EachTwo IsSaidOf lent new → EachTwo IsSaidOf old (take n (new ++ drop (length new) old))
lent-back old lent new n same long two =
    let back : take n (new ++ drop (length new) old) ≡ new = ap (λ m. take m (new ++ drop (length new) old)) (sym long ∙ two_long IsSaidOf lent new two) ∙ take-append_seam new (drop (length new) old) in
    subst (EachTwo IsSaidOf old) (sym back) (subst (λ (ds : List Draft). EachTwo IsSaidOf ds new) same two)

-- ---- as they are counted
-- Behind the first files stand those of the drafts passed; what is left of the drafts is of the theories left.
pub record AreCounted (first : ReadFiles) (drafts left : List Draft) (files : List TheoryFile) (before : ℕ) : Type 0 where
  pub so_far : (told : Option (List library.File)) (read theories : List (List ℕ)) → IsReadTo told read first → AreDraftsFrom told (length read) theories drafts
      → (done : List (List ℕ)) × (others : List (List ℕ)) × (read ++ theories ≡ done ++ others) × IsReadSoFar told done (seen_files files) before × AreDraftsFrom told (length done) others left

pub counted-none : (first : ReadFiles) (drafts left : List Draft) (files : List TheoryFile) (before : ℕ) → files ≡ first.files.items → before ≡ first.parts → left ≡ drafts → AreCounted first drafts left files before
counted-none first drafts left files before same_files same_count same = record {
  so_far = λ told read theories begun all. (
    read,
    theories,
    refl,
    subst (λ n. IsReadSoFar told read (seen_files files) n) (sym same_count) (subst (λ fs. IsReadSoFar told read (seen_files fs) first.parts) (sym same_files) begun),
    subst (AreDraftsFrom told (length read) theories) (sym same) all,
  );
}

counted-one : (told : Option (List library.File)) (done others : List (List ℕ)) (rest : List Draft) (draft : Draft) (files : List TheoryFile) (file : TheoryFile) (own : Outcome) (before : ℕ)
    → IsReadSoFar told done (seen_files files) before → AreDraftsFrom told (length done) others (draft ∷ rest) → file.theory ≡ draft.theory
    → ((told : Option (List library.File)) (place : ℕ) → IsKnownOf told place draft.theory draft.known → IsTriedOf told (nat_lt place most_files) draft.theory own) → seen_outcome file.outcome ≡ counted before own
    → (more : List (List ℕ)) × (rest_theories : List (List ℕ)) × (done ++ others ≡ more ++ rest_theories) × IsReadSoFar told more (seen_files (files ++ file ∷ [])) (before + file_parts (counted before own)) × AreDraftsFrom told (length more) rest_theories rest
counted-one told done [] rest draft files file own before so_far all same tells said = absurd all
counted-one told done (t ∷ others) rest draft files file own before so_far all same tells said =
    let theory : draft.theory ≡ t = all.0 in
    let places : length done ≡ length (seen_files files) = read-long told done (seen_files files) before so_far in
    let tried : IsTriedOf told (nat_lt (length (seen_files files)) most_files) t own =
    subst (λ n. IsTriedOf told (nat_lt n most_files) t own) places
    (subst (λ (th : List ℕ). IsTriedOf told (nat_lt (length done) most_files) th own) theory (tells told (length done) (subst (λ (th : List ℕ). IsKnownOf told (length done) th draft.known) (sym theory) all.1))) in
    let seen : seen_file file ≡ record { theory = t; outcome = counted before own } = λ j. record { theory = (same ∙ theory) j; outcome = said j } in
    let grown : seen_files (files ++ file ∷ []) ≡ seen_files files ++ seen_file file ∷ [] = map-append seen_file files (file ∷ []) in (
      done ++ t ∷ [],
      others,
      sym (append_assoc done (t ∷ []) others),
      subst (λ fs. IsReadSoFar told (done ++ t ∷ []) fs (before + file_parts (counted before own))) (sym grown) (IsReadSoFar-more told done t (seen_files files) (seen_file file) before own so_far tried seen),
      subst (λ n. AreDraftsFrom told n others rest) (sym (length-append done (t ∷ []))) all.2,
    )

-- one turn of the loop
pub counted-turn : (first : ReadFiles) (drafts left rest : List Draft) (draft : Draft) (files files' : List TheoryFile) (file : TheoryFile) (own : Outcome) (before sum : ℕ)
    → left ≡ draft ∷ rest → file.theory ≡ draft.theory
    → ((told : Option (List library.File)) (place : ℕ) → IsKnownOf told place draft.theory draft.known → IsTriedOf told (nat_lt place most_files) draft.theory own) → seen_outcome file.outcome ≡ counted before own
    → sum ≡ before + file_parts (seen_outcome file.outcome) → files' ≡ files ++ file ∷ [] → AreCounted first drafts left files before → AreCounted first drafts rest files' sum
counted-turn first drafts left rest draft files files' file own before sum cut same tells said sum_is longer on = record {
  so_far = λ told read theories begun all.
      (let was = on.so_far told read theories begun all in
      let one = counted-one told was.0 was.1 rest draft files file own before was.3 (subst (AreDraftsFrom told (length was.0) was.1) cut was.4) same tells said in
      let counts : before + file_parts (counted before own) ≡ sum = sym (sum_is ∙ ap (λ o. before + file_parts o) said) in (
        one.0,
        one.1,
        was.2 ∙ one.2,
        subst (λ n. IsReadSoFar told one.0 (seen_files files') n) counts (subst (λ fs. IsReadSoFar told one.0 (seen_files fs) (before + file_parts (counted before own))) (sym longer) one.3),
        one.4,
      ));
}

pub counted-end : (first : ReadFiles) (drafts left : List Draft) (files : List TheoryFile) (before : ℕ) → length left ≡ 0 → AreCounted first drafts left files before
    → (told : Option (List library.File)) (read theories : List (List ℕ)) → IsReadTo told read first → AreDraftsFrom told (length read) theories drafts → IsReadSoFar told (read ++ theories) (seen_files files) before
counted-end first drafts [] files before none on told read theories begun all = let was = on.so_far told read theories begun all in counted-whole told (read ++ theories) was.0 was.1 files before was.2 was.3 was.4
  where
    counted-whole : (told : Option (List library.File)) (theories done others : List (List ℕ)) (files : List TheoryFile) (before : ℕ) → theories ≡ done ++ others → IsReadSoFar told done (seen_files files) before → AreDraftsFrom told (length done) others [] → IsReadSoFar told theories (seen_files files) before
    counted-whole told theories done [] files before cut so_far rest = subst (λ ts. IsReadSoFar told ts (seen_files files) before) (sym (cut ∙ append-nil done)) so_far
    counted-whole told theories done (t ∷ others) files before cut so_far rest = absurd rest
counted-end first drafts (d ∷ left) files before none on told read theories begun all = absurd (omega arith)

-- ---- some after others
front-longer : (theories : List (List ℕ)) (from to : ℕ) → from ≤ to → take from theories ++ slice_range theories from to ≡ take to theories
front-longer theories from to within =
    let ends : from + (to - from) ≡ to = omega arith in
    sym (take-add from (to - from) theories) ∙ ap (λ n. take n theories) ends

pub read-none : (told : Option (List library.File)) (theories : List (List ℕ)) (files : List TheoryFile) → files ≡ [] → IsReadSoFar told (take 0 theories) (seen_files files) 0
read-none told theories files none = IsReadSoFar-none told (seen_files files) (ap seen_files none)

-- the drafts of theories from a place on, behind whatever files stand before that place
pub read-behind : (told : Option (List library.File)) (place : ℕ) (theories : List (List ℕ)) (old new : ReadFiles) (drafts : List Draft)
    → AreDraftsFrom told place theories drafts → AreReadBehind old drafts new → IsReadOn told place theories old new
read-behind told place theories old new drafts all behind done long begun = behind told done theories begun (subst (λ n. AreDraftsFrom told n theories drafts) (sym long) all)

-- one turn of the loop
pub read-turn : (told now : Option (List library.File)) (theories some : List (List ℕ)) (place end : ℕ) (read more : ReadFiles)
    → now ≡ told → place ≤ end → end ≤ length theories → some ≡ slice_range theories place end → IsReadOn now place some read more → IsReadTo told (take place theories) read → IsReadTo told (take end theories) more
read-turn told now theories some place end read more same within inside some_is on so_far =
    let long : length (take place theories) ≡ place = length-take-le place theories (omega arith) in
    let all : IsReadTo told (take place theories ++ some) more = (subst (λ o. IsReadOn o place some read more) same on) (take place theories) long so_far in
    subst (λ ts. IsReadTo told ts more) (ap (λ s. take place theories ++ s) some_is ∙ front-longer theories place end within) all
