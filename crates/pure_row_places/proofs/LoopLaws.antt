-- Turns of loops: one that puts what belongs to an element, and those that look for a word or go through rows.
use Rattle.std.proofs.Common.{◌≡◌, ℕ, zero, suc, ◌+◌, ◌<◌, ◌≤◌, List, [], ◌∷◌, ◌++◌, length, get_or, take, drop, take_all, refl, sym, ◌∙◌, ap, subst, arith, Option}
use Rattle.std.proofs.lemmas.List.{append-nil, drop_all}
use Rattle.pure_text.specs.Lists.{EachTwo}
use Rattle.pure_text.proofs.ListLaws.{two-append}
use Rattle.pure_text.proofs.LoopLaws.{longer_by}
use Rattle.pure_io.specs.declared.library.File as library
use Rattle.pure_session.specs.declared.reason.RefusedFile.{RefusedFile}
use Rattle.pure_print.specs.declared.row.Row.{Row}
use Rattle.pure_places.specs.Parts.{Part}
use Rattle.pure_row_places.specs.Reasons.{first_some, behind, named_place, at_word}
use Rattle.pure_row_places.specs.Lines.{Theory, Refusal, part_lines, refused_lines}
use Rattle.pure_row_places.specs.Headers.{IsLookedAtAs}
use Rattle.pure_row_places.specs.declared.scan.RefusedScan.{RefusedScan}

pub two-more : {A B : Type 0} (R : A → B → Type 0) (xs : List A) (i : ℕ) (x : A) (ys zs : List B) (y : B) → i < length xs → x ≡ get_or xs i x → EachTwo R (take i xs) ys → R x y → zs ≡ ys ++ y ∷ [] → EachTwo R (take (i + 1) xs) zs
two-more R xs i x ys zs y within read h r e = rw (longer_by xs i x within read, e) (two-append R (take i xs) (x ∷ []) ys (y ∷ []) h (r, tt))

pub two-all : {A B : Type 0} (R : A → B → Type 0) (xs : List A) (i : ℕ) (ys : List B) → length xs ≤ i → EachTwo R (take i xs) ys → EachTwo R xs ys
two-all R xs i ys full h = rw (take_all i xs full) at h

pub told-moved : (told now : Option (List library.File)) → now ≡ told → (f : RefusedFile) (s : RefusedScan) → IsLookedAtAs now f s → IsLookedAtAs told f s
told-moved told now same f s is = subst (λ t. IsLookedAtAs t f s) same is

named-next : (text : List ℕ) (i : ℕ) → i < length text → (found : Option (List ℕ)) → found ≡ behind at_word (drop i text) → first_some found (named_place (drop (suc i) text)) ≡ named_place (drop i text)
named-next [] i within found is = absurd (omega (arith, within))
named-next (b ∷ bs) zero within found is = ap (λ z. first_some z (named_place bs)) is
named-next (b ∷ bs) (suc i) within found is = named-next bs i (omega (arith, within)) found is

pub named-step : (text : List ℕ) (i : ℕ) → i < length text → (found : Option (List ℕ)) → found ≡ behind at_word (drop i text) → first_some found (named_place (drop (i + 1) text)) ≡ named_place (drop i text)
named-step text i within found is =
    let next : i + 1 ≡ suc i = omega arith in
    ap (λ n. first_some found (named_place (drop n text))) next ∙ named-next text i within found is

no-lines : (t : Theory) (ps : List (Part ℕ)) → part_lines t ps [] ≡ []
no-lines t [] = refl
no-lines t (p ∷ ps) = refl

-- Where no rows are left, all lines are put.
pub parts-ended : (t : Theory) (ps : List (Part ℕ)) (rows : List Row) (place : ℕ) (text all : List ℕ) → length rows ≤ place → text ++ part_lines t ps (drop place rows) ≡ all → text ≡ all
parts-ended t ps rows place text all none h =
    sym (append-nil text) ∙ ap (λ z. text ++ z) (sym (ap (part_lines t ps) (drop_all place rows none) ∙ no-lines t ps)) ∙ h

no-refused : (fs : List Refusal) → refused_lines fs [] ≡ []
no-refused [] = refl
no-refused (f ∷ fs) = refl

pub refused-ended : (fs : List Refusal) (rows : List Row) (place : ℕ) (text all : List ℕ) → length rows ≤ place → text ++ refused_lines fs (drop place rows) ≡ all → text ≡ all
refused-ended fs rows place text all none h =
    sym (append-nil text) ∙ ap (λ z. text ++ z) (sym (ap (refused_lines fs) (drop_all place rows none) ∙ no-refused fs)) ∙ h
