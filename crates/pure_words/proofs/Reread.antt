-- Words that are read again.
use Rattle.std.proofs.Common.{◌≡◌, ◌∙◌, ◌<◌, ◌+◌, ℕ, ◌==◌, Bool, false, List, [], ◌∷◌, ◌++◌, Option, Some, None, length, map, take, suc, get_or, sym, ap, ap₂, refl, arith}
use Rattle.std.specs.Prelude.{is_some, unwrap_or}
use Rattle.std.specs.Borrow.{Bor}
use Rattle.std.proofs.Math.Seq.{take-suc}
use Rattle.std.proofs.lemmas.Bool.{false≢true}
use Rattle.std.proofs.lemmas.List.{map-append}
use Rattle.clap.specs.Walk.{Text}
use Rattle.pure_words.specs.Words.{IsCommand, IsJob}
use Rattle.pure_words.specs.declared.job.Job.{Job}

-- one more word as a text
pub one_more_text : (xs : List (Bor Text)) (x : Bor Text) (words : List Text) (i : ℕ) (word : Text) → map (λ (s : Bor Text). s.now) xs ≡ take i words → i < length words
    → word ≡ get_or words i word → x.now ≡ word → map (λ (s : Bor Text). s.now) (xs ++ x ∷ []) ≡ take (i + 1) words
one_more_text xs x words i word before within read same =
    let more : suc i ≡ i + 1 = omega arith in
    map-append (λ (s : Bor Text). s.now) xs (x ∷ []) ∙ ap₂ (λ (front : List Text) (last : Text). front ++ last ∷ []) before (same ∙ read) ∙ sym (take-suc words i word within)
    ∙ ap (λ n. take n words) more

-- a reading of the words as a job that they are finds it
abbrev pub Rereads : List Text → Option Job → Type 0
Rereads words o = (name : List ℕ) (rest : List Text) (job : Job) → words ≡ name ∷ rest → IsCommand name rest job → o ≡ Some job

pub reread_is : (words : List Text) (job found : Job) (b : Bool) (o : Option Job) → b ≡ (length words == 0) → b ≡ false → o ≡ Some found → Rereads words o → IsJob words job
    → found ≡ job
reread_is [] job found b o tested there has says is = absurd (false≢true (sym there ∙ tested))
reread_is (name ∷ rest) job found b o tested there has says is = ap (λ (x : Option Job). unwrap_or x job) (sym has ∙ says name rest job refl is)

pub none_reread : (words : List Text) (job : Job) (b : Bool) (o : Option Job) → b ≡ (length words == 0) → b ≡ false → o ≡ None → Rereads words o → IsJob words job → ⊥
none_reread [] job b o tested there has says is = false≢true (sym there ∙ tested)
none_reread (name ∷ rest) job b o tested there has says is = false≢true (ap (λ (x : Option Job). is_some x) (sym has ∙ says name rest job refl is))
