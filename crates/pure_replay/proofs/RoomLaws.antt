-- What is left of a room when sizes are put in.
use Rattle.std.proofs.Common.{◌≡◌, ◌∙◌, ℕ, ◌+◌, ◌≤◌, ◌<◌, List, [], ◌∷◌, ◌++◌, take, length, get_or, ap, subst, arith, take_all}
use Rattle.std.specs.Prelude.{Option, Some, None, MatchOption}
use Rattle.pure_text.proofs.LoopLaws.{longer_by}
use Rattle.pure_text.proofs.ListLaws.{split_at}
use Rattle.std.proofs.Common.{drop}
use Rattle.pure_definitions.specs.Terms.Term.{Term, term_size, IsWithin}
use Rattle.pure_replay.specs.Conclusion.{Conclusion}
use Rattle.pure_replay.specs.Lines.{terms_size, conclusion_size}
use Rattle.pure_replay.specs.Table.{HasRoom}

sizes-append : (xs ys : List Term) → terms_size (xs ++ ys) ≡ terms_size xs + terms_size ys
sizes-append [] ys = none_more (terms_size ys)
  where
    none_more : (n : ℕ) → n ≡ 0 + n
    none_more n = omega arith
sizes-append (x ∷ xs) ys = further (term_size x) (terms_size (xs ++ ys)) (terms_size xs) (terms_size ys) (sizes-append xs ys)
  where
    further : (a b c d : ℕ) → b ≡ c + d → a + b ≡ (a + c) + d
    further a b c d e = omega (arith, e)

pub sizes-turn : (ts : List Term) (i : ℕ) (t : Term) (left rest less : ℕ) → i < length ts → t ≡ get_or ts i t → rest + terms_size (take i ts) ≡ left → less + term_size t ≡ rest → less + terms_size (take (i + 1) ts) ≡ left
sizes-turn ts i t left rest less within read before now =
    ap (λ us. less + terms_size us) (longer_by ts i t within read) ∙ (ap (λ n. less + n) (sizes-append (take i ts) (t ∷ [])) ∙ sum (terms_size (take i ts)) (term_size t) less rest left now before)
  where
    sum : (a b less rest left : ℕ) → less + b ≡ rest → rest + a ≡ left → less + (a + (b + 0)) ≡ left
    sum a b less rest left e f = omega (arith, e, f)

pub sizes-over : (ts : List Term) (i : ℕ) (t : Term) (left rest : ℕ) → i < length ts → t ≡ get_or ts i t → rest + terms_size (take i ts) ≡ left → rest < term_size t → left < terms_size ts
sizes-over ts i t left rest within read before over =
    let whole = ap terms_size (split_at ts i t within read) ∙ sizes-append (take i ts) (t ∷ drop (i + 1) ts) in
    larger (terms_size ts) (terms_size (take i ts)) (term_size t) (terms_size (drop (i + 1) ts)) rest left whole before over
  where
    larger : (all a b d rest left : ℕ) → all ≡ a + (b + d) → rest + a ≡ left → rest < b → left < all
    larger all a b d rest left e f h = omega (arith, e, f, h)

pub sizes-small : (rest sizes left most : ℕ) → rest + sizes ≡ left → left ≤ most → rest ≤ most
sizes-small rest sizes left most e h = omega (arith, e, h)

pub sizes-first : (left : ℕ) → left + 0 ≡ left
sizes-first left = omega arith

pub sizes-all : (ts : List Term) (i rest left : ℕ) → length ts ≤ i → rest + terms_size (take i ts) ≡ left → rest + terms_size ts ≡ left
sizes-all ts i rest left end h = subst (λ us. rest + terms_size us ≡ left) (take_all i ts end) h

-- First one size, then another.
pub leaves-both : (r : Option ℕ) (left rest s t : ℕ) → rest + s ≡ left → MatchOption r (rest < t) (λ x. x + t ≡ rest) → MatchOption r (left < s + t) (λ x. x + (s + t) ≡ left)
leaves-both None left rest s t e h = omega (arith, e, h)
leaves-both (Some x) left rest s t e h = omega (arith, e, h)

pub leaves-over : (left s t : ℕ) → left < s → left < s + t
leaves-over left s t h = omega (arith, h)

pub room-answer : (r : Option ℕ) (left : ℕ) (c : Conclusion) → IsWithin c.prop → MatchOption r (left < conclusion_size c) (λ x. x + conclusion_size c ≡ left) → MatchOption r (¬ HasRoom left c) (λ x. HasRoom left c × (x + conclusion_size c ≡ left))
room-answer None left c within h = λ room. over left (conclusion_size c) h room.sum
  where
    over : (a b : ℕ) → a < b → b ≤ a → ⊥
    over a b h k = omega (arith, h, k)
room-answer (Some x) left c within h = (record { within = within; sum = under x (conclusion_size c) left h }, h)
  where
    under : (x b a : ℕ) → x + b ≡ a → b ≤ a
    under x b a e = omega (arith, e)
