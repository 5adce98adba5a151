-- A text is a gap and what stands behind it in one way.
use Rattle.std.proofs.Common.{◌≡◌, ℕ, zero, suc, List, [], ◌∷◌, ◌++◌, refl, sym, ◌∙◌, ap, inl, inr, Bool, true, false, append_assoc}
use Rattle.std.proofs.lemmas.Bool.{cases_Bool, both_ways, false≢true}
use Rattle.std.proofs.lemmas.List.{append-nil, append_cancel_left}
use Rattle.pure_grammar.specs.Tokens.Bytes.{is_blank, head_is, is_empty, marked}
use Rattle.pure_grammar.specs.Tokens.Comment.{is_opening, is_closing, closes, is_comment, opens_comment, Gap, IsSettled}
use Rattle.pure_grammar.specs.Tokens.Comment.Gap.{nothing, blank, comment}
use Rattle.pure_grammar.proofs.Fronts.{cuts, marked-is}

pub empty_is : (bs : List ℕ) → is_empty bs ≡ true → bs ≡ []
empty_is [] e = refl
empty_is (b ∷ bs) e = cc

-- what closes some comments goes no further
pub closes-front : (depth : ℕ) (c m : List ℕ) → closes depth c ≡ true → closes depth (c ++ m) ≡ true → m ≡ []
closes-front zero [] m p q = empty_is m q
closes-front zero (b ∷ c) m p q = cc
closes-front (suc depth) [] m p q = cc
closes-front (suc depth) (b ∷ []) m p q = cc
closes-front (suc depth) (b ∷ d ∷ c) m p q =
    elim (cases_Bool (is_opening b d)) [
      | inl opening ↦ closes-front (suc (suc depth)) c m (rw opening at p) (rw opening at q)
      | inr none ↦ elim (cases_Bool (is_closing b d)) [
        | inl closing ↦ closes-front depth c m (rw (none, closing) at p) (rw (none, closing) at q)
        | inr other ↦ closes-front (suc depth) (d ∷ c) m (rw (none, other) at p) (rw (none, other) at q)
      ]
    ]

-- a text that begins with `(*`
pub record IsOpened (test : List ℕ → Bool) (bs : List ℕ) : Type 0 where
  pub body : List ℕ
  pub is : bs ≡ 40 ∷ 42 ∷ body
  pub passes : test body ≡ true

pub opened : (test : List ℕ → Bool) (bs : List ℕ) → marked 40 (marked 42 test) bs ≡ true → IsOpened test bs
opened test bs p =
    let outer = marked-is 40 (marked 42 test) bs p in
    let inner = marked-is 42 test outer.rest outer.passes in
    record { body = inner.rest; is = outer.is ∙ ap (λ r. 40 ∷ r) inner.is; passes = inner.passes }

-- no comment begins another
pub comment-front : (c m : List ℕ) → is_comment c ≡ true → is_comment (c ++ m) ≡ true → m ≡ []
comment-front c m p q =
    let at_mark = opened (closes 1) c p in
    let body = at_mark.body in
    let longer : is_comment (40 ∷ 42 ∷ (body ++ m)) ≡ true = rw at_mark.is at q in
    closes-front 1 body m at_mark.passes longer

pub opens_comment-front : (c m : List ℕ) → is_comment c ≡ true → opens_comment (c ++ m) ≡ true
opens_comment-front c m p = let at_mark = opened (closes 1) c p in rw at_mark.is refl

-- a comment begins with no blank
comment-blank : (c m bs : List ℕ) (b : ℕ) → is_comment c ≡ true → is_blank b ≡ true → b ∷ bs ≡ c ++ m → ⊥
unfolding is_blank
comment-blank c m bs b p q e =
    let at_mark = opened (closes 1) c p in
    let mark : b ∷ bs ≡ 40 ∷ (42 ∷ (at_mark.body ++ m)) = e ∙ ap (λ x. x ++ m) at_mark.is in
    let same : b ≡ 40 = cc in
    let no : is_blank 40 ≡ true = rw same at q in
    false≢true no

settled-blank : (r bs : List ℕ) (b : ℕ) → IsSettled r → is_blank b ≡ true → r ≡ b ∷ bs → ⊥
settled-blank r bs b settled p e =
    let no : head_is is_blank (b ∷ bs) ≡ false = rw e at settled.no_blank in
    both_ways _ no p

settled-comment : (r bs item : List ℕ) → IsSettled r → is_comment item ≡ true → r ≡ item ++ bs → ⊥
settled-comment r bs item settled p e = both_ways _ (settled.no_comment item bs e) p

-- two comments at the front of one text are the same
comments : (a b c d : List ℕ) → is_comment a ≡ true → is_comment c ≡ true → a ++ b ≡ c ++ d → a ≡ c
comments a b c d p q e = elim (cuts a b c d e) [
  | inl w ↦ (let longer : is_comment (a ++ w.more) ≡ true = rw w.longer at q in
      let none : w.more ≡ [] = comment-front a w.more p longer in
      sym (w.longer ∙ (ap (λ m. a ++ m) none ∙ append-nil a)))
  | inr w ↦ (let longer : is_comment (c ++ w.more) ≡ true = rw w.longer at p in
      let none : w.more ≡ [] = comment-front c w.more q longer in
      w.longer ∙ (ap (λ m. c ++ m) none ∙ append-nil c))
]

pub rests : (a b c d : List ℕ) → a ≡ c → a ++ b ≡ c ++ d → b ≡ d
rests a b c d same e = append_cancel_left a b d (e ∙ ap (λ x. x ++ d) (sym same))

nothing-comment : (c r : List ℕ) → [] ≡ c ++ r → is_comment c ≡ false
nothing-comment [] r e = refl
nothing-comment (b ∷ c) r e = cc

-- where no blank and no comment begins behind it, the gap at the front is the same
pub gap-gap : {g h : List ℕ} (r s : List ℕ) → Gap g → Gap h → IsSettled r → IsSettled s → g ++ r ≡ h ++ s → (g ≡ h) × (r ≡ s)
gap-gap r s nothing nothing x y e = (refl, e)
gap-gap r s nothing (blank {b = b} {bs = bs} p q) x y e = absurd (settled-blank r (bs ++ s) b x p e)
gap-gap r s nothing (comment item bs p q) x y e =
    absurd (settled-comment r (bs ++ s) item x p (e ∙ append_assoc item bs s))
gap-gap r s (blank {b = b} {bs = bs} p q) nothing x y e = absurd (settled-blank s (bs ++ r) b y p (sym e))
gap-gap r s (comment item bs p q) nothing x y e =
    absurd (settled-comment s (bs ++ r) item y p (sym e ∙ append_assoc item bs r))
gap-gap r s (blank {b = b} {bs = bs} p q) (blank {b = d} {bs = ds} p' q') x y e =
    let heads : b ≡ d = cc in
    let tails : bs ++ r ≡ ds ++ s = cc in
    let rest = gap-gap r s q q' x y tails in
    let same : bs ≡ ds = rest.0 in
    (cc, rest.1)
gap-gap r s (blank {b = b} {bs = bs} p q) (comment item ds p' q') x y e =
    absurd (comment-blank item (ds ++ s) (bs ++ r) b p' p (e ∙ append_assoc item ds s))
gap-gap r s (comment item bs p q) (blank {b = d} {bs = ds} p' q') x y e =
    absurd (comment-blank item (bs ++ r) (ds ++ s) d p p' (sym e ∙ append_assoc item bs r))
gap-gap r s (comment item bs p q) (comment other ds p' q') x y e =
    let whole : item ++ (bs ++ r) ≡ other ++ (ds ++ s) = sym (append_assoc item bs r) ∙ (e ∙ append_assoc other ds s) in
    let same : item ≡ other = comments item (bs ++ r) other (ds ++ s) p p' whole in
    let tails : bs ++ r ≡ ds ++ s = rests item (bs ++ r) other (ds ++ s) same whole in
    let rest = gap-gap r s q q' x y tails in
    let equal : bs ≡ ds = rest.0 in
    (cc, rest.1)

pub settled-nothing : IsSettled []
settled-nothing = record { no_blank = refl; no_comment = λ c r e. nothing-comment c r e }
