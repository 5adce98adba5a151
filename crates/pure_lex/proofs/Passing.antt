-- A gap grows by a blank or a comment behind it, and ends where neither begins.
use Rattle.std.proofs.Common.{◌≡◌, ℕ, ◌+◌, ◌-◌, ◌<◌, ◌≤◌, true, false, List, [], ◌∷◌, ◌++◌, length, get_or, take, drop, ap, arith, drop-cons, add-one, append_assoc}
use Rattle.std.proofs.Math.Seq.{take-suc, take-append_seam, take-add}
use Rattle.std.proofs.lemmas.Bool.{false_from_ne_true, both_ways}
use Rattle.std.proofs.lemmas.List.{append-nil, drop_all, length-drop}
use Rattle.pure_grammar.specs.Tokens.Bytes.{is_blank, head_is}
use Rattle.pure_grammar.specs.Tokens.Comment.{is_comment, opens_comment, Gap, IsSettled}
use Rattle.pure_grammar.specs.Tokens.Comment.Gap.{nothing, blank, comment}
use Rattle.pure_grammar.proofs.Gaps.{opens_comment-front, settled-nothing}
use Rattle.pure_lex.specs.Fronts.{IsComment, HasNoComment, IsGap}
use Rattle.pure_lex.proofs.Comments.{opened-text}

pub Gap-append : (ys : List ℕ) {xs : List ℕ} → Gap xs → Gap ys → Gap (xs ++ ys)
Gap-append ys nothing g = g
Gap-append ys (blank p q) g = blank p (Gap-append ys q g)
Gap-append ys (comment item bs p q) g = rw append_assoc (comment item (bs ++ ys) p (Gap-append ys q g))

pub gap-blank : (text : List ℕ) (at : ℕ) → at < length text → Gap (take at text) → is_blank (get_or text at 0) ≡ true → Gap (take (at + 1) text)
gap-blank text at below gap p =
    let one : Gap (get_or text at 0 ∷ []) = blank p nothing in
    rw (add-one, take-suc text at 0 below) (Gap-append (get_or text at 0 ∷ []) gap one)

-- a comment is a gap
pub comment-gap : (text : List ℕ) (len : ℕ) → IsComment text len → Gap (take len text)
comment-gap text len x =
    let item : Gap (x.here ++ []) = comment x.here [] x.comment nothing in
    let whole : Gap x.here = rw append-nil at item in
    let front : take len text ≡ x.here = rw (x.cut.parts, ← x.cut.size) (take-append_seam x.here x.rest) in
    rw front whole

pub gap-comment : (text : List ℕ) (at len : ℕ) → Gap (take at text) → IsComment (drop at text) len → Gap (take (at + len) text)
gap-comment text at len gap x =
    rw (take-add at len text) (Gap-append (take len (drop at text)) gap (comment-gap (drop at text) len x))

comment-bytes : (bs : List ℕ) → is_comment bs ≡ true → 0 < length bs
comment-bytes [] p = cc
comment-bytes (b ∷ bs) p = omega arith

pub comment-some : (text : List ℕ) (at len : ℕ) → at ≤ length text → IsComment (drop at text) len → (at + len ≤ length text) × (0 < len)
comment-some text at len within x =
    let bound = x.cut.within in
    let size = x.cut.size in
    let some : 0 < length x.here = comment-bytes x.here x.comment in
    let left : len ≤ length text - at = simp length-drop at bound in
    (omega arith, omega arith)

gap-at : (text : List ℕ) (at : ℕ) → at ≤ length text → Gap (take at text) → IsSettled (drop at text) → IsGap text at
gap-at text at within gap settled = record { within = within; blank = gap; settled = settled }

pub gap-all : (text : List ℕ) (at : ℕ) → at ≤ length text → length text ≤ at → Gap (take at text) → IsGap text at
gap-all text at within past gap =
    let nothing : drop at text ≡ [] = drop_all at text past in
    let settled : IsSettled (drop at text) = rw nothing settled-nothing in
    gap-at text at within gap settled

pub gap-unclosed : (text : List ℕ) (at : ℕ) → at ≤ length text → Gap (take at text) → opens_comment (drop at text) ≡ true → HasNoComment (drop at text) → IsGap text at
unfolding is_blank
gap-unclosed text at within gap opens none =
    let marks = opened-text (drop at text) opens in
    let no_blank : head_is is_blank (drop at text) ≡ false = ap (λ t. head_is is_blank t) marks in
    let settled : IsSettled (drop at text) = record { no_blank = no_blank; no_comment = none } in
    gap-at text at within gap settled

pub gap-other : (text : List ℕ) (at : ℕ) → at < length text → Gap (take at text) → is_blank (get_or text at 0) ≡ false → opens_comment (drop at text) ≡ false → IsGap text at
gap-other text at below gap no_blank no_opening =
    let head : head_is is_blank (drop at text) ≡ false = rw (drop-cons text at 0 below) no_blank in
    let none : HasNoComment (drop at text) = λ here rest e. false_from_ne_true (is_comment here) (λ whole.
    let opens : opens_comment (drop at text) ≡ true = rw e (opens_comment-front here rest whole) in
    both_ways _ no_opening opens) in
    let settled : IsSettled (drop at text) = record { no_blank = head; no_comment = none } in
    gap-at text at (omega arith) gap settled
