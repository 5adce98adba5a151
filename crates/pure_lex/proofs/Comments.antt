-- Where a comment ends.
use Rattle.std.proofs.Common.{◌≡◌, ℕ, zero, suc, ◌+◌, ◌-◌, ◌<◌, ◌≤◌, true, false, List, [], ◌∷◌, ◌++◌, length, get_or, drop, refl, sym, ap, ◌∙◌, ◌==◌, inl, inr, arith, drop-cons, Option, Some, None, if◌then◌else◌}
use Rattle.std.proofs.lemmas.Bool.{cases_Bool, and_parts, eqb-true, false_from_ne_true, false≢true}
use Rattle.std.proofs.lemmas.List.{length-append, length-drop}
use Rattle.pure_grammar.specs.Tokens.Comment.{is_opening, is_closing, closes, is_comment, opens_comment}
use Rattle.pure_grammar.proofs.Gaps.{opened, empty_is}
use Rattle.pure_lex.specs.Fronts.{IsComment, HasNoComment}

-- the place behind the bytes that close `depth` comments, `bytes` being read from the place `at` on
abbrev pub comment_end : ℕ → ℕ → List ℕ → Option ℕ
comment_end zero at bs = Some at
comment_end (suc depth) at [] = None
comment_end (suc depth) at (b ∷ []) = None
comment_end (suc depth) at (b ∷ c ∷ bs) =
    if is_opening b c then comment_end (suc (suc depth)) (at + 2) bs
    else (if is_closing b c then comment_end depth (at + 2) bs
    else comment_end (suc depth) (at + 1) (c ∷ bs))

-- the text begins with the bytes that close `depth` comments, and they end at the place `end`
pub record Closed (depth at end : ℕ) (bs : List ℕ) : Type 0 where
  pub here : List ℕ
  pub rest : List ℕ
  pub text : bs ≡ here ++ rest
  pub closes_all : closes depth here ≡ true
  pub ends : end ≡ at + length here

closed-two : (depth next at end b c : ℕ) (bs : List ℕ) → ((here : List ℕ) → closes next here ≡ true → closes depth (b ∷ c ∷ here) ≡ true) → Closed next (at + 2) end bs → Closed depth at end (b ∷ c ∷ bs)
closed-two depth next at end b c bs step x =
    let text : bs ≡ x.here ++ x.rest = x.text in
    let ends = x.ends in
    record { here = b ∷ c ∷ x.here; rest = x.rest; text = cc; closes_all = step x.here x.closes_all; ends = omega arith }

-- where more than one byte is left, a byte that opens and closes nothing is passed over
closes-longer : (depth b c : ℕ) (here rest bs : List ℕ) → c ∷ bs ≡ here ++ rest → is_opening b c ≡ false → is_closing b c ≡ false → closes (suc depth) here ≡ true → closes (suc depth) (b ∷ here) ≡ true
closes-longer depth b c [] rest bs e p q h = cc
closes-longer depth b c (d ∷ here) rest bs e p q h =
    let same : c ≡ d = cc in
    let no_opening : is_opening b d ≡ false = rw (← same) p in
    let no_closing : is_closing b d ≡ false = rw (← same) q in
    rw (no_opening, no_closing) h

pub closed : (depth at end : ℕ) (bs : List ℕ) → comment_end depth at bs ≡ Some end → Closed depth at end bs
closed zero at end bs e = let same : end ≡ at = cc in
    record { here = []; rest = bs; text = refl; closes_all = refl; ends = omega arith }
closed (suc depth) at end [] e = cc
closed (suc depth) at end (b ∷ []) e = cc
closed (suc depth) at end (b ∷ c ∷ bs) e = elim (cases_Bool (is_opening b c)) [
  | inl opening ↦ closed-two (suc depth) (suc (suc depth)) at end b c bs (λ here h. rw opening h)
      (closed (suc (suc depth)) (at + 2) end bs (rw opening at e))
  | inr none ↦ elim (cases_Bool (is_closing b c)) [
    | inl closing ↦ closed-two (suc depth) depth at end b c bs (λ here h. rw (none, closing) h)
        (closed depth (at + 2) end bs (rw (none, closing) at e))
    | inr other ↦ (let x = closed (suc depth) (at + 1) end (c ∷ bs) (rw (none, other) at e) in
        let text : c ∷ bs ≡ x.here ++ x.rest = x.text in
        let ends = x.ends in
        record {
          here = b ∷ x.here;
          rest = x.rest;
          text = cc;
          ends = omega arith;
          closes_all = closes-longer depth b c x.here x.rest bs text none other x.closes_all;
        })
  ]
]

pub comment_end-closes : (depth at : ℕ) (here rest : List ℕ) → closes depth here ≡ true → comment_end depth at (here ++ rest) ≡ Some (at + length here)
comment_end-closes zero at here rest p =
    let none : here ≡ [] = empty_is here p in
    let place : at ≡ at + length here = omega (arith, ap length none) in
    ap Some place
comment_end-closes (suc depth) at [] rest p = cc
comment_end-closes (suc depth) at (b ∷ []) rest p = cc
comment_end-closes (suc depth) at (b ∷ c ∷ here) rest p = elim (cases_Bool (is_opening b c)) [
  | inl opening ↦ (let place : (at + 2) + length here ≡ at + length (b ∷ c ∷ here) = omega arith in
      rw opening (comment_end-closes (suc (suc depth)) (at + 2) here rest (rw opening at p) ∙ ap Some place))
  | inr none ↦ elim (cases_Bool (is_closing b c)) [
    | inl closing ↦ (let place : (at + 2) + length here ≡ at + length (b ∷ c ∷ here) = omega arith in
        rw (none, closing) (comment_end-closes depth (at + 2) here rest (rw (none, closing) at p) ∙ ap Some place))
    | inr other ↦ (let place : (at + 1) + length (c ∷ here) ≡ at + length (b ∷ c ∷ here) = omega arith in
        rw (none, other) (comment_end-closes (suc depth) (at + 1) (c ∷ here) rest (rw (none, other) at p) ∙ ap Some place))
  ]
]

-- what is left to read ends the comment where the whole does
pub record Reading (text : List ℕ) (depth at : ℕ) : Type 0 where
  pub same : comment_end 1 2 (drop 2 text) ≡ comment_end depth at (drop at text)
  pub inside : 0 < depth
  pub shallow : depth ≤ at
  pub within : at ≤ length text

two : (text : List ℕ) (at : ℕ) → at + 1 < length text → drop at text ≡ get_or text at 0 ∷ (get_or text (at + 1) 0 ∷ drop (at + 2) text)
two text at below =
    let first : at < length text = omega arith in
    let second : suc at < length text = omega arith in
    let one_more : suc at ≡ at + 1 = omega arith in
    let two_more : suc (suc at) ≡ at + 2 = omega arith in
    drop-cons text at 0 first ∙ (ap (λ r. get_or text at 0 ∷ r) (drop-cons text (suc at) 0 second) ∙ ap (λ k. get_or text at 0 ∷ (get_or text k 0 ∷ drop (suc k) text)) one_more ∙ ap (λ k. get_or text at 0 ∷ (get_or text (at + 1) 0 ∷ drop k text)) (ap suc (sym one_more) ∙ two_more))

comment_end-opening : (depth at b c : ℕ) (bs : List ℕ) → 0 < depth → is_opening b c ≡ true → comment_end depth at (b ∷ c ∷ bs) ≡ comment_end (depth + 1) (at + 2) bs
comment_end-opening zero at b c bs inside opening = absurd (omega arith)
comment_end-opening (suc depth) at b c bs inside opening =
    let deeper : suc (suc depth) ≡ suc depth + 1 = omega arith in
    rw opening (ap (λ d. comment_end d (at + 2) bs) deeper)

comment_end-closing : (depth at b c : ℕ) (bs : List ℕ) → 0 < depth → is_opening b c ≡ false → is_closing b c ≡ true → comment_end depth at (b ∷ c ∷ bs) ≡ comment_end (depth - 1) (at + 2) bs
comment_end-closing zero at b c bs inside none closing = absurd (omega arith)
comment_end-closing (suc depth) at b c bs inside none closing =
    let higher : depth ≡ suc depth - 1 = omega arith in
    rw (none, closing) (ap (λ d. comment_end d (at + 2) bs) higher)

comment_end-other : (depth at b c : ℕ) (bs : List ℕ) → 0 < depth → is_opening b c ≡ false → is_closing b c ≡ false → comment_end depth at (b ∷ c ∷ bs) ≡ comment_end depth (at + 1) (c ∷ bs)
comment_end-other zero at b c bs inside none other = absurd (omega arith)
comment_end-other (suc depth) at b c bs inside none other = rw (none, other) refl

-- the text begins with `(*`
pub reading-start : (text : List ℕ) → opens_comment text ≡ true → Reading text 1 2
reading-start [] p = cc
reading-start (b ∷ []) p = absurd (false≢true (and_parts (b == 40) false p).1)
reading-start (b ∷ c ∷ bs) p = record { same = refl; inside = omega arith; shallow = omega arith; within = omega arith }

pub reading-opening : (text : List ℕ) (depth at : ℕ) → Reading text depth at → at + 1 < length text → is_opening (get_or text at 0) (get_or text (at + 1) 0) ≡ true → Reading text (depth + 1) (at + 2)
reading-opening text depth at r below opening =
    let inside = r.inside in
    let shallow = r.shallow in
    record {
      same = r.same ∙ (ap (λ bs. comment_end depth at bs) (two text at below) ∙ comment_end-opening depth at (get_or text at 0) (get_or text (at + 1) 0) (drop (at + 2) text) r.inside opening);
      inside = omega arith;
      shallow = omega arith;
      within = omega arith;
    }

closing-same : (text : List ℕ) (depth at : ℕ) → Reading text depth at → at + 1 < length text → is_opening (get_or text at 0) (get_or text (at + 1) 0) ≡ false → is_closing (get_or text at 0) (get_or text (at + 1) 0) ≡ true → comment_end 1 2 (drop 2 text) ≡ comment_end (depth - 1) (at + 2) (drop (at + 2) text)
closing-same text depth at r below none closing =
    r.same ∙ (ap (λ bs. comment_end depth at bs) (two text at below) ∙ comment_end-closing depth at (get_or text at 0) (get_or text (at + 1) 0) (drop (at + 2) text) r.inside none closing)

pub reading-closing : (text : List ℕ) (depth at : ℕ) → Reading text depth at → at + 1 < length text → is_opening (get_or text at 0) (get_or text (at + 1) 0) ≡ false → is_closing (get_or text at 0) (get_or text (at + 1) 0) ≡ true → (depth ≡ 1 → ⊥) → Reading text (depth - 1) (at + 2)
reading-closing text depth at r below none closing more =
    let inside = r.inside in
    let shallow = r.shallow in
    record { same = closing-same text depth at r below none closing; inside = omega arith; shallow = omega arith; within = omega arith }

pub reading-other : (text : List ℕ) (depth at : ℕ) → Reading text depth at → at + 1 < length text → is_opening (get_or text at 0) (get_or text (at + 1) 0) ≡ false → is_closing (get_or text at 0) (get_or text (at + 1) 0) ≡ false → Reading text depth (at + 1)
reading-other text depth at r below none other =
    let inside = r.inside in
    let shallow = r.shallow in
    let second : at + 1 < length text = below in
    let next : get_or text (at + 1) 0 ∷ drop (at + 2) text ≡ drop (at + 1) text =
    (let more : suc (at + 1) ≡ at + 2 = omega arith in ap (λ k. get_or text (at + 1) 0 ∷ drop k text) (sym more) ∙ sym (drop-cons text (at + 1) 0 second)) in
    record {
      same = r.same ∙ (ap (λ bs. comment_end depth at bs) (two text at below) ∙ (comment_end-other depth at (get_or text at 0) (get_or text (at + 1) 0) (drop (at + 2) text) r.inside none other ∙ ap (λ bs. comment_end depth (at + 1) bs) next));
      inside = omega arith;
      shallow = omega arith;
      within = omega arith;
    }

-- the text is `(*` and what follows
pub opened-text : (text : List ℕ) → opens_comment text ≡ true → text ≡ 40 ∷ (42 ∷ drop 2 text)
opened-text [] p = cc
opened-text (b ∷ []) p = let r = reading-start (b ∷ []) p in let within = r.within in absurd (omega arith)
opened-text (b ∷ c ∷ bs) p =
    let first = eqb-true b 40 (and_parts (b == 40) (c == 42) p).0 in
    let second = eqb-true c 42 (and_parts (b == 40) (c == 42) p).1 in
    cc

-- where the comment ends
pub comment-ends : (text : List ℕ) (end : ℕ) → opens_comment text ≡ true → comment_end 1 2 (drop 2 text) ≡ Some end → IsComment text end
comment-ends text end p e =
    let x = closed 1 2 end (drop 2 text) e in
    let ends = x.ends in
    let parts : text ≡ 40 ∷ (42 ∷ (x.here ++ x.rest)) = opened-text text p ∙ ap (λ bs. 40 ∷ (42 ∷ bs)) x.text in
    let whole : length text ≡ 2 + (length x.here + length x.rest) = ap length parts ∙ simp length-append (omega arith) in
    record {
      here = 40 ∷ (42 ∷ x.here);
      rest = x.rest;
      comment = x.closes_all;
      cut = record { parts = parts; size = omega arith; within = omega arith };
    }

-- the last of the comments that are open is closed here
pub comment-closed : (text : List ℕ) (at : ℕ) → opens_comment text ≡ true → Reading text 1 at → at + 1 < length text → is_opening (get_or text at 0) (get_or text (at + 1) 0) ≡ false → is_closing (get_or text at 0) (get_or text (at + 1) 0) ≡ true → IsComment text (at + 2)
comment-closed text at p r below none closing = comment-ends text (at + 2) p (closing-same text 1 at r below none closing)

comment_end-short : (depth at : ℕ) (bs : List ℕ) → 0 < depth → length bs < 2 → comment_end depth at bs ≡ None
comment_end-short zero at bs inside few = absurd (omega arith)
comment_end-short (suc depth) at [] inside few = refl
comment_end-short (suc depth) at (b ∷ []) inside few = refl
comment_end-short (suc depth) at (b ∷ c ∷ bs) inside few = absurd (omega arith)

-- no comment of the text is closed
pub comment-never : (text : List ℕ) → comment_end 1 2 (drop 2 text) ≡ None → HasNoComment text
comment-never text none here rest e = false_from_ne_true (is_comment here) (λ whole.
    let inner = opened (closes 1) here whole in
    let front : text ≡ 40 ∷ (42 ∷ (inner.body ++ rest)) = e ∙ ap (λ h. h ++ rest) inner.is in
    let body : drop 2 text ≡ inner.body ++ rest = ap (λ t. drop 2 t) front in
    let found : comment_end 1 2 (drop 2 text) ≡ Some (2 + length inner.body) = ap (λ bs. comment_end 1 2 bs) body ∙ comment_end-closes 1 2 inner.body rest inner.passes in
    cc)

pub comment-unclosed : (text : List ℕ) (depth at : ℕ) → Reading text depth at → length text ≤ at + 1 → HasNoComment text
comment-unclosed text depth at r past =
    let within = r.within in
    let few : length (drop at text) < 2 = simp length-drop (omega arith) in
    comment-never text (r.same ∙ comment_end-short depth at (drop at text) r.inside few)
