-- A text has one reading: blanks and comments to its end, or a first token, or a fault.
use Rattle.std.proofs.Common.{◌≡◌, ℕ, ◌+◌, ◌<◌, List, [], ◌∷◌, ◌++◌, length, refl, sym, ◌∙◌, ap, inl, inr, true, Some, None, arith}
use Rattle.std.proofs.lemmas.Bool.{both_ways, false_from_ne_true}
use Rattle.std.proofs.lemmas.List.{append-nil}
use Rattle.pure_grammar.specs.Tokens.Comment.{Gap, IsSettled, is_comment, opens_comment}
use Rattle.pure_grammar.specs.Tokens.Token.{is_token, long_identifier}
use Rattle.pure_grammar.specs.Tokens.Spelling.{IsFirst, Begins, Leaves, IsFault, HasFault, OneList, ListOrFault, OneFault}
use Rattle.pure_grammar.specs.declared.token.Token.{Token}
use Rattle.pure_grammar.specs.declared.token.TokenKind.{TokenKind}
use Rattle.pure_grammar.proofs.Fronts.{Within, cuts}
use Rattle.pure_grammar.proofs.Gaps.{gap-gap, settled-nothing, opens_comment-front, rests}
use Rattle.pure_grammar.proofs.Classes.{token-blank, token-nothing, one_kind}

-- a token is first where no blank and no comment begins
pub settled-first : (kind : TokenKind) (here rest : List ℕ) → IsFirst kind here rest → IsSettled (here ++ rest)
settled-first kind here rest first = record {
  no_blank = token-blank kind here rest first.token;
  no_comment = λ c left e. false_from_ne_true (is_comment c) (λ p.
      let opened : opens_comment (here ++ rest) ≡ true = rw e (opens_comment-front c left p) in
      both_ways _ first.no_comment opened);
}

-- of two fronts of which neither goes on, one within the other
longest-within : (k l : TokenKind) (a b c d : List ℕ) → IsFirst k a b → IsFirst l c d → Within a b c d → a ≡ c
longest-within k l a b c d first other w =
    let token : is_token l (a ++ w.more) ≡ true = rw w.longer at other.token in
    let none : w.more ≡ [] = first.longest l w.more d w.shorter token in
    sym (w.longer ∙ (ap (λ m. a ++ m) none ∙ append-nil a))

pub record SameFirst (k l : TokenKind) (a b c d : List ℕ) : Type 0 where
  pub kinds : k ≡ l
  pub fronts : a ≡ c
  pub rests : b ≡ d

same-first : (k l : TokenKind) (a b c d : List ℕ) → a ≡ c → is_token k a ≡ true → is_token l c ≡ true → a ++ b ≡ c ++ d → SameFirst k l a b c d
same-first k l a b c d same p q e =
    let other : is_token l a ≡ true = rw same q in
    record { kinds = one_kind k l a p other; fronts = same; rests = rests a b c d same e }

-- a text has one first token
pub first-first : (k l : TokenKind) (a b c d : List ℕ) → IsFirst k a b → IsFirst l c d → a ++ b ≡ c ++ d → SameFirst k l a b c d
first-first k l a b c d first other e = elim (cuts a b c d e) [
  | inl w ↦ same-first k l a b c d (longest-within k l a b c d first other w) first.token other.token e
  | inr w ↦ same-first k l a b c d (sym (longest-within l k c d a b other first w)) first.token other.token e
]

-- the fault that stands at the front of a text, if blanks and comments are passed over
pub record Stops (to : ℕ) (bytes : List ℕ) (place : ℕ) : Type 0 where
  pub gap : List ℕ
  pub rest : List ℕ
  pub skipped : ℕ
  pub text : bytes ≡ gap ++ rest
  pub blank : Gap gap
  pub settled : IsSettled rest
  pub fault : IsFault rest skipped
  pub at_place : place + length rest ≡ to + skipped

pub record SameNext (t u : Token) (r s : List ℕ) : Type 0 where
  pub tokens : t ≡ u
  pub rests : r ≡ s

-- a token is its kind and its places
token-is : (t u : Token) → t.kind ≡ u.kind → t.from ≡ u.from → t.to ≡ u.to → t ≡ u
token-is t u p q r = λ i. record { kind = p i; from = q i; to = r i }

pub begins-begins : (to : ℕ) (t u : Token) (bytes r s : List ℕ) → Begins to t bytes r → Begins to u bytes s → SameNext t u r s
begins-begins to t u bytes r s x y =
    let whole : x.gap ++ (x.here ++ r) ≡ y.gap ++ (y.here ++ s) = sym x.text ∙ y.text in
    let gaps = gap-gap (x.here ++ r) (y.here ++ s) x.blank y.blank (settled-first t.kind x.here r x.first) (settled-first u.kind y.here s y.first) whole in
    let same = first-first t.kind u.kind x.here r y.here s x.first y.first gaps.1 in
    let rest_lengths : length r ≡ length s = ap length same.rests in
    let here_lengths : length x.here ≡ length y.here = ap length same.fronts in
    let places = x.from in
    let others = y.from in
    let ends = x.ends in
    let other_ends = y.ends in
    let from : t.from ≡ u.from = omega arith in
    let to : t.to ≡ u.to = omega arith in
    record { tokens = token-is t u same.kinds from to; rests = same.rests }

-- a token has a byte
first-some : (kind : TokenKind) (here rest : List ℕ) → is_token kind here ≡ true → 0 < length (here ++ rest)
first-some kind [] rest p = absurd (token-nothing kind p)
first-some kind (b ∷ here) rest p = omega arith

pub begins-gap : (to : ℕ) (t : Token) (bytes r : List ℕ) → Begins to t bytes r → Gap bytes → ⊥
begins-gap to t bytes r x gap =
    let whole : x.gap ++ (x.here ++ r) ≡ bytes ++ [] = sym x.text ∙ sym (append-nil bytes) in
    let gaps = gap-gap (x.here ++ r) [] x.blank gap (settled-first t.kind x.here r x.first) settled-nothing whole in
    let none : length (x.here ++ r) ≡ 0 = ap length gaps.1 in
    let some = first-some t.kind x.here r x.first.token in
    omega arith

first-fault : (kind : TokenKind) (here rest bytes : List ℕ) (skipped : ℕ) → IsFirst kind here rest → long_identifier kind here ≡ None → here ++ rest ≡ bytes → IsFault bytes skipped → ⊥
first-fault kind here rest bytes skipped first short e (inl (no_first, _)) = no_first.none kind here rest (sym e) first
first-fault kind here rest bytes skipped first short e (inr long) =
    let same = first-first kind long.kind here rest long.here long.rest first long.first (e ∙ long.text) in
    let fronts = same.fronts in
    let kinds = same.kinds in
    let is_long = long.long in
    let clash : None ≡ Some skipped = sym short ∙ (ap (λ k. long_identifier k here) kinds ∙ (ap (λ h. long_identifier long.kind h) fronts ∙ is_long)) in
    cc

pub begins-stops : (to place : ℕ) (t : Token) (bytes r : List ℕ) → Begins to t bytes r → Stops to bytes place → ⊥
begins-stops to place t bytes r x y =
    let whole : x.gap ++ (x.here ++ r) ≡ y.gap ++ y.rest = sym x.text ∙ y.text in
    let gaps = gap-gap (x.here ++ r) y.rest x.blank y.blank (settled-first t.kind x.here r x.first) y.settled whole in
    first-fault t.kind x.here r y.rest y.skipped x.first x.short gaps.1 y.fault

fault-some : (bytes : List ℕ) (skipped : ℕ) → IsFault bytes skipped → 0 < length bytes
fault-some bytes skipped (inl (no_first, _)) = no_first.some
fault-some bytes skipped (inr long) = rw long.text (first-some long.kind long.here long.rest long.first.token)

pub gap-stops : (to place : ℕ) (bytes : List ℕ) → Gap bytes → Stops to bytes place → ⊥
gap-stops to place bytes gap y =
    let whole : bytes ++ [] ≡ y.gap ++ y.rest = append-nil bytes ∙ y.text in
    let gaps = gap-gap [] y.rest gap y.blank settled-nothing y.settled whole in
    let some = fault-some y.rest y.skipped y.fault in
    let none : 0 ≡ length y.rest = ap length gaps.1 in
    omega arith

fault-fault : (bytes others : List ℕ) (m n : ℕ) → bytes ≡ others → IsFault bytes m → IsFault others n → m ≡ n
fault-fault bytes others m n e (inl (_, p)) (inl (_, q)) = p ∙ sym q
fault-fault bytes others m n e (inl (no_first, _)) (inr long) =
    absurd (no_first.none long.kind long.here long.rest (e ∙ long.text) long.first)
fault-fault bytes others m n e (inr long) (inl (no_first, _)) =
    absurd (no_first.none long.kind long.here long.rest (sym e ∙ long.text) long.first)
fault-fault bytes others m n e (inr x) (inr y) =
    let same = first-first x.kind y.kind x.here x.rest y.here y.rest x.first y.first (sym x.text ∙ (e ∙ y.text)) in
    let left = x.long in
    let right = y.long in
    let equal : Some m ≡ Some n = sym left ∙ (ap (λ k. long_identifier k x.here) same.kinds ∙ (ap (λ h. long_identifier y.kind h) same.fronts ∙ right)) in
    cc

pub stops-stops : (to first second : ℕ) (bytes : List ℕ) → Stops to bytes first → Stops to bytes second → first ≡ second
stops-stops to first second bytes x y =
    let gaps = gap-gap x.rest y.rest x.blank y.blank x.settled y.settled (sym x.text ∙ y.text) in
    let same = fault-fault x.rest y.rest x.skipped y.skipped gaps.1 x.fault y.fault in
    let lengths : length x.rest ≡ length y.rest = ap length gaps.1 in
    let here = x.at_place in
    let there = y.at_place in
    omega arith

-- the two texts below are the same where the same token was read
pub spells-spells : (to : ℕ) (bytes gap other : List ℕ) (ts us : List Token) → Leaves to ts bytes gap → Gap gap → Leaves to us bytes other → Gap other → ts ≡ us
spells-spells to bytes gap other [] [] x p y q = refl
spells-spells to bytes gap other [] (u ∷ us) x p (behind, begins, y) q =
    let blank : Gap bytes = rw x p in absurd (begins-gap to u bytes behind begins blank)
spells-spells to bytes gap other (t ∷ ts) [] (behind, begins, x) p y q =
    let blank : Gap bytes = rw y q in absurd (begins-gap to t bytes behind begins blank)
spells-spells to bytes gap other (t ∷ ts) (u ∷ us) (behind, begins, x) p (beyond, starts, y) q =
    let same = begins-begins to t u bytes behind beyond begins starts in
    let left : Leaves to us behind other = rw same.rests y in
    let rest : ts ≡ us = spells-spells to behind gap other ts us x p left q in
    let heads = same.tokens in
    cc

stops-at : (to place : ℕ) (bytes : List ℕ) (f : HasFault to bytes place) → (text : List ℕ) → text ≡ f.gap ++ f.rest → Stops to text place
stops-at to place bytes f text e = record {
  gap = f.gap;
  rest = f.rest;
  skipped = f.skipped;
  text = e;
  blank = f.blank;
  settled = f.settled;
  fault = f.fault;
  at_place = f.at_place;
}

pub spells-stops : (to place : ℕ) (bytes gap text : List ℕ) (ts us : List Token) → Leaves to ts bytes gap → Gap gap → Leaves to us bytes text → Stops to text place → ⊥
spells-stops to place bytes gap text [] [] x p y q =
    let blank : Gap bytes = rw x p in
    let stops : Stops to bytes place = rw y q in
    gap-stops to place bytes blank stops
spells-stops to place bytes gap text [] (u ∷ us) x p (behind, begins, y) q =
    let blank : Gap bytes = rw x p in begins-gap to u bytes behind begins blank
spells-stops to place bytes gap text (t ∷ ts) [] (behind, begins, x) p y q =
    let stops : Stops to bytes place = rw y q in begins-stops to place t bytes behind begins stops
spells-stops to place bytes gap text (t ∷ ts) (u ∷ us) (behind, begins, x) p (beyond, starts, y) q =
    let same = begins-begins to t u bytes behind beyond begins starts in
    let left : Leaves to us behind text = rw same.rests y in
    spells-stops to place behind gap text ts us x p left q

pub stop-stop : (to first second : ℕ) (bytes text other : List ℕ) (ts us : List Token) → Leaves to ts bytes text → Stops to text first → Leaves to us bytes other → Stops to other second → first ≡ second
stop-stop to first second bytes text other [] [] x p y q =
    let here : Stops to bytes first = rw x p in
    let there : Stops to bytes second = rw y q in
    stops-stops to first second bytes here there
stop-stop to first second bytes text other [] (u ∷ us) x p (behind, begins, y) q =
    let here : Stops to bytes first = rw x p in absurd (begins-stops to first u bytes behind begins here)
stop-stop to first second bytes text other (t ∷ ts) [] (behind, begins, x) p y q =
    let there : Stops to bytes second = rw y q in absurd (begins-stops to second t bytes behind begins there)
stop-stop to first second bytes text other (t ∷ ts) (u ∷ us) (behind, begins, x) p (beyond, starts, y) q =
    let same = begins-begins to t u bytes behind beyond begins starts in
    let left : Leaves to us behind other = rw same.rests y in
    stop-stop to first second behind text other ts us x p left q

pub one_list : OneList
one_list to bytes ts us (gap, x, p) (other, y, q) = spells-spells to bytes gap other ts us x p y q

pub list_or_fault : ListOrFault
list_or_fault to place bytes ts (gap, x, p) f =
    spells-stops to place bytes gap (f.gap ++ f.rest) ts f.tokens x p f.before (stops-at to place bytes f (f.gap ++ f.rest) refl)

pub one_fault : OneFault
one_fault to first second bytes f g =
    stop-stop to first second bytes (f.gap ++ f.rest) (g.gap ++ g.rest) f.tokens g.tokens f.before (stops-at to first bytes f (f.gap ++ f.rest) refl) g.before (stops-at to second bytes g (g.gap ++ g.rest) refl)
