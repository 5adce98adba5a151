-- The first token of a text, by its kind.
use Rattle.std.proofs.Common.{◌≡◌, ℕ, ◌<◌, true, false, not, ◌==◌, List, [], ◌∷◌, ◌++◌, length, refl, sym, ap, ◌∙◌, inl, inr, arith, append_assoc}
use Rattle.std.specs.List.{list_all}
use Rattle.std.proofs.lemmas.Bool.{and_parts, and_from, both_ways, false_from_ne_true, false≢true, cases_Bool, not_from_false}
use Rattle.std.proofs.lemmas.List.{append-nil}
use Rattle.pure_grammar.specs.Tokens.Bytes.{is_letter, is_digit, is_name_byte, is_empty, head_is, marked, behind}
use Rattle.pure_grammar.specs.Tokens.Comment.{opens_comment}
use Rattle.pure_grammar.specs.Tokens.Token.{is_spelling, is_qualified, is_keyword, is_token}
use Rattle.pure_grammar.specs.Tokens.Spelling.{IsFirst, HasNoFirst}
use Rattle.pure_grammar.specs.declared.token.TokenKind.{TokenKind}
use Rattle.pure_grammar.specs.declared.token.TokenKind.TheVariants.{Word, Ident, Qualified, TypeVar, Schem, BoundName, Number, Quote, Symbol, End}
use Rattle.pure_grammar.proofs.Fronts.{marked-is}
use Rattle.pure_grammar.proofs.Classes.{group, class_of, class-token, token-nothing, same_kind}
use Rattle.pure_lex.specs.Fronts.{IsLongest, name_kind}
use Rattle.pure_lex.proofs.Longest.{head_is-front, head_is-shorter, longest-empty, longest-marked, longest-named, named-parts}

-- the byte that a comment begins with begins symbols alone
class-opening : class_of 40 ≡ 6
unfolding class_of is_letter is_digit
class-opening = refl

no_comment-class : (b : ℕ) (bs : List ℕ) → (class_of b ≡ 6 → ⊥) → opens_comment (b ∷ bs) ≡ false
no_comment-class b bs other = false_from_ne_true (opens_comment (b ∷ bs)) (λ opens.
    let mark = marked-is 40 (head_is (λ c. c == 42)) (b ∷ bs) opens in
    let same : b ∷ bs ≡ 40 ∷ mark.rest = mark.is in
    let byte : b ≡ 40 = cc in
    other (rw byte class-opening))

no_comment : (kind : TokenKind) (here rest : List ℕ) → is_token kind here ≡ true → (group kind ≡ 6 → ⊥) → opens_comment (here ++ rest) ≡ false
no_comment kind [] rest p other = absurd (token-nothing kind p)
no_comment kind (b ∷ here) rest p other = no_comment-class b (here ++ rest) (λ h. other (sym (class-token kind b here p) ∙ h))

-- a longer token of any kind has the group of the shorter one
pub group-longer : (kind other : TokenKind) (here more : List ℕ) → is_token kind here ≡ true → is_token other (here ++ more) ≡ true → group other ≡ group kind
group-longer kind other [] more p q = absurd (token-nothing kind p)
group-longer kind other (b ∷ here) more p q = sym (class-token other b (here ++ more) q) ∙ class-token kind b here p

-- where a kind is the only one of its group, the longest of the kind is first
pub first-longest : (kind : TokenKind) (here rest : List ℕ) → 0 < group kind → (group kind ≡ 6 → ⊥) → IsLongest (is_token kind) here rest → IsFirst kind here rest
first-longest kind here rest alone other l = record {
  token = l.passes;
  longest = λ k more left e p.
      (let same : k ≡ kind = same_kind k kind alone (group-longer kind k here more l.passes p) in
      let longer : is_token kind (here ++ more) ≡ true = rw same at p in
      l.longest more left e longer);
  no_comment = no_comment kind here rest l.passes other;
}

-- the longer token is a spelling or a qualified name
group_zero : (kind : TokenKind) (bs more : List ℕ) → group kind ≡ 0 → is_token kind bs ≡ true → (is_spelling bs ≡ true → more ≡ []) → (is_qualified bs ≡ true → more ≡ []) → more ≡ []
group_zero Word bs more e p spelled qualified = spelled (and_parts (is_spelling bs) (is_keyword bs) p).0
group_zero Ident bs more e p spelled qualified = spelled (and_parts (is_spelling bs) (not (is_keyword bs)) p).0
group_zero Qualified bs more e p spelled qualified = qualified p
group_zero TypeVar bs more e p spelled qualified = absurd (omega arith)
group_zero Schem bs more e p spelled qualified = absurd (omega arith)
group_zero BoundName bs more e p spelled qualified = absurd (omega arith)
group_zero Number bs more e p spelled qualified = absurd (omega arith)
group_zero Quote bs more e p spelled qualified = absurd (omega arith)
group_zero Symbol bs more e p spelled qualified = absurd (omega arith)
group_zero End bs more e p spelled qualified = absurd (omega arith)

first-group_zero : (kind : TokenKind) (here rest : List ℕ) → group kind ≡ 0 → is_token kind here ≡ true
    → ((more left : List ℕ) → rest ≡ more ++ left → is_spelling (here ++ more) ≡ true → more ≡ [])
    → ((more left : List ℕ) → rest ≡ more ++ left → is_qualified (here ++ more) ≡ true → more ≡ [])
    → IsFirst kind here rest
first-group_zero kind here rest none p spelled qualified = record {
  token = p;
  longest = λ k more left e q.
      group_zero k (here ++ more) more (group-longer kind k here more p q ∙ none) q (spelled more left e) (qualified more left e);
  no_comment = no_comment kind here rest p (λ six. absurd (omega (arith, none, six)));
}

pub spelling-head : (bs : List ℕ) → is_spelling bs ≡ true → head_is is_letter bs ≡ true
spelling-head bs p = (and_parts (head_is is_letter bs) (is_empty (behind is_name_byte bs)) p).0

-- the name goes no further as a qualified name where no dot and letter follow
not-qualified : (name rest more left : List ℕ) → list_all is_name_byte name ≡ true → head_is is_name_byte rest ≡ false → marked 46 (head_is is_letter) rest ≡ false → rest ≡ more ++ left → is_qualified (name ++ more) ≡ true → ⊥
not-qualified name rest more left all stops none e p =
    let front : head_is is_name_byte more ≡ false = head_is-shorter is_name_byte more left (rw e at stops) in
    let dotted : marked 46 is_spelling more ≡ true = named-parts (marked 46 is_spelling) name more all front p in
    let parts = marked-is 46 is_spelling more dotted in
    let text : rest ≡ 46 ∷ (parts.rest ++ left) = e ∙ ap (λ m. m ++ left) parts.is in
    let letter : head_is is_letter (parts.rest ++ left) ≡ true = head_is-front is_letter parts.rest left (spelling-head parts.rest parts.passes) in
    let some : marked 46 (head_is is_letter) rest ≡ true = rw text letter in
    both_ways _ none some

pub spelling-name : (name rest : List ℕ) → head_is is_letter name ≡ true → list_all is_name_byte name ≡ true → head_is is_name_byte rest ≡ false → IsLongest is_spelling name rest
spelling-name name rest letter all stops =
    let l : IsLongest is_spelling (name ++ []) rest = longest-named is_empty name [] rest letter all stops (longest-empty rest) in
    rw append-nil at l

name_kind-token : (name : List ℕ) → is_spelling name ≡ true → is_token (name_kind name) name ≡ true
name_kind-token name p = elim (cases_Bool (is_keyword name)) [
  | inl keyword ↦ (let kind : name_kind name ≡ Word = rw keyword refl in rw kind (and_from (is_spelling name) (is_keyword name) p keyword))
  | inr other ↦ (let kind : name_kind name ≡ Ident = rw other refl in
      rw kind (and_from (is_spelling name) (not (is_keyword name)) p (not_from_false (is_keyword name) other)))
]

name_kind-group : (name : List ℕ) → group (name_kind name) ≡ 0
name_kind-group name = elim (cases_Bool (is_keyword name)) [ inl keyword ↦ rw keyword refl | inr other ↦ rw other refl ]

pub first-name : (name rest : List ℕ) → head_is is_letter name ≡ true → list_all is_name_byte name ≡ true → head_is is_name_byte rest ≡ false → marked 46 (head_is is_letter) rest ≡ false → IsFirst (name_kind name) name rest
first-name name rest letter all stops none =
    let l = spelling-name name rest letter all stops in
    first-group_zero (name_kind name) name rest (name_kind-group name) (name_kind-token name l.passes) l.longest
    (λ more left e p. absurd (not-qualified name rest more left all stops none e p))

not-spelling : (name second rest more : List ℕ) → list_all is_name_byte name ≡ true → head_is is_name_byte (46 ∷ (second ++ more)) ≡ false → is_spelling ((name ++ (46 ∷ second)) ++ more) ≡ true → ⊥
not-spelling name second rest more all stops p =
    let whole : is_spelling (name ++ (46 ∷ (second ++ more))) ≡ true = rw (append_assoc name (46 ∷ second) more) at p in
    let none : is_empty (46 ∷ (second ++ more)) ≡ true = named-parts is_empty name (46 ∷ (second ++ more)) all stops whole in
    false≢true none

pub dot-stops : (bs : List ℕ) → head_is is_name_byte (46 ∷ bs) ≡ false
unfolding is_name_byte is_letter is_digit
dot-stops bs = refl

pub first-qualified : (name second rest : List ℕ) → head_is is_letter name ≡ true → list_all is_name_byte name ≡ true → head_is is_letter second ≡ true → list_all is_name_byte second ≡ true → head_is is_name_byte rest ≡ false → IsFirst Qualified (name ++ (46 ∷ second)) rest
first-qualified name second rest letter all letter_two all_two stops =
    let inner = spelling-name second rest letter_two all_two stops in
    let l : IsLongest is_qualified (name ++ (46 ∷ second)) rest =
    longest-named (marked 46 is_spelling) name (46 ∷ second) rest letter all (dot-stops (second ++ rest)) (longest-marked 46 is_spelling second rest inner) in
    first-group_zero Qualified (name ++ (46 ∷ second)) rest refl l.passes
    (λ more left e p. absurd (not-spelling name second rest more all (dot-stops (second ++ more)) p)) l.longest

-- No token begins here

pub no_first : (bs : List ℕ) → 0 < length bs → ((kind : TokenKind) (here rest : List ℕ) → bs ≡ here ++ rest → is_token kind here ≡ true → ⊥) → HasNoFirst bs
no_first bs some none = record { some = some; none = λ kind here rest e first. none kind here rest e first.token }

-- a comment begins here
pub no_first-opening : (bs : List ℕ) → opens_comment bs ≡ true → HasNoFirst bs
no_first-opening [] p = cc
no_first-opening (b ∷ bs) p = record {
  some = omega arith;
  none = λ kind here rest e first. both_ways _ first.no_comment (sym (ap opens_comment e) ∙ p);
}

no_token : (kind other : TokenKind) (b : ℕ) (bs here rest : List ℕ) → class_of b ≡ group kind → 0 < group kind → ((here rest : List ℕ) → bs ≡ here ++ rest → is_token kind (b ∷ here) ≡ true → ⊥) → b ∷ bs ≡ here ++ rest → is_token other here ≡ true → ⊥
no_token kind other b bs [] rest class alone none e p = token-nothing other p
no_token kind other b bs (d ∷ here) rest class alone none e p =
    let byte : b ≡ d = cc in
    let tail : bs ≡ here ++ rest = cc in
    let groups : group other ≡ group kind = sym (class-token other d here p) ∙ (ap class_of (sym byte) ∙ class) in
    let same : other ≡ kind = same_kind other kind alone groups in
    let token : is_token kind (b ∷ here) ≡ true = rw (byte, ← same) p in
    none here rest tail token

-- the tokens that begin with this byte are of one kind, and it has none here
pub no_first-kind : (kind : TokenKind) (b : ℕ) (bs : List ℕ) → class_of b ≡ group kind → 0 < group kind → ((here rest : List ℕ) → bs ≡ here ++ rest → is_token kind (b ∷ here) ≡ true → ⊥) → HasNoFirst (b ∷ bs)
no_first-kind kind b bs class alone none = no_first (b ∷ bs) (omega arith) (λ k here rest e p. no_token kind k b bs here rest class alone none e p)
