-- The first byte of a token tells its kind, but for words, identifiers and qualified names.
use Rattle.std.proofs.Common.{◌≡◌, ℕ, ◌<◌, List, [], ◌∷◌, ◌++◌, refl, sym, ◌∙◌, ap, inl, inr, Bool, true, false, not, ◌&&◌, ◌||◌, if◌then◌else◌, ◌==◌, arith, length}
use Rattle.std.specs.Prelude.{codes, nat_le}
use Rattle.std.specs.List.{list_any, list_all}
use Rattle.std.proofs.lemmas.Bool.{and_parts, or_cases, eqb-true, false_from_ne_true, false≢true, cond_both, not-true, cases_lt}
use Rattle.std.proofs.lemmas.Bool.Decides.{nat_tests}
use Rattle.pure_grammar.specs.Tokens.Bytes.{is_letter, is_digit, is_name_byte, is_blank, head_is, is_empty, marked, behind}
use Rattle.pure_grammar.specs.Tokens.Token.{is_spelling, is_number, is_indexed, is_quotable, is_keyword, is_single, is_pair, is_triple, is_symbol, is_token}
use Rattle.pure_grammar.specs.declared.token.TokenKind.{TokenKind}
use Rattle.pure_grammar.specs.declared.token.TokenKind.TheVariants.{Word, Ident, Qualified, TypeVar, Schem, BoundName, Number, Quote, Symbol, End}

abbrev pub group : TokenKind → ℕ
group Word = 0
group Ident = 0
group Qualified = 0
group TypeVar = 1
group Schem = 2
group BoundName = 3
group Number = 4
group Quote = 5
group Symbol = 6
group End = 7

-- the group of the kinds that begin with this byte, or 8
unfoldable pub class_of : ℕ → ℕ
class_of b =
    if is_letter b then 0
    else (if is_digit b then 4
    else (if b == 39 then 1
    else (if b == 63 then 2
    else (if b == 95 then 3
    else (if b == 34 then 5
    else (if list_any (λ s. s == b) (codes "%.,;:()[]{}<|+!=") then 6
    else 8))))))

pub class-letter : (b : ℕ) → is_letter b ≡ true → class_of b ≡ 0
unfolding class_of
class-letter b p = rw p refl

digit-letter : (b : ℕ) → is_digit b ≡ true → is_letter b ≡ false
unfolding is_letter is_digit
digit-letter b p = grind (arith, nat_tests)

pub class-digit : (b : ℕ) → is_digit b ≡ true → class_of b ≡ 4
unfolding class_of
class-digit b p = rw (digit-letter b p, p) refl

-- what holds of each number of a list holds of one that is found in it
pub any_all : (p : ℕ → Bool) (xs : List ℕ) (b : ℕ) → list_any (λ s. s == b) xs ≡ true → list_all p xs ≡ true → p b ≡ true
any_all p [] b e f = cc
any_all p (x ∷ xs) b e f =
    let parts = and_parts (p x) (list_all p xs) f in
    elim (or_cases (x == b) (list_any (λ s. s == b) xs) e) [
      | inl here ↦ (let same : x ≡ b = eqb-true x b here in rw same at parts.0)
      | inr there ↦ any_all p xs b there parts.1
    ]

class-is : (b m k : ℕ) → class_of m ≡ k → b == m ≡ true → class_of b ≡ k
class-is b m k is e = let same : b ≡ m = eqb-true b m e in rw same is

pub class-single : (b : ℕ) → is_single b ≡ true → class_of b ≡ 6
unfolding class_of is_single is_letter is_digit
class-single b p = eqb-true (class_of b) 6 (any_all (λ x. class_of x == 6) (codes "%.,;:()[]{}<|+") b p refl)

pub class-pair : (b c : ℕ) → is_pair b c ≡ true → class_of b ≡ 6
unfolding is_pair class_of is_letter is_digit
class-pair b c p =
    let P : Bool → Type 0 = λ v. v ≡ true → class_of b ≡ 6 in
    cond_both (b == 33) _ _ P (λ h _. class-is b 33 6 refl h) (λ _.
    cond_both (b == 61) _ _ P (λ h _. class-is b 61 6 refl h) (λ _.
    cond_both (b == 58) _ _ P (λ h _. class-is b 58 6 refl h) (λ _.
    cond_both (b == 91) _ _ P (λ h _. class-is b 91 6 refl h) (λ _.
    cond_both (b == 124) _ _ P (λ h _. class-is b 124 6 refl h) (λ _ no. absurd (false≢true no)))))) p

pub class-triple : (b c d : ℕ) → is_triple b c d ≡ true → class_of b ≡ 6
unfolding is_triple class_of is_letter is_digit
class-triple b c d p = class-is b 61 6 refl (and_parts (b == 61) ((c == 61) && (d == 62)) p).0

class-symbol : (b : ℕ) (bs : List ℕ) → is_symbol (b ∷ bs) ≡ true → class_of b ≡ 6
class-symbol b [] p = class-single b p
class-symbol b (c ∷ []) p = class-pair b c p
class-symbol b (c ∷ d ∷ []) p = class-triple b c d p
class-symbol b (c ∷ d ∷ e ∷ bs) p = cc

class-mark : (b mark k : ℕ) (test : List ℕ → Bool) (bs : List ℕ) → class_of mark ≡ k → marked mark test (b ∷ bs) ≡ true → class_of b ≡ k
class-mark b mark k test bs is p = class-is b mark k is (and_parts (b == mark) (test bs) p).0

class-spelling : (b : ℕ) (test : Bool) → (is_letter b && test) ≡ true → class_of b ≡ 0
class-spelling b test p = class-letter b (and_parts (is_letter b) test p).0

class-number : (b : ℕ) (bs : List ℕ) → is_number (b ∷ bs) ≡ true → class_of b ≡ 4
class-number b bs p =
    let all = and_parts (list_all is_digit (b ∷ bs)) (nat_le 1 (length (b ∷ bs)) && nat_le (length (b ∷ bs)) 9) p in
    class-digit b (and_parts (is_digit b) (list_all is_digit bs) all.0).0

-- a token's first byte has the class of its kind
pub class-token : (kind : TokenKind) (b : ℕ) (bs : List ℕ) → is_token kind (b ∷ bs) ≡ true → class_of b ≡ group kind
unfolding class_of is_letter is_digit
class-token Word b bs p =
    class-spelling b (is_empty (behind is_name_byte (b ∷ bs))) (and_parts (is_spelling (b ∷ bs)) (is_keyword (b ∷ bs)) p).0
class-token Ident b bs p =
    class-spelling b (is_empty (behind is_name_byte (b ∷ bs))) (and_parts (is_spelling (b ∷ bs)) (not (is_keyword (b ∷ bs))) p).0
class-token Qualified b bs p = class-spelling b (marked 46 is_spelling (behind is_name_byte (b ∷ bs))) p
class-token TypeVar b bs p = class-mark b 39 1 is_spelling bs refl p
class-token Schem b bs p = class-mark b 63 2 (λ name. is_indexed name || marked 39 is_indexed name) bs refl p
class-token BoundName b bs p = class-mark b 95 3 is_number bs refl p
class-token Number b bs p = class-number b bs p
class-token Quote b bs p = class-mark b 34 5 (λ text. marked 34 is_empty (behind is_quotable text)) bs refl p
class-token Symbol b bs p = class-symbol b bs p
class-token End b bs p = cc

-- no token is empty
pub token-nothing : (kind : TokenKind) → is_token kind [] ≡ true → ⊥
token-nothing Word p = cc
token-nothing Ident p = cc
token-nothing Qualified p = cc
token-nothing TypeVar p = cc
token-nothing Schem p = cc
token-nothing BoundName p = cc
token-nothing Number p = cc
token-nothing Quote p = cc
token-nothing Symbol p = cc
token-nothing End p = cc

pub class-blank : (b : ℕ) → is_blank b ≡ true → class_of b ≡ 8
unfolding is_blank class_of is_letter is_digit
class-blank b p = elim (or_cases (b == 32) ((b == 9) || ((b == 13) || (b == 10))) p) [
  | inl h ↦ class-is b 32 8 refl h
  | inr p ↦ elim (or_cases (b == 9) ((b == 13) || (b == 10)) p) [
    | inl h ↦ class-is b 9 8 refl h
    | inr p ↦ elim (or_cases (b == 13) (b == 10) p) [
      | inl h ↦ class-is b 13 8 refl h
      | inr h ↦ class-is b 10 8 refl h
    ]
  ]
]

-- the kinds have smaller groups than the bytes that begin no token
pub small : (kind : TokenKind) → group kind ≡ 8 → ⊥
small Word e = omega arith
small Ident e = omega arith
small Qualified e = omega arith
small TypeVar e = omega arith
small Schem e = omega arith
small BoundName e = omega arith
small Number e = omega arith
small Quote e = omega arith
small Symbol e = omega arith
small End e = omega arith

-- no token begins with a blank
pub token-blank : (kind : TokenKind) (here rest : List ℕ) → is_token kind here ≡ true → head_is is_blank (here ++ rest) ≡ false
token-blank kind [] rest p = absurd (token-nothing kind p)
token-blank kind (b ∷ here) rest p =
    false_from_ne_true (is_blank b) (λ h. small kind (sym (class-token kind b here p) ∙ class-blank b h))

-- the kind of a group with one kind
kind_of : ℕ → TokenKind
kind_of n =
    if n == 1 then TypeVar else (if n == 2 then Schem else (if n == 3 then BoundName
    else (if n == 4 then Number else (if n == 5 then Quote else (if n == 6 then Symbol else End)))))

kind_of-group : (kind : TokenKind) → 0 < group kind → kind_of (group kind) ≡ kind
unfolding kind_of
kind_of-group Word p = absurd (omega arith)
kind_of-group Ident p = absurd (omega arith)
kind_of-group Qualified p = absurd (omega arith)
kind_of-group TypeVar p = refl
kind_of-group Schem p = refl
kind_of-group BoundName p = refl
kind_of-group Number p = refl
kind_of-group Quote p = refl
kind_of-group Symbol p = refl
kind_of-group End p = refl

-- the other groups have one kind each
pub same_kind : (k l : TokenKind) → 0 < group l → group k ≡ group l → k ≡ l
same_kind k l above groups =
    let other : 0 < group k = omega (arith, groups) in
    sym (kind_of-group k other) ∙ (ap kind_of groups ∙ kind_of-group l above)

-- the kind of a text of name bytes by whether it is a keyword, and of another one `Qualified`
name_kind : List ℕ → TokenKind
name_kind bs = if is_empty (behind is_name_byte bs) then (if is_keyword bs then Word else Ident) else Qualified

spelling-empty : (bs : List ℕ) (test : Bool) → (is_spelling bs && test) ≡ true → is_empty (behind is_name_byte bs) ≡ true
spelling-empty bs test p =
    (and_parts (head_is is_letter bs) (is_empty (behind is_name_byte bs)) (and_parts (is_spelling bs) test p).0).1

marked-not_empty : (mark : ℕ) (test : List ℕ → Bool) (bs : List ℕ) → marked mark test bs ≡ true → is_empty bs ≡ false
marked-not_empty mark test [] p = cc
marked-not_empty mark test (b ∷ bs) p = refl

name_kind-token : (kind : TokenKind) (bs : List ℕ) → group kind ≡ 0 → is_token kind bs ≡ true → kind ≡ name_kind bs
unfolding name_kind
name_kind-token Word bs e p =
    rw (spelling-empty bs (is_keyword bs) p, (and_parts (is_spelling bs) (is_keyword bs) p).1) refl
name_kind-token Ident bs e p =
    rw (spelling-empty bs (not (is_keyword bs)) p, not-true (is_keyword bs) (and_parts (is_spelling bs) (not (is_keyword bs)) p).1) refl
name_kind-token Qualified bs e p =
    let behind_name = (and_parts (head_is is_letter bs) (marked 46 is_spelling (behind is_name_byte bs)) p).1 in
    rw (marked-not_empty 46 is_spelling (behind is_name_byte bs) behind_name) refl
name_kind-token TypeVar bs e p = absurd (omega arith)
name_kind-token Schem bs e p = absurd (omega arith)
name_kind-token BoundName bs e p = absurd (omega arith)
name_kind-token Number bs e p = absurd (omega arith)
name_kind-token Quote bs e p = absurd (omega arith)
name_kind-token Symbol bs e p = absurd (omega arith)
name_kind-token End bs e p = absurd (omega arith)

same_group : (k l : TokenKind) (bs : List ℕ) → is_token k bs ≡ true → is_token l bs ≡ true → group k ≡ group l
same_group k l [] p q = absurd (token-nothing k p)
same_group k l (b ∷ bs) p q = sym (class-token k b bs p) ∙ class-token l b bs q

-- no bytes are tokens of two kinds
pub one_kind : (k l : TokenKind) (bs : List ℕ) → is_token k bs ≡ true → is_token l bs ≡ true → k ≡ l
one_kind k l bs p q =
    let groups = same_group k l bs p q in
    elim (cases_lt 0 (group k)) [
      | inl above ↦ (let other : 0 < group l = omega (arith, groups) in
          sym (kind_of-group k above) ∙ (ap kind_of groups ∙ kind_of-group l other))
      | inr below ↦ (let none : group k ≡ 0 = omega arith in let other : group l ≡ 0 = omega (arith, groups) in
          name_kind-token k bs none p ∙ sym (name_kind-token l bs other q))
    ]
