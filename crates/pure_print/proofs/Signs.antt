-- The signs that printing writes.
use Rattle.std.proofs.Common.{◌≡◌, ℕ, true, false, ◌==◌, List, [], ◌∷◌, ◌++◌, refl, arith}
use Rattle.std.specs.Prelude.{codes}
use Rattle.std.proofs.lemmas.Bool.{both_ways}
use Rattle.pure_grammar.specs.declared.token.TokenKind.TheVariants.{Symbol}
use Rattle.pure_grammar.specs.declared.inner.Opening.TheVariants as opening
use Rattle.pure_grammar.specs.declared.inner.Mark.TheVariants as mark
use Rattle.pure_grammar.specs.Tokens.Bytes.{head_is}
use Rattle.pure_grammar.specs.Tokens.Comment.{opens_comment}
use Rattle.pure_grammar.specs.Tokens.Token.{is_single, is_pair, is_triple, is_symbol, is_token}
use Rattle.pure_grammar.specs.Tokens.Spelling.{IsFirst}
use Rattle.pure_grammar.specs.Terms.InnerLexeme.{InnerLexeme, Opens, Signed, sign_lexeme, mark_lexeme}
use Rattle.pure_grammar.proofs.Classes.{same_kind}
use Rattle.pure_lex.proofs.Firsts.{group-longer}
use Rattle.pure_print.proofs.Bits.{Bit, Any, token-bit}

-- No longer sign goes on with these bytes.
abbrev IsWhole : List ℕ → Type 0
IsWhole here = (more : List ℕ) → is_symbol (here ++ more) ≡ true → more ≡ []

sign-first : (here rest : List ℕ) → is_symbol here ≡ true → ((more left : List ℕ) → rest ≡ more ++ left → is_symbol (here ++ more) ≡ true → more ≡ []) → opens_comment (here ++ rest) ≡ false → IsFirst Symbol here rest
sign-first here rest token whole none = record {
  token = token;
  longest = λ k more left e p.
      (let same : k ≡ Symbol = same_kind k Symbol (omega arith) (group-longer Symbol k here more token p) in
      let longer : is_token Symbol (here ++ more) ≡ true = rw same at p in
      whole more left e longer);
  no_comment = none;
}

one-whole : (b : ℕ) → ((c : ℕ) → is_pair b c ≡ false) → ((c d : ℕ) → is_triple b c d ≡ false) → IsWhole (b ∷ [])
one-whole b pair triple [] p = refl
one-whole b pair triple (c ∷ []) p = absurd (both_ways (is_pair b c) (pair c) p)
one-whole b pair triple (c ∷ d ∷ []) p = absurd (both_ways (is_triple b c d) (triple c d) p)
one-whole b pair triple (c ∷ d ∷ e ∷ more) p = cc

two-whole : (b c : ℕ) → ((d : ℕ) → is_triple b c d ≡ false) → IsWhole (b ∷ c ∷ [])
two-whole b c triple [] p = refl
two-whole b c triple (d ∷ []) p = absurd (both_ways (is_triple b c d) (triple d) p)
two-whole b c triple (d ∷ e ∷ more) p = cc

three-whole : (b c d : ℕ) → IsWhole (b ∷ c ∷ d ∷ [])
three-whole b c d [] p = refl
three-whole b c d (e ∷ more) p = cc

-- a sign of one byte, of two and of three
one-bit : (b : ℕ) (lexeme : ℕ → InnerLexeme) → is_single b ≡ true → ((c : ℕ) → is_pair b c ≡ false) → ((c d : ℕ) → is_triple b c d ≡ false) → b == 40 ≡ false → ((at : ℕ) → sign_lexeme (b ∷ []) at ≡ lexeme at)
    → Bit (b ∷ []) (λ from r. lexeme from ∷ r) Any
one-bit b lexeme single pair triple other is =
    token-bit Symbol (b ∷ []) lexeme (λ rest h. sign-first (b ∷ []) rest single (λ more left e p. one-whole b pair triple more p) (rw other refl)) refl is

two-bit : (b c : ℕ) (lexeme : ℕ → InnerLexeme) → is_pair b c ≡ true → ((d : ℕ) → is_triple b c d ≡ false) → b == 40 ≡ false → ((at : ℕ) → sign_lexeme (b ∷ c ∷ []) at ≡ lexeme at)
    → Bit (b ∷ c ∷ []) (λ from r. lexeme from ∷ r) Any
two-bit b c lexeme pair triple other is =
    token-bit Symbol (b ∷ c ∷ []) lexeme (λ rest h. sign-first (b ∷ c ∷ []) rest pair (λ more left e p. two-whole b c triple more p) (rw other refl)) refl is

pub lambda-bit : Bit (codes "%") (λ from r. Opens opening.Lambda from ∷ r) Any
unfolding is_single is_pair is_triple sign_lexeme mark_lexeme
lambda-bit = one-bit 37 (λ at. Opens opening.Lambda at) refl (λ c. refl) (λ c d. refl) refl (λ at. refl)

pub dot-bit : Bit (codes ".") (λ from r. Signed mark.Dot ∷ r) Any
unfolding is_single is_pair is_triple sign_lexeme mark_lexeme
dot-bit = one-bit 46 (λ at. Signed mark.Dot) refl (λ c. refl) (λ c d. refl) refl (λ at. refl)

pub comma-bit : Bit (codes ",") (λ from r. Signed mark.Comma ∷ r) Any
unfolding is_single is_pair is_triple sign_lexeme mark_lexeme
comma-bit = one-bit 44 (λ at. Signed mark.Comma) refl (λ c. refl) (λ c d. refl) refl (λ at. refl)

pub close-bit : Bit (codes ")") (λ from r. Signed mark.CloseParenthesis ∷ r) Any
unfolding is_single is_pair is_triple sign_lexeme mark_lexeme
close-bit = one-bit 41 (λ at. Signed mark.CloseParenthesis) refl (λ c. refl) (λ c d. refl) refl (λ at. refl)

pub open_brace-bit : Bit (codes "{") (λ from r. Signed mark.OpenBrace ∷ r) Any
unfolding is_single is_pair is_triple sign_lexeme mark_lexeme
open_brace-bit = one-bit 123 (λ at. Signed mark.OpenBrace) refl (λ c. refl) (λ c d. refl) refl (λ at. refl)

pub close_brace-bit : Bit (codes "}") (λ from r. Signed mark.CloseBrace ∷ r) Any
unfolding is_single is_pair is_triple sign_lexeme mark_lexeme
close_brace-bit = one-bit 125 (λ at. Signed mark.CloseBrace) refl (λ c. refl) (λ c d. refl) refl (λ at. refl)

pub all-bit : Bit (codes "!!") (λ from r. Opens opening.All from ∷ r) Any
unfolding is_single is_pair is_triple sign_lexeme mark_lexeme
all-bit = two-bit 33 33 (λ at. Opens opening.All at) refl (λ d. refl) refl (λ at. refl)

pub arrow-bit : Bit (codes "=>") (λ from r. Signed mark.Arrow ∷ r) Any
unfolding is_single is_pair is_triple sign_lexeme mark_lexeme
arrow-bit = two-bit 61 62 (λ at. Signed mark.Arrow) refl (λ d. refl) refl (λ at. refl)

pub colons-bit : Bit (codes "::") (λ from r. Signed mark.DoubleColon ∷ r) Any
unfolding is_single is_pair is_triple sign_lexeme mark_lexeme
colons-bit = two-bit 58 58 (λ at. Signed mark.DoubleColon) refl (λ d. refl) refl (λ at. refl)

pub implies-bit : Bit (codes "==>") (λ from r. Signed mark.Implies ∷ r) Any
unfolding is_single is_pair is_triple sign_lexeme mark_lexeme
implies-bit = token-bit Symbol (codes "==>") (λ at. Signed mark.Implies) (λ rest h. sign-first (codes "==>") rest refl (λ more left e p. three-whole 61 61 62 more p) refl) refl (λ at. refl)

-- An equality sign goes on with `>` alone.
abbrev pub NoArrow : List ℕ → Type 0
NoArrow rest = head_is (λ b. b == 62) rest ≡ false

equals-whole : (more left : List ℕ) → NoArrow (more ++ left) → is_symbol (61 ∷ 61 ∷ more) ≡ true → more ≡ []
unfolding is_triple
equals-whole [] left none p = refl
equals-whole (d ∷ []) left none p = absurd (both_ways (d == 62) none p)
equals-whole (d ∷ e ∷ more) left none p = cc

pub equals-bit : Bit (codes "==") (λ from r. Signed mark.Equals ∷ r) NoArrow
unfolding is_single is_pair is_triple sign_lexeme mark_lexeme
equals-bit = token-bit Symbol (codes "==") (λ at. Signed mark.Equals)
    (λ rest h. sign-first (codes "==") rest refl (λ more left e p. equals-whole more left (rw e at h) p) refl) refl (λ at. refl)

-- A parenthesis opens a comment where a star stands behind it.
abbrev pub NoStar : List ℕ → Type 0
NoStar rest = head_is (λ b. b == 42) rest ≡ false

pub open-bit : Bit (codes "(") (λ from r. Opens opening.Parenthesis from ∷ r) NoStar
unfolding is_single is_pair is_triple sign_lexeme mark_lexeme
open-bit = token-bit Symbol (codes "(") (λ at. Opens opening.Parenthesis at)
    (λ rest h. sign-first (codes "(") rest refl (λ more left e p. one-whole 40 (λ c. refl) (λ c d. refl) more p) h) refl (λ at. refl)
