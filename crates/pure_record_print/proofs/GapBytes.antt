-- Tokens with a blank behind them.
use Rattle.std.proofs.Common.{◌≡◌, ℕ, Bool, true, false, ◌&&◌, ◌==◌, List, [], ◌∷◌, ◌++◌, refl, sym, subst, arith}
use Rattle.std.specs.Prelude.{if◌then◌else◌}
use Rattle.std.proofs.lemmas.Bool.{both_ways}
use Rattle.pure_grammar.specs.declared.token.TokenKind.{TokenKind}
use Rattle.pure_grammar.specs.declared.token.TokenKind.TheVariants.{Symbol}
use Rattle.pure_grammar.specs.Tokens.Bytes.{is_letter, is_digit, is_name_byte, is_blank}
use Rattle.pure_grammar.specs.Tokens.Comment.{opens_comment}
use Rattle.pure_grammar.specs.Tokens.Token.{is_pair, is_triple, is_symbol, is_token}
use Rattle.pure_grammar.specs.Tokens.Spelling.{IsFirst}
use Rattle.pure_grammar.proofs.Classes.{same_kind}
use Rattle.pure_lex.proofs.Firsts.{group-longer}
use Rattle.pure_print.proofs.Bits.{goes_on}

-- A blank that ends each name, number and sign before it.
pub record IsGapByte (g : ℕ) : Type 0 where
  pub blank : is_blank g ≡ true
  pub stops : goes_on g ≡ false
  pub no_star : (g == 42) ≡ false
  pub pair : (b : ℕ) → is_pair b g ≡ false
  pub second : (b d : ℕ) → is_triple b g d ≡ false
  pub third : (b c : ℕ) → is_triple b c g ≡ false

neither : (b x : Bool) → x ≡ false → (if b then false else x) ≡ false
neither true x h = refl
neither false x h = h

both-fail : (b x : Bool) → x ≡ false → (b && x) ≡ false
both-fail true x h = h
both-fail false x h = refl

pub space : IsGapByte 32
unfolding is_blank is_name_byte is_letter is_digit is_pair is_triple
space = record {
  blank = refl;
  stops = refl;
  no_star = refl;
  pair = λ b. neither (b == 33) _ (neither (b == 61) _ (neither (b == 58) _ (neither (b == 91) _ (neither (b == 124) _ refl))));
  second = λ b d. both-fail (b == 61) _ refl;
  third = λ b c. both-fail (b == 61) _ (both-fail (c == 61) _ refl);
}

pub line_end : IsGapByte 10
unfolding is_blank is_name_byte is_letter is_digit is_pair is_triple
line_end = record {
  blank = refl;
  stops = refl;
  no_star = refl;
  pair = λ b. neither (b == 33) _ (neither (b == 61) _ (neither (b == 58) _ (neither (b == 91) _ (neither (b == 124) _ refl))));
  second = λ b d. both-fail (b == 61) _ refl;
  third = λ b c. both-fail (b == 61) _ (both-fail (c == 61) _ refl);
}

-- No sign goes on with it.
sign-ends : (here : List ℕ) (g : ℕ) (more : List ℕ) → IsGapByte g → is_symbol here ≡ true → is_symbol (here ++ g ∷ more) ≡ true → ⊥
sign-ends [] g more gap p q = absurd (cc)
sign-ends (b ∷ []) g [] gap p q = both_ways (is_pair b g) (gap.pair b) q
sign-ends (b ∷ []) g (d ∷ []) gap p q = both_ways (is_triple b g d) (gap.second b d) q
sign-ends (b ∷ []) g (d ∷ e ∷ more) gap p q = absurd (cc)
sign-ends (b ∷ c ∷ []) g [] gap p q = both_ways (is_triple b c g) (gap.third b c) q
sign-ends (b ∷ c ∷ []) g (d ∷ more) gap p q = absurd (cc)
sign-ends (b ∷ c ∷ d ∷ []) g more gap p q = absurd (cc)
sign-ends (b ∷ c ∷ d ∷ e ∷ bs) g more gap p q = absurd (cc)

sign-longest : (here : List ℕ) (g : ℕ) (rest : List ℕ) → IsGapByte g → is_symbol here ≡ true → (k : TokenKind) (more left : List ℕ) → g ∷ rest ≡ more ++ left → is_token k (here ++ more) ≡ true → more ≡ []
sign-longest here g rest gap p k [] left e q = refl
sign-longest here g rest gap p k (c ∷ more) left e q =
    let same : k ≡ Symbol = same_kind k Symbol (omega arith) (group-longer Symbol k here (c ∷ more) p q) in
    let longer : is_symbol (here ++ c ∷ more) ≡ true = rw same at q in
    let byte : g ≡ c = cc in
    absurd (sign-ends here g more gap p (subst (λ z. is_symbol (here ++ z ∷ more) ≡ true) (sym byte) longer))

pub sign-first : (here : List ℕ) (g : ℕ) (rest : List ℕ) → IsGapByte g → is_symbol here ≡ true → opens_comment (here ++ g ∷ rest) ≡ false → IsFirst Symbol here (g ∷ rest)
sign-first here g rest gap p none = record { token = p; longest = sign-longest here g rest gap p; no_comment = none }
