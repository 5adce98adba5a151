-- The search as loops make it.
use Rattle.std.proofs.Common.{◌≡◌, ◌<◌, ◌≤◌, ℕ, suc, zero, Bool, true, false, List, [], ◌∷◌, ◌++◌, length, drop, get_or, refl, sym, ◌∙◌, ap, subst, arith, None, if◌then◌else◌, codes, drop-cons, slice_range}
use Rattle.pure_text.specs.Lists.{Each}
use Rattle.pure_grammar.specs.declared.token.Token.{Token}
use Rattle.pure_grammar.specs.declared.token.TokenKind.TheVariants as kind
use Rattle.pure_grammar.specs.declared.lexeme.Keyword.TheVariants as keyword
use Rattle.pure_grammar.specs.declared.lexeme.Sign.TheVariants as sign
use Rattle.pure_grammar.specs.Tokens.Spelling.{IsSlice, AreSlices}
use Rattle.pure_grammar.specs.Theories.Outer.{place_of}
use Rattle.pure_grammar.specs.Theories.Lexeme.{Lexeme, Reserved, Signed, Other, proof_lexeme, command_lexeme, word_lexeme, symbol_lexeme, lexeme_of, ident_in}
use Rattle.pure_grammar.proofs.Beside.{beside, beside-has}
use Rattle.pure_places.specs.Marks.{is_begin}
use Rattle.pure_places.specs.Found.{token_mark, token_ident, found_imports, import_of}

-- the lexeme is no identifier
abbrev IsOther : Lexeme → Type 0
IsOther l = ident_in l ≡ None

-- the words of the grammar and its signs, as tables
abbrev proof_words : List (List ℕ × Lexeme)
proof_words =
    (codes "apply", Reserved keyword.Apply) ∷ (codes "done", Reserved keyword.Done) ∷ (codes "by", Reserved keyword.By)
    ∷ (codes "prefer", Reserved keyword.Prefer) ∷ (codes "defer", Reserved keyword.Defer) ∷ (codes "have", Reserved keyword.Have) ∷ []

abbrev command_words : List (List ℕ × Lexeme)
command_words =
    (codes "class", Reserved keyword.Class) ∷ (codes "typedecl", Reserved keyword.Typedecl) ∷ (codes "arities", Reserved keyword.Arities)
    ∷ (codes "consts", Reserved keyword.Consts) ∷ (codes "axiomatization", Reserved keyword.Axiomatization) ∷ (codes "where", Reserved keyword.Where)
    ∷ (codes "and", Reserved keyword.And) ∷ (codes "definition", Reserved keyword.Definition) ∷ (codes "lemma", Reserved keyword.Lemma)
    ∷ (codes "theorem", Reserved keyword.Theorem) ∷ []

abbrev theory_words : List (List ℕ × Lexeme)
theory_words =
    (codes "theory", Reserved keyword.Theory) ∷ (codes "imports", Reserved keyword.Imports) ∷ (codes "begin", Reserved keyword.Begin)
    ∷ (codes "end", Reserved keyword.End) ∷ (codes "version", Reserved keyword.Version) ∷ []

abbrev signs : List (List ℕ × Lexeme)
signs =
    (codes "<", Signed sign.Less) ∷ (codes ",", Signed sign.Comma) ∷ (codes ":", Signed sign.Colon) ∷ (codes "::", Signed sign.DoubleColon)
    ∷ (codes "(", Signed sign.OpenParenthesis) ∷ (codes ")", Signed sign.CloseParenthesis) ∷ (codes "{", Signed sign.OpenBrace)
    ∷ (codes "}", Signed sign.CloseBrace) ∷ []

proof-is : (bytes : List ℕ) → beside bytes proof_words (Other kind.Word) ≡ proof_lexeme bytes
unfolding proof_lexeme
proof-is bytes = refl

command-is : (bytes : List ℕ) → beside bytes command_words (proof_lexeme bytes) ≡ command_lexeme bytes
unfolding command_lexeme
command-is bytes = refl

word-is : (bytes : List ℕ) → beside bytes theory_words (command_lexeme bytes) ≡ word_lexeme bytes
unfolding word_lexeme
word-is bytes = refl

symbol-is : (bytes : List ℕ) → beside bytes signs (Other kind.Symbol) ≡ symbol_lexeme bytes
unfolding symbol_lexeme
symbol-is bytes = refl

word-other : (bytes : List ℕ) → IsOther (word_lexeme bytes)
word-other bytes =
    let in_proof : IsOther (beside bytes proof_words (Other kind.Word)) =
    beside-has IsOther bytes proof_words (Other kind.Word) (refl, (refl, (refl, (refl, (refl, (refl, tt)))))) refl in
    let in_command : IsOther (beside bytes command_words (proof_lexeme bytes)) =
    beside-has IsOther bytes command_words (proof_lexeme bytes) (refl, (refl, (refl, (refl, (refl, (refl, (refl, (refl, (refl, (refl, tt)))))))))) (subst IsOther (proof-is bytes) in_proof) in
    let in_theory : IsOther (beside bytes theory_words (command_lexeme bytes)) =
    beside-has IsOther bytes theory_words (command_lexeme bytes) (refl, (refl, (refl, (refl, (refl, tt))))) (subst IsOther (command-is bytes) in_command) in
    subst IsOther (word-is bytes) in_theory

symbol-other : (bytes : List ℕ) → IsOther (symbol_lexeme bytes)
symbol-other bytes =
    let found : IsOther (beside bytes signs (Other kind.Symbol)) =
    beside-has IsOther bytes signs (Other kind.Symbol) (refl, (refl, (refl, (refl, (refl, (refl, (refl, (refl, tt)))))))) refl in
    subst IsOther (symbol-is bytes) found

-- Keywords and signs are no identifiers.
pub word-no_ident : (source : List ℕ) (t : Token) → t.kind ≡ kind.Word → None ≡ token_ident source t
word-no_ident source t e =
    subst (λ k. None ≡ ident_in (lexeme_of k (slice_range source t.from t.to) (record { from = t.from; to = t.to }))) (sym e) (sym (word-other (slice_range source t.from t.to)))

pub symbol-no_ident : (source : List ℕ) (t : Token) → t.kind ≡ kind.Symbol → None ≡ token_ident source t
symbol-no_ident source t e =
    subst (λ k. None ≡ ident_in (lexeme_of k (slice_range source t.from t.to) (record { from = t.from; to = t.to }))) (sym e) (sym (symbol-other (slice_range source t.from t.to)))

-- the place of a token, and that behind the last one
pub token-place : (ts : List Token) (k len : ℕ) (d : Token) → k < length ts → (get_or ts k d).from ≡ place_of ts len k
token-place [] k len d within = absurd (omega (arith, within))
token-place (t ∷ ts) zero len d within = refl
token-place (t ∷ ts) (suc k) len d within = token-place ts k len d (omega (arith, within))

pub end-place : (ts : List Token) (k len : ℕ) → length ts ≤ k → len ≡ place_of ts len k
end-place [] zero len past = refl
end-place [] (suc k) len past = refl
end-place (t ∷ ts) zero len past = absurd (omega (arith, past))
end-place (t ∷ ts) (suc k) len past = end-place ts k len (omega (arith, past))

pub slices-each : (source : List ℕ) (from to : ℕ) (ts : List Token) → AreSlices source from to ts → Each (IsSlice source) ts
slices-each source from to [] are = tt
slices-each source from to (t ∷ ts) are = (are.1, slices-each source t.to to ts are.2)

each-drop : {A : Type 0} (P : A → Type 0) (n : ℕ) (xs : List A) → Each P xs → Each P (drop n xs)
each-drop P zero xs each = each
each-drop P (suc n) [] each = each
each-drop P (suc n) (x ∷ xs) each = each-drop P n xs each.1

-- what is left of a list is as good as the list
pub each-rest : {A : Type 0} (P : A → Type 0) (n : ℕ) (xs rest : List A) → rest ≡ drop n xs → Each P xs → Each P rest
each-rest P n xs rest e each = subst (Each P) (sym e) (each-drop P n xs each)

cond-true : {A : Type 0} (b : Bool) (x y : A) → b ≡ true → (if b then x else y) ≡ x
cond-true true x y e = refl
cond-true false x y e = absurd (cc e)

cond-false : {A : Type 0} (b : Bool) (x y : A) → b ≡ false → (if b then x else y) ≡ y
cond-false true x y e = absurd (cc e)
cond-false false x y e = refl

-- At `begin` all imports are found; before it one more token is passed.
pub imports-begun : (source : List ℕ) (ts : List Token) (i : ℕ) (d t : Token) → i < length ts → t ≡ get_or ts i d → is_begin (token_mark source t) ≡ true → found_imports source (drop i ts) ≡ []
imports-begun source ts i d t below at e =
    ap (found_imports source) (drop-cons ts i d below) ∙ ap (λ z. found_imports source (z ∷ drop (suc i) ts)) (sym at) ∙ cond-true (is_begin (token_mark source t)) _ _ e

pub imports-turn : (source : List ℕ) (ts : List Token) (i : ℕ) (d t : Token) → i < length ts → t ≡ get_or ts i d → is_begin (token_mark source t) ≡ false
    → found_imports source (drop i ts) ≡ import_of source t ++ found_imports source (drop (suc i) ts)
imports-turn source ts i d t below at e =
    ap (found_imports source) (drop-cons ts i d below) ∙ ap (λ z. found_imports source (z ∷ drop (suc i) ts)) (sym at) ∙ cond-false (is_begin (token_mark source t)) _ _ e
