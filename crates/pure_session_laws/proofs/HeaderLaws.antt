-- The name of a theory is a token of its source.
use Rattle.std.proofs.Common.{◌≡◌, ℕ, List, [], ◌∷◌, inl, inr, refl, sym, ◌∙◌, ap, subst}
use Rattle.std.specs.Prelude.{slice_range, codes, Some, None}
use Rattle.pure_text.specs.Lists.{IsIn, Each}
use Rattle.pure_grammar.specs.declared.token.Token.{Token}
use Rattle.pure_grammar.specs.declared.token.TokenKind.{TokenKind}
use Rattle.pure_grammar.specs.declared.token.TokenKind.TheVariants as kind
use Rattle.pure_grammar.specs.declared.lexeme.Keyword.TheVariants as keyword
use Rattle.pure_grammar.specs.declared.lexeme.Sign.TheVariants as sign
use Rattle.pure_grammar.specs.Theories.TheoryText.{Span}
use Rattle.pure_grammar.specs.Theories.Lexeme.{Lexeme, Reserved, Signed, Plain, Other, proof_lexeme, command_lexeme, word_lexeme, symbol_lexeme, lexeme_of, lexeme, lexemes, ident_in}
use Rattle.pure_grammar.specs.Theories.Phrase.{Ident, VersionPhrase, NoVersion, WrittenVersion, FilePhrase}
use Rattle.pure_grammar.specs.Theories.PhraseText.{ident_text, version_text, file_text}
use Rattle.pure_grammar.proofs.Beside.{beside, beside-has}

-- the lexeme is no identifier
abbrev IsOther : Lexeme → Type 0
IsOther l = ident_in l ≡ None

-- the words of the grammar and its signs, as tables
abbrev proof_words : List (List ℕ × Lexeme)
proof_words =
    (codes "apply", Reserved keyword.Apply) ∷ (codes "done", Reserved keyword.Done) ∷ (codes "by", Reserved keyword.By)
    ∷ (codes "prefer", Reserved keyword.Prefer) ∷ (codes "defer", Reserved keyword.Defer) ∷ (codes "have", Reserved keyword.Have) ∷ []

abbrev command_words : List (List ℕ × Lexeme)
command_words =
    (codes "class", Reserved keyword.Class) ∷ (codes "typedecl", Reserved keyword.Typedecl) ∷ (codes "arities", Reserved keyword.Arities)
    ∷ (codes "consts", Reserved keyword.Consts) ∷ (codes "axiomatization", Reserved keyword.Axiomatization) ∷ (codes "where", Reserved keyword.Where)
    ∷ (codes "and", Reserved keyword.And) ∷ (codes "definition", Reserved keyword.Definition) ∷ (codes "lemma", Reserved keyword.Lemma)
    ∷ (codes "theorem", Reserved keyword.Theorem) ∷ []

abbrev theory_words : List (List ℕ × Lexeme)
theory_words =
    (codes "theory", Reserved keyword.Theory) ∷ (codes "imports", Reserved keyword.Imports) ∷ (codes "begin", Reserved keyword.Begin)
    ∷ (codes "end", Reserved keyword.End) ∷ (codes "version", Reserved keyword.Version) ∷ []

abbrev signs : List (List ℕ × Lexeme)
signs =
    (codes "<", Signed sign.Less) ∷ (codes ",", Signed sign.Comma) ∷ (codes ":", Signed sign.Colon) ∷ (codes "::", Signed sign.DoubleColon)
    ∷ (codes "(", Signed sign.OpenParenthesis) ∷ (codes ")", Signed sign.CloseParenthesis) ∷ (codes "{", Signed sign.OpenBrace)
    ∷ (codes "}", Signed sign.CloseBrace) ∷ []

proof-is : (bytes : List ℕ) → beside bytes proof_words (Other kind.Word) ≡ proof_lexeme bytes
unfolding proof_lexeme
proof-is bytes = refl

command-is : (bytes : List ℕ) → beside bytes command_words (proof_lexeme bytes) ≡ command_lexeme bytes
unfolding command_lexeme
command-is bytes = refl

word-is : (bytes : List ℕ) → beside bytes theory_words (command_lexeme bytes) ≡ word_lexeme bytes
unfolding word_lexeme
word-is bytes = refl

symbol-is : (bytes : List ℕ) → beside bytes signs (Other kind.Symbol) ≡ symbol_lexeme bytes
unfolding symbol_lexeme
symbol-is bytes = refl

-- none of the entries is an identifier
abbrev AreOther : List (List ℕ × Lexeme) → Type 0
AreOther words = Each (λ w. IsOther w.1) words

proof-others : AreOther proof_words
proof-others = (refl, (refl, (refl, (refl, (refl, (refl, tt))))))

command-others : AreOther command_words
command-others = (refl, (refl, (refl, (refl, (refl, (refl, (refl, (refl, (refl, (refl, tt))))))))))

theory-others : AreOther theory_words
theory-others = (refl, (refl, (refl, (refl, (refl, tt)))))

sign-others : AreOther signs
sign-others = (refl, (refl, (refl, (refl, (refl, (refl, (refl, (refl, tt))))))))

word-other : (bytes : List ℕ) → IsOther (word_lexeme bytes)
word-other bytes =
    let in_proof : IsOther (proof_lexeme bytes) = subst IsOther (proof-is bytes) (beside-has IsOther bytes proof_words (Other kind.Word) proof-others refl) in
    let in_command : IsOther (command_lexeme bytes) = subst IsOther (command-is bytes) (beside-has IsOther bytes command_words (proof_lexeme bytes) command-others in_proof) in
    subst IsOther (word-is bytes) (beside-has IsOther bytes theory_words (command_lexeme bytes) theory-others in_command)

symbol-other : (bytes : List ℕ) → IsOther (symbol_lexeme bytes)
symbol-other bytes = subst IsOther (symbol-is bytes) (beside-has IsOther bytes signs (Other kind.Symbol) sign-others refl)

not-plain : (l : Lexeme) (x : List ℕ) (at : Span) → IsOther l → l ≡ Plain x at → ⊥
not-plain l x at h e = let no : None ≡ Some x = sym h ∙ ap ident_in e in cc

-- an identifier of the grammar is a token of its kind, with its bytes
plain-token : (k : TokenKind) (bytes : List ℕ) (range at : Span) (x : List ℕ) → lexeme_of k bytes range ≡ Plain x at → (k ≡ kind.Ident) × (bytes ≡ x)
plain-token kind.Word bytes range at x e = absurd (not-plain (word_lexeme bytes) x at (word-other bytes) e)
plain-token kind.Ident bytes range at x e = (refl, cc)
plain-token kind.Qualified bytes range at x e = absurd (cc)
plain-token kind.TypeVar bytes range at x e = absurd (cc)
plain-token kind.Schem bytes range at x e = absurd (cc)
plain-token kind.BoundName bytes range at x e = absurd (cc)
plain-token kind.Number bytes range at x e = absurd (cc)
plain-token kind.Quote bytes range at x e = absurd (cc)
plain-token kind.Symbol bytes range at x e = absurd (not-plain (symbol_lexeme bytes) x at (symbol-other bytes) e)
plain-token kind.End bytes range at x e = absurd (cc)

-- the token of a theory's name
pub record IsNameToken (source : List ℕ) (tokens : List Token) (name : List ℕ) (token : Token) : Type 0 where
  pub among : IsIn token tokens
  pub ident : token.kind ≡ kind.Ident
  pub bytes : slice_range source token.from token.to ≡ name

-- the name behind the word `theory`
name-behind : (source : List ℕ) (tokens : List Token) (x : Ident) (r : List Lexeme) → Reserved keyword.Theory ∷ ident_text x r ≡ lexemes source tokens → (t : Token) × IsNameToken source tokens x.text t
name-behind source [] x r e = absurd (cc)
name-behind source (t ∷ []) x r e = absurd (cc)
name-behind source (t ∷ u ∷ tokens) x r e =
    let second : lexeme source u ≡ Plain x.text x.at = cc in
    let w = plain-token u.kind (slice_range source u.from u.to) (record { from = u.from; to = u.to }) x.at x.text second in
    (u, record { among = inr (inl refl); ident = w.0; bytes = w.1 })

name-in : (source : List ℕ) (tokens : List Token) (v : VersionPhrase) (x : Ident) (r : List Lexeme) → version_text v (Reserved keyword.Theory ∷ ident_text x r) ≡ lexemes source tokens → (t : Token) × IsNameToken source tokens x.text t
name-in source tokens NoVersion x r e = name-behind source tokens x r e
name-in source [] (WrittenVersion n) x r e = absurd (cc)
name-in source (t ∷ []) (WrittenVersion n) x r e = absurd (cc)
name-in source (t ∷ u ∷ tokens) (WrittenVersion n) x r e =
    let rest : Reserved keyword.Theory ∷ ident_text x r ≡ lexemes source tokens = cc in
    let w = name-behind source tokens x r rest in
    (w.0, record { among = inr (inr w.1.among); ident = w.1.ident; bytes = w.1.bytes })

pub name-token : (source : List ℕ) (tokens : List Token) (f : FilePhrase) → file_text f ≡ lexemes source tokens → (t : Token) × IsNameToken source tokens f.name.text t
name-token source tokens f e = name-in source tokens f.version f.name _ e
