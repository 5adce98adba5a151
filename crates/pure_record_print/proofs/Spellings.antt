-- What each lexeme of a record is written as.
use Rattle.std.proofs.Common.{◌≡◌, ℕ, ◌≤◌, true, List, [], ◌∷◌, ◌++◌, refl, sym, arith}
use Rattle.std.specs.Prelude.{codes}
use Rattle.std.specs.Fmt.{decimal}
use Rattle.std.specs.Cmp.Lexicographic.{same_text}
use Rattle.std.proofs.lemmas.Bool.{cond_both, ne_eqb}
use Rattle.pure_grammar.specs.Theories.Lexeme.{same}
use Rattle.pure_print.specs.NameText.{text_of_name}
use Rattle.pure_record.specs.declared.lexeme.Mark.{Mark}
use Rattle.pure_record.specs.declared.lexeme.Mark.TheVariants as mark
use Rattle.pure_record.specs.declared.lexeme.Word.{Word}
use Rattle.pure_record.specs.declared.lexeme.Word.TheVariants as word
use Rattle.pure_record.specs.declared.lexeme.Lexeme.{Lexeme}
use Rattle.pure_record.specs.declared.lexeme.Lexeme.TheVariants.{Marked, Identifier, TypeVariable, SchematicType, SchematicTerm, Bound, Numeral, Other}
use Rattle.pure_record.specs.Lexemes.{keyword_lexeme, bracket_lexeme, sign_lexeme, pure_word, equality_word, word_of}
use Rattle.pure_record.specs.Grammar.{typ_name, constant_name}
use Rattle.pure_record_print.specs.Printed.{spaced, variable_text, typ_name_text, constant_name_text}

-- the bytes of a mark's token, and the blank behind it
abbrev pub mark_text : Mark → List ℕ
mark_text mark.Begin = codes "begin"
mark_text mark.End = codes "end"
mark_text mark.Typedecl = codes "typedecl"
mark_text mark.Consts = codes "consts"
mark_text mark.Axiomatization = codes "axiomatization"
mark_text mark.Bar = codes "|"
mark_text mark.Colon = codes ":"
mark_text mark.DoubleColon = codes "::"
mark_text mark.Comma = codes ","
mark_text mark.Semicolon = codes ";"
mark_text mark.Percent = codes "%"
mark_text mark.OpenParenthesis = codes "("
mark_text mark.CloseParenthesis = codes ")"
mark_text mark.OpenBracket = codes "["
mark_text mark.CloseBracket = codes "]"
mark_text mark.OpenBrace = codes "{"
mark_text mark.CloseBrace = codes "}"
mark_text mark.SourceEnd = []

abbrev pub mark_gap : Mark → List ℕ
mark_gap mark.Begin = 10 ∷ []
mark_gap mark.End = 10 ∷ []
mark_gap mark.Bar = 10 ∷ []
mark_gap mark.SourceEnd = []
mark_gap _ = 32 ∷ []

-- the text of a word that means something
abbrev pub word_text : Word → List ℕ
word_text word.Axiom = codes "axiom"
word_text word.Assume = codes "assume"
word_text word.AllIntro = codes "alli"
word_text word.AllElim = codes "alle"
word_text word.ImpIntro = codes "impi"
word_text word.ImpElim = codes "impe"
word_text word.Beta = codes "beta"
word_text word.Refl = codes "refl"
word_text word.Subst = codes "subst"
word_text word.Ext = codes "ext"
word_text word.Iff = codes "iff"
word_text word.Fun = codes "fun"
word_text word.Prop = codes "prop"
word_text word.All = codes "all"
word_text word.Imp = codes "imp"
word_text word.Eq = codes "eq"
word_text word.Protect = codes "protect"
word_text word.Other = []

-- what a lexeme is written as, with the blank behind it
abbrev pub lexeme_text : (texts : List (List ℕ)) → Lexeme → List ℕ
lexeme_text texts (Marked m) = mark_text m ++ mark_gap m
lexeme_text texts (Identifier n w) = spaced (text_of_name texts n)
lexeme_text texts (TypeVariable n) = codes "'" ++ spaced (text_of_name texts n)
lexeme_text texts (SchematicType n i) = codes "?'" ++ variable_text texts n i
lexeme_text texts (SchematicTerm n i) = codes "?" ++ variable_text texts n i
lexeme_text texts (Bound k) = codes "_" ++ spaced (decimal k)
lexeme_text texts (Numeral n) = spaced (decimal n)
lexeme_text texts Other = []

abbrev pub lexemes_text : (texts : List (List ℕ)) → List Lexeme → List ℕ
lexemes_text texts [] = []
lexemes_text texts (l ∷ ls) = lexeme_text texts l ++ lexemes_text texts ls

-- ---- lexemes by their bytes

-- The bytes are those of the mark; `Other` has any.
abbrev pub IsMarkText : Lexeme → List ℕ → Type 0
IsMarkText (Marked m) bs = bs ≡ mark_text m
IsMarkText Other bs = Unit {0}
IsMarkText _ bs = ⊥

-- The text is that of the word; `Other` has any.
abbrev pub IsWordText : Word → List ℕ → Type 0
IsWordText word.Other bs = Unit {0}
IsWordText w bs = bs ≡ word_text w

is : (a b : List ℕ) → same a b ≡ true → a ≡ b
is a b h = same_text a b (sym h)

pub keyword-text : (bs : List ℕ) → IsMarkText (keyword_lexeme bs) bs
unfolding keyword_lexeme
keyword-text bs =
    let P : Lexeme → Type 0 = λ l. IsMarkText l bs in
    cond_both (same bs (codes "begin")) _ _ P (is bs _) (λ _.
    cond_both (same bs (codes "end")) _ _ P (is bs _) (λ _.
    cond_both (same bs (codes "typedecl")) _ _ P (is bs _) (λ _.
    cond_both (same bs (codes "consts")) _ _ P (is bs _) (λ _.
    cond_both (same bs (codes "axiomatization")) _ _ P (is bs _) (λ _. tt)))))

bracket-text : (bs : List ℕ) → IsMarkText (bracket_lexeme bs) bs
unfolding bracket_lexeme
bracket-text bs =
    let P : Lexeme → Type 0 = λ l. IsMarkText l bs in
    cond_both (same bs (codes "(")) _ _ P (is bs _) (λ _.
    cond_both (same bs (codes ")")) _ _ P (is bs _) (λ _.
    cond_both (same bs (codes "[")) _ _ P (is bs _) (λ _.
    cond_both (same bs (codes "]")) _ _ P (is bs _) (λ _.
    cond_both (same bs (codes "{")) _ _ P (is bs _) (λ _.
    cond_both (same bs (codes "}")) _ _ P (is bs _) (λ _. tt))))))

pub sign-text : (bs : List ℕ) → IsMarkText (sign_lexeme bs) bs
unfolding sign_lexeme
sign-text bs =
    let P : Lexeme → Type 0 = λ l. IsMarkText l bs in
    cond_both (same bs (codes "|")) _ _ P (is bs _) (λ _.
    cond_both (same bs (codes ":")) _ _ P (is bs _) (λ _.
    cond_both (same bs (codes "::")) _ _ P (is bs _) (λ _.
    cond_both (same bs (codes ",")) _ _ P (is bs _) (λ _.
    cond_both (same bs (codes ";")) _ _ P (is bs _) (λ _.
    cond_both (same bs (codes "%")) _ _ P (is bs _) (λ _. bracket-text bs))))))

pure-text : (bs : List ℕ) → IsWordText (pure_word bs) bs
unfolding pure_word
pure-text bs =
    let P : Word → Type 0 = λ w. IsWordText w bs in
    cond_both (same bs (codes "fun")) _ _ P (is bs _) (λ _.
    cond_both (same bs (codes "prop")) _ _ P (is bs _) (λ _.
    cond_both (same bs (codes "all")) _ _ P (is bs _) (λ _.
    cond_both (same bs (codes "imp")) _ _ P (is bs _) (λ _.
    cond_both (same bs (codes "eq")) _ _ P (is bs _) (λ _.
    cond_both (same bs (codes "protect")) _ _ P (is bs _) (λ _. tt))))))

equality-text : (bs : List ℕ) → IsWordText (equality_word bs) bs
unfolding equality_word
equality-text bs =
    let P : Word → Type 0 = λ w. IsWordText w bs in
    cond_both (same bs (codes "beta")) _ _ P (is bs _) (λ _.
    cond_both (same bs (codes "refl")) _ _ P (is bs _) (λ _.
    cond_both (same bs (codes "subst")) _ _ P (is bs _) (λ _.
    cond_both (same bs (codes "ext")) _ _ P (is bs _) (λ _.
    cond_both (same bs (codes "iff")) _ _ P (is bs _) (λ _. pure-text bs)))))

pub word-text : (bs : List ℕ) → IsWordText (word_of bs) bs
unfolding word_of
word-text bs =
    let P : Word → Type 0 = λ w. IsWordText w bs in
    cond_both (same bs (codes "axiom")) _ _ P (is bs _) (λ _.
    cond_both (same bs (codes "assume")) _ _ P (is bs _) (λ _.
    cond_both (same bs (codes "alli")) _ _ P (is bs _) (λ _.
    cond_both (same bs (codes "alle")) _ _ P (is bs _) (λ _.
    cond_both (same bs (codes "impi")) _ _ P (is bs _) (λ _.
    cond_both (same bs (codes "impe")) _ _ P (is bs _) (λ _. equality-text bs))))))

-- ---- identifiers as they are read of tokens

-- An identifier's name is none of Pure's, and its text is that of its word.
abbrev pub IsFaithful : (texts : List (List ℕ)) → Lexeme → Type 0
IsFaithful texts (Identifier n w) = (6 ≤ n) × IsWordText w (text_of_name texts n)
IsFaithful texts _ = Unit {0}

typ_own : (texts : List (List ℕ)) (n : ℕ) → 6 ≤ n → text_of_name texts n ≡ typ_name_text texts n
typ_own texts n high = rw (ne_eqb n 0 (λ e. omega arith), ne_eqb n 1 (λ e. omega arith)) refl

constant_own : (texts : List (List ℕ)) (n : ℕ) → 6 ≤ n → text_of_name texts n ≡ constant_name_text texts n
constant_own texts n high = rw (ne_eqb n 2 (λ e. omega arith), ne_eqb n 3 (λ e. omega arith), ne_eqb n 4 (λ e. omega arith), ne_eqb n 5 (λ e. omega arith)) refl

pub typ_name-text : (texts : List (List ℕ)) (n : ℕ) (w : Word) → IsFaithful texts (Identifier n w) → text_of_name texts n ≡ typ_name_text texts (typ_name n w)
typ_name-text texts n word.Fun h = h.1
typ_name-text texts n word.Prop h = h.1
typ_name-text texts n word.Axiom h = typ_own texts n h.0
typ_name-text texts n word.Assume h = typ_own texts n h.0
typ_name-text texts n word.AllIntro h = typ_own texts n h.0
typ_name-text texts n word.AllElim h = typ_own texts n h.0
typ_name-text texts n word.ImpIntro h = typ_own texts n h.0
typ_name-text texts n word.ImpElim h = typ_own texts n h.0
typ_name-text texts n word.Beta h = typ_own texts n h.0
typ_name-text texts n word.Refl h = typ_own texts n h.0
typ_name-text texts n word.Subst h = typ_own texts n h.0
typ_name-text texts n word.Ext h = typ_own texts n h.0
typ_name-text texts n word.Iff h = typ_own texts n h.0
typ_name-text texts n word.All h = typ_own texts n h.0
typ_name-text texts n word.Imp h = typ_own texts n h.0
typ_name-text texts n word.Eq h = typ_own texts n h.0
typ_name-text texts n word.Protect h = typ_own texts n h.0
typ_name-text texts n word.Other h = typ_own texts n h.0

pub constant_name-text : (texts : List (List ℕ)) (n : ℕ) (w : Word) → IsFaithful texts (Identifier n w) → text_of_name texts n ≡ constant_name_text texts (constant_name n w)
constant_name-text texts n word.All h = h.1
constant_name-text texts n word.Imp h = h.1
constant_name-text texts n word.Eq h = h.1
constant_name-text texts n word.Protect h = h.1
constant_name-text texts n word.Axiom h = constant_own texts n h.0
constant_name-text texts n word.Assume h = constant_own texts n h.0
constant_name-text texts n word.AllIntro h = constant_own texts n h.0
constant_name-text texts n word.AllElim h = constant_own texts n h.0
constant_name-text texts n word.ImpIntro h = constant_own texts n h.0
constant_name-text texts n word.ImpElim h = constant_own texts n h.0
constant_name-text texts n word.Beta h = constant_own texts n h.0
constant_name-text texts n word.Refl h = constant_own texts n h.0
constant_name-text texts n word.Subst h = constant_own texts n h.0
constant_name-text texts n word.Ext h = constant_own texts n h.0
constant_name-text texts n word.Iff h = constant_own texts n h.0
constant_name-text texts n word.Fun h = constant_own texts n h.0
constant_name-text texts n word.Prop h = constant_own texts n h.0
constant_name-text texts n word.Other h = constant_own texts n h.0
