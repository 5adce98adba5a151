-- A token of a record as it is printed.
use Rattle.std.proofs.Common.{◌≡◌, ◌≢◌, ℕ, ◌+◌, ◌<◌, ◌≤◌, Bool, true, false, not, ◌&&◌, ◌||◌, ◌==◌, List, [], ◌∷◌, ◌++◌, length, refl, sym, ap, ap₂, subst, ◌∙◌, inl, inr, arith, append_assoc}
use Rattle.std.specs.Prelude.{None, Some, Option, nat_eq}
use Rattle.std.specs.List.{list_all}
use Rattle.std.specs.Fmt.{decimal}
use Rattle.std.proofs.lemmas.Bool.{and_parts, or_cases, both_ways, cases_Bool, false_from_ne_true, eqb-true}
use Rattle.std.proofs.lemmas.Bool.Decides.{nat_tests}
use Rattle.pure_grammar.specs.declared.token.TokenKind.{TokenKind}
use Rattle.pure_grammar.specs.declared.token.TokenKind.TheVariants.{Word, Ident, Qualified, TypeVar, Schem, BoundName, Number, Quote, Symbol, End}
use Rattle.pure_grammar.specs.Tokens.Bytes.{is_letter, is_name_byte, is_empty, head_is, marked, behind}
use Rattle.pure_grammar.specs.Tokens.Comment.{opens_comment}
use Rattle.pure_grammar.specs.Tokens.Token.{is_spelling, is_keyword, is_number, is_indexed, is_symbol, is_token, is_long, long_identifier, first_identifier}
use Rattle.pure_grammar.specs.Tokens.Spelling.{IsFirst}
use Rattle.pure_grammar.specs.Theories.Lexeme.{value_behind}
use Rattle.pure_grammar.proofs.Indexed.{letter-not_mark}
use Rattle.pure_lex.specs.Fronts.{name_kind}
use Rattle.pure_lex.proofs.Firsts.{first-longest, dot-stops}
use Rattle.pure_lex.proofs.NameFronts.{long-first}
use Rattle.pure_print.specs.NameText.{text_of_name, index_text}
use Rattle.pure_print.proofs.FirstTokens.{IsSpelled, identifier-spelled, identifier-first, typ_variable-first, stops-digit, numeral-longest, bound-first, schematic-first, typ_schematic-first, schematic-short, typ_schematic-short, spelled-head}
use Rattle.pure_record.specs.declared.lexeme.Mark.{Mark}
use Rattle.pure_record.specs.declared.lexeme.Mark.TheVariants as mark
use Rattle.pure_record.specs.declared.lexeme.Lexeme.{Lexeme}
use Rattle.pure_record.specs.declared.lexeme.Lexeme.TheVariants as lexeme
use Rattle.pure_record.specs.Lexemes.{lexeme_of, spelling_of, before_dot, behind_dot, is_typ, schematic_text, number_of, keyword_lexeme, sign_lexeme}
use Rattle.pure_record.specs.Spelled.{is_bar_of}
use Rattle.pure_record_print.proofs.Values.{value-decimal, value-short}
use Rattle.pure_record_print.proofs.GapBytes.{IsGapByte, sign-first}
use Rattle.pure_record_print.proofs.Spellings.{mark_text, mark_gap, lexeme_text, IsMarkText, keyword-text, sign-text}
use Rattle.pure_record_print.proofs.PartTexts.{IsKnown}

-- the blank behind a lexeme
abbrev pub gap_of : Lexeme → ℕ
gap_of (lexeme.Marked mark.Begin) = 10
gap_of (lexeme.Marked mark.End) = 10
gap_of (lexeme.Marked mark.Bar) = 10
gap_of _ = 32

-- The bytes are those of a token of the kind that stands in a record with these texts: its name has a text, and it is no longer than tokens are.
pub record IsOf (texts : List (List ℕ)) (kind : TokenKind) (bs : List ℕ) : Type 0 where
  pub token : is_token kind bs ≡ true
  pub short : long_identifier kind bs ≡ None
  pub known : IsKnown (lexeme_of texts kind bs)
  pub named : (t : List ℕ) → spelling_of kind bs ≡ Some t → text_of_name texts (number_of texts t) ≡ t

-- Behind a blank these bytes are the first token, and are told from the others by nothing but how their number is written.
pub record IsReprint (texts : List (List ℕ)) (kind : TokenKind) (bs new : List ℕ) : Type 0 where
  pub first : (g : ℕ) (rest : List ℕ) → IsGapByte g → IsFirst kind new (g ∷ rest)
  pub short : long_identifier kind new ≡ None
  pub same : lexeme_of texts kind new ≡ lexeme_of texts kind bs
  pub gives : spelling_of kind new ≡ spelling_of kind bs
  pub bar : is_bar_of kind new ≡ is_bar_of kind bs
  pub text : lexeme_text texts (lexeme_of texts kind bs) ≡ new ++ gap_of (lexeme_of texts kind bs) ∷ []

-- ---- keywords and signs
mark-line : (m : Mark) → mark_text m ≢ [] → mark_text m ++ mark_gap m ≡ mark_text m ++ gap_of (lexeme.Marked m) ∷ []
mark-line mark.Begin some = refl
mark-line mark.End some = refl
mark-line mark.Typedecl some = refl
mark-line mark.Consts some = refl
mark-line mark.Axiomatization some = refl
mark-line mark.Bar some = refl
mark-line mark.Colon some = refl
mark-line mark.DoubleColon some = refl
mark-line mark.Comma some = refl
mark-line mark.Semicolon some = refl
mark-line mark.Percent some = refl
mark-line mark.OpenParenthesis some = refl
mark-line mark.CloseParenthesis some = refl
mark-line mark.OpenBracket some = refl
mark-line mark.CloseBracket some = refl
mark-line mark.OpenBrace some = refl
mark-line mark.CloseBrace some = refl
mark-line mark.SourceEnd some = absurd (some refl)

marked-line : (texts : List (List ℕ)) (l : Lexeme) (bs : List ℕ) → IsMarkText l bs → IsKnown l → bs ≢ [] → lexeme_text texts l ≡ bs ++ gap_of l ∷ []
marked-line texts (lexeme.Marked m) bs is known some = mark-line m (λ e. some (is ∙ e)) ∙ ap (λ z. z ++ gap_of (lexeme.Marked m) ∷ []) (sym is)
marked-line texts lexeme.Other bs is known some = absurd known
marked-line texts (lexeme.Identifier n w) bs is known some = absurd is
marked-line texts (lexeme.TypeVariable n) bs is known some = absurd is
marked-line texts (lexeme.SchematicType n i) bs is known some = absurd is
marked-line texts (lexeme.SchematicTerm n i) bs is known some = absurd is
marked-line texts (lexeme.Bound k) bs is known some = absurd is
marked-line texts (lexeme.Numeral n) bs is known some = absurd is

-- no comment begins with a sign and a blank
sign-opens : (m : Mark) (g : ℕ) (rest : List ℕ) → IsGapByte g → mark_text m ≢ [] → opens_comment (mark_text m ++ g ∷ rest) ≡ false
sign-opens mark.OpenParenthesis g rest gap some = gap.no_star
sign-opens mark.Begin g rest gap some = refl
sign-opens mark.End g rest gap some = refl
sign-opens mark.Typedecl g rest gap some = refl
sign-opens mark.Consts g rest gap some = refl
sign-opens mark.Axiomatization g rest gap some = refl
sign-opens mark.Bar g rest gap some = refl
sign-opens mark.Colon g rest gap some = refl
sign-opens mark.DoubleColon g rest gap some = refl
sign-opens mark.Comma g rest gap some = refl
sign-opens mark.Semicolon g rest gap some = refl
sign-opens mark.Percent g rest gap some = refl
sign-opens mark.CloseParenthesis g rest gap some = refl
sign-opens mark.OpenBracket g rest gap some = refl
sign-opens mark.CloseBracket g rest gap some = refl
sign-opens mark.OpenBrace g rest gap some = refl
sign-opens mark.CloseBrace g rest gap some = refl
sign-opens mark.SourceEnd g rest gap some = absurd (some refl)

sign-no_comment : (l : Lexeme) (bs : List ℕ) (g : ℕ) (rest : List ℕ) → IsGapByte g → IsMarkText l bs → IsKnown l → bs ≢ [] → opens_comment (bs ++ g ∷ rest) ≡ false
sign-no_comment (lexeme.Marked m) bs g rest gap is known some = subst (λ z. opens_comment (z ++ g ∷ rest) ≡ false) (sym is) (sign-opens m g rest gap (λ e. some (is ∙ e)))
sign-no_comment lexeme.Other bs g rest gap is known some = absurd known
sign-no_comment (lexeme.Identifier n w) bs g rest gap is known some = absurd is
sign-no_comment (lexeme.TypeVariable n) bs g rest gap is known some = absurd is
sign-no_comment (lexeme.SchematicType n i) bs g rest gap is known some = absurd is
sign-no_comment (lexeme.SchematicTerm n i) bs g rest gap is known some = absurd is
sign-no_comment (lexeme.Bound k) bs g rest gap is known some = absurd is
sign-no_comment (lexeme.Numeral n) bs g rest gap is known some = absurd is

spelling-some : (bs : List ℕ) → is_spelling bs ≡ true → bs ≢ []
spelling-some [] p e = both_ways (is_spelling []) refl p
spelling-some (b ∷ bs) p e = cc

sign-some : (bs : List ℕ) → is_symbol bs ≡ true → bs ≢ []
sign-some [] p e = both_ways (is_symbol []) refl p
sign-some (b ∷ bs) p e = cc

-- ---- names
long-some : (x : Option ℕ) (k : ℕ) → x ≡ None → x ≡ Some k → ⊥
long-some x k e f = cc

not_long : (kind : TokenKind) (bs : List ℕ) → long_identifier kind bs ≡ None → is_long (first_identifier kind bs) ≡ false
not_long kind bs h = false_from_ne_true (is_long (first_identifier kind bs)) (λ long. long-some (long_identifier kind bs) 0 h (long-first kind bs long))

short-length : (bs : List ℕ) → is_long bs ≡ false → length bs ≤ length (behind is_name_byte bs) + 64
short-length bs h = grind (arith, nat_tests)

nothing-behind : (bs : List ℕ) → is_empty bs ≡ true → length bs ≡ 0
nothing-behind [] e = refl
nothing-behind (b ∷ bs) e = absurd (cc)

spelling-spelled : (bs : List ℕ) → is_spelling bs ≡ true → is_long bs ≡ false → IsSpelled bs
spelling-spelled bs p q =
    let parts = and_parts (head_is is_letter bs) (is_empty (behind is_name_byte bs)) p in
    let size : length bs ≤ length (behind is_name_byte bs) + 64 = short-length bs q in
    let none : length (behind is_name_byte bs) ≡ 0 = nothing-behind (behind is_name_byte bs) parts.1 in
    identifier-spelled bs (p, omega arith)

kind_of-ident : (bs : List ℕ) → not (is_keyword bs) ≡ true → name_kind bs ≡ Ident
kind_of-ident bs h = elim (cases_Bool (is_keyword bs)) [ inl w ↦ (let no : false ≡ true = rw w at h in cc) | inr w ↦ rw w refl ]

kind_of-word : (bs : List ℕ) → is_keyword bs ≡ true → name_kind bs ≡ Word
kind_of-word bs h = rw h refl

name-first : (kind : TokenKind) (bs : List ℕ) → name_kind bs ≡ kind → IsSpelled bs → (g : ℕ) (rest : List ℕ) → IsGapByte g → IsFirst kind bs (g ∷ rest)
name-first kind bs e s g rest gap = subst (λ k. IsFirst k bs (g ∷ rest)) e (identifier-first bs (g ∷ rest) s gap.stops)

-- ---- a name and its index
no_dot : is_name_byte 46 ≡ false
no_dot = dot-stops []

name_byte-dot : (b : ℕ) → is_name_byte b ≡ true → (b == 46) ≡ false
name_byte-dot b h = false_from_ne_true (b == 46) (λ dot. both_ways (is_name_byte 46) no_dot (ap is_name_byte (sym (eqb-true b 46 dot)) ∙ h))

-- what stands before the dot is a name, and what behind it has nine digits at most
record IsSplit (ns : List ℕ) : Type 0 where
  all : list_all is_name_byte (before_dot ns) ≡ true
  small : value_behind 0 (behind_dot ns) < 1000000000
  size : length (before_dot ns) + length (behind is_name_byte ns) ≡ length ns

abbrev has_index : List ℕ → Bool
has_index ns = is_empty (behind is_name_byte ns) || marked 46 is_number (behind is_name_byte ns)

split : (ns : List ℕ) → has_index ns ≡ true → IsSplit ns
split [] h = record { all = refl; small = omega arith; size = refl }
split (b ∷ ns) h = elim (cases_Bool (is_name_byte b)) [
  | inl name ↦ (let further : IsSplit ns = split ns (rw name at h) in
      let sum : length (before_dot ns) + length (behind is_name_byte ns) ≡ length ns = further.size in
      record { all = rw (name_byte-dot b name, name) further.all; small = rw (name_byte-dot b name) further.small; size = rw (name_byte-dot b name, name) (omega arith) })
  | inr other ↦ (let here : ((b == 46) && is_number ns) ≡ true = rw other at h in
      let parts = and_parts (b == 46) (is_number ns) here in
      record { all = rw parts.0 refl; small = rw parts.0 (value-short ns parts.1); size = rw (parts.0, other) (omega arith) })
]

before-letter : (ns : List ℕ) → head_is is_letter ns ≡ true → head_is is_letter (before_dot ns) ≡ true
unfolding is_name_byte
before-letter [] h = h
before-letter (b ∷ ns) h =
    let name : is_name_byte b ≡ true = rw h refl in
    rw (name_byte-dot b name) h

split-spelled : (ns : List ℕ) → is_indexed ns ≡ true → is_long ns ≡ false → IsSpelled (before_dot ns) × (value_behind 0 (behind_dot ns) < 1000000000)
split-spelled ns p q =
    let parts = and_parts (head_is is_letter ns) (has_index ns) p in
    let s : IsSplit ns = split ns parts.1 in
    let size : length ns ≤ length (behind is_name_byte ns) + 64 = short-length ns q in
    let total : length (before_dot ns) + length (behind is_name_byte ns) ≡ length ns = s.size in
    (record { letter = before-letter ns parts.0; all = s.all; short = omega arith }, s.small)

-- the name and the index, printed and read again
before-index : (name : List ℕ) (i : ℕ) → list_all is_name_byte name ≡ true → before_dot (name ++ index_text i) ≡ name
before-index [] i h = elim (cases_Bool (nat_eq i 0)) [ inl w ↦ rw w refl | inr w ↦ rw w refl ]
before-index (b ∷ name) i h =
    let parts = and_parts (is_name_byte b) (list_all is_name_byte name) h in
    rw (name_byte-dot b parts.0) (ap (λ z. b ∷ z) (before-index name i parts.1))

value-zero : (i : ℕ) → nat_eq i 0 ≡ true → 0 ≡ i
value-zero i h = sym (eqb-true i 0 h)

behind-index : (name : List ℕ) (i : ℕ) → list_all is_name_byte name ≡ true → i < 1000000000 → value_behind 0 (behind_dot (name ++ index_text i)) ≡ i
behind-index [] i h small = elim (cases_Bool (nat_eq i 0)) [ inl w ↦ rw w (value-zero i w) | inr w ↦ rw w (value-decimal i (omega arith)) ]
behind-index (b ∷ name) i h small =
    let parts = and_parts (is_name_byte b) (list_all is_name_byte name) h in
    rw (name_byte-dot b parts.0) (behind-index name i parts.1 small)

-- ---- each kind of token
typ_marked : (test : List ℕ → Bool) (cs : List ℕ) → marked 39 test cs ≡ true → is_typ cs ≡ true
typ_marked test [] h = absurd (cc)
typ_marked test (c ∷ cs) h = (and_parts (c == 39) (test cs) h).0

term-indexed : (cs : List ℕ) → is_typ cs ≡ false → (is_indexed cs || marked 39 is_indexed cs) ≡ true → is_indexed cs ≡ true
term-indexed cs h p = elim (or_cases (is_indexed cs) (marked 39 is_indexed cs) p) [ inl w ↦ w | inr w ↦ absurd (both_ways (is_typ cs) h (typ_marked is_indexed cs w)) ]

typ-indexed : (ds : List ℕ) → (is_indexed (39 ∷ ds) || marked 39 is_indexed (39 ∷ ds)) ≡ true → is_indexed ds ≡ true
typ-indexed ds p = elim (or_cases (is_indexed (39 ∷ ds)) (marked 39 is_indexed (39 ∷ ds)) p) [
  | inl w ↦ absurd (both_ways (is_letter 39) letter-not_mark (and_parts (is_letter 39) (has_index (39 ∷ ds)) w).0)
  | inr w ↦ w
]

term-lexeme : (texts : List (List ℕ)) (cs : List ℕ) → is_typ cs ≡ false → lexeme_of texts Schem (63 ∷ cs) ≡ lexeme.SchematicTerm (number_of texts (before_dot cs)) (value_behind 0 (behind_dot cs))
term-lexeme texts cs h = rw h refl

term-gives : (cs : List ℕ) → is_typ cs ≡ false → schematic_text cs ≡ before_dot cs
term-gives cs h = rw h refl

-- a schematic variable of terms
schematic-term : (texts : List (List ℕ)) (cs : List ℕ) → is_typ cs ≡ false → IsOf texts Schem (63 ∷ cs) → (new : List ℕ) × IsReprint texts Schem (63 ∷ cs) new
schematic-term texts cs h o =
    let long : is_long (first_identifier Schem (63 ∷ cs)) ≡ false = not_long Schem (63 ∷ cs) o.short in
    let parts = split-spelled cs (term-indexed cs h o.token) (rw h at long) in
    let name = before_dot cs in
    let i = value_behind 0 (behind_dot cs) in
    let s : IsSpelled name = parts.0 in
    let plain : is_typ (name ++ index_text i) ≡ false = spelled-head name (index_text i) s in
    let front : before_dot (name ++ index_text i) ≡ name = before-index name i s.all in
    let back : value_behind 0 (behind_dot (name ++ index_text i)) ≡ i = behind-index name i s.all parts.1 in
    let named : text_of_name texts (number_of texts name) ≡ name = o.named name (ap Some (term-gives cs h)) in (
      63 ∷ (name ++ index_text i),
      record {
        first = λ g rest gap. schematic-first name (g ∷ rest) i s parts.1 gap.stops;
        short = schematic-short name i s;
        same = term-lexeme texts (name ++ index_text i) plain ∙ (ap₂ (λ x n. lexeme.SchematicTerm (number_of texts x) n) front back ∙ sym (term-lexeme texts cs h));
        gives = ap Some (term-gives (name ++ index_text i) plain ∙ (front ∙ sym (term-gives cs h)));
        bar = refl;
        text = subst (λ l. lexeme_text texts l ≡ (63 ∷ (name ++ index_text i)) ++ gap_of l ∷ []) (sym (term-lexeme texts cs h))
            (ap (λ z. 63 ∷ (z ++ (index_text i ++ 32 ∷ []))) named ∙ ap (λ z. 63 ∷ z) (sym (append_assoc name (index_text i) (32 ∷ []))));
      },
    )

-- a schematic variable of types
schematic-typ : (texts : List (List ℕ)) (ds : List ℕ) → IsOf texts Schem (63 ∷ 39 ∷ ds) → (new : List ℕ) × IsReprint texts Schem (63 ∷ 39 ∷ ds) new
schematic-typ texts ds o =
    let long : is_long (first_identifier Schem (63 ∷ 39 ∷ ds)) ≡ false = not_long Schem (63 ∷ 39 ∷ ds) o.short in
    let parts = split-spelled ds (typ-indexed ds o.token) long in
    let name = before_dot ds in
    let i = value_behind 0 (behind_dot ds) in
    let s : IsSpelled name = parts.0 in
    let front : before_dot (name ++ index_text i) ≡ name = before-index name i s.all in
    let back : value_behind 0 (behind_dot (name ++ index_text i)) ≡ i = behind-index name i s.all parts.1 in
    let named : text_of_name texts (number_of texts name) ≡ name = o.named name refl in (
      63 ∷ 39 ∷ (name ++ index_text i),
      record {
        first = λ g rest gap. typ_schematic-first name (g ∷ rest) i s parts.1 gap.stops;
        short = typ_schematic-short name i s;
        same = ap₂ (λ x n. lexeme.SchematicType (number_of texts x) n) front back;
        gives = ap Some front;
        bar = refl;
        text = ap (λ z. 63 ∷ 39 ∷ (z ++ (index_text i ++ 32 ∷ []))) named ∙ ap (λ z. 63 ∷ 39 ∷ z) (sym (append_assoc name (index_text i) (32 ∷ [])));
      },
    )

schematic-marked : (texts : List (List ℕ)) (cs : List ℕ) → IsOf texts Schem (63 ∷ cs) → (b : Bool) → is_typ cs ≡ b → (new : List ℕ) × IsReprint texts Schem (63 ∷ cs) new
schematic-marked texts cs o false h = schematic-term texts cs h o
schematic-marked texts [] o true h = absurd (cc)
schematic-marked texts (c ∷ ds) o true h =
    let byte : c ≡ 39 = eqb-true c 39 h in
    subst (λ z. (new : List ℕ) × IsReprint texts Schem (63 ∷ z ∷ ds) new) (sym byte) (schematic-typ texts ds (subst (λ z. IsOf texts Schem (63 ∷ z ∷ ds)) byte o))

-- A token that stands in a record is printed as one that is the same to the record.
pub reprint : (texts : List (List ℕ)) (kind : TokenKind) (bs : List ℕ) → IsOf texts kind bs → (new : List ℕ) × IsReprint texts kind bs new
reprint texts Word bs o =
    let parts = and_parts (is_spelling bs) (is_keyword bs) o.token in
    let s : IsSpelled bs = spelling-spelled bs parts.0 (not_long Word bs o.short) in
    (bs, record { first = name-first Word bs (kind_of-word bs parts.1) s; short = o.short; same = refl; gives = refl; bar = refl; text = marked-line texts (keyword_lexeme bs) bs (keyword-text bs) o.known (spelling-some bs parts.0) })
reprint texts Ident bs o =
    let parts = and_parts (is_spelling bs) (not (is_keyword bs)) o.token in
    let s : IsSpelled bs = spelling-spelled bs parts.0 (not_long Ident bs o.short) in
    (bs, record { first = name-first Ident bs (kind_of-ident bs parts.1) s; short = o.short; same = refl; gives = refl; bar = refl; text = ap (λ z. z ++ 32 ∷ []) (o.named bs refl) })
reprint texts Qualified bs o = absurd o.known
reprint texts TypeVar [] o = absurd (both_ways (is_token TypeVar []) refl o.token)
reprint texts TypeVar (b ∷ name) o =
    let parts = and_parts (b == 39) (is_spelling name) o.token in
    let byte : b ≡ 39 = eqb-true b 39 parts.0 in
    let s : IsSpelled name = spelling-spelled name parts.1 (not_long TypeVar (b ∷ name) o.short) in (
      b ∷ name,
      record {
        first = λ g rest gap. subst (λ z. IsFirst TypeVar (z ∷ name) (g ∷ rest)) (sym byte) (typ_variable-first name (g ∷ rest) s gap.stops);
        short = o.short;
        same = refl;
        gives = refl;
        bar = refl;
        text = ap₂ (λ x y. x ∷ (y ++ 32 ∷ [])) (sym byte) (o.named name refl);
      },
    )
reprint texts Schem [] o = absurd (both_ways (is_token Schem []) refl o.token)
reprint texts Schem (b ∷ cs) o =
    let parts = and_parts (b == 63) (is_indexed cs || marked 39 is_indexed cs) o.token in
    let byte : b ≡ 63 = eqb-true b 63 parts.0 in
    subst (λ z. (new : List ℕ) × IsReprint texts Schem (z ∷ cs) new) (sym byte) (schematic-marked texts cs (subst (λ z. IsOf texts Schem (z ∷ cs)) byte o) (is_typ cs) refl)
reprint texts BoundName [] o = absurd (both_ways (is_token BoundName []) refl o.token)
reprint texts BoundName (b ∷ ds) o =
    let parts = and_parts (b == 95) (is_number ds) o.token in
    let n = value_behind 0 ds in
    let small : n < 1000000000 = value-short ds parts.1 in (
      95 ∷ decimal n,
      record {
        first = λ g rest gap. bound-first n (g ∷ rest) small (stops-digit (g ∷ rest) gap.stops);
        short = refl;
        same = ap lexeme.Bound (value-decimal n (omega arith));
        gives = refl;
        bar = refl;
        text = refl;
      },
    )
reprint texts Number bs o =
    let n = value_behind 0 bs in
    let small : n < 1000000000 = value-short bs o.token in (
      decimal n,
      record {
        first = λ g rest gap. first-longest Number (decimal n) (g ∷ rest) (omega arith) (λ six. omega arith) (numeral-longest n (g ∷ rest) small (stops-digit (g ∷ rest) gap.stops));
        short = refl;
        same = ap lexeme.Numeral (value-decimal n (omega arith));
        gives = refl;
        bar = refl;
        text = refl;
      },
    )
reprint texts Quote bs o = absurd o.known
reprint texts Symbol bs o = (
  bs,
  record {
    first = λ g rest gap. sign-first bs g rest gap o.token (sign-no_comment (sign_lexeme bs) bs g rest gap (sign-text bs) o.known (sign-some bs o.token));
    short = o.short;
    same = refl;
    gives = refl;
    bar = refl;
    text = marked-line texts (sign_lexeme bs) bs (sign-text bs) o.known (sign-some bs o.token);
  },
)
reprint texts End bs o = absurd (both_ways (is_token End bs) refl o.token)
