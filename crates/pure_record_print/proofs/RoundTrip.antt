-- What is printed of a record is read as this record.
use Rattle.std.proofs.Common.{◌≡◌, ℕ, suc, ◌+◌, ◌-◌, ◌≤◌, Bool, true, false, List, [], ◌∷◌, ◌++◌, map, length, refl, sym, ap, ap₂, subst, ◌∙◌, inl, inr, arith, append_assoc, append-nil, length-append}
use Rattle.std.specs.Prelude.{Option, Some, None, slice_get, slice_range, nat_lt, if◌then◌else◌}
use Rattle.std.specs.Cmp.Lexicographic.{same_text, nat_list_eq_equiv}
use Rattle.std.proofs.lemmas.List.{take_all}
use Rattle.std.proofs.lemmas.Bool.{both_ways, cond_both}
use Rattle.pure_text.specs.Lists.{IsIn, Each, AnyOf}
use Rattle.pure_text.proofs.ListLaws.{each_of, any_of, each_at, any-map, in-append_right}
use Rattle.pure_grammar.specs.declared.token.Token.{Token}
use Rattle.pure_grammar.specs.declared.token.TokenKind.{TokenKind}
use Rattle.pure_grammar.specs.declared.token.TokenKind.TheVariants.{Word, Ident, Qualified, TypeVar, Schem, BoundName, Number, Quote, Symbol, End}
use Rattle.pure_grammar.specs.Tokens.Token.{is_token, long_identifier, tail}
use Rattle.pure_grammar.specs.Tokens.Spelling.{Leaves, Spells, IsSlice}
use Rattle.pure_grammar.specs.Theories.Lexeme.{same}
use Rattle.pure_grammar.proofs.Readings.{one_list}
use Rattle.pure_grammar.proofs.Slices.{tokens_are_slices}
use Rattle.pure_typ.specs.NameTexts.{builtin_texts, name_texts}
use Rattle.pure_print.specs.NameText.{text_of_name}
use Rattle.pure_record.specs.Items.{Item}
use Rattle.pure_record.specs.Lines.{Node}
use Rattle.pure_record.specs.declared.lexeme.Mark.TheVariants as mark
use Rattle.pure_record.specs.declared.lexeme.Lexeme.{Lexeme}
use Rattle.pure_record.specs.declared.lexeme.Lexeme.TheVariants as lexeme
use Rattle.pure_record.specs.Lexemes.{lexeme_of, lexemes, spelling_of, spelling, place_in, number_of, word_of, keyword_lexeme, sign_lexeme, is_typ, schematic_lexeme}
use Rattle.pure_record.specs.Lexemes as own
use Rattle.pure_record.specs.Spelled.{AreNamesOf, SpellsRecord, is_bar, is_bar_of, longer, runs_of, first_long}
use Rattle.pure_record.specs.Grammar.{IsRecord}
use Rattle.pure_record.proofs.NameLemmas.{each-slice, others-named}
use Rattle.pure_record.proofs.UniqueLemmas.{one_record}
use Rattle.pure_record_print.specs.Printed.{record_text}
use Rattle.pure_record_print.specs.ReadBack.{IsTextOf}
use Rattle.pure_record_print.proofs.GapBytes.{IsGapByte, space, line_end}
use Rattle.pure_record_print.proofs.Spellings.{lexemes_text, IsMarkText, IsWordText, IsFaithful, keyword-text, sign-text, word-text}
use Rattle.pure_record_print.proofs.PartTexts.{IsKnown, Writes, written-record}
use Rattle.pure_record_print.proofs.Pieces.{Piece, bytes_of, tokens_of, Fit, pieces-spelled, slice-middle, told, pieces-told}
use Rattle.pure_record_print.proofs.Reprints.{gap_of, IsOf, IsReprint, reprint}

-- ---- the tokens of a text
-- the slice is a token of its kind, and its identifiers are short
abbrev IsWhole : List ℕ → Token → Type 0
IsWhole source t = (is_token t.kind (slice_range source t.from t.to) ≡ true) × (long_identifier t.kind (slice_range source t.from t.to) ≡ None)

whole-tokens : (front bytes rest : List ℕ) (to : ℕ) (ts : List Token) → length front + length bytes ≡ to → Leaves to ts bytes rest → Each (IsWhole (front ++ bytes)) ts
whole-tokens front bytes rest to [] e leaves = tt
whole-tokens front bytes rest to (t ∷ ts) e (behind, b, leaves) =
    let gap = b.gap in
    let here = b.here in
    let apart : front ++ bytes ≡ (front ++ gap) ++ (here ++ behind) = ap (λ z. front ++ z) b.text ∙ sym (append_assoc front gap (here ++ behind)) in
    let joined : front ++ bytes ≡ ((front ++ gap) ++ here) ++ behind = apart ∙ sym (append_assoc (front ++ gap) here behind) in
    let size : length bytes ≡ length gap + (length here + length behind) = ap length b.text ∙ (length-append gap (here ++ behind) ∙ ap (λ n. length gap + n) (length-append here behind)) in
    let size_front : length (front ++ gap) ≡ length front + length gap = length-append front gap in
    let size_here : length ((front ++ gap) ++ here) ≡ length (front ++ gap) + length here = length-append (front ++ gap) here in
    let starts : t.from + (length here + length behind) ≡ to = b.from in
    let ends : t.to + length behind ≡ to = b.ends in
    let begin : t.from ≡ length (front ++ gap) = omega arith in
    let end : t.to ≡ t.from + length here = omega arith in
    let is : slice_range (front ++ bytes) t.from t.to ≡ here =
    ap (λ z. slice_range z t.from t.to) apart ∙ (ap (λ n. slice_range ((front ++ gap) ++ (here ++ behind)) t.from n) end ∙ slice-middle (front ++ gap) here behind t.from begin) in
    let first = b.first in (
      (subst (λ z. is_token t.kind z ≡ true) (sym is) first.token, subst (λ z. long_identifier t.kind z ≡ None) (sym is) b.short),
      subst (λ z. Each (IsWhole z) ts) (sym joined) (whole-tokens ((front ++ gap) ++ here) behind rest to ts (omega arith) leaves),
    )

whole-range : (source : List ℕ) → slice_range source 0 (length source) ≡ source
whole-range source = take_all (length source - 0) source (omega arith)

slices-of : (source : List ℕ) (ts : List Token) → Spells (length source) ts source → Each (IsSlice source) ts
slices-of source ts h =
    each-slice source 0 (length source) ts (tokens_are_slices 0 (length source) source ts (omega arith) (omega arith) (subst (λ z. Spells (length source) ts z) (sym (whole-range source)) h))

-- ---- names
place-got : (xs : List (List ℕ)) (w : List ℕ) → IsIn w xs → slice_get xs (place_in xs w) ≡ Some w
place-got [] w h = absurd h
place-got (x ∷ xs) w h = tell (same x w) refl (place-got xs w)
  where
    tell : (b : Bool) → same x w ≡ b → (IsIn w xs → slice_get xs (place_in xs w) ≡ Some w) → slice_get (x ∷ xs) (place_in (x ∷ xs) w) ≡ Some w
    tell true e more = rw e (ap Some (same_text x w (sym e)))
    tell false e more = rw e (elim h [ inl is ↦ absurd (both_ways (same x w) e (rw is (nat_list_eq_equiv.refl x))) | inr n ↦ more n ])

place-behind : (xs ys : List (List ℕ)) (w : List ℕ) → (IsIn w xs → ⊥) → length xs ≤ place_in (xs ++ ys) w
place-behind [] ys w out = omega arith
place-behind (x ∷ xs) ys w out = tell (same x w) refl (place-behind xs ys w (λ h. out (inr h)))
  where
    tell : (b : Bool) → same x w ≡ b → length xs ≤ place_in (xs ++ ys) w → length (x ∷ xs) ≤ place_in ((x ∷ xs) ++ ys) w
    tell true e more = absurd (out (inl (sym (same_text x w (sym e)))))
    tell false e more = rw e (omega arith)

name-text : (texts : List (List ℕ)) (w : List ℕ) → IsIn w texts → text_of_name texts (number_of texts w) ≡ w
name-text texts w h = rw (place-got (name_texts texts) w (in-append_right w builtin_texts texts h)) refl

six : length builtin_texts ≡ 6
unfolding builtin_texts
six = refl

name-high : (texts : List (List ℕ)) (w : List ℕ) → (IsIn w builtin_texts → ⊥) → 6 ≤ number_of texts w
name-high texts w out = let high : length builtin_texts ≤ number_of texts w = place-behind builtin_texts texts w out in let size = six in omega arith

-- ---- each token stands in the record
marked-faithful : (texts : List (List ℕ)) (l : Lexeme) (bs : List ℕ) → IsMarkText l bs → IsFaithful texts l
marked-faithful texts (lexeme.Marked m) bs h = tt
marked-faithful texts lexeme.Other bs h = tt
marked-faithful texts (lexeme.Identifier n w) bs h = absurd h
marked-faithful texts (lexeme.TypeVariable n) bs h = tt
marked-faithful texts (lexeme.SchematicType n i) bs h = tt
marked-faithful texts (lexeme.SchematicTerm n i) bs h = tt
marked-faithful texts (lexeme.Bound k) bs h = tt
marked-faithful texts (lexeme.Numeral n) bs h = tt

faithful : (texts : List (List ℕ)) (kind : TokenKind) (bs : List ℕ) → IsOf texts kind bs → ((w : List ℕ) → spelling_of kind bs ≡ Some w → 6 ≤ number_of texts w) → IsFaithful texts (lexeme_of texts kind bs)
faithful texts Word bs o high = marked-faithful texts (keyword_lexeme bs) bs (keyword-text bs)
faithful texts Ident bs o high = (high bs refl, subst (IsWordText (word_of bs)) (sym (o.named bs refl)) (word-text bs))
faithful texts Qualified bs o high = tt
faithful texts TypeVar bs o high = tt
faithful texts Schem bs o high = cond_both (is_typ (tail bs)) _ _ (IsFaithful texts) (λ h. tt) (λ h. tt)
faithful texts BoundName bs o high = tt
faithful texts Number bs o high = tt
faithful texts Quote bs o high = tt
faithful texts Symbol bs o high = marked-faithful texts (sign_lexeme bs) bs (sign-text bs)
faithful texts End bs o high = tt

known-tokens : (texts : List (List ℕ)) (source : List ℕ) (ts : List Token) → Each IsKnown (lexemes texts source ts) → Each (λ t. IsKnown (own.lexeme texts source t)) ts
known-tokens texts source [] h = tt
known-tokens texts source (t ∷ ts) h = (h.0, known-tokens texts source ts h.1)

faithful-lexemes : (texts : List (List ℕ)) (source : List ℕ) (ts : List Token) → Each (λ t. IsFaithful texts (own.lexeme texts source t)) ts → Each (IsFaithful texts) (lexemes texts source ts)
faithful-lexemes texts source [] h = (tt, tt)
faithful-lexemes texts source (t ∷ ts) h = (h.0, faithful-lexemes texts source ts h.1)

-- ---- the pieces of the printed text
gap-byte : (l : Lexeme) → IsGapByte (gap_of l)
gap-byte (lexeme.Marked mark.Begin) = line_end
gap-byte (lexeme.Marked mark.End) = line_end
gap-byte (lexeme.Marked mark.Bar) = line_end
gap-byte (lexeme.Marked mark.Typedecl) = space
gap-byte (lexeme.Marked mark.Consts) = space
gap-byte (lexeme.Marked mark.Axiomatization) = space
gap-byte (lexeme.Marked mark.Colon) = space
gap-byte (lexeme.Marked mark.DoubleColon) = space
gap-byte (lexeme.Marked mark.Comma) = space
gap-byte (lexeme.Marked mark.Semicolon) = space
gap-byte (lexeme.Marked mark.Percent) = space
gap-byte (lexeme.Marked mark.OpenParenthesis) = space
gap-byte (lexeme.Marked mark.CloseParenthesis) = space
gap-byte (lexeme.Marked mark.OpenBracket) = space
gap-byte (lexeme.Marked mark.CloseBracket) = space
gap-byte (lexeme.Marked mark.OpenBrace) = space
gap-byte (lexeme.Marked mark.CloseBrace) = space
gap-byte (lexeme.Marked mark.SourceEnd) = space
gap-byte (lexeme.Identifier n w) = space
gap-byte (lexeme.TypeVariable n) = space
gap-byte (lexeme.SchematicType n i) = space
gap-byte (lexeme.SchematicTerm n i) = space
gap-byte (lexeme.Bound k) = space
gap-byte (lexeme.Numeral n) = space
gap-byte lexeme.Other = space

-- Pieces that are the same to the record as the tokens of the source, and what they are written as.
record IsReprinted (texts : List (List ℕ)) (source : List ℕ) (ts : List Token) : Type 0 where
  pieces : List Piece
  fit : Fit pieces
  lexed : map (λ p. lexeme_of texts p.kind p.bytes) pieces ≡ map (told (lexeme_of texts) source) ts
  gives : map (λ p. spelling_of p.kind p.bytes) pieces ≡ map (told spelling_of source) ts
  bars : map (λ p. is_bar_of p.kind p.bytes) pieces ≡ map (told is_bar_of source) ts
  text : bytes_of pieces ≡ lexemes_text texts (lexemes texts source ts)

reprinted : (texts : List (List ℕ)) (source : List ℕ) (ts : List Token) → Each (λ t. IsOf texts t.kind (slice_range source t.from t.to)) ts → IsReprinted texts source ts
reprinted texts source [] h = record { pieces = []; fit = tt; lexed = refl; gives = refl; bars = refl; text = refl }
reprinted texts source (t ∷ ts) h =
    let bs = slice_range source t.from t.to in
    let l = lexeme_of texts t.kind bs in
    let found = reprint texts t.kind bs h.0 in
    let new = found.0 in
    let r : IsReprint texts t.kind bs new = found.1 in
    let more : IsReprinted texts source ts = reprinted texts source ts h.1 in
    record {
      pieces = record { kind = t.kind; bytes = new; gap = gap_of l } ∷ more.pieces;
      fit = (gap-byte l, r.first (gap_of l) (bytes_of more.pieces) (gap-byte l), r.short, more.fit);
      lexed = ap₂ (λ x xs. x ∷ xs) r.same more.lexed;
      gives = ap₂ (λ x xs. x ∷ xs) r.gives more.gives;
      bars = ap₂ (λ x xs. x ∷ xs) r.bar more.bars;
      text = sym (append_assoc new (gap_of l ∷ []) (bytes_of more.pieces)) ∙ ap₂ (λ x y. x ++ y) (sym r.text) more.text;
    }

-- ---- what is told of tokens
lexemes-told : (texts : List (List ℕ)) (source : List ℕ) (ts : List Token) → lexemes texts source ts ≡ map (told (lexeme_of texts) source) ts ++ lexeme.Marked mark.SourceEnd ∷ []
lexemes-told texts source [] = refl
lexemes-told texts source (t ∷ ts) = ap (λ ls. own.lexeme texts source t ∷ ls) (lexemes-told texts source ts)

any-told : {A B : Type 0} (f : A → Option (List ℕ)) (g : B → Option (List ℕ)) (xs : List A) (ys : List B) (w : List ℕ) → map f xs ≡ map g ys → AnyOf (λ x. f x ≡ Some w) xs → AnyOf (λ y. g y ≡ Some w) ys
any-told f g xs ys w e h = (any-map g (λ z. z ≡ Some w) ys).0 (subst (AnyOf (λ z. z ≡ Some w)) e ((any-map f (λ z. z ≡ Some w) xs).1 h))

-- the lengths of runs, by the places of the bars
abbrev counted : List ℕ → List ℕ
counted [] = 1 ∷ []
counted (n ∷ ns) = suc n ∷ ns

abbrev lengths : List Bool → List ℕ
lengths [] = 0 ∷ []
lengths (b ∷ bs) = if b then 0 ∷ lengths bs else counted (lengths bs)

longer-counted : (t : Token) (runs : List (List Token)) → map length (longer t runs) ≡ counted (map length runs)
longer-counted t [] = refl
longer-counted t (run ∷ runs) = refl

runs-lengths : (source : List ℕ) (ts : List Token) → map length (runs_of source ts) ≡ lengths (map (told is_bar_of source) ts)
runs-lengths source [] = refl
runs-lengths source (t ∷ ts) = tell (is_bar source t) refl (runs-lengths source ts)
  where
    tell : (b : Bool) → is_bar source t ≡ b → map length (runs_of source ts) ≡ lengths (map (told is_bar_of source) ts) → map length (runs_of source (t ∷ ts)) ≡ lengths (map (told is_bar_of source) (t ∷ ts))
    tell true e more = rw e (ap (λ ns. 0 ∷ ns) more)
    tell false e more = rw e (longer-counted t (runs_of source ts) ∙ ap counted more)

some-place : (place : ℕ) → Some place ≡ None → ⊥
some-place place e = cc

none-long : (runs : List (List Token)) → first_long runs ≡ None → Each (λ n. nat_lt 1000 n ≡ false) (map length runs)
none-long [] h = tt
none-long ([] ∷ runs) h = (refl, none-long runs h)
none-long ((t ∷ ts) ∷ runs) h = tell (nat_lt 1000 (length (t ∷ ts))) refl (none-long runs)
  where
    tell : (b : Bool) → nat_lt 1000 (length (t ∷ ts)) ≡ b → (first_long runs ≡ None → Each (λ n. nat_lt 1000 n ≡ false) (map length runs)) → Each (λ n. nat_lt 1000 n ≡ false) (map length ((t ∷ ts) ∷ runs))
    tell true e more = absurd (some-place t.from (rw e at h))
    tell false e more = (e, more (rw e at h))

long-none : (runs : List (List Token)) → Each (λ n. nat_lt 1000 n ≡ false) (map length runs) → first_long runs ≡ None
long-none [] h = refl
long-none ([] ∷ runs) h = long-none runs h.1
long-none ((t ∷ ts) ∷ runs) h = rw h.0 (long-none runs h.1)

runs-told : (s s' : List ℕ) (ts us : List Token) → map (told is_bar_of s) ts ≡ map (told is_bar_of s') us → first_long (runs_of s ts) ≡ None → first_long (runs_of s' us) ≡ None
runs-told s s' ts us e h =
    long-none (runs_of s' us) (subst (Each (λ n. nat_lt 1000 n ≡ false)) (runs-lengths s ts ∙ (ap lengths e ∙ sym (runs-lengths s' us))) (none-long (runs_of s ts) h))

-- ---- the whole text
pieces-text : (texts : List (List ℕ)) (source : List ℕ) (ts : List Token) (is : List Item) (ns : List Node) → SpellsRecord source ts texts is ns → (r : IsReprinted texts source ts) → IsTextOf (bytes_of r.pieces) texts is ns
pieces-text texts source ts is ns h r =
    let ps = r.pieces in
    let new = tokens_of 0 ps in
    let out = bytes_of ps in
    let lexed : map (told (lexeme_of texts) out) new ≡ map (told (lexeme_of texts) source) ts = pieces-told (lexeme_of texts) ps ∙ r.lexed in
    let gives : map (told spelling_of out) new ≡ map (told spelling_of source) ts = pieces-told spelling_of ps ∙ r.gives in
    let bars : map (told is_bar_of out) new ≡ map (told is_bar_of source) ts = pieces-told is_bar_of ps ∙ r.bars in
    let all : lexemes texts out new ≡ lexemes texts source ts = lexemes-told texts out new ∙ (ap (λ ls. ls ++ lexeme.Marked mark.SourceEnd ∷ []) lexed ∙ sym (lexemes-told texts source ts)) in
    let names = h.names in
    record {
      tokens = new;
      spelled = pieces-spelled ps r.fit;
      read = record {
        names = record {
          ascend = names.ascend;
          given = λ w. (λ m. any-told (told spelling_of source) (told spelling_of out) ts new w (sym gives) ((names.given w).0 m), λ a. (names.given w).1 (any-told (told spelling_of out) (told spelling_of source) new ts w gives a));
        };
        runs = runs-told source out ts new (sym bars) h.runs;
        spelled = subst (λ ls. IsRecord is ns ls) (sym all) h.spelled;
      };
    }

pub read-back : (source : List ℕ) (texts : List (List ℕ)) (is : List Item) (ns : List Node) → IsTextOf source texts is ns → IsTextOf (record_text texts is ns) texts is ns
read-back source texts is ns h =
    let ts = h.tokens in
    let read : SpellsRecord source ts texts is ns = h.read in
    let names : AreNamesOf source ts texts = read.names in
    let slices : Each (IsSlice source) ts = slices-of source ts h.spelled in
    let whole : Each (IsWhole source) ts = whole-tokens [] source h.spelled.0 (length source) ts (omega arith) h.spelled.1 in
    let w : Writes texts (record_text texts is ns) (lexemes texts source ts) [] = written-record texts is ns (lexemes texts source ts) read.spelled in
    let all : lexemes texts source ts ≡ w.before = w.parts ∙ append-nil w.before in
    let known : Each (λ t. IsKnown (own.lexeme texts source t)) ts = known-tokens texts source ts (subst (Each IsKnown) (sym all) w.known) in
    let named : (t : Token) → IsIn t ts → (v : List ℕ) → spelling source t ≡ Some v → IsIn v texts = λ t m v e. (names.given v).1 (any_of (λ token. spelling source token ≡ Some v) t ts m e) in
    let of : (t : Token) → IsIn t ts → IsOf texts t.kind (slice_range source t.from t.to) = λ t m. record {
      token = (each_at (IsWhole source) ts whole t m).0;
      short = (each_at (IsWhole source) ts whole t m).1;
      known = each_at (λ x. IsKnown (own.lexeme texts source x)) ts known t m;
      named = λ v e. name-text texts v (named t m v e);
    } in
    let apart : (v : List ℕ) → IsIn v texts → IsIn v builtin_texts → ⊥ = λ v m b. others-named source ts texts slices names (place_in builtin_texts v) (place_in texts v) v (place-got builtin_texts v b) (place-got texts v m) in
    let faiths : Each (λ t. IsFaithful texts (own.lexeme texts source t)) ts =
    each_of (λ t. IsFaithful texts (own.lexeme texts source t)) ts (λ t m. faithful texts t.kind (slice_range source t.from t.to) (of t m) (λ v e. name-high texts v (apart v (named t m v e)))) in
    let r : IsReprinted texts source ts = reprinted texts source ts (each_of (λ t. IsOf texts t.kind (slice_range source t.from t.to)) ts of) in
    let text : bytes_of r.pieces ≡ record_text texts is ns =
    r.text ∙ (ap (lexemes_text texts) all ∙ w.written (subst (Each (IsFaithful texts)) all (faithful-lexemes texts source ts faiths))) in
    subst (λ z. IsTextOf z texts is ns) text (pieces-text texts source ts is ns read r)

-- ---- one record
pub one-record : (text : List ℕ) (texts others : List (List ℕ)) (is js : List Item) (ns ms : List Node)
    → IsTextOf text texts is ns → IsTextOf text others js ms → (texts ≡ others) × (is ≡ js) × (ns ≡ ms)
one-record text texts others is js ns ms a b =
    let same : a.tokens ≡ b.tokens = one_list (length text) text a.tokens b.tokens a.spelled b.spelled in
    one_record text a.tokens texts others is js ns ms a.read (subst (λ ts. SpellsRecord text ts others js ms) (sym same) b.read)
