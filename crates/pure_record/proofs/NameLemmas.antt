-- The texts that tokens give.
use Rattle.std.proofs.Common.{◌≡◌, ◌≢◌, ◌==◌, ◌⊎◌, ◌↔◌, inl, inr, ℕ, zero, suc, Bool, true, false, not, List, [], ◌∷◌, ◌++◌, refl, sym, ◌∙◌, ap, subst, Option, Some, None}
use Rattle.std.specs.Prelude.{slice_get, slice_range}
use Rattle.std.specs.List.Sorted.{IsStrictlySortedBy}
use Rattle.std.specs.Cmp.Lexicographic.{same_text}
use Rattle.std.proofs.lemmas.Bool.{and_parts, both_ways}
use Rattle.std.proofs.lemmas.Bool.Decides.{eqb_tells}
use Rattle.pure_text.specs.Lists.{IsIn, Each, AnyOf}
use Rattle.pure_text.proofs.ListLaws.{any_split, any-append_left, any-append_right, any_some, each_at}
use Rattle.pure_text.proofs.AscendingTexts.{byte_order}
use Rattle.pure_grammar.specs.declared.token.Token.{Token}
use Rattle.pure_grammar.specs.declared.token.TokenKind.{TokenKind}
use Rattle.pure_grammar.specs.declared.token.TokenKind.TheVariants.{Word, Ident, Qualified, TypeVar, Schem, BoundName, Number, Quote, Symbol, End}
use Rattle.pure_grammar.specs.Tokens.Bytes.{is_name_byte, is_letter, is_empty, behind, head_is}
use Rattle.pure_grammar.specs.Tokens.Token.{is_spelling, is_token, is_keyword, tail}
use Rattle.pure_grammar.specs.Tokens.Spelling.{IsSlice, AreSlices}
use Rattle.pure_grammar.specs.Theories.Lexeme.{same}
use Rattle.pure_lex.proofs.Firsts.{dot-stops}
use Rattle.pure_typ.specs.NameTexts.{builtin_texts}
use Rattle.pure_record.specs.Lexemes.{before_dot, is_typ, schematic_text, spelling_of, spelling}
use Rattle.pure_record.specs.Spelled.{AreNamesOf, only}

-- ---- lists of tokens
pub each-slice : (source : List ℕ) (from to : ℕ) (tokens : List Token) → AreSlices source from to tokens → Each (IsSlice source) tokens
each-slice source from to [] are = tt
each-slice source from to (t ∷ ts) are = (are.1, each-slice source t.to to ts are.2)

-- ---- the texts of no token, of one, and of two lists
pub names-none : (source : List ℕ) (tokens : List Token) (texts : List (List ℕ)) → tokens ≡ [] → texts ≡ [] → AreNamesOf source tokens texts
unfolding IsStrictlySortedBy
names-none source tokens texts no_tokens no_texts = rw (no_tokens, no_texts) (record { ascend = tt; given = λ t. (λ m. m, λ m. m) })

none-some : (t : List ℕ) → None ≡ Some t → ⊥
none-some t e = absurd (cc)

some-some : (x t : List ℕ) → Some x ≡ Some t → t ≡ x
some-some x t e = cc

one-named : (source : List ℕ) (token : Token) (o : Option (List ℕ)) → spelling source token ≡ o → AreNamesOf source (token ∷ []) (only o)
unfolding IsStrictlySortedBy
one-named source token None h = record { ascend = tt; given = λ t. (λ m. absurd m, λ a. elim a [ inl g ↦ absurd (none-some t (sym h ∙ g)) | inr n ↦ n ]) }
one-named source token (Some x) h = record { ascend = (tt, tt); given = λ t. (λ m. elim m [ inl e ↦ inl (h ∙ ap Some (sym e)) | inr n ↦ inr n ], λ a. elim a [ inl g ↦ inl (some-some x t (sym h ∙ g)) | inr n ↦ inr n ]) }

pub names-only : (source : List ℕ) (token : Token) (texts : List (List ℕ)) → texts ≡ only (spelling source token) → AreNamesOf source (token ∷ []) texts
names-only source token texts e = rw e (one-named source token (spelling source token) refl)

pub names-united : (source : List ℕ) (all left right : List Token) (texts first second : List (List ℕ)) → all ≡ left ++ right → AreNamesOf source left first → AreNamesOf source right second
    → IsStrictlySortedBy byte_order texts → ((t : List ℕ) → IsIn t texts ↔ (IsIn t first ⊎ IsIn t second)) → AreNamesOf source all texts
names-united source all left right texts first second parts a b ascend members = rw parts (record { ascend = ascend; given = given })
  where
    given : (t : List ℕ) → IsIn t texts ↔ AnyOf (λ token. spelling source token ≡ Some t) (left ++ right)
    given t = (
      λ m. elim ((members t).0 m) [ inl f ↦ any-append_left (λ token. spelling source token ≡ Some t) left right ((a.given t).0 f) | inr s ↦ any-append_right (λ token. spelling source token ≡ Some t) left right ((b.given t).0 s) ],
      λ g. (members t).1 (elim (any_split (λ token. spelling source token ≡ Some t) left right g) [ inl f ↦ inl ((a.given t).1 f) | inr s ↦ inr ((b.given t).1 s) ]),
    )

-- one token more, whose text is there
pub names-with : (source : List ℕ) (before : List Token) (token : Token) (texts : List (List ℕ)) → AreNamesOf source before texts → ((t : List ℕ) → spelling source token ≡ Some t → IsIn t texts)
    → AreNamesOf source (before ++ token ∷ []) texts
names-with source before token texts names there = record { ascend = names.ascend; given = given }
  where
    given : (t : List ℕ) → IsIn t texts ↔ AnyOf (λ x. spelling source x ≡ Some t) (before ++ token ∷ [])
    given t = (
      λ m. any-append_left (λ x. spelling source x ≡ Some t) before (token ∷ []) ((names.given t).0 m),
      λ g. elim (any_split (λ x. spelling source x ≡ Some t) before (token ∷ []) g) [ inl w ↦ (names.given t).1 w | inr w ↦ elim w [ inl e ↦ there t e | inr n ↦ absurd n ] ],
    )

pub names-past : (source bytes : List ℕ) (before : List Token) (token : Token) (texts : List (List ℕ)) → bytes ≡ slice_range source token.from token.to → None ≡ spelling_of token.kind bytes
    → AreNamesOf source before texts → AreNamesOf source (before ++ token ∷ []) texts
names-past source bytes before token texts is none names = names-with source before token texts names (λ t e. absurd (none-some t (none ∙ (ap (spelling_of token.kind) is ∙ e))))

pub names-again : (source bytes text : List ℕ) (before : List Token) (token : Token) (texts : List (List ℕ)) → bytes ≡ slice_range source token.from token.to → Some text ≡ spelling_of token.kind bytes → IsIn text texts
    → AreNamesOf source before texts → AreNamesOf source (before ++ token ∷ []) texts
names-again source bytes text before token texts is some there names =
    names-with source before token texts names (λ t e. subst (λ z. IsIn z texts) (sym (some-some text t (some ∙ (ap (spelling_of token.kind) is ∙ e)))) there)

-- ---- they have no dot, and are no texts of Pure
no_dot : is_name_byte 46 ≡ false
no_dot = dot-stops []

plain-run : (bs : List ℕ) → is_empty (behind is_name_byte bs) ≡ true → IsIn 46 bs → ⊥
plain-run [] e m = m
plain-run (b ∷ bs) e m = tell (is_name_byte b) refl (plain-run bs) e m
  where
    tell : (t : Bool) → is_name_byte b ≡ t → (is_empty (behind is_name_byte bs) ≡ true → IsIn 46 bs → ⊥) → is_empty (behind is_name_byte (b ∷ bs)) ≡ true → IsIn 46 (b ∷ bs) → ⊥
    tell true h more e (inl at) = both_ways (is_name_byte 46) no_dot (ap is_name_byte at ∙ h)
    tell true h more e (inr n) = more (rw h at e) n
    tell false h more e n = let stop : false ≡ true = rw h at e in cc

plain-spelling : (bs : List ℕ) → is_spelling bs ≡ true → IsIn 46 bs → ⊥
plain-spelling bs h m = plain-run bs (and_parts (head_is is_letter bs) (is_empty (behind is_name_byte bs)) h).1 m

plain-before : (bs : List ℕ) → IsIn 46 (before_dot bs) → ⊥
plain-before [] m = m
plain-before (b ∷ bs) m = elim (eqb_tells b 46) [
  | inl w ↦ (let none : IsIn {A = ℕ} 46 [] = rw w.0 at m in none)
  | inr w ↦ (let some : IsIn {A = ℕ} 46 (b ∷ before_dot bs) = rw w.0 at m in elim some [ inl e ↦ w.1 (sym e) | inr n ↦ plain-before bs n ])
]

plain-schematic : (bs : List ℕ) → IsIn 46 (schematic_text bs) → ⊥
plain-schematic bs m = tell (is_typ bs) refl
  where
    tell : (b : Bool) → is_typ bs ≡ b → ⊥
    tell true h = plain-before (tail bs) (rw h at m)
    tell false h = plain-before bs (rw h at m)

same-some : (a b : List ℕ) → Some a ≡ Some b → a ≡ b
same-some a b e = cc

plain-gives : (kind : TokenKind) (bs t : List ℕ) → is_token kind bs ≡ true → spelling_of kind bs ≡ Some t → IsIn 46 t → ⊥
plain-gives Ident bs t h e m = plain-spelling bs (and_parts (is_spelling bs) (not (is_keyword bs)) h).0 (subst (IsIn 46) (sym (same-some bs t e)) m)
plain-gives TypeVar [] t h e m = absurd (cc)
plain-gives TypeVar (b ∷ bs) t h e m = plain-spelling bs (and_parts (b == 39) (is_spelling bs) h).1 (subst (IsIn 46) (sym (same-some bs t e)) m)
plain-gives Schem bs t h e m = plain-schematic (tail bs) (subst (IsIn 46) (sym (same-some (schematic_text (tail bs)) t e)) m)
plain-gives Word bs t h e m = absurd (cc)
plain-gives Qualified bs t h e m = absurd (cc)
plain-gives BoundName bs t h e m = absurd (cc)
plain-gives Number bs t h e m = absurd (cc)
plain-gives Quote bs t h e m = absurd (cc)
plain-gives Symbol bs t h e m = absurd (cc)
plain-gives End bs t h e m = absurd (cc)

-- the texts of names of Pure have a dot
all_dotted : Each (IsIn 46) builtin_texts
unfolding builtin_texts
all_dotted = (inr (inr (inr (inr (inl refl)))), (inr (inr (inr (inr (inl refl)))), (inr (inr (inr (inr (inl refl)))), (inr (inr (inr (inr (inl refl)))), (inr (inr (inr (inr (inl refl)))), (inr (inr (inr (inr (inl refl)))), tt))))))

got-in : {A : Type 0} (xs : List A) (n : ℕ) (x : A) → slice_get xs n ≡ Some x → IsIn x xs
got-in [] n x h = absurd (cc)
got-in (y ∷ ys) zero x h = inl (let e : y ≡ x = cc in sym e)
got-in (y ∷ ys) (suc n) x h = inr (got-in ys n x h)

pub place-holds : (list : List (List ℕ)) (place : ℕ) (found text : List ℕ) → slice_get list place ≡ Some found → same found text ≡ true → IsIn text list
place-holds list place found text got is = subst (λ z. IsIn z list) (same_text found text (sym is)) (got-in list place found got)

pub others-named : (source : List ℕ) (tokens : List Token) (texts : List (List ℕ)) → Each (IsSlice source) tokens → AreNamesOf source tokens texts
    → (m n : ℕ) (text : List ℕ) → slice_get builtin_texts m ≡ Some text → slice_get texts n ≢ Some text
others-named source tokens texts slices names m n text builtin got =
    let w = any_some (λ token. spelling source token ≡ Some text) tokens ((names.given text).0 (got-in texts n text got)) in
    let slice : IsSlice source w.0 = each_at (IsSlice source) tokens slices w.0 w.1 in
    plain-gives w.0.kind (slice_range source w.0.from w.0.to) text slice.spelled w.2 (each_at (IsIn 46) builtin_texts all_dotted text (got-in builtin_texts m text builtin))
