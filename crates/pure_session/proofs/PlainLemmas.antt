-- The texts of a session are no texts of names of Pure.
use Rattle.std.proofs.Common.{◌≡◌, ◌≢◌, ◌==◌, ◌⊎◌, inl, inr, ℕ, zero, suc, ◌+◌, ◌-◌, Bool, true, false, not, List, [], ◌∷◌, ◌++◌, length, append_assoc, refl, sym, ◌∙◌, ap, subst, arith, Some}
use Rattle.std.specs.Prelude.{codes, slice_range}
use Rattle.std.specs.List.{slice_get}
use Rattle.std.proofs.lemmas.Bool.{and_parts, both_ways}
use Rattle.pure_text.specs.Lists.{IsIn, Each, AnyOf}
use Rattle.pure_text.proofs.ListLaws.{any_some, each_at}
use Rattle.pure_grammar.specs.declared.token.Token.{Token}
use Rattle.pure_grammar.specs.declared.token.TokenKind.{TokenKind}
use Rattle.pure_grammar.specs.declared.token.TokenKind.TheVariants.{Word, Ident, Qualified, TypeVar, Schem, BoundName, Number, Quote, Symbol, End}
use Rattle.pure_grammar.specs.Tokens.Bytes.{is_name_byte, is_letter, is_empty, behind, head_is}
use Rattle.pure_grammar.specs.Tokens.Token.{is_spelling, is_token, is_keyword}
use Rattle.pure_grammar.specs.Tokens.Spelling.{IsSlice, Spells}
use Rattle.pure_grammar.specs.Theories.TheoryText.{Have, Command, Class, TypeDecl, Arity, Const, Axiom, Definition, Lemma}
use Rattle.pure_grammar.proofs.Slices.{tokens_are_slices, quote_has_marks}
use Rattle.pure_lex.proofs.Firsts.{dot-stops}
use Rattle.pure_typ.specs.NameTexts.{builtin_texts}
use Rattle.pure_graph.specs.Order.{Loaded}
use Rattle.pure_graph.specs.Outcome.{pure_theory}
use Rattle.pure_graph.specs.SessionNames.{spelling_of, Gives, GivesInside, IsSpelled, full_name, have_names, full_names, IsGiven}
use Rattle.pure_graph.proofs.SourceLemmas.{whole-range}
use Rattle.pure_session.specs.Plain.{ArePlain}
use Rattle.pure_session.proofs.SetLemmas.{each-slice}

-- ---- spellings have no dot
no_dot : is_name_byte 46 ≡ false
no_dot = dot-stops []

plain-run : (bs : List ℕ) → is_empty (behind is_name_byte bs) ≡ true → IsIn 46 bs → ⊥
plain-run [] e m = m
plain-run (b ∷ bs) e m = tell (is_name_byte b) refl (plain-run bs) e m
  where
    tell : (t : Bool) → is_name_byte b ≡ t → (is_empty (behind is_name_byte bs) ≡ true → IsIn 46 bs → ⊥) → is_empty (behind is_name_byte (b ∷ bs)) ≡ true → IsIn 46 (b ∷ bs) → ⊥
    tell true h more e (inl at) = both_ways (is_name_byte 46) no_dot (ap is_name_byte at ∙ h)
    tell true h more e (inr n) = more (rw h at e) n
    tell false h more e n = let stop : false ≡ true = rw h at e in cc

pub plain-spelling : (bs : List ℕ) → is_spelling bs ≡ true → IsIn 46 bs → ⊥
plain-spelling bs h m = plain-run bs (and_parts (head_is is_letter bs) (is_empty (behind is_name_byte bs)) h).1 m

-- an equation of a found text
same-some : (a b : List ℕ) → Some a ≡ Some b → a ≡ b
same-some a b e = cc

plain-gives : (is_quoted : Bool) (kind : TokenKind) (bs t : List ℕ) → is_token kind bs ≡ true → spelling_of is_quoted kind bs ≡ Some t → IsIn 46 t → ⊥
plain-gives q Ident bs t h e m = plain-spelling bs (and_parts (is_spelling bs) (not (is_keyword bs)) h).0 (subst (IsIn 46) (sym (same-some bs t e)) m)
plain-gives true Word bs t h e m = plain-spelling bs (and_parts (is_spelling bs) (is_keyword bs) h).0 (subst (IsIn 46) (sym (same-some bs t e)) m)
plain-gives false Word bs t h e m = absurd (cc)
plain-gives q TypeVar [] t h e m = absurd (cc)
plain-gives q TypeVar (b ∷ bs) t h e m = plain-spelling bs (and_parts (b == 39) (is_spelling bs) h).1 (subst (IsIn 46) (sym (same-some bs t e)) m)
plain-gives q Qualified bs t h e m = absurd (cc)
plain-gives q Schem bs t h e m = absurd (cc)
plain-gives q BoundName bs t h e m = absurd (cc)
plain-gives q Number bs t h e m = absurd (cc)
plain-gives q Quote bs t h e m = absurd (cc)
plain-gives q Symbol bs t h e m = absurd (cc)
plain-gives q End bs t h e m = absurd (cc)

plain-inside : (source : List ℕ) (quote : Token) (t : List ℕ) → IsSlice source quote → GivesInside source quote t → IsIn 46 t → ⊥
plain-inside source quote t slice (is_quote, (inside, spells, some)) m =
    let marks = quote_has_marks source quote slice is_quote in
    let slices = each-slice source (quote.from + 1) (quote.to - 1) inside (tokens_are_slices (quote.from + 1) (quote.to - 1) source inside (omega arith) (omega (arith, slice.within)) spells) in
    let w = any_some (λ token. Gives source true token t) inside some in
    plain-gives true w.0.kind (slice_range source w.0.from w.0.to) t (each_at (IsSlice source) inside slices w.0 w.1).spelled w.2 m

plain-spelled : (source t : List ℕ) → IsSpelled source t → IsIn 46 t → ⊥
plain-spelled source t (tokens, spells, some) m =
    let slices = each-slice source 0 (length source) tokens (tokens_are_slices 0 (length source) source tokens (omega arith) (omega arith) (subst (Spells (length source) tokens) (sym (whole-range source)) spells)) in
    let w = any_some (λ token. Gives source false token t ⊎ GivesInside source token t) tokens some in
    let slice : IsSlice source w.0 = each_at (IsSlice source) tokens slices w.0 w.1 in
    elim w.2 [
      | inl outside ↦ plain-gives false w.0.kind (slice_range source w.0.from w.0.to) t slice.spelled outside m
      | inr inside ↦ plain-inside source w.0 t slice inside m
    ]

-- ---- full names
dotted-once : (a b x y : List ℕ) → a ++ 46 ∷ x ≡ b ++ 46 ∷ y → (¬ IsIn 46 a) → (¬ IsIn 46 b) → a ≡ b
dotted-once [] [] x y e no_a no_b = refl
dotted-once [] (c ∷ b) x y e no_a no_b = absurd (no_b (inl (let h : 46 ≡ c = cc in h)))
dotted-once (c ∷ a) [] x y e no_a no_b = absurd (no_a (inl (let h : c ≡ 46 = cc in sym h)))
dotted-once (c ∷ a) (d ∷ b) x y e no_a no_b =
    let first : c ≡ d = cc in
    let rest : a ++ 46 ∷ x ≡ b ++ 46 ∷ y = cc in
    let more : a ≡ b = dotted-once a b x y rest (λ m. no_a (inr m)) (λ m. no_b (inr m)) in
    λ i. first i ∷ more i

pure_plain : IsIn 46 pure_theory → ⊥
unfolding pure_theory
pure_plain m = absurd (cases m)
  where
    cases : IsIn 46 (codes "Pure") → ⊥
    cases (inl e) = omega arith
    cases (inr (inl e)) = omega arith
    cases (inr (inr (inl e))) = omega arith
    cases (inr (inr (inr (inl e)))) = omega arith
    cases (inr (inr (inr (inr n)))) = n

-- a full name of something in a theory
pub full-names : (theory : List ℕ) (c : Command) (t : List ℕ) → IsIn t (full_names theory c) → (x : List ℕ) × (t ≡ full_name theory x)
full-names theory (Class name above) t m = elim m [ inl e ↦ (name, e) | inr n ↦ absurd n ]
full-names theory (TypeDecl name params) t m = elim m [ inl e ↦ (name, e) | inr n ↦ absurd n ]
full-names theory (Arity con doms class) t m = absurd m
full-names theory (Const name typ) t m = elim m [ inl e ↦ (name, e) | inr n ↦ absurd n ]
full-names theory (Axiom name prop) t m = elim m [ inl e ↦ (name, e) | inr n ↦ absurd n ]
full-names theory (Definition name typ prop) t m = elim m [ inl e ↦ (name, e) | inr n ↦ elim n [ inl e ↦ (name ++ codes "_def", e) | inr k ↦ absurd k ] ]
full-names theory (Lemma name prop haves script) t m = elim m [ inl e ↦ (name, e) | inr n ↦ behind haves n ]
  where
    behind : (hs : List Have) → IsIn t (have_names (full_name theory name) hs) → (x : List ℕ) × (t ≡ full_name theory x)
    behind [] n = absurd n
    behind (h ∷ hs) (inl e) = (full_name name h.name, e ∙ append_assoc theory (46 ∷ name) (46 ∷ h.name))
    behind (h ∷ hs) (inr n) = behind hs n

-- the texts of names of Pure have its name in front of their dot
abbrev IsOfPure : List ℕ → Type 0
IsOfPure text = (y : List ℕ) × (text ≡ pure_theory ++ 46 ∷ y)

all_of_pure : Each IsOfPure builtin_texts
unfolding builtin_texts pure_theory
all_of_pure = ((codes "fun", refl), ((codes "prop", refl), ((codes "all", refl), ((codes "imp", refl), ((codes "eq", refl), ((codes "protect", refl), tt))))))

got-in : {A : Type 0} (xs : List A) (n : ℕ) (x : A) → slice_get xs n ≡ Some x → IsIn x xs
got-in [] n x h = absurd (cc)
got-in (y ∷ ys) zero x h = inl (let e : y ≡ x = cc in sym e)
got-in (y ∷ ys) (suc n) x h = inr (got-in ys n x h)

given-other : (l : Loaded) (t : List ℕ) → (¬ IsIn 46 l.name) → l.name ≢ pure_theory → IsGiven l t → IsOfPure t → ⊥
given-other l t no_dots other (inl spelled) (y, e) = plain-spelled l.source t spelled (subst (IsIn 46) (sym e) (in_middle pure_theory y))
  where
    in_middle : (a y : List ℕ) → IsIn 46 (a ++ 46 ∷ y)
    in_middle [] y = inl refl
    in_middle (b ∷ a) y = inr (in_middle a y)
given-other l t no_dots other (inr named) (y, e) =
    let w = any_some (λ c. IsIn t (full_names l.name c)) l.text.commands named in
    let full = full-names l.name w.0 t w.2 in
    other (dotted-once l.name pure_theory full.0 y (sym full.1 ∙ e) no_dots pure_plain)

pub others-given : (theories : List Loaded) (list : List (List ℕ)) → ArePlain theories → ((t : List ℕ) → IsIn t list → AnyOf (λ l. IsGiven l t) theories)
    → (m n : ℕ) (text : List ℕ) → slice_get builtin_texts m ≡ Some text → slice_get list n ≢ Some text
others-given theories list plain given m n text builtin got =
    let w = any_some (λ l. IsGiven l text) theories (given text (got-in list n text got)) in
    let p = each_at (λ (l : Loaded). (¬ IsIn 46 l.name) × (l.name ≢ pure_theory)) theories plain w.0 w.1 in
    given-other w.0 text p.0 p.1 w.2 (each_at IsOfPure builtin_texts all_of_pure text (got-in builtin_texts m text builtin))
