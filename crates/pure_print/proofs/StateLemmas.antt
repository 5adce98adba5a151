-- Terms of states: which texts are spellings, and that readable terms print as they do otherwise.
use Rattle.std.proofs.Common.{◌≡◌, ℕ, Bool, true, false, ◌≤◌, List, [], ◌∷◌, ◌++◌, length, refl, sym, ap, ◌∙◌, subst, arith, Option, Some, None}
use Rattle.std.specs.Prelude.{codes, nat_le, slice_get}
use Rattle.std.specs.Option.{unwrap_or}
use Rattle.std.specs.List.{list_all}
use Rattle.std.proofs.lemmas.Bool.Decides.{nat_tests}
use Rattle.pure_typ.specs.NameTexts.{name_texts}
use Rattle.pure_definitions.specs.Terms.Term.{Term}
use Rattle.pure_grammar.specs.Tokens.Bytes.{is_letter, is_name_byte, is_empty, behind, head_is}
use Rattle.pure_grammar.specs.Tokens.Token.{is_spelling}
use Rattle.pure_print.specs.NameText.{term_name_text, state_variable_text, spelled_or_numbered}
use Rattle.pure_print.specs.Notation.{Notation, Constant, Fixed, Schematic, Numbered, ForAll, Implies, Equal, Lambda, Apply, notation}
use Rattle.pure_print.specs.TermText.{form_text, form_text_by, term_text, state_text, placed, body_text}
use Rattle.pure_print.specs.Readable.{IsIdentifier, IsReadable}
use Rattle.pure_print.specs.ReadBack.{IsReadBack}
use Rattle.pure_print.proofs.FormBits.{IsReadableForm}
use Rattle.pure_print.proofs.TermReadBack.{notation-readable, term-read_back}

-- Each byte passes the test where nothing stands behind those that pass it.
pub all_behind : (test : ℕ → Bool) (text : List ℕ) → list_all test text ≡ is_empty (behind test text)
all_behind test [] = refl
all_behind test (b ∷ bs) = by (test b) refl (all_behind test bs)
  where
    by : (passes : Bool) → test b ≡ passes → list_all test bs ≡ is_empty (behind test bs) → list_all test (b ∷ bs) ≡ is_empty (behind test (b ∷ bs))
    by true e rest = rw e rest
    by false e rest = rw e refl

pub spelling-then : (text : List ℕ) (begins rest : Bool) → begins ≡ head_is is_letter text → begins ≡ true → rest ≡ list_all is_name_byte text → rest ≡ is_spelling text
spelling-then text begins rest is so every =
    let head : head_is is_letter text ≡ true = sym is ∙ so in
    rw head (every ∙ all_behind is_name_byte text)

pub spelling-else : (text : List ℕ) (begins : Bool) → begins ≡ head_is is_letter text → begins ≡ false → begins ≡ is_spelling text
spelling-else text begins is other =
    let head : head_is is_letter text ≡ false = sym is ∙ other in
    rw head other

-- A fresh name is no identifier.
fresh-no_spelling : (fresh : List ℕ) → is_spelling (95 ∷ fresh) ≡ true → ⊥
unfolding is_letter
fresh-no_spelling fresh e = cc

-- the name of a schematic variable that is an identifier
spelled-same : (name : ℕ) (found : Option (List ℕ)) (fresh : List ℕ) → IsIdentifier (unwrap_or found (95 ∷ fresh)) → spelled_or_numbered name found ≡ unwrap_or found (95 ∷ fresh)
spelled-same name None fresh h = absurd (fresh-no_spelling fresh h.0)
spelled-same name (Some text) fresh h =
    let spelling : is_spelling text ≡ true = h.0 in
    let few : length text ≤ 64 = h.1 in
    let short : nat_le (length text) 64 ≡ true = grind (arith, nat_tests) in
    rw (spelling, short) refl

pub state-name : (texts : List (List ℕ)) (x : ℕ) → IsIdentifier (term_name_text texts x) → state_variable_text texts x ≡ term_name_text texts x
state-name texts x h = spelled-same x (slice_get (name_texts texts) x) _ h

-- A readable form prints as it does otherwise.
state-form : (texts : List (List ℕ)) (x : Notation) → IsReadableForm texts x → form_text_by (state_variable_text texts) texts x ≡ form_text texts x
state-form texts (Constant c) h = refl
state-form texts (Fixed x) h = refl
state-form texts (Schematic x i) h = rw (state-name texts x h.0) refl
state-form texts (Numbered k) h = refl
state-form texts (ForAll k b) h = ap (λ t. codes "!!" ++ body_text 0 k b t) (state-form texts b h.1)
state-form texts (Implies a b) h = λ i. placed 2 a (state-form texts a h.0 i) ++ (codes " ==> " ++ placed 1 b (state-form texts b h.1 i))
state-form texts (Equal a b) h = λ i. placed 3 a (state-form texts a h.0 i) ++ (codes " == " ++ placed 3 b (state-form texts b h.1 i))
state-form texts (Lambda k b) h = ap (λ t. codes "%" ++ body_text 3 k b t) (state-form texts b h.1)
state-form texts (Apply f a) h = λ i. placed 4 f (state-form texts f h.0 i) ++ (codes " " ++ placed 5 a (state-form texts a h.1 i))

pub state-same : (texts : List (List ℕ)) (t : Term) → IsReadable texts t → state_text texts t ≡ term_text texts t
state-same texts t h = ap (placed 0 (notation 0 t)) (state-form texts (notation 0 t) (notation-readable texts 0 t h.closed h.names (omega (arith, h.binders))))

-- So it is read back as it was printed.
pub state-read_back : (texts : List (List ℕ)) (t : Term) → IsReadable texts t → IsReadBack texts t (state_text texts t)
state-read_back texts t h = subst (IsReadBack texts t) (sym (state-same texts t h)) (term-read_back texts t h)
