-- Names as tokens.
use Rattle.std.proofs.Common.{◌≡◌, ℕ, true, false, ◌==◌, List, [], ◌∷◌, ◌++◌, refl, sym, ap, ◌∙◌, inl, inr, append_assoc}
use Rattle.std.proofs.lemmas.Bool.{cases_Bool, both_ways, false_from_ne_true, eqb-true}
use Rattle.pure_grammar.specs.declared.token.TokenKind.{TokenKind}
use Rattle.pure_grammar.specs.declared.token.TokenKind.TheVariants.{Qualified, TypeVar, Schem, BoundName}
use Rattle.pure_grammar.specs.Tokens.Bytes.{is_letter, is_digit, head_is}
use Rattle.pure_grammar.specs.Tokens.Token.{is_keyword}
use Rattle.pure_grammar.specs.Terms.InnerLexeme.{Plain, Dotted, Variable, Schematic, TypeSchematic, Bound, inner_of}
use Rattle.pure_grammar.specs.Terms.InnerPhrase.{InnerName, Simple, Full}
use Rattle.pure_grammar.specs.Terms.InnerText.{name_text}
use Rattle.pure_grammar.specs.Terms.InnerTree.{name_of, name_raw}
use Rattle.pure_grammar.specs.Terms.RawTree.{RawTree, Leaf}
use Rattle.pure_lex.specs.Fronts.{name_kind}
use Rattle.pure_lex.proofs.Longest.{head_is-front}
use Rattle.pure_print.specs.NameText.{index_text}
use Rattle.pure_print.specs.TermText.{number_text}
use Rattle.pure_print.specs.Readable.{IsIdentifier, IsName, IsShortIndex}
use Rattle.pure_print.specs.ReadBack.{name_kind as leaf_kind}
use Rattle.pure_print.proofs.Bits.{Bit, Stops, token-bit}
use Rattle.pure_print.proofs.FirstTokens.{IsSpelled, identifier-spelled, identifier-first, identifier-short, identifier-not_qualified, qualified_name-first, qualified_name-short, qualified_name-is, typ_variable-first, typ_variable-short, bound-first, schematic-first, schematic-short, typ_schematic-first, typ_schematic-short, spelled-head}
use Rattle.pure_print.proofs.Signs.{NoStar}

-- Identifiers

identifier-lexeme : (name : List ℕ) (at : ℕ) → inner_of (name_kind name) name at ≡ Plain name at
identifier-lexeme name at = elim (cases_Bool (is_keyword name)) [ inl keyword ↦ rw keyword refl | inr other ↦ rw other refl ]

pub identifier-bit : (name : List ℕ) → IsIdentifier name → Bit name (λ from r. Plain name from ∷ r) Stops
identifier-bit name h =
    let s = identifier-spelled name h in
    token-bit (name_kind name) name (λ at. Plain name at) (λ rest stops. identifier-first name rest s stops) (identifier-short name s) (identifier-lexeme name)

-- the tree is a leaf of this kind and text
abbrev pub IsLeaf : RawTree → TokenKind → List ℕ → Type 0
IsLeaf tree kind text = (at : ℕ) × (tree ≡ Leaf at kind text)

-- A name as a phrase of the grammar: a phrase for each place, its text, and its name.
pub record NameBit (name : List ℕ) : Type 0 where
  pub phrase : ℕ → InnerName
  pub bit : Bit name (λ from r. name_text (phrase from) r) Stops
  pub is : (from : ℕ) → name_of (phrase from) ≡ name
  pub leaf : (from : ℕ) → IsLeaf (name_raw (phrase from)) (leaf_kind name) name

pub name-bit : (name : List ℕ) → IsName name → NameBit name
name-bit name (inl h) = record {
  phrase = λ from. Simple name from;
  bit = identifier-bit name h;
  is = λ from. refl;
  leaf = λ from. (from, rw (identifier-not_qualified name (identifier-spelled name h)) refl);
}
name-bit name (inr h) =
    let s = identifier-spelled h.0 h.2 in
    let t = identifier-spelled h.1 h.3 in
    record {
      phrase = λ from. Full name from;
      bit = rw h.4 (token-bit Qualified (h.0 ++ 46 ∷ h.1) (λ at. Dotted (h.0 ++ 46 ∷ h.1) at) (λ rest stops. qualified_name-first h.0 h.1 rest s t stops) (qualified_name-short h.0 h.1 s t) (λ at. refl));
      is = λ from. refl;
      leaf = λ from. (from, rw (h.4, qualified_name-is h.0 h.1 s t) refl);
    }

-- Variables

pub typ_variable-bit : (name : List ℕ) → IsIdentifier name → Bit (39 ∷ name) (λ from r. Variable (39 ∷ name) from ∷ r) Stops
typ_variable-bit name h =
    let s = identifier-spelled name h in
    token-bit TypeVar (39 ∷ name) (λ at. Variable (39 ∷ name) at) (λ rest stops. typ_variable-first name rest s stops) (typ_variable-short name s) (λ at. refl)

pub typ_schematic-bit : (name : List ℕ) (i : ℕ) → IsIdentifier name → IsShortIndex i → Bit (63 ∷ 39 ∷ (name ++ index_text i)) (λ from r. TypeSchematic (63 ∷ 39 ∷ (name ++ index_text i)) from ∷ r) Stops
typ_schematic-bit name i h short =
    let s = identifier-spelled name h in
    token-bit Schem (63 ∷ 39 ∷ (name ++ index_text i)) (λ at. TypeSchematic (63 ∷ 39 ∷ (name ++ index_text i)) at) (λ rest stops. typ_schematic-first name rest i s short stops) (typ_schematic-short name i s) (λ at. refl)

pub schematic-bit : (name : List ℕ) (i : ℕ) → IsIdentifier name → IsShortIndex i → Bit (63 ∷ (name ++ index_text i)) (λ from r. Schematic (63 ∷ (name ++ index_text i)) from ∷ r) Stops
schematic-bit name i h short =
    let s = identifier-spelled name h in
    token-bit Schem (63 ∷ (name ++ index_text i)) (λ at. Schematic (63 ∷ (name ++ index_text i)) at) (λ rest stops. schematic-first name rest i s short stops) (schematic-short name i s)
    (λ at. rw (spelled-head name (index_text i) s) refl)

-- behind a bound name a dot may stand
abbrev pub NoDigit : List ℕ → Type 0
NoDigit rest = head_is is_digit rest ≡ false

pub number-bit : (k : ℕ) → IsShortIndex k → Bit (number_text k) (λ from r. Bound (number_text k) from ∷ r) NoDigit
number-bit k short = token-bit BoundName (number_text k) (λ at. Bound (number_text k) at) (λ rest stops. bound-first k rest short stops) refl (λ at. refl)

-- A name begins with a letter.

pub identifier-letter : (name : List ℕ) → IsIdentifier name → head_is is_letter name ≡ true
identifier-letter name h = let s = identifier-spelled name h in s.letter

pub name-letter : (name : List ℕ) → IsName name → head_is is_letter name ≡ true
name-letter name (inl h) = identifier-letter name h
name-letter name (inr h) = rw h.4 (head_is-front is_letter h.0 (46 ∷ h.1) (identifier-letter h.0 h.2))

-- So it begins with no star.

letter-star : is_letter 42 ≡ false
unfolding is_letter
letter-star = refl

spelled-star : (name rest : List ℕ) → IsSpelled name → NoStar (name ++ rest)
spelled-star [] rest s = let letter = s.letter in cc
spelled-star (b ∷ name) rest s = false_from_ne_true (b == 42) (λ star. both_ways (is_letter 42) letter-star (ap is_letter (sym (eqb-true b 42 star)) ∙ s.letter))

pub identifier-star : (name rest : List ℕ) → IsIdentifier name → NoStar (name ++ rest)
identifier-star name rest h = spelled-star name rest (identifier-spelled name h)

pub name-star : (name rest : List ℕ) → IsName name → NoStar (name ++ rest)
name-star name rest (inl h) = spelled-star name rest (identifier-spelled name h)
name-star name rest (inr h) = rw (h.4, append_assoc h.0 (46 ∷ h.1) rest) (spelled-star h.0 (46 ∷ (h.1 ++ rest)) (identifier-spelled h.0 h.2))
