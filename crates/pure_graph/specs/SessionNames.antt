-- The texts of a session's names.
use Rattle.std.specs.Prelude.{◌≡◌, ◌⊎◌, ◌↔◌, ℕ, ◌+◌, ◌-◌, Bool, true, false, List, [], ◌∷◌, ◌++◌, length, map, codes, slice_range, Option, Some, None, if◌then◌else◌}
use Rattle.std.specs.List.Sorted.{IsStrictlySortedBy}
use Rattle.std.specs.Ordering.{nat_cmp}
use Rattle.std.specs.Cmp.Lexicographic.{slice_cmp}
use Rattle.pure_text.specs.Lists.{IsIn, AnyOf}
use Rattle.pure_grammar.specs.declared.token.Token.{Token}
use Rattle.pure_grammar.specs.declared.token.TokenKind.{TokenKind}
use Rattle.pure_grammar.specs.declared.token.TokenKind.TheVariants as kind
use Rattle.pure_grammar.specs.Tokens.Token.{tail}
use Rattle.pure_grammar.specs.Tokens.Spelling.{Spells}
use Rattle.pure_grammar.specs.Theories.TheoryText.{Have, Command, Class, TypeDecl, Arity, Const, Axiom, Definition, Lemma}
use Rattle.pure_graph.specs.Order.{Loaded}

-- The spelling that a token gives: an identifier's, and that of a type variable behind its mark. In a quoted text a keyword
-- is an identifier.
abbrev pub spelling_of : (is_quoted : Bool) → TokenKind → List ℕ → Option (List ℕ)
spelling_of is_quoted kind.Ident bytes = Some bytes
spelling_of is_quoted kind.Word bytes = if is_quoted then Some bytes else None
spelling_of is_quoted kind.TypeVar bytes = Some (tail bytes)
spelling_of is_quoted _ bytes = None

abbrev pub Gives : (source : List ℕ) → (is_quoted : Bool) → Token → List ℕ → Type 0
Gives source is_quoted token spelling = spelling_of is_quoted token.kind (slice_range source token.from token.to) ≡ Some spelling

-- a spelling in a quoted text whose tokens can be read
abbrev pub GivesInside : (source : List ℕ) → Token → List ℕ → Type 0
GivesInside source quote spelling =
    (quote.kind ≡ kind.Quote) × ((inside : List Token) × Spells (quote.to - 1) inside (slice_range source (quote.from + 1) (quote.to - 1))
    × AnyOf (λ token. Gives source true token spelling) inside)

-- a spelling in the source of a theory, outside quoted texts or in one
abbrev pub IsSpelled : (source : List ℕ) → List ℕ → Type 0
IsSpelled source spelling =
    (tokens : List Token) × Spells (length source) tokens source
    × AnyOf (λ token. Gives source false token spelling ⊎ GivesInside source token spelling) tokens

-- the full name of what a theory declares
abbrev pub full_name : (theory name : List ℕ) → List ℕ
full_name theory name = theory ++ (46 ∷ name)

-- the full names of the haves of a lemma with this full name: the lemma's, a dot and the name that the have is given
abbrev pub have_names : (lemma : List ℕ) → List Have → List (List ℕ)
have_names lemma haves = map (λ (h : Have). full_name lemma h.name) haves

-- the full names that a command declares: that of its name, of a definition's fact, and of a lemma's haves
abbrev pub full_names : (theory : List ℕ) → Command → List (List ℕ)
full_names theory (Class name above) = full_name theory name ∷ []
full_names theory (TypeDecl name params) = full_name theory name ∷ []
full_names theory (Arity con doms class) = []
full_names theory (Const name typ) = full_name theory name ∷ []
full_names theory (Axiom name prop) = full_name theory name ∷ []
full_names theory (Definition name typ prop) = full_name theory name ∷ full_name theory (name ++ codes "_def") ∷ []
full_names theory (Lemma name prop haves script) = full_name theory name ∷ have_names (full_name theory name) haves

-- a text that a loaded theory gives
abbrev pub IsGiven : Loaded → List ℕ → Type 0
IsGiven loaded text = IsSpelled loaded.source text ⊎ AnyOf (λ command. IsIn text (full_names loaded.name command)) loaded.text.commands

-- The texts that the loaded theories give, each once, in byte order.
pub record AreNames (theories : List Loaded) (texts : List (List ℕ)) : Type 0 where
  pub ascend : IsStrictlySortedBy (slice_cmp nat_cmp) texts
  pub given : (text : List ℕ) → IsIn text texts ↔ AnyOf (λ loaded. IsGiven loaded text) theories
