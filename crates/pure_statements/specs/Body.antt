-- The body of a definition: of a text `c == t` the tree of t.
use Rattle.std.specs.Prelude.{ℕ, Bool, true, false, ◌&&◌, List, Option, Some, None, codes, bytes_eq, if◌then◌else◌}
use Rattle.pure_grammar.specs.declared.token.TokenKind.{TokenKind}
use Rattle.pure_grammar.specs.declared.token.TokenKind.TheVariants as kind
use Rattle.pure_grammar.specs.Terms.RawTree.{RawTree, Leaf, Abs, App, Typed}

unfoldable pub equality_text : List ℕ
equality_text = codes "Pure.eq"

abbrev pub is_ident : TokenKind → Bool
is_ident kind.Ident = true
is_ident _ = false

abbrev pub is_dotted : TokenKind → Bool
is_dotted kind.Qualified = true
is_dotted _ = false

-- the constant for which `==` stands
abbrev pub is_equality : RawTree → Bool
is_equality (Leaf at k text) = is_dotted k && bytes_eq text equality_text
is_equality _ = false

-- just this name
abbrev pub is_named : (name : List ℕ) → RawTree → Bool
is_named name (Leaf at k text) = is_ident k && bytes_eq text name
is_named name _ = false

-- the first side is `c ==` for c of this name
abbrev pub begins_equation : (name : List ℕ) → RawTree → Bool
begins_equation name (App at f a) = is_equality f && is_named name a
begins_equation name _ = false

-- the second side of an equation whose first side is just this name
abbrev pub body_of : (name : List ℕ) → RawTree → Option RawTree
body_of name (App at f a) = if begins_equation name f then Some a else None
body_of name _ = None
