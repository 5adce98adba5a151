-- What a name or variable of a written term means.
use Rattle.std.specs.Prelude.{ℕ, ◌+◌, List, [], ◌∷◌, Option, Some, None, bytes_eq, if◌then◌else◌}
use Rattle.pure_grammar.specs.declared.token.TokenKind.{TokenKind}
use Rattle.pure_grammar.specs.declared.token.TokenKind.TheVariants as kind
use Rattle.pure_elab.specs.Vocabulary.{Vocabulary}
use Rattle.pure_elab.specs.declared.meaning.Meaning.{Meaning}
use Rattle.pure_elab.specs.declared.meaning.Meaning.TheVariants as meaning

-- the place one further out
abbrev pub outward : Option ℕ → Option ℕ
outward None = None
outward (Some n) = Some (n + 1)

-- how many of the binders around a name, the innermost first, stand before the first that binds it
abbrev pub bound_place : List (List ℕ) → (text : List ℕ) → Option ℕ
bound_place [] text = None
bound_place (b ∷ bs) text = if bytes_eq b text then Some 0 else outward (bound_place bs text)

-- bound at the place, where there is one, or else this
abbrev pub bound_or : Option ℕ → Meaning → Meaning
bound_or (Some n) other = meaning.Bound n
bound_or None other = other

-- the constant, where there is one, or else this
abbrev pub constant_or : Option ℕ → Meaning → Meaning
constant_or (Some c) other = meaning.Constant c
constant_or None other = other

-- the fixed variable of the name, where the text has one
abbrev pub fixed_or_unknown : Option ℕ → Meaning
fixed_or_unknown (Some x) = meaning.Fixed x
fixed_or_unknown None = meaning.Unknown

-- What the leaf means under binders of these names, the innermost first. A plain name is bound by the innermost binder with it, else a constant that is found, else a fixed variable;
-- a qualified one is a constant, a name of bound variables bound, and a schematic variable is refused.
abbrev pub meant : Vocabulary → List (List ℕ) → TokenKind → (text : List ℕ) → Meaning
meant V binders kind.Ident text = bound_or (bound_place binders text) (constant_or (V.constant_written text) (fixed_or_unknown (V.name_written text)))
meant V binders kind.Qualified text = constant_or (V.constant_written text) meaning.Unknown
meant V binders kind.BoundName text = bound_or (bound_place binders text) meaning.Unknown
meant V binders kind.Schem text = meaning.Schematic
meant V binders _ text = meaning.Unknown
