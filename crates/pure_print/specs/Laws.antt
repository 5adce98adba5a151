-- Laws of printing.
use Rattle.std.specs.Prelude.{◌≡◌, ℕ, List, [], codes}
use Rattle.pure_definitions.specs.Names.{protect_name}
use Rattle.pure_definitions.specs.Types.Typ.{Typ, prop}
use Rattle.pure_definitions.specs.Terms.Term.{Term, Const, Bound, Abs, App}
use Rattle.pure_grammar.specs.Terms.RawTree.{RawTypTree, RawTree}
use Rattle.pure_print.specs.TypText.{typ_text}
use Rattle.pure_print.specs.TermText.{term_text}
use Rattle.pure_print.specs.Readable.{IsReadableTyp, IsReadable}
use Rattle.pure_print.specs.ReadBack.{IsTreeOfTyp, IsTreeOf}

-- Readable types that print alike have one tree.
abbrev pub OneTypText : Type 0
OneTypText =
    (texts : List (List ℕ)) (t u : Typ) → IsReadableTyp texts t → IsReadableTyp texts u → typ_text texts t ≡ typ_text texts u
    → (tree : RawTypTree) × IsTreeOfTyp texts tree t × IsTreeOfTyp texts tree u

-- Readable terms that print alike have one tree.
abbrev pub OneText : Type 0
OneText =
    (texts : List (List ℕ)) (t u : Term) → IsReadable texts t → IsReadable texts u → term_text texts t ≡ term_text texts u
    → (tree : RawTree) × IsTreeOf texts [] tree t × IsTreeOf texts [] tree u

-- `%x. Pure.protect x`
abbrev pub example : Term
example = Abs prop (App (Const protect_name prop) (Bound 0))

-- It is readable, and prints so.
pub record PrintsExample (texts : List (List ℕ)) : Type 0 where
  pub readable : IsReadable texts example
  pub text : term_text texts example ≡ codes "%_0. Pure.protect _0"
