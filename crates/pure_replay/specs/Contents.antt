-- What the items of a record declare, and when they make contents.
use Rattle.std.specs.Prelude.{◌≡◌, ℕ, List, [], ◌∷◌, ◌++◌, map, take, length}
use Rattle.pure_text.specs.Lists.{Each}
use Rattle.pure_definitions.specs.Terms.Limits.{cut_off}
use Rattle.pure_definitions.specs.Declarations.Decl.{Decl, ConDecl, ConstDecl, AxiomDecl}
use Rattle.pure_logic.specs.Content.{Content, AreNamedAlike, IsContent}
use Rattle.pure_logic.specs.PureContent.{pure_declarations}
use Rattle.pure_record.specs.Items.{Item, TypeDecl, Const, Axiom}
use Rattle.pure_replay.specs.Step.{plain_content}

abbrev pub declared_by : Item → Decl
declared_by (TypeDecl k count) = ConDecl k count
declared_by (Const c T) = ConstDecl c T
declared_by (Axiom x A) = AxiomDecl x A

-- The content of a record: Pure's, with its items, in order.
abbrev pub content_of : List Item → Content
content_of items = plain_content (pure_declarations ++ map declared_by items)

-- No two of the declarations are of one kind and have one name, not even where they say the same.
abbrev pub AreNamedApart : List Decl → Type 0
AreNamedApart [] = Unit {0}
AreNamedApart (d ∷ ds) = Each (λ e. ¬ AreNamedAlike d e) ds × AreNamedApart ds

-- The items make a content that declares no name of a kind twice. Of a content no constant's type has a fixed type variable.
pub record IsGoodContent (items : List Item) : Type 0 where
  pub content : IsContent (content_of items)
  pub apart : AreNamedApart (content_of items).declarations

-- The content up to each of the items is good.
abbrev pub AreGoodItems : List Item → Type 0
AreGoodItems items = (count : ℕ) → IsGoodContent (take count items)

-- The first item such that the content up to it isn't good has this place, from 0, cut off at the greatest number of a call.
pub record IsFirstBadItem (items : List Item) (place : ℕ) : Type 0 where
  pub front : List Item
  pub item : Item
  pub rest : List Item
  pub is : items ≡ front ++ item ∷ rest
  pub place_is : place ≡ cut_off (length front)
  pub before : AreGoodItems front
  pub bad : ¬ IsGoodContent (front ++ item ∷ [])
