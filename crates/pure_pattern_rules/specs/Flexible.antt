-- Flexible sides as they are held, and what is done with their variables.
use Rattle.std.specs.Prelude.{ℕ}
use Rattle.pure_definitions.specs.Terms.Term.{Term}
use Rattle.pure_definitions.specs.Terms.Subst.{TermBind}
use Rattle.pure_unify_definitions.specs.Node.{bind}
use Rattle.pure_pattern_laws.specs.Treatment.{Treatment, IsFlexibleSide, agreeing_image, left_image, right_image}
use Rattle.pure_pattern_rules.specs.Parts.{IsSet, AreSet, IsImitable, IsHeadTreated}
use Rattle.pure_pattern_rules.specs.declared.flexible.Flexible.{Flexible}

-- The side is this variable, applied to these bound variables.
abbrev pub IsFlexibleAs : Term → Flexible → Type 0
IsFlexibleAs t f = IsFlexibleSide t f.name f.index f.typ f.places.items

-- the entry that sets the variable to the image
abbrev pub entry_for : Flexible → Term → TermBind
entry_for f image = bind f.name f.index f.typ image

-- The variable alone is set, to the long form of the image; or two are.
abbrev pub IsSetTo : Flexible → (image : Term) → (Treatment → Type 0)
IsSetTo f image = IsSet f.name f.index f.typ image

abbrev pub AreSetTo : (f : Flexible) → (image : Term) → (g : Flexible) → (other : Term) → (Treatment → Type 0)
AreSetTo f image g other = AreSet f.name f.index f.typ image g.name g.index g.typ other

-- The variable can imitate the head, unless that escapes; and what becomes of the head.
abbrev pub CanImitate : (index : ℕ) → Flexible → (head : Term) → Type 0
CanImitate index f k = IsImitable index f.typ f.places.items k

abbrev pub IsTreatedHead : (index : ℕ) → Flexible → (head : Term) → (Treatment → Type 0)
IsTreatedHead index f k = IsHeadTreated index f.name f.index f.typ f.places.items k

-- the images by the rules for two flexible sides: of one variable, or of the first and of the second of two
abbrev pub agreeing_of : (index : ℕ) → (f g : Flexible) → Term
agreeing_of index f g = agreeing_image index f.typ f.places.items g.places.items

abbrev pub left_of : (index : ℕ) → (f g : Flexible) → Term
left_of index f g = left_image index f.typ f.places.items g.places.items

abbrev pub right_of : (index : ℕ) → (f g : Flexible) → Term
right_of index f g = right_image index g.typ f.places.items g.places.items
