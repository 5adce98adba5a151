-- Parts of terms that are put into a room for so many nodes on paths of so many.
use Rattle.std.specs.Prelude.{◌≡◌, ℕ, Option, Some, None}
use Rattle.pure_definitions.specs.Types.Typ.{Typ, typ_size, typ_depth}
use Rattle.pure_definitions.specs.Terms.Term.{Term, term_size, term_depth}
use Rattle.pure_definitions.specs.Terms.Limits.{Leaves}
use Rattle.pure_elab.specs.declared.settled.SettledPart.{SettledPart}

-- This term, and what it leaves of the room; or it doesn't fit.
abbrev pub IsPutIn : Term → (left room : ℕ) → Option SettledPart → Type 0
IsPutIn t left room None = Leaves left room (term_size t) (term_depth t) None
IsPutIn t left room (Some s) = (s.term.value ≡ t) × Leaves left room (term_size t) (term_depth t) (Some s.left)

-- The leaf with this type, and what the type leaves of the room; or the type doesn't fit.
abbrev pub IsLeafPutIn : (leaf : Typ → Term) → Typ → (left room : ℕ) → Option SettledPart → Type 0
IsLeafPutIn leaf T left room None = Leaves left room (typ_size T) (typ_depth T) None
IsLeafPutIn leaf T left room (Some s) = (s.term.value ≡ leaf T) × Leaves left room (typ_size T) (typ_depth T) (Some s.left)

-- The node over a part, with what the part leaves of the room; none where the part doesn't fit.
abbrev pub IsNodeOver : (node : Term → Term) → (part whole : Option SettledPart) → Type 0
IsNodeOver node None None = Unit {0}
IsNodeOver node None (Some s) = ⊥
IsNodeOver node (Some p) None = ⊥
IsNodeOver node (Some p) (Some s) = (s.term.value ≡ node p.term.value) × (s.left ≡ p.left)
