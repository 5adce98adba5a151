-- Where the nodes of a name stand.
use Rattle.std.specs.Prelude.{◌<◌, ℕ, zero, suc, List, length, get_or}
use Rattle.pure_typ.specs.NameTexts.{HasText}
use Rattle.pure_promise_fates.specs.Reach.{IsAt}
use Rattle.pure_citations.specs.declared.nodes.Node.{Node}

-- the code of a node: the number of its name and one more, or 0 where none has its text
abbrev pub IsCode : (texts : List (List ℕ)) → Node → (code : ℕ) → Type 0
IsCode texts n zero = (number : ℕ) → ¬ HasText texts number n.name
IsCode texts n (suc number) = HasText texts number n.name

-- Of the places before the bound this is the last with the code, and one more; 0 where there is none.
abbrev pub IsLast : (codes : List ℕ) → (bound code last : ℕ) → Type 0
IsLast codes bound code zero = (place : ℕ) → place < bound → ¬ IsAt codes place code
IsLast codes bound code (suc last) = (last < bound) × IsAt codes last code × ((place : ℕ) → last < place → place < bound → ¬ IsAt codes place code)

-- of each place the last one of its code before it
abbrev pub AreBefore : (codes before : List ℕ) → (bound : ℕ) → Type 0
AreBefore codes before bound = (place code : ℕ) → place < bound → IsAt codes place code → IsLast codes place code (get_or before place 0)

-- of each code its last place
abbrev pub AreLast : (codes last : List ℕ) → (bound : ℕ) → Type 0
AreLast codes last bound = (code : ℕ) → IsLast codes bound code (get_or last code 0)

-- of each code its last place, and of each place the last one of its code before it
pub record IsIndex (codes last before : List ℕ) : Type 0 where
  pub lasts : AreLast codes last (length codes)
  pub befores : AreBefore codes before (length codes)

-- The node at the place has the name with this number.
abbrev pub IsNodeAt : (codes : List ℕ) → (number place : ℕ) → Type 0
IsNodeAt codes number place = IsAt codes place (suc number)
