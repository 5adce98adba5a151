-- What the call for a term's type answers.
use Rattle.std.specs.Prelude.{◌≡◌, ℕ, ◌+◌, List, Result, Ok, Err}
use Rattle.pure_definitions.specs.Types.Typ.{Typ}
use Rattle.pure_definitions.specs.Terms.Term.{Term}
use Rattle.pure_definitions.specs.Terms.Typing.{HasType, IsUntypedAt}
use Rattle.pure_definitions.specs.Terms.Limits.{cut_off}
use Rattle.pure_term.specs.declared.typing.Found.{Found}
use Rattle.pure_term.specs.declared.typing.Found.TheVariants.{Lent, Made}
use Rattle.pure_term.specs.declared.typing.TypeFault.{TypeFault}
use Rattle.pure_term.specs.declared.typing.TypeFault.TheVariants.{NotTyped, Memory}

-- the type that was found: one that stands in the term, or one that was made
abbrev pub found_typ : Found → Typ
found_typ (Lent t) = t.now
found_typ (Made t) = t.value

-- the fault, with a place so much further on
abbrev pub deeper_fault : ℕ → TypeFault → TypeFault
deeper_fault by (NotTyped place) = NotTyped (cut_off (place + by))
deeper_fault by Memory = Memory

-- The answer of a call for the type of a term under binders of these types: its type; or, where it has none, the place of its first node at fault; or `Memory`.
abbrev pub IsTypeAnswer : List Typ → Term → Result Typ TypeFault → Type 0
IsTypeAnswer bs t (Ok T) = HasType bs t T
IsTypeAnswer bs t (Err (NotTyped cut)) = (place : ℕ) × IsUntypedAt bs t place × (cut ≡ cut_off place)
IsTypeAnswer bs t (Err Memory) = Unit {0}

-- The same of an answer whose type may be lent.
abbrev pub IsFoundAnswer : List Typ → Term → Result Found TypeFault → Type 0
IsFoundAnswer bs t (Ok found) = HasType bs t (found_typ found)
IsFoundAnswer bs t (Err fault) = IsTypeAnswer bs t (Err fault)
