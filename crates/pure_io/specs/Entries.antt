-- What the listing of a directory gives, entry by entry.
use Rattle.std.specs.Prelude.{◌≡◌, ◌⊎◌, ℕ, ◌<◌, ◌≤◌, List, [], ◌∷◌, length, Option, Some, None, Result, Ok, Err, Contains}
use Rattle.std.specs.Option.{option_map}
use Rattle.std.specs.Iterator.{Yields, Drains}
use Rattle.pure_io.specs.declared.library.LibFault.{LibFault}
use Rattle.pure_io.specs.declared.library.LibFault.TheVariants.{Failed}

-- an entry: its name, none where that isn't UTF-8, or a fault
abbrev pub Entry : Type 0
Entry = Result (Option (List ℕ)) LibFault

-- the names of entries in order, those that aren't UTF-8 passed over; none where an entry is a fault
abbrev pub names_in : List Entry → Option (List (List ℕ))
names_in [] = Some []
names_in (Ok None ∷ entries) = names_in entries
names_in (Ok (Some name) ∷ entries) = option_map (λ names. name ∷ names) (names_in entries)
names_in (Err fault ∷ entries) = None

module _ {S : Type 0} (steps : S → Option Entry → S → Type 0) where
  -- the listing gave at most so many entries and then ended, and these are their names
  pub record ListsWithin (start : S) (limit : ℕ) (names : List (List ℕ)) : Type 0 where
    pub entries : List Entry
    pub drained : Drains steps start entries
    pub within : length entries ≤ limit
    pub named : names_in entries ≡ Some names

  -- the listing gave more entries than that, or one that failed
  pub record ListsPast (start : S) (limit : ℕ) : Type 0 where
    pub entries : List Entry
    pub rest : S
    pub given : Yields steps start entries rest
    pub cause : (limit < length entries) ⊎ Contains entries (Err Failed)
