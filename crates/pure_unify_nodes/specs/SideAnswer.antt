-- What calls for long forms of sides answer.
use Rattle.std.specs.Prelude.{◌≡◌, ◌⊎◌, List, [], Result, Ok, Err}
use Rattle.pure_definitions.specs.Types.Typ.{Typ}
use Rattle.pure_definitions.specs.Terms.Term.{Term, IsWithin}
use Rattle.pure_definitions.specs.Terms.Typing.{HasType}
use Rattle.pure_definitions.specs.Reduction.Eta.{IsLongForm}
use Rattle.pure_logic.specs.Derivable.{Pair}
use Rattle.pure_norm.specs.declared.fault.NormFault.{NormFault}
use Rattle.pure_norm.specs.declared.fault.NormFault.TheVariants.{Steps, Big, Memory}
use Rattle.pure_unify_definitions.specs.LongSides as sides
use Rattle.pure_unify_definitions.specs.LongSides.{Long, Ends, ComesTo, AllLong, Stopped, AreLong}

-- The term has a type under no binders; and both sides of the pair have.
abbrev pub IsTyped : Term → Type 0
IsTyped t = (T : Typ) × HasType [] t T

abbrev pub AreSidesTyped : Pair → Type 0
AreSidesTyped p = IsTyped p.left × IsTyped p.right

-- The answer for a normal term: its long form within the limits, or `Big` where that isn't; or `Memory`.
abbrev pub IsLengthened : Term → Result Term NormFault → Type 0
IsLengthened n (Ok u) = IsLongForm n u × IsWithin u
IsLengthened n (Err Big) = (u : Term) × IsLongForm n u × (¬ IsWithin u)
IsLengthened n (Err Steps) = ⊥
IsLengthened n (Err Memory) = Unit {0}

-- The answer for a side: what it comes to; or `Memory`.
abbrev pub IsSideAnswer : Term → Result Term NormFault → Type 0
IsSideAnswer t (Ok u) = ComesTo t (Long u)
IsSideAnswer t (Err Big) = ComesTo t (Ends sides.Big)
IsSideAnswer t (Err Steps) = ComesTo t (Ends sides.Steps)
IsSideAnswer t (Err Memory) = Unit {0}

-- Why pairs aren't brought to long form: the first side that comes to a stop comes to this one; or want of memory.
abbrev pub IsSidesFault : List Pair → NormFault → Type 0
IsSidesFault ps Big = AreLong ps (Stopped sides.Big)
IsSidesFault ps Steps = AreLong ps (Stopped sides.Steps)
IsSidesFault ps Memory = Unit {0}

-- The first side of the pair that comes to a stop comes to this one.
abbrev pub IsPairStopped : Pair → sides.Stop → Type 0
IsPairStopped p s = ComesTo p.left (Ends s) ⊎ ((l : Term) × ComesTo p.left (Long l) × ComesTo p.right (Ends s))

-- The answer for one pair.
abbrev pub IsPairAnswer : Pair → Result Pair NormFault → Type 0
IsPairAnswer p (Ok q) = ComesTo p.left (Long q.left) × ComesTo p.right (Long q.right)
IsPairAnswer p (Err Big) = IsPairStopped p sides.Big
IsPairAnswer p (Err Steps) = IsPairStopped p sides.Steps
IsPairAnswer p (Err Memory) = Unit {0}
