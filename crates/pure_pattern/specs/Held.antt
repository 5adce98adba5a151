-- States as they are held, what is made of them, and what steps answer.
use Rattle.std.specs.Prelude.{◌≡◌, List, ◌∷◌, reverse, Result, Ok, Err}
use Rattle.std.specs.Global.{Vec}
use Rattle.pure_text.specs.Lists.{Each}
use Rattle.pure_definitions.specs.Terms.Term.{IsWithin}
use Rattle.pure_definitions.specs.Terms.Subst.{TermBind}
use Rattle.pure_typ.specs.declared.grow.Grow.{Grow}
use Rattle.pure_typ.specs.declared.grow.Grow.TheVariants as grown
use Rattle.pure_logic.specs.Derivable.{Pair}
use Rattle.pure_pattern_laws.specs.Steps.{State, IsWithinState}
use Rattle.pure_pattern_terms.specs.Images.{IsLowTerm}
use Rattle.pure_pattern.specs.declared.state.Held.{Held}
use Rattle.pure_pattern.specs.declared.fault.PatternFault.{PatternFault}
use Rattle.pure_pattern.specs.declared.fault.PatternFault.TheVariants.{Memory}

-- the state that is held, and that with one more pair, the first
abbrev pub seen : Held → State
seen h = record { pairs = reverse h.pairs.items; binds = h.binds.items }

abbrev pub behind : Pair → Held → State
behind p h = record { pairs = p ∷ reverse h.pairs.items; binds = h.binds.items }

-- The numbers of the bound variables in both sides, and in an image, are small.
abbrev pub IsLowPair : Pair → Type 0
IsLowPair p = IsLowTerm p.left × IsLowTerm p.right

abbrev pub IsLowImage : TermBind → Type 0
IsLowImage b = IsLowTerm b.image

-- The image is within the limits.
abbrev pub IsImageWithin : TermBind → Type 0
IsImageWithin b = IsWithin b.image

-- The answer of a call that makes this, or these: it where it is within the limits, `Big` where it isn't, or `Memory`.
abbrev pub IsMade : {A : Type 0} → (A → Type 0) → A → Result A Grow → Type 0
IsMade Within x (Ok y) = (y ≡ x) × Within x
IsMade Within x (Err grown.Big) = ¬ Within x
IsMade Within x (Err grown.Memory) = Unit {0}

abbrev pub AreMade : {A : Type 0} → (A → Type 0) → List A → Result (Vec A) Grow → Type 0
AreMade Within xs (Ok ys) = (ys.items ≡ xs) × Each Within xs
AreMade Within xs (Err grown.Big) = ¬ Each Within xs
AreMade Within xs (Err grown.Memory) = Unit {0}

-- The answer of a call that makes this state, of a step: it where it is within the limits, or `Memory`.
abbrev pub IsMadeState : State → Result Held PatternFault → Type 0
IsMadeState m (Ok h) = (seen h ≡ m) × IsWithinState m
IsMadeState m (Err Memory) = Unit {0}
IsMadeState m (Err fault) = ⊥
