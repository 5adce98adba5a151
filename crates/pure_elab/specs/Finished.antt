-- What the parts of elaboration answer behind the draft.
use Rattle.std.specs.Prelude.{◌≡◌, ◌<◌, ℕ, List, length, map, Option, Some, MatchOption, Result, Ok, Err, slice_get}
use Rattle.std.specs.declared.sync.Arc.{Arc}
use Rattle.std.specs.declared.alloc.Global.{Global}
use Rattle.pure_definitions.specs.Types.Order.{Algebra}
use Rattle.pure_definitions.specs.Terms.Term.{Term, IsWithin}
use Rattle.pure_definitions.specs.Terms.Subst.{inst_typ}
use Rattle.pure_tunify.specs.Settings.{composed, Progress}
use Rattle.pure_tunify.specs.Answers.{AreSettled}
use Rattle.pure_tunify.specs.declared.pair.TypPair.{TypPair}
use Rattle.pure_tunify.specs.declared.fault.TypFault.{TypFault}
use Rattle.pure_tunify.specs.declared.fault.TypFault.TheVariants as typing
use Rattle.pure_elab.specs.declared.draft.Constraints.{Constraints}
use Rattle.pure_elab.specs.declared.fault.FaultAt.{FaultAt}
use Rattle.pure_elab.specs.declared.fault.ElabFault.{ElabFault}
use Rattle.pure_elab.specs.declared.fault.ElabFault.TheVariants.{IllTyped, Big, Memory}
use Rattle.pure_elab.specs.Vocabulary.{Vocabulary}
use Rattle.pure_elab.specs.Numbered.{with_fixed}
use Rattle.pure_elab.specs.Drafts.{Draft, pair_of}
use Rattle.pure_elab.specs.Drafted.{constraint_place}
use Rattle.pure_elab.specs.Typings.{fresh_index}
use Rattle.pure_elab.specs.Answers.{IsNameFault}

-- This is the term, which is within the limits, or none, and then it isn't.
abbrev pub IsLimited : Term → Option (Arc Term Global) → Type 0
IsLimited t o = MatchOption o (¬ IsWithin t) (λ u. (u.value ≡ t) × IsWithin t)

-- This is the term under the unifier of the pairs, in the sense above.
pub record IsSolution (A : Algebra) (pairs : List TypPair) (t : Term) (o : Option (Arc Term Global)) : Type 0 where
  pub unifier : Progress
  pub settled : AreSettled A fresh_index 0 pairs unifier
  pub limited : IsLimited (inst_typ (composed unifier.sets) t) o

-- The term, with its unknowns made fixed, where it is within the limits.
abbrev pub IsFinished : Vocabulary → Term → Result Term ElabFault → Type 0
IsFinished V t (Ok u) = IsWithin t × (u ≡ with_fixed V.fresh t)
IsFinished V t (Err Big) = ¬ IsWithin t
IsFinished V t (Err Memory) = Unit {0}
IsFinished V t (Err _) = ⊥

-- The fault of a name that decides, or want of memory.
abbrev pub IsNameRefusal : List FaultAt → ElabFault → Type 0
IsNameRefusal faults Memory = Unit {0}
IsNameRefusal faults Big = ⊥
IsNameRefusal faults (IllTyped at) = ⊥
IsNameRefusal faults fault = IsNameFault faults fault

-- A fault of unification that names a constraint names one of these places.
abbrev pub NamesAPlace : List ℕ → TypFault → Type 0
NamesAPlace places (typing.NoTyping k) = k < length places
NamesAPlace places _ = Unit {0}

-- The fault of typing that a fault of unification is, where constraints have these places.
abbrev pub IsFaultFrom : List ℕ → TypFault → ElabFault → Type 0
IsFaultFrom places (typing.NoTyping k) (IllTyped at) = slice_get places k ≡ Some at
IsFaultFrom places (typing.NoTyping k) _ = ⊥
IsFaultFrom places (typing.Big k) fault = fault ≡ Big
IsFaultFrom places typing.Memory fault = fault ≡ Memory

-- The term and the constraints are those of the draft.
pub record HasConstraintsOf (d : Draft) (t : Term) (all : Constraints) : Type 0 where
  pub term : t ≡ d.term
  pub pairs : all.pairs.items ≡ map pair_of d.constraints
  pub places : all.places.items ≡ map constraint_place d.constraints
