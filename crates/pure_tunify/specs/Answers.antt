-- What calls that unify answer.
use Rattle.std.specs.Prelude.{◌≡◌, ℕ, max, List, [], ◌∷◌, ◌++◌, map}
use Rattle.pure_definitions.specs.Types.Typ.{Typ, TVar}
use Rattle.pure_definitions.specs.Types.Order.{Algebra}
use Rattle.pure_definitions.specs.Terms.Subst.{TypBind, typ_variable, typ_image, typ_instance}
use Rattle.pure_definitions.specs.Terms.Measures.{typ_index_above}
use Rattle.pure_tunify.specs.declared.pair.TypPair.{TypPair}
use Rattle.pure_tunify.specs.declared.fault.TypFault.{TypFault}
use Rattle.pure_tunify.specs.declared.meeting.Turned.{Turned}
use Rattle.pure_tunify.specs.declared.meeting.Turned.TheVariants.{Further, Never, Large}
use Rattle.pure_tunify.specs.declared.fault.TypFault.TheVariants.{NoTyping, Big, Memory}
use Rattle.pure_tunify.specs.Steps.{instance_pair}
use Rattle.pure_tunify.specs.Settings.{composed, AreTriangular, AreWithinLimits, Progress}
use Rattle.pure_tunify.specs.Procedure.{Equalises, Blocks, Unifies, Unified, NotTyped, TooBig}
use Rattle.pure_tunify.specs.Working.{IsFurther, IsWritten}
use Rattle.pure_tunify.specs.ProcedureLaws.{IsFirstWithout, IsBeyond}

-- A pair has been made equal by further settings.
pub record IsEqualised (A : Algebra) (old new : Progress) (p : TypPair) : Type 0 where
  pub more : List TypBind
  pub further : IsFurther old new more
  pub equalises : Equalises A old.index old.next (instance_pair (composed old.sets) p) more new.next

-- A pair is made equal by settings that pass the limits, which weren't found; others were.
pub record IsPassed (A : Algebra) (old new : Progress) (p : TypPair) : Type 0 where
  pub found : List TypBind
  pub further : IsFurther old new found
  pub more : List TypBind
  pub next : ℕ
  pub equalises : Equalises A old.index old.next (instance_pair (composed old.sets) p) more next
  pub beyond : ¬ AreWithinLimits (old.sets ++ more) next

-- What comes of one pair.
abbrev pub IsSolved : Algebra → (old new : Progress) → TypPair → Turned → Type 0
IsSolved A old new p Further = IsEqualised A old new p
IsSolved A old new p Never = Blocks A old.index old.next (instance_pair (composed old.sets) p)
IsSolved A old new p Large = IsPassed A old new p

-- The pairs come to these settings and this first name that isn't used, within the limits.
pub record AreSettled (A : Algebra) (index from : ℕ) (pairs : List TypPair) (p : Progress) : Type 0 where
  pub unifies : Unifies A index 0 from [] pairs (Unified p.sets p.next)
  pub within : AreWithinLimits p.sets p.next
  pub triangular : AreTriangular p.sets

-- The pairs come to this map and this first name that isn't used: its entries are the procedure's settings, in the order in which the variables were set, each image written out under all later settings.
pub record AreUnified (A : Algebra) (index from : ℕ) (pairs : List TypPair) (binds : List TypBind) (next : ℕ) : Type 0 where
  pub sets : List TypBind
  pub unifies : Unifies A index 0 from [] pairs (Unified sets next)
  pub written : IsWritten sets binds
  pub ordered : map typ_variable binds ≡ map typ_variable sets

-- The pair of this number decides, for this reason.
abbrev pub IsDecided : Algebra → (index from : ℕ) → List TypPair → TypFault → Type 0
IsDecided A index from pairs (NoTyping k) = Unifies A index 0 from [] pairs (NotTyped k)
IsDecided A index from pairs (Big k) = Unifies A index 0 from [] pairs (TooBig k)
IsDecided A index from pairs Memory = Unit {0}

-- The map applied again changes nothing; the same of a finite one.
abbrev pub IsIdempotentMap : (Typ → Typ) → Type 0
IsIdempotentMap typs = (x i : ℕ) (s : List ℕ) → typ_instance typs (typs (TVar x i s)) ≡ typs (TVar x i s)

abbrev pub IsIdempotent : List TypBind → Type 0
IsIdempotent binds = (x i : ℕ) (s : List ℕ) → typ_instance (typ_image binds) (typ_image binds (TVar x i s)) ≡ typ_image binds (TVar x i s)

-- The pair of this number is the first such that it and those before have no unifier, or have a most general one that is beyond the limits; those before have one within them.
abbrev pub IsReason : Algebra → (index from : ℕ) → List TypPair → TypFault → Type 0
IsReason A index from pairs (NoTyping k) = IsFirstWithout A index from pairs k
IsReason A index from pairs (Big k) = IsBeyond A index from pairs k
IsReason A index from pairs Memory = Unit {0}

-- one above the greatest index of a schematic variable of pairs of types, or 0
abbrev pub index_above_pairs : List TypPair → ℕ
index_above_pairs [] = 0
index_above_pairs (p ∷ ps) = max (max (typ_index_above p.left) (typ_index_above p.right)) (index_above_pairs ps)
