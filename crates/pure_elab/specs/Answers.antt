-- What the calls that elaborate answer.
use Rattle.std.specs.Prelude.{◌≡◌, ◌⊎◌, ℕ, List, [], map, Some, slice_get}
use Rattle.pure_definitions.specs.Types.Typ.{Typ, TVar}
use Rattle.pure_definitions.specs.Types.Occurs.{OccursInTyp}
use Rattle.pure_definitions.specs.Terms.Term.{Term, IsWithin}
use Rattle.pure_definitions.specs.Terms.Subst.{TypBind, inst_typ}
use Rattle.pure_tunify.specs.Settings.{composed}
use Rattle.pure_tunify.specs.Procedure.{Outcome, Unified, NotTyped, TooBig, Unifies}
use Rattle.pure_grammar.specs.Terms.RawTree.{RawTypTree, RawTree}
use Rattle.pure_elab.specs.declared.fault.NameFault.{NameFault}
use Rattle.pure_elab.specs.declared.fault.NameFault.TheVariants as fault
use Rattle.pure_elab.specs.declared.fault.FaultAt.{FaultAt}
use Rattle.pure_elab.specs.declared.fault.ElabFault.{ElabFault}
use Rattle.pure_elab.specs.declared.fault.ElabFault.TheVariants.{UnknownName, UnknownSort, WrongCount, Schematic, IllTyped, Big, Memory}
use Rattle.pure_elab.specs.Vocabulary.{Vocabulary}
use Rattle.pure_elab.specs.Faults.{term_faults, typ_faults, IsEarliest}
use Rattle.pure_elab.specs.Written.{term_classes, typ_classes, AreSorts, written_typ}
use Rattle.pure_elab.specs.Numbered.{with_fixed}
use Rattle.pure_elab.specs.Drafts.{Constraint, Draft, whole_draft, pair_of}
use Rattle.pure_elab.specs.Typings.{fresh_index}

-- No schematic type variable is in the type.
abbrev pub IsFixedTyp : Typ → Type 0
IsFixedTyp T = (x i : ℕ) (s : List ℕ) → ¬ OccursInTyp (TVar x i s) T

-- the fault of a name, as one of elaboration
abbrev pub fault_of : FaultAt → ElabFault
fault_of f = fault_at f.at f.fault
  where
    fault_at : ℕ → NameFault → ElabFault
    fault_at at fault.UnknownName = UnknownName at
    fault_at at fault.UnknownSort = UnknownSort at
    fault_at at fault.WrongCount = WrongCount at
    fault_at at fault.Schematic = Schematic at

-- The constraints of the draft, in their order, come to this by unification of types.
abbrev pub Comes : Vocabulary → Draft → Outcome → Type 0
Comes V d outcome = Unifies V.algebra fresh_index 0 0 [] (map pair_of d.constraints) outcome

-- The term comes of the draft: it is the draft's term under the unifier that the procedure of type unification gives for the constraints in order, with the unknowns that are left made fixed.
pub record IsTyped (V : Vocabulary) (d : Draft) (t : Term) : Type 0 where
  pub sets : List TypBind
  pub next : ℕ
  pub unifies : Comes V d (Unified sets next)
  pub within : IsWithin (inst_typ (composed sets) d.term)
  pub is : t ≡ with_fixed V.fresh (inst_typ (composed sets) d.term)

-- The constraints have a typing, but the term under it isn't within the limits.
pub record IsTooLarge (V : Vocabulary) (d : Draft) : Type 0 where
  pub sets : List TypBind
  pub next : ℕ
  pub unifies : Comes V d (Unified sets next)
  pub beyond : ¬ IsWithin (inst_typ (composed sets) d.term)

-- The typing passes the limits of type unification at some constraint, before one without a solution.
abbrev pub HasTooLargeTyping : Vocabulary → Draft → Type 0
HasTooLargeTyping V d = (k : ℕ) × Comes V d (TooBig k)

-- The constraint at which typing fails has this place.
pub record IsIllTypedAt (V : Vocabulary) (d : Draft) (at : ℕ) : Type 0 where
  pub number : ℕ
  pub constraint : Constraint
  pub unifies : Comes V d (NotTyped number)
  pub stands : slice_get d.constraints number ≡ Some constraint
  pub place : at ≡ constraint.at

-- Why the draft isn't typed. Want of memory may come at any time.
abbrev pub IsTypingFault : Vocabulary → Draft → ElabFault → Type 0
IsTypingFault V d (IllTyped at) = IsIllTypedAt V d at
IsTypingFault V d Big = IsTooLarge V d ⊎ HasTooLargeTyping V d
IsTypingFault V d Memory = Unit {0}
IsTypingFault V d _ = ⊥

-- The text has no fault of names, and the draft with the sorts of its type variables.
pub record IsDraftOf (V : Vocabulary) (raw : RawTree) (T : Typ) (d : Draft) : Type 0 where
  pub sound : term_faults V [] raw ≡ []
  pub sorts : ℕ → List ℕ
  pub are_sorts : AreSorts V.algebra (term_classes V raw) sorts
  pub is : d ≡ whole_draft V sorts raw T

-- The fault of names that decides.
pub record IsNameFault (faults : List FaultAt) (fault : ElabFault) : Type 0 where
  pub found : FaultAt
  pub earliest : IsEarliest faults found
  pub is : fault ≡ fault_of found

-- The term is what the text says, at this type.
pub record IsElaborated (V : Vocabulary) (raw : RawTree) (T : Typ) (t : Term) : Type 0 where
  pub draft : Draft
  pub of_text : IsDraftOf V raw T draft
  pub typed : IsTyped V draft t

-- The text has a draft, which isn't typed for this reason.
pub record IsNotTyped (V : Vocabulary) (raw : RawTree) (T : Typ) (fault : ElabFault) : Type 0 where
  pub draft : Draft
  pub of_text : IsDraftOf V raw T draft
  pub reason : IsTypingFault V draft fault

-- Why the text says nothing at this type: the first fault of names, before all typing; or why the draft isn't typed.
abbrev pub IsElabFault : Vocabulary → RawTree → Typ → ElabFault → Type 0
IsElabFault V raw T (UnknownName at) = IsNameFault (term_faults V [] raw) (UnknownName at)
IsElabFault V raw T (UnknownSort at) = IsNameFault (term_faults V [] raw) (UnknownSort at)
IsElabFault V raw T (WrongCount at) = IsNameFault (term_faults V [] raw) (WrongCount at)
IsElabFault V raw T (Schematic at) = IsNameFault (term_faults V [] raw) (Schematic at)
IsElabFault V raw T (IllTyped at) = IsNotTyped V raw T (IllTyped at)
IsElabFault V raw T Big = IsNotTyped V raw T Big
IsElabFault V raw T Memory = Unit {0}

-- The type is what the text says.
pub record IsElaboratedTyp (V : Vocabulary) (raw : RawTypTree) (T : Typ) : Type 0 where
  pub sound : typ_faults V raw ≡ []
  pub sorts : ℕ → List ℕ
  pub are_sorts : AreSorts V.algebra (typ_classes V raw) sorts
  pub is : T ≡ written_typ V sorts raw

-- Why it says nothing: the first fault of names. A type is never ill-typed or too large.
abbrev pub IsElabTypFault : Vocabulary → RawTypTree → ElabFault → Type 0
IsElabTypFault V raw Memory = Unit {0}
IsElabTypFault V raw fault = IsNameFault (typ_faults V raw) fault
