-- Types that are their own instances.
use Rattle.std.proofs.Common.{◌≡◌, ◌≢◌, ◌↔◌, IsTrue, false, ℕ, ◌<◌, ◌+◌, List, ◌∷◌, map, length, take, get_or, sym, refl, subst, reverse, Bool, true}
use Rattle.std.specs.Prelude.{MatchBool}
use Rattle.std.proofs.lemmas.Bool.{false≢true}
use Rattle.pure_text.specs.Lists.{IsIn}
use Rattle.pure_text.proofs.LoopLaws.{longer_by}
use Rattle.pure_definitions.specs.Types.Typ.{Typ}
use Rattle.pure_definitions.specs.Types.Order.{Algebra}
use Rattle.pure_definitions.specs.Terms.Subst.{typ_variable, typ_instance}
use Rattle.pure_definitions.proofs.InstanceLemmas.{images-more}
use Rattle.pure_term_laws.specs.LawsOccurs.{IsTypVariable}
use Rattle.pure_tunify.specs.declared.pair.TypPair.{TypPair}
use Rattle.pure_tunify.specs.declared.meeting.Turned.{Turned}
use Rattle.pure_tunify.specs.declared.meeting.Turned.TheVariants.{Further, Never}
use Rattle.pure_tunify.specs.Steps.{pair}
use Rattle.pure_tunify.specs.Settings.{composed, Progress}
use Rattle.pure_tunify.specs.Procedure.{IsSchematic}
use Rattle.pure_tunify.specs.Working.{IsSetTo, CannotBeSetTo}
use Rattle.pure_tunify.specs.Meeting.{IsTurned, turned_by}
use Rattle.pure_tunify.proofs.PursueLaws.{met_left, met_right}

-- One more type of the list is its own instance.
pub same-more : (image : Typ → Typ) (ts : List Typ) (i : ℕ) (t : Typ) → map (typ_instance image) (take i ts) ≡ take i ts → typ_instance image t ≡ t → i < length ts → t ≡ get_or ts i t
    → map (typ_instance image) (take (i + 1) ts) ≡ take (i + 1) ts
same-more image ts i t so_far same k e = sym (images-more image ts (take i ts) (take (i + 1) ts) i t t (sym so_far) (longer_by ts i t k e) (sym same) k e)

-- What isn't so is told by false.
pub told : {P : Type 0} → ¬ P → IsTrue false ↔ P
told not = (λ e. absurd (false≢true e), λ p. absurd (not p))

-- A pair whose side is set to the other as it stands is a turn.
module _ (A : Algebra) (now new : Progress) (before : List TypPair) (left right : Typ) where
  pub set_left : (set : Bool) (turned : Turned) → turned ≡ turned_by set → IsSchematic left × (left ≢ right) → (IsTypVariable left → ¬ IsIn left (map typ_variable now.sets)) → (IsTypVariable right → ¬ IsIn right (map typ_variable now.sets))
      → MatchBool set (IsSetTo A now new left (typ_instance (composed now.sets) right)) (CannotBeSetTo A left (typ_instance (composed now.sets) right)) → IsTurned A now new (pair left right ∷ reverse before) (reverse before) turned
  set_left true turned e is free free_right h = subst (IsTurned A now new (pair left right ∷ reverse before) (reverse before)) (sym e) (met_left A now new before before left right Further is free free_right h refl)
  set_left false turned e is free free_right h = subst (IsTurned A now new (pair left right ∷ reverse before) (reverse before)) (sym e) (met_left A now new before before left right Never is free free_right h refl)

  pub set_right : (set : Bool) (turned : Turned) → turned ≡ turned_by set → (¬ IsSchematic left) × IsSchematic right → (IsTypVariable right → ¬ IsIn right (map typ_variable now.sets))
      → MatchBool set (IsSetTo A now new right (typ_instance (composed now.sets) left)) (CannotBeSetTo A right (typ_instance (composed now.sets) left)) → IsTurned A now new (pair left right ∷ reverse before) (reverse before) turned
  set_right true turned e is free h = subst (IsTurned A now new (pair left right ∷ reverse before) (reverse before)) (sym e) (met_right A now new before before left right Further is free h refl)
  set_right false turned e is free h = subst (IsTurned A now new (pair left right ∷ reverse before) (reverse before)) (sym e) (met_right A now new before before left right Never is free h refl)
