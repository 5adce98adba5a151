-- A constructor applied to one type twice.
use Rattle.std.proofs.Common.{◌≡◌, ℕ, ◌-◌, ◌<◌, ◌∙◌, List, [], ◌∷◌, length, get_or, Option, Some, None, Bool, true, refl, ap, sym, subst, arith}
use Rattle.pure_definitions.specs.Types.Typ.{Typ, Con, typs_of, typ_eq, typ_size, typ_depth}
use Rattle.pure_definitions.specs.Models.Equality.{typ_eq-same}
use Rattle.pure_definitions.specs.Terms.Subst.{TypBind, typ_instance}
use Rattle.pure_definitions.specs.Terms.Limits.{Leaves}
use Rattle.pure_definitions.proofs.LeavesLemmas.{HasPut, put-stops}
use Rattle.pure_tunify.specs.declared.resolve.Resolved.{Resolved}
use Rattle.pure_tunify.specs.Settings.{composed}
use Rattle.pure_tunify.specs.Working.{IsPutIn, IsResolved, IsPutTwice, twice_applied}

-- Two types that are the same one.
pub same_twice : (ts : List Typ) (front back : Typ) (same : Bool) → length ts ≡ 2 → front ≡ get_or ts 0 front → back ≡ get_or ts 1 back → same ≡ typ_eq front back → same ≡ true → ts ≡ front ∷ front ∷ []
same_twice [] front back same two first second told e = absurd (omega arith)
same_twice (t ∷ []) front back same two first second told e = absurd (omega arith)
same_twice (t ∷ u ∷ []) front back same two first second told e = λ l. sym first l ∷ (sym second ∙ sym (typ_eq-same front back (sym told ∙ e))) l ∷ []
same_twice (t ∷ u ∷ v ∷ ts) front back same two first second told e = absurd (omega arith)

-- Where the first of the two doesn't fit, both don't.
module _ (k left deep : ℕ) (t : Typ) (some : 0 < left) (high : 0 < deep) where
  none_put : HasPut (t ∷ t ∷ []) left deep 0 (left - 1)
  none_put = record { size = omega arith; depth = omega arith }

  first_stops : Leaves (left - 1) (deep - 1) (typ_size t) (typ_depth t) None → Leaves left deep (typ_size (twice_applied k t)) (typ_depth (twice_applied k t)) None
  first_stops none = put-stops (t ∷ t ∷ []) left deep 0 (left - 1) t none_put (omega arith) refl none

pub none_twice : (k room : ℕ) → IsPutTwice k room None None
none_twice k room t left deep some high e h = first_stops k left deep t some high (subst (λ (r : ℕ). Leaves (left - 1) r (typ_size t) (typ_depth t) None) (sym e) h)

-- What is resolved is put in, and the other way round.
resolved_put : (sets : List TypBind) (t : Typ) (left room : ℕ) (o : Option Resolved) → IsResolved sets t left room o → IsPutIn (typ_instance (composed sets) t) left room o
resolved_put sets t left room None h = h
resolved_put sets t left room (Some r) h = h

put_resolved : (sets : List TypBind) (t u : Typ) (left room : ℕ) (o : Option Resolved) → u ≡ typ_instance (composed sets) t → IsPutIn u left room o → IsResolved sets t left room o
put_resolved sets t u left room None e h = subst (λ (T : Typ). Leaves left room (typ_size T) (typ_depth T) None) e h
put_resolved sets t u left room (Some r) e h = subst (λ (T : Typ). (r.typ ≡ T) × Leaves left room (typ_size T) (typ_depth T) (Some r.left)) e h

pub twice_resolved : (sets : List TypBind) (t top : Typ) (k : ℕ) (args : List Typ) (part : Typ) (left room : ℕ) (half whole : Option Resolved) → typ_instance (composed sets) top ≡ typ_instance (composed sets) t → top ≡ Con k (typs_of args)
    → args ≡ part ∷ part ∷ [] → 0 < left → 0 < room → IsResolved sets part (left - 1) (room - 1) half → IsPutTwice k (room - 1) half whole → IsResolved sets t left room whole
twice_resolved sets t top k args part left room half whole same is two some high h put =
    put_resolved sets t (twice_applied k (typ_instance (composed sets) part)) left room whole (sym (ap (typ_instance (composed sets)) (is ∙ ap (λ ts. Con k (typs_of ts)) two)) ∙ same)
    (put (typ_instance (composed sets) part) left room some high refl (resolved_put sets part (left - 1) (room - 1) half h))
