-- What a type resolved is, from what a call answers that puts it in or makes it.
use Rattle.std.proofs.Common.{◌≡◌, ◌∙◌, ℕ, List, map, Option, Some, None, Result, IfOk, ap, sym, subst}
use Rattle.std.proofs.lemmas.Result.{IfOk-weaker}
use Rattle.pure_definitions.specs.Types.Typ.{Typ, Con, typs_of, typ_size, typ_depth}
use Rattle.pure_definitions.specs.Terms.Subst.{TypBind, typ_instance}
use Rattle.pure_definitions.specs.Terms.Limits.{Leaves}
use Rattle.pure_definitions.proofs.InstanceLemmas.{typs_instance-of}
use Rattle.pure_tunify.specs.Settings.{composed}
use Rattle.pure_tunify.specs.declared.resolve.Resolved.{Resolved}
use Rattle.pure_tunify.specs.Working.{IsPutIn, IsConstructed, IsResolved}
use Rattle.pure_tunify.proofs.WrittenLaws.{put_resolved}

-- One that is put in as it stands, where no variable of it is set.
pub stays_resolved : {E : Type 0} (sets : List TypBind) (t top : Typ) (left room : ℕ) → typ_instance (composed sets) top ≡ typ_instance (composed sets) t → typ_instance (composed sets) top ≡ top → (r : Result (Option Resolved) E)
    → IfOk r (IsPutIn top left room) → IfOk r (IsResolved sets t left room)
stays_resolved sets t top left room same stays r h = IfOk-weaker r (IsPutIn top left room) (IsResolved sets t left room) (λ o p. put_resolved sets t top left room o same stays p) h

-- A constructor applied to parts that are resolved.
pub made_resolved : {E : Type 0} (sets : List TypBind) (t top : Typ) (k : ℕ) (ts us : List Typ) (left room rest : ℕ) → typ_instance (composed sets) top ≡ typ_instance (composed sets) t → top ≡ Con k (typs_of ts)
    → us ≡ map (typ_instance (composed sets)) ts → Leaves left room (typ_size (typ_instance (composed sets) (Con k (typs_of ts)))) (typ_depth (typ_instance (composed sets) (Con k (typs_of ts)))) (Some rest)
    → (r : Result (Option Resolved) E) → IfOk r (IsConstructed (Con k (typs_of us)) rest) → IfOk r (IsResolved sets t left room)
made_resolved sets t top k ts us left room rest same is images leaves r h = IfOk-weaker r (IsConstructed (Con k (typs_of us)) rest) (IsResolved sets t left room) made h
  where
    whole : typ_instance (composed sets) (Con k (typs_of ts)) ≡ typ_instance (composed sets) t
    whole = ap (typ_instance (composed sets)) (sym is) ∙ same

    made : (o : Option Resolved) → IsConstructed (Con k (typs_of us)) rest o → IsResolved sets t left room o
    made None p = absurd p
    made (Some q) p = (
      p.0 ∙ (ap (λ (l : List Typ). Con k (typs_of l)) images ∙ (ap (Con k) (sym (typs_instance-of (composed sets) ts)) ∙ whole)),
      subst (λ (T : Typ). Leaves left room (typ_size T) (typ_depth T) (Some q.left)) whole
          (subst (λ (n : ℕ). Leaves left room (typ_size (typ_instance (composed sets) (Con k (typs_of ts)))) (typ_depth (typ_instance (composed sets) (Con k (typs_of ts)))) (Some n)) (sym p.1) leaves),
    )
