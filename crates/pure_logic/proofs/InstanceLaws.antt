-- Instances of certified terms: an instance of an instance of a schematic type is an instance of it.
use Rattle.std.proofs.Common.{◌≡◌, List, ap, refl, ◌∙◌}
use Rattle.pure_definitions.specs.Types.Typ.{Typ, TFree, TVar, Con, Typs, none, also}
use Rattle.pure_definitions.specs.Terms.Term.{Term, Const, Free, Var, Bound, Abs, App}
use Rattle.pure_definitions.specs.Terms.Subst.{typ_instance, typs_instance, term_instance, IsSortRespecting}
use Rattle.pure_definitions.specs.Declarations.Decl.{Decl, ConstDecl, algebra_of}
use Rattle.pure_definitions.specs.Declarations.Certified.{IsCertifiedTyp, IsInstance, HasCertifiedParts}
use Rattle.pure_definitions.proofs.OrderLaws.{sort_below-itself, of_sort-instance}
use Rattle.pure_logic.specs.Content.{Content, IsContent, IsWellFormed, IsSchematicTyp, AreSchematicTyps}
use Rattle.pure_logic.specs.Concludes.{AreRespecting}
use Rattle.pure_logic.proofs.WeakeningLaws.{typ_instance-certified}
use Rattle.pure_text.proofs.ListLaws.{each_at}

-- the map that makes an instance of an instance of a schematic type; fixed type variables stay
abbrev pub composed : (first second : Typ → Typ) → Typ → Typ
composed first second (TFree x s) = TFree x s
composed first second (TVar x i s) = typ_instance second (first (TVar x i s))
composed first second (Con k ts) = Con k ts

mutual
  typ_instance-composed : (first second : Typ → Typ) (T : Typ) → IsSchematicTyp T → typ_instance (composed first second) T ≡ typ_instance second (typ_instance first T)
  typ_instance-composed first second (TFree x s) h = absurd h
  typ_instance-composed first second (TVar x i s) h = refl
  typ_instance-composed first second (Con k ts) h = ap (Con k) (typs_instance-composed first second ts h)

  typs_instance-composed : (first second : Typ → Typ) (ts : Typs) → AreSchematicTyps ts → typs_instance (composed first second) ts ≡ typs_instance second (typs_instance first ts)
  typs_instance-composed first second none h = refl
  typs_instance-composed first second (also t ts) h = λ l. also (typ_instance-composed first second t h.0 l) (typs_instance-composed first second ts h.1 l)

instance-instance : (ds : List Decl) (typs : Typ → Typ) → IsSortRespecting (algebra_of ds) typs → (declared T : Typ) → IsSchematicTyp declared → IsInstance ds declared T
    → IsInstance ds declared (typ_instance typs T)
instance-instance ds typs r declared T schematic h = record {
  typs = composed h.typs typs;
  matches = record { fixed = λ x s. refl; is = typ_instance-composed h.typs typs declared schematic ∙ ap (typ_instance typs) h.matches.is };
  respecting = record {
    fixed = λ x s. sort_below-itself (algebra_of ds) s;
    schematic = λ x i s. of_sort-instance (algebra_of ds) typs r (h.typs (TVar x i s)) s (h.respecting.schematic x i s);
  };
}

-- The parts of a term's instance by respecting maps are certified where the term's own are.
module _ (Q : Content) (q : IsContent Q) (typs : Typ → Typ) (terms : Term → Term) (r : AreRespecting Q typs terms) where
  pub certified-instance : (T : Typ) → IsCertifiedTyp Q.declarations T → IsCertifiedTyp Q.declarations (typ_instance typs T)
  certified-instance T h = typ_instance-certified Q.declarations typs r.certified.fixed_typ r.certified.schematic_typ T h

  pub parts-instance : (t : Term) → HasCertifiedParts Q.declarations t → HasCertifiedParts Q.declarations (term_instance typs terms t)
  parts-instance (Const c T) h =
      let schematic = each_at (IsWellFormed Q) Q.declarations q.well_formed (ConstDecl c h.1.0) h.1.1 in
      (certified-instance T h.0, (h.1.0, h.1.1, instance-instance Q.declarations typs r.sorts h.1.0 T schematic h.1.2))
  parts-instance (Free x T) h = r.certified.fixed x T h
  parts-instance (Var x i T) h = r.certified.schematic x i T h
  parts-instance (Bound n) h = tt
  parts-instance (Abs T b) h = (certified-instance T h.0, parts-instance b h.1)
  parts-instance (App f a) h = (parts-instance f h.0, parts-instance a h.1)
