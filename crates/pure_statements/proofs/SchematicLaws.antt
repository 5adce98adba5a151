-- A proposition with its fixed variables made schematic is a statement.
use Rattle.std.proofs.Common.{◌≡◌, ℕ, List, [], refl}
use Rattle.pure_definitions.specs.Types.Typ.{Typ, TFree, TVar, Con, Typs, none, also, prop}
use Rattle.pure_definitions.specs.Terms.Term.{Term, Const, Free, Var, Bound, Abs, App}
use Rattle.pure_definitions.specs.Terms.Subst.{typ_instance, typs_instance}
use Rattle.pure_definitions.specs.Declarations.Decl.{algebra_of}
use Rattle.pure_definitions.specs.Declarations.Certified.{IsCertifiedTyp}
use Rattle.pure_definitions.specs.Reduction.Beta.{IsAbs, IsBetaNormal}
use Rattle.pure_definitions.proofs.OrderLaws.{sort_below-itself}
use Rattle.pure_logic.specs.Content.{Content, IsContent, IsCertifiedOf, IsProposition, IsSchematicTyp, AreSchematicTyps, IsSchematic, IsStatement, schematic_typ_variable}
use Rattle.pure_logic.specs.Concludes.{AreRespecting}
use Rattle.pure_logic.proofs.SubstitutionLaws.{certified_of-instance}
use Rattle.pure_logic.proofs.WeakeningLaws.{typ_instance-certified}
use Rattle.pure_statements.specs.Schematic.{schematic_variable, generalised}

mutual
  pub schematic-typ : (T : Typ) → IsSchematicTyp (typ_instance schematic_typ_variable T)
  schematic-typ (TFree x s) = tt
  schematic-typ (TVar x i s) = tt
  schematic-typ (Con k ts) = schematic-typs ts

  schematic-typs : (ts : Typs) → AreSchematicTyps (typs_instance schematic_typ_variable ts)
  schematic-typs none = tt
  schematic-typs (also t ts) = (schematic-typ t, schematic-typs ts)

pub schematic-generalised : (t : Term) → IsSchematic (generalised t)
schematic-generalised (Const c T) = schematic-typ T
schematic-generalised (Free x T) = schematic-typ T
schematic-generalised (Var x i T) = schematic-typ T
schematic-generalised (Bound n) = tt
schematic-generalised (Abs T b) = (schematic-typ T, schematic-generalised b)
schematic-generalised (App f a) = (schematic-generalised f, schematic-generalised a)

module _ (Q : Content) where
  pub certified-schematic : (T : Typ) → IsCertifiedTyp Q.declarations T → IsCertifiedTyp Q.declarations (typ_instance schematic_typ_variable T)
  certified-schematic = typ_instance-certified Q.declarations schematic_typ_variable (λ x s c. c) (λ x i s c. c)

  respecting-schematic : AreRespecting Q schematic_typ_variable schematic_variable
  respecting-schematic = record {
    sorts = record {
      fixed = λ x s. sort_below-itself (algebra_of Q.declarations) s;
      schematic = λ x i s. sort_below-itself (algebra_of Q.declarations) s;
    };
    types = record { fixed = λ x T. refl; schematic = λ x i T. refl };
    certified = record {
      fixed_typ = λ x s c. c;
      schematic_typ = λ x i s c. c;
      fixed = λ x T c. certified-schematic T c;
      schematic = λ x i T c. certified-schematic T c;
    };
  }

  pub statement-generalised : IsContent Q → (t : Term) → IsProposition Q t → IsStatement Q (generalised t)
  statement-generalised content t is = record {
    proposition = certified_of-instance Q content schematic_typ_variable schematic_variable respecting-schematic t prop is;
    schematic = schematic-generalised t;
  }

not_abs-generalised : (t : Term) → (IsAbs t → ⊥) → IsAbs (generalised t) → ⊥
not_abs-generalised (Const c T) h a = a
not_abs-generalised (Free x T) h a = a
not_abs-generalised (Var x i T) h a = a
not_abs-generalised (Bound n) h a = a
not_abs-generalised (Abs T b) h a = h tt
not_abs-generalised (App f g) h a = a

-- It stays normal.
pub normal-generalised : (t : Term) → IsBetaNormal t → IsBetaNormal (generalised t)
normal-generalised (Const c T) n = tt
normal-generalised (Free x T) n = tt
normal-generalised (Var x i T) n = tt
normal-generalised (Bound k) n = tt
normal-generalised (Abs T b) n = normal-generalised b n
normal-generalised (App f a) n = (not_abs-generalised f n.0, normal-generalised f n.1, normal-generalised a n.2)
