-- Schematic type variables, and their occurrences in a type.
use Rattle.std.proofs.Common.{◌≡◌, ℕ, List, inl, inr}
use Rattle.pure_text.specs.Lists.{IsIn}
use Rattle.pure_text.proofs.ListLaws.{in-append_left, in-append_right}
use Rattle.pure_definitions.specs.Types.Typ.{Typ, TFree, TVar, Con, Typs, none, also}
use Rattle.pure_definitions.specs.Types.Occurs.{OccursInTyp, OccursInTyps}
use Rattle.pure_term_laws.specs.LawsOccurs.{IsTypVariable}
use Rattle.pure_tunify.specs.Occurrences.{schematics, schematics_of}
use Rattle.pure_tunify.specs.Procedure.{IsSchematic}
use Rattle.pure_tunify.proofs.NodeLaws.{variable_constructor, variable_fixed}

-- What occurs in a schematic variable is the variable.
pub schematic_occurs : (w z : Typ) → IsSchematic z → OccursInTyp w z → w ≡ z
schematic_occurs w (TFree x s) is o = absurd is
schematic_occurs w (TVar x i s) is o = o
schematic_occurs w (Con k ts) is o = absurd is

pub schematic_variable : (w : Typ) → IsSchematic w → IsTypVariable w
schematic_variable (TFree x s) is = tt
schematic_variable (TVar x i s) is = tt
schematic_variable (Con k ts) is = absurd is

pub fixed_schematic : (w : Typ) (x : ℕ) (s : List ℕ) → w ≡ TFree x s → IsSchematic w → ⊥
fixed_schematic (TFree y r) x s e is = is
fixed_schematic (TVar y j r) x s e is = variable_fixed y j x r s e
fixed_schematic (Con k ts) x s e is = is

pub constructor_schematic : (w : Typ) (k : ℕ) (ts : Typs) → w ≡ Con k ts → IsSchematic w → ⊥
constructor_schematic (TFree y r) k ts e is = is
constructor_schematic (TVar y j r) k ts e is = variable_constructor y j k r ts e
constructor_schematic (Con l us) k ts e is = is

mutual
  pub occurs_schematics : (w t : Typ) → IsSchematic w → OccursInTyp w t → IsIn w (schematics t)
  occurs_schematics w (TFree x s) is o = absurd (fixed_schematic w x s o is)
  occurs_schematics w (TVar x i s) is o = inl o
  occurs_schematics w (Con k ts) is (inl e) = absurd (constructor_schematic w k ts e is)
  occurs_schematics w (Con k ts) is (inr o) = occurs_schematics_of w ts is o

  occurs_schematics_of : (w : Typ) (ts : Typs) → IsSchematic w → OccursInTyps w ts → IsIn w (schematics_of ts)
  occurs_schematics_of w none is o = absurd o
  occurs_schematics_of w (also t ts) is (inl o) = in-append_left w (schematics t) (schematics_of ts) (occurs_schematics w t is o)
  occurs_schematics_of w (also t ts) is (inr o) = in-append_right w (schematics t) (schematics_of ts) (occurs_schematics_of w ts is o)
