-- Types in which nothing is fixed, one after the other.
use Rattle.std.proofs.Common.{◌≡◌, ℕ, ◌+◌, ◌<◌, zero, suc, List, [], ◌∷◌, ◌++◌, take, length, get_or, sym, subst, arith}
use Rattle.pure_text.proofs.LoopLaws.{longer_by}
use Rattle.pure_definitions.specs.Types.Typ.{Typ, typs_of}
use Rattle.pure_logic.specs.Content.{IsSchematicTyp, AreSchematicTyps}

pub schematic-item : (ts : List Typ) (i : ℕ) (t : Typ) → i < length ts → t ≡ get_or ts i t → AreSchematicTyps (typs_of ts) → IsSchematicTyp t
schematic-item [] i t h e all = absurd (omega arith)
schematic-item (u ∷ us) zero t h e all = subst IsSchematicTyp (sym e) all.0
schematic-item (u ∷ us) (suc i) t h e all = schematic-item us i t (omega arith) e all.1

schematic-append : (ts : List Typ) (t : Typ) → AreSchematicTyps (typs_of ts) → IsSchematicTyp t → AreSchematicTyps (typs_of (ts ++ t ∷ []))
schematic-append [] t all here = (here, tt)
schematic-append (u ∷ us) t all here = (all.0, schematic-append us t all.1 here)

pub schematic-next : (ts : List Typ) (i : ℕ) (t : Typ) → i < length ts → t ≡ get_or ts i t → AreSchematicTyps (typs_of (take i ts)) → IsSchematicTyp t → AreSchematicTyps (typs_of (take (i + 1) ts))
schematic-next ts i t h e all here = subst (λ us. AreSchematicTyps (typs_of us)) (sym (longer_by ts i t h e)) (schematic-append (take i ts) t all here)
