-- Two ways to make the variables of a statement schematic are one.
use Rattle.std.proofs.Common.{◌≡◌, refl}
use Rattle.pure_definitions.specs.Types.Typ.{Typ, TFree, TVar, Con}
use Rattle.pure_definitions.specs.Terms.Term.{Term, Const, Free, Var, Bound, Abs, App}
use Rattle.pure_definitions.specs.Terms.Subst.{typ_instance, term_instance}
use Rattle.pure_logic.specs.Content.{schematic_typ_variable}
use Rattle.pure_logic.specs.Laws.Maps.{everything, schematic_typs, schematic_terms}
use Rattle.pure_statements.specs.Schematic.{schematic_variable}
use Rattle.pure_statements.specs.Laws.{SchematicIsGeneralised}

typs-same : (T : Typ) → schematic_typ_variable T ≡ schematic_typs (everything 0) T
typs-same (TFree x s) = refl
typs-same (TVar x i s) = refl
typs-same (Con k ts) = refl

terms-same : (t : Term) → schematic_variable t ≡ schematic_terms (everything 0) t
terms-same (Const c T) = refl
terms-same (Free x T) = λ j. Var x 0 (typ_instance (λ U. typs-same U j) T)
terms-same (Var x i T) = λ j. Var x i (typ_instance (λ U. typs-same U j) T)
terms-same (Bound n) = refl
terms-same (Abs T b) = refl
terms-same (App f a) = refl

pub schematic-is_generalised : SchematicIsGeneralised
schematic-is_generalised t = λ j. term_instance (λ U. typs-same U j) (λ u. terms-same u j) t
