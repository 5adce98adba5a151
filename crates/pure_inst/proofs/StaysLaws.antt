-- What the kept measures tell of instances, of renaming, and of fixed type variables.
use Rattle.std.proofs.Common.{◌≡◌, ◌∙◌, ℕ, List, [], Bool, true, false, refl, ap}
use Rattle.std.specs.Prelude.{◌&&◌}
use Rattle.pure_definitions.specs.Types.Typ.{Typ, TFree, TVar, Con, Typs, none, also}
use Rattle.pure_definitions.specs.Terms.Term.{Term}
use Rattle.pure_definitions.specs.Terms.Subst.{TypBind, TermBind, term_image, typ_instance, inst_term, KeepsFixedTyps, KeepsFixedTerms}
use Rattle.pure_definitions.specs.Terms.Measures.{typ_index_above, term_index_above, is_ground, are_ground}
use Rattle.pure_definitions.proofs.MeasureLemmas.{typ_stays, term_stays}
use Rattle.pure_term.proofs.StaysLemmas.{inst_typ_stays, inst_term_stays}
use Rattle.pure_logic.specs.Laws.Maps.{instantiated}
use Rattle.pure_inst.specs.Named.{LacksTyps, LackTyps}
use Rattle.pure_inst.specs.Renaming.{Renames, renamed_typs, renamed_terms, renamed}

-- A term without schematic variables stays under a call's maps.
pub instantiated_stays : (typs : List TypBind) (terms : List TermBind) (t : Term) → term_index_above t ≡ 0 → instantiated typs terms t ≡ t
instantiated_stays typs terms t e = ap (inst_term (term_image terms)) (inst_typ_stays typs t e) ∙ inst_term_stays terms t e

-- Where no names are given, fixed variables stay fixed; so types and terms without schematic variables stay.
typs_kept : (r : Renames) → r.typs ≡ [] → KeepsFixedTyps (renamed_typs r)
typs_kept r e x s = rw e refl

terms_kept : (r : Renames) → r.terms ≡ [] → KeepsFixedTerms (renamed_typs r) (renamed_terms r)
terms_kept r e x T = rw e refl

pub renamed_typ_stays : (r : Renames) → r.typs ≡ [] → (T : Typ) → typ_index_above T ≡ 0 → typ_instance (renamed_typs r) T ≡ T
renamed_typ_stays r e T h = typ_stays (renamed_typs r) (typs_kept r e) T h

pub renamed_stays : (r : Renames) → r.typs ≡ [] → r.terms ≡ [] → (t : Term) → term_index_above t ≡ 0 → renamed r t ≡ t
renamed_stays r e f t h = term_stays (renamed_typs r) (renamed_terms r) (typs_kept r e) (terms_kept r f) t h

left_true : (a b : Bool) → (a && b) ≡ true → a ≡ true
left_true true b e = refl
left_true false b e = e

right_true : (a b : Bool) → (a && b) ≡ true → b ≡ true
right_true true b e = e
right_true false b e = absurd (cc)

-- A ground type has no fixed type variable.
mutual
  pub ground_lacks : (names : List ℕ) (T : Typ) → is_ground T ≡ true → LacksTyps names T
  ground_lacks names (TFree x s) e = absurd (cc)
  ground_lacks names (TVar x i s) e = tt
  ground_lacks names (Con k ts) e = ground_lack names ts e

  ground_lack : (names : List ℕ) (ts : Typs) → are_ground ts ≡ true → LackTyps names ts
  ground_lack names none e = tt
  ground_lack names (also t ts) e = (ground_lacks names t (left_true (is_ground t) (are_ground ts) e), ground_lack names ts (right_true (is_ground t) (are_ground ts) e))
