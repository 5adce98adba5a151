-- Renaming is what makes fixed variables schematic, and what raises indexes.
use Rattle.std.proofs.Common.{◌≡◌, ◌∙◌, ℕ, ◌+◌, ◌<◌, List, [], ◌∷◌, map, get_or, length, refl, ap, sym, subst, zero, suc, arith}
use Rattle.std.specs.Prelude.{if◌then◌else◌}
use Rattle.pure_text.specs.Lists.{Each}
use Rattle.pure_definitions.specs.Types.Typ.{Typ, TFree, TVar, Con, Typs, none, also, typs_of}
use Rattle.pure_definitions.specs.Terms.Term.{Term, Const, Free, Var, Bound, Abs, App}
use Rattle.pure_definitions.specs.Terms.Conditions.{IsVariable}
use Rattle.pure_definitions.specs.Terms.Subst.{typ_instance, term_instance}
use Rattle.pure_term_laws.specs.LawsOccurs.{IsTypVariable}
use Rattle.pure_term_laws.proofs.OccursLaws.{typ_instances-agree, agreeing_instance}
use Rattle.pure_logic.specs.Derivable.{Pair, Theorem}
use Rattle.pure_logic.specs.Laws.Maps.{Generalisation, schematic_typs, schematic_terms, generalised, raised_typs, raised_terms}
use Rattle.pure_inst.specs.Named.{is_named}
use Rattle.pure_inst.specs.Renaming.{Renames, renamed_typs, renamed_terms, renamed, IsRaisableTyp, AreRaisableTyps, IsRaisable, IsPairRaisable}
use Rattle.pure_inst.specs.Image.{pair_image, IsImage}
use Rattle.pure_inst.specs.Schematic.{generalisation}

-- By none each index can be raised.
mutual
  raisable_typ-none : (T : Typ) → IsRaisableTyp 0 T
  raisable_typ-none (TFree x s) = tt
  raisable_typ-none (TVar x i s) = λ h. absurd (omega arith)
  raisable_typ-none (Con k ts) = raisable_typs-none ts

  raisable_typs-none : (ts : Typs) → AreRaisableTyps 0 ts
  raisable_typs-none none = tt
  raisable_typs-none (also t ts) = (raisable_typ-none t, raisable_typs-none ts)

pub raisable-none : (t : Term) → IsRaisable 0 t
raisable-none (Const c T) = raisable_typ-none T
raisable-none (Free x T) = raisable_typ-none T
raisable-none (Var x i T) = (λ h. absurd (omega arith), raisable_typ-none T)
raisable-none (Bound n) = tt
raisable-none (Abs T b) = (raisable_typ-none T, raisable-none b)
raisable-none (App f a) = (raisable-none f, raisable-none a)

pub raisable-none_pairs : (ps : List Pair) → Each (IsPairRaisable 0) ps
raisable-none_pairs [] = tt
raisable-none_pairs (p ∷ ps) = ((raisable-none p.left, raisable-none p.right), raisable-none_pairs ps)

-- the type at a place of a list that can be raised
pub raisable-item : (by : ℕ) (ts : List Typ) (i : ℕ) (t : Typ) → AreRaisableTyps by (typs_of ts) → i < length ts → t ≡ get_or ts i t → IsRaisableTyp by t
raisable-item by [] i t h within e = absurd (omega arith)
raisable-item by (u ∷ us) zero t h within e = subst (IsRaisableTyp by) (sym e) h.0
raisable-item by (u ∷ us) (suc i) t h within e = raisable-item by us i t h.1 (omega arith) e

add-none : (i : ℕ) → i + 0 ≡ i
add-none i = omega arith

-- Where no index is raised it is generalisation.
pub renamed-generalised : (tfrees frees : List ℕ) (index : ℕ) (t : Term) → renamed (record { typs = tfrees; terms = frees; index = index; by = 0 }) t ≡ generalised (generalisation tfrees frees index) t
renamed-generalised tfrees frees index t = agreeing_instance (renamed_typs r) (schematic_typs g) (renamed_terms r) (schematic_terms g) t (record { on_typs = λ v is o. on_typs v is; on_terms = λ u is o. on_terms u is })
  where
    r : Renames
    r = record { typs = tfrees; terms = frees; index = index; by = 0 }

    g : Generalisation
    g = generalisation tfrees frees index

    on_typs : (v : Typ) → IsTypVariable v → renamed_typs r v ≡ schematic_typs g v
    on_typs (TFree x s) is = refl
    on_typs (TVar x i s) is = ap (λ j. TVar x j s) (add-none i)
    on_typs (Con k ts) is = absurd is

    same : (T : Typ) → typ_instance (renamed_typs r) T ≡ typ_instance (schematic_typs g) T
    same T = typ_instances-agree (renamed_typs r) (schematic_typs g) T (λ v is o. on_typs v is)

    on_terms : (u : Term) → IsVariable u → renamed_terms r u ≡ schematic_terms g u
    on_terms (Free x T) is = ap (λ U. if is_named frees x then Var x index U else Free x U) (same T)
    on_terms (Var x i T) is = λ l. Var x (add-none i l) (same T l)
    on_terms (Const c T) is = absurd is
    on_terms (Bound n) is = absurd is
    on_terms (Abs T b) is = absurd is
    on_terms (App f a) is = absurd is

-- Where no names are given it raises.
pub renamed-raised : (by : ℕ) (t : Term) → renamed (record { typs = []; terms = []; index = 0; by = by }) t ≡ term_instance (raised_typs by) (raised_terms by) t
renamed-raised by t = agreeing_instance (renamed_typs r) (raised_typs by) (renamed_terms r) (raised_terms by) t (record { on_typs = λ v is o. on_typs v is; on_terms = λ u is o. on_terms u is })
  where
    r : Renames
    r = record { typs = []; terms = []; index = 0; by = by }

    on_typs : (v : Typ) → IsTypVariable v → renamed_typs r v ≡ raised_typs by v
    on_typs (TFree x s) is = refl
    on_typs (TVar x i s) is = refl
    on_typs (Con k ts) is = absurd is

    same : (T : Typ) → typ_instance (renamed_typs r) T ≡ typ_instance (raised_typs by) T
    same T = typ_instances-agree (renamed_typs r) (raised_typs by) T (λ v is o. on_typs v is)

    on_terms : (u : Term) → IsVariable u → renamed_terms r u ≡ raised_terms by u
    on_terms (Free x T) is = ap (Free x) (same T)
    on_terms (Var x i T) is = ap (Var x (i + by)) (same T)
    on_terms (Const c T) is = absurd is
    on_terms (Bound n) is = absurd is
    on_terms (Abs T b) is = absurd is
    on_terms (App f a) is = absurd is

-- The conclusion renamed so is generalised; the theorem renamed so is raised.
pub conclusion-generalised : (tfrees frees : List ℕ) (index : ℕ) (r : Renames) → r ≡ record { typs = tfrees; terms = frees; index = index; by = 0 } → (th made new : Theorem)
    → made ≡ record th { pairs = map (pair_image (renamed r)) th.pairs; prop = renamed r th.prop } → new ≡ made
    → (let g = generalisation tfrees frees index in new ≡ record th { pairs = map (pair_image (generalised g)) th.pairs; prop = generalised g th.prop })
conclusion-generalised tfrees frees index r is th made new h e =
    let plain : renamed r ≡ renamed (record { typs = tfrees; terms = frees; index = index; by = 0 }) = ap renamed is in
    let same : renamed (record { typs = tfrees; terms = frees; index = index; by = 0 }) ≡ generalised (generalisation tfrees frees index) = λ l t. renamed-generalised tfrees frees index t l in
    (e ∙ h) ∙ ap (λ (f : Term → Term). record th { pairs = map (pair_image f) th.pairs; prop = f th.prop }) (plain ∙ same)

pub theorem-raised : (by : ℕ) (r : Renames) → r ≡ record { typs = []; terms = []; index = 0; by = by } → (th new : Theorem) → IsImage (renamed r) th new → IsImage (term_instance (raised_typs by) (raised_terms by)) th new
theorem-raised by r is th new image =
    let plain : renamed r ≡ renamed (record { typs = []; terms = []; index = 0; by = by }) = ap renamed is in
    let same : renamed (record { typs = []; terms = []; index = 0; by = by }) ≡ term_instance (raised_typs by) (raised_terms by) = λ l t. renamed-raised by t l in
    subst (λ f. IsImage f th new) (plain ∙ same) image
