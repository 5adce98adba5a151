-- How large instances of types are, beside the types and their parts.
use Rattle.std.proofs.Common.{◌≤◌, inl, inr, subst, arith}
use Rattle.std.proofs.Math.Nat.{le_trans}
use Rattle.pure_definitions.specs.Types.Typ.{Typ, TFree, TVar, Con, Typs, none, also, typ_size, typs_size, typ_depth, typs_depth}
use Rattle.pure_definitions.specs.Types.Occurs.{OccursInTyp, OccursInTyps}
use Rattle.pure_definitions.specs.Terms.Subst.{typ_instance, typs_instance}
use Rattle.pure_definitions.specs.Terms.Limits.{IsWithinTyp}
use Rattle.pure_definitions.proofs.TypsLemmas.{typ_size-some, typ_depth-some}

-- Types only grow under maps.
mutual
  pub size-grows : (f : Typ → Typ) (t : Typ) → typ_size t ≤ typ_size (typ_instance f t)
  size-grows f (TFree x s) = let some = typ_size-some (f (TFree x s)) in omega arith
  size-grows f (TVar x i s) = let some = typ_size-some (f (TVar x i s)) in omega arith
  size-grows f (Con k ts) = let inside = sizes-grow f ts in omega arith

  sizes-grow : (f : Typ → Typ) (ts : Typs) → typs_size ts ≤ typs_size (typs_instance f ts)
  sizes-grow f none = omega arith
  sizes-grow f (also t ts) = let here = size-grows f t in let there = sizes-grow f ts in omega arith

mutual
  pub depth-grows : (f : Typ → Typ) (t : Typ) → typ_depth t ≤ typ_depth (typ_instance f t)
  depth-grows f (TFree x s) = let some = typ_depth-some (f (TFree x s)) in omega arith
  depth-grows f (TVar x i s) = let some = typ_depth-some (f (TVar x i s)) in omega arith
  depth-grows f (Con k ts) = let inside = depths-grow f ts in omega arith

  depths-grow : (f : Typ → Typ) (ts : Typs) → typs_depth ts ≤ typs_depth (typs_instance f ts)
  depths-grow f none = omega arith
  depths-grow f (also t ts) = let here = depth-grows f t in let there = depths-grow f ts in omega arith

-- A type whose instance is within the limits is so too.
pub shrinks : (f : Typ → Typ) (t : Typ) → IsWithinTyp (typ_instance f t) → IsWithinTyp t
shrinks f t w = record { size = le_trans (size-grows f t) w.size; depth = le_trans (depth-grows f t) w.depth }

-- A part's instance is no larger than that of the whole.
mutual
  part-size : (f : Typ → Typ) (v t : Typ) → OccursInTyp v t → typ_size (typ_instance f v) ≤ typ_size (typ_instance f t)
  part-size f v (TFree x s) o = subst (λ (u : Typ). typ_size (typ_instance f v) ≤ typ_size (typ_instance f u)) o (omega arith)
  part-size f v (TVar x i s) o = subst (λ (u : Typ). typ_size (typ_instance f v) ≤ typ_size (typ_instance f u)) o (omega arith)
  part-size f v (Con k ts) (inl e) = subst (λ (u : Typ). typ_size (typ_instance f v) ≤ typ_size (typ_instance f u)) e (omega arith)
  part-size f v (Con k ts) (inr o) = let inside = parts-size f v ts o in omega arith

  parts-size : (f : Typ → Typ) (v : Typ) (ts : Typs) → OccursInTyps v ts → typ_size (typ_instance f v) ≤ typs_size (typs_instance f ts)
  parts-size f v none o = absurd o
  parts-size f v (also t ts) (inl o) = let here = part-size f v t o in omega arith
  parts-size f v (also t ts) (inr o) = let there = parts-size f v ts o in omega arith

mutual
  part-depth : (f : Typ → Typ) (v t : Typ) → OccursInTyp v t → typ_depth (typ_instance f v) ≤ typ_depth (typ_instance f t)
  part-depth f v (TFree x s) o = subst (λ (u : Typ). typ_depth (typ_instance f v) ≤ typ_depth (typ_instance f u)) o (omega arith)
  part-depth f v (TVar x i s) o = subst (λ (u : Typ). typ_depth (typ_instance f v) ≤ typ_depth (typ_instance f u)) o (omega arith)
  part-depth f v (Con k ts) (inl e) = subst (λ (u : Typ). typ_depth (typ_instance f v) ≤ typ_depth (typ_instance f u)) e (omega arith)
  part-depth f v (Con k ts) (inr o) = let inside = parts-depth f v ts o in omega arith

  parts-depth : (f : Typ → Typ) (v : Typ) (ts : Typs) → OccursInTyps v ts → typ_depth (typ_instance f v) ≤ typs_depth (typs_instance f ts)
  parts-depth f v none o = absurd o
  parts-depth f v (also t ts) (inl o) = let here = part-depth f v t o in omega arith
  parts-depth f v (also t ts) (inr o) = let there = parts-depth f v ts o in omega arith

pub part_within : (f : Typ → Typ) (v t : Typ) → OccursInTyp v t → IsWithinTyp (typ_instance f t) → IsWithinTyp (typ_instance f v)
part_within f v t o w = record { size = le_trans (part-size f v t o) w.size; depth = le_trans (part-depth f v t o) w.depth }
