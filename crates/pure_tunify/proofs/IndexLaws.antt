-- The index above those of types is that of no variable of them.
use Rattle.std.proofs.Common.{◌≡◌, ℕ, ◌+◌, ◌<◌, ◌≤◌, List, [], ◌∷◌, length, get_or, take, zero, suc, max, inl, inr, arith}
use Rattle.pure_text.specs.Lists.{Each}
use Rattle.pure_definitions.specs.Types.Typ.{Typ, TFree, TVar, Con, Typs, none, also}
use Rattle.pure_definitions.specs.Types.Occurs.{OccursInTyp, OccursInTyps}
use Rattle.pure_definitions.specs.Terms.Measures.{typ_index_above, typs_index_above}
use Rattle.pure_tunify.specs.declared.pair.TypPair.{TypPair}
use Rattle.pure_tunify.specs.Unifiers.{IsOld, IsOldPair}
use Rattle.pure_tunify.specs.Answers.{index_above_pairs}
use Rattle.pure_tunify.proofs.NodeLaws.{variable_constructor, variable_fixed}

same_index : (x i y j : ℕ) (s r : List ℕ) → TVar x i s ≡ TVar y j r → i ≡ j
same_index x i y j s r e = cc

mutual
  pub below_index : (x i : ℕ) (s : List ℕ) (t : Typ) → OccursInTyp (TVar x i s) t → i < typ_index_above t
  below_index x i s (TFree y r) o = absurd (variable_fixed x i y s r o)
  below_index x i s (TVar y j r) o = let same : i ≡ j = same_index x i y j s r o in omega arith
  below_index x i s (Con k ts) (inl e) = absurd (variable_constructor x i k s ts e)
  below_index x i s (Con k ts) (inr o) = below_index_all x i s ts o

  below_index_all : (x i : ℕ) (s : List ℕ) (ts : Typs) → OccursInTyps (TVar x i s) ts → i < typs_index_above ts
  below_index_all x i s none o = absurd o
  below_index_all x i s (also t ts) (inl o) = let here = below_index x i s t o in omega arith
  below_index_all x i s (also t ts) (inr o) = let there = below_index_all x i s ts o in omega arith

old_above : (index from : ℕ) (t : Typ) → typ_index_above t ≤ index → IsOld index from t
old_above index from t le (TVar x i s) o f = let below = below_index x i s t o in let same = f.0 in absurd (omega arith)
old_above index from t le (TFree x s) o f = f
old_above index from t le (Con k ts) o f = f

old_pairs_above : (index from : ℕ) (ps : List TypPair) → index_above_pairs ps ≤ index → Each (IsOldPair index from) ps
old_pairs_above index from [] le = tt
old_pairs_above index from (p ∷ ps) le = ((old_above index from p.left (omega arith), old_above index from p.right (omega arith)), old_pairs_above index from ps (omega arith))

pub above_pairs_old : (index from : ℕ) (ps : List TypPair) → index ≡ index_above_pairs ps → Each (IsOldPair index from) ps
above_pairs_old index from ps e = old_pairs_above index from ps (omega arith)

-- One pair more of a list.
pub index_above_pairs-take : (ps : List TypPair) (i : ℕ) (p : TypPair) → i < length ps → p ≡ get_or ps i p → index_above_pairs (take (i + 1) ps) ≡ max (index_above_pairs (take i ps)) (max (typ_index_above p.left) (typ_index_above p.right))
index_above_pairs-take [] i p h e = absurd (omega arith)
index_above_pairs-take (q ∷ qs) zero p h e = rw e (omega arith)
index_above_pairs-take (q ∷ qs) (suc i) p h e =
    let next : suc i + 1 ≡ suc (i + 1) = omega arith in
    let rest = index_above_pairs-take qs i p (omega arith) e in
    rw next (omega (arith, rest))
