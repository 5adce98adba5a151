-- Graphs of types have values: by ranks; where they are closed, under the sorts that are asked; and the values are those of types under a substitution.
use Rattle.std.proofs.Common.{◌≡◌, ℕ, zero, suc, ◌<◌, List, [], ◌∷◌, map, length, Option, Some, None, inl, inr, refl, ap, sym, subst, ◌∙◌, arith, Bool, true, false, cond}
use Rattle.std.specs.List.{slice_get}
use Rattle.std.proofs.lemmas.Option.{slice_get_within}
use Rattle.std.proofs.lemmas.Bool.{cases_lt}
use Rattle.pure_text.specs.Lists.{IsIn, Each, EachTwo}
use Rattle.pure_text.proofs.ListLaws.{each_of, each_at, each_imply, any_of}
use Rattle.pure_definitions.specs.Types.Typ.{Typ, TFree, TVar, Con, Typs, none, also, typs_of, typ_eq}
use Rattle.pure_definitions.specs.Types.Order.{Algebra, IsClassBelow, itself, IsOfClass, IsOfSort}
use Rattle.pure_definitions.specs.Terms.Subst.{typ_instance, typs_instance}
use Rattle.pure_definitions.specs.Models.Equality.{typ_eq-same, typ_eq-itself}
use Rattle.pure_definitions.proofs.OrderLaws.{sort_below-itself}
use Rattle.pure_order.proofs.DomainLaws.{are_of_sorts}
use Rattle.pure_tunify.specs.Unifiers.{IsSubstitution}
use Rattle.pure_tunify.specs.Graphs.{Part, fixed, variable, made, StandsFor, StandForEach, Fits, FitsAll, IsBuiltAs, AreRanked, Agrees, IsMet, IsClosed, HaveValues}

maps_agree : (P : ℕ → Type 0) (f g : ℕ → Typ) (js : List ℕ) → Each P js → ((j : ℕ) → P j → f j ≡ g j) → map f js ≡ map g js
maps_agree P f g [] each h = refl
maps_agree P f g (j ∷ js) each h = λ l. h j each.0 l ∷ maps_agree P f g js each.1 h l

map_after : (root : ℕ → ℕ) (f : ℕ → Typ) (js : List ℕ) → map (λ j. f (root j)) js ≡ map f (map root js)
map_after root f [] = refl
map_after root f (j ∷ js) = ap (λ ts. f (root j) ∷ ts) (map_after root f js)

-- the value of a class from those of others
abbrev built_of : (leaf : ℕ → Typ) (root : ℕ → ℕ) → (ℕ → Typ) → ℕ → Option Part → Typ
built_of leaf root inner r None = leaf r
built_of leaf root inner r (Some (fixed x s)) = TFree x s
built_of leaf root inner r (Some (variable x i s)) = leaf r
built_of leaf root inner r (Some (made k kids)) = Con k (typs_of (map (λ kid. inner (root kid)) kids))

-- the value, so many levels deep
abbrev level : (leaf : ℕ → Typ) (root : ℕ → ℕ) (shape : ℕ → Option Part) → ℕ → ℕ → Typ
level leaf root shape zero r = leaf r
level leaf root shape (suc n) r = built_of leaf root (level leaf root shape n) r (shape r)

-- Values that are made from below.
module _ (leaf : ℕ → Typ) (root : ℕ → ℕ) (shape : ℕ → Option Part) (rank : ℕ → ℕ) (ranked : AreRanked root shape rank) where
  -- More levels than the rank make no difference.
  levels_agree : (n m r : ℕ) → rank r < n → rank r < m → level leaf root shape n r ≡ level leaf root shape m r
  levels_agree zero m r a b = absurd (omega arith)
  levels_agree (suc n) zero r a b = absurd (omega arith)
  levels_agree (suc n) (suc m) r a b = by (shape r) refl (λ q less. levels_agree n m q (omega arith) (omega arith))
    where
      by : (o : Option Part) → shape r ≡ o → ((q : ℕ) → rank q < rank r → level leaf root shape n q ≡ level leaf root shape m q)
          → built_of leaf root (level leaf root shape n) r o ≡ built_of leaf root (level leaf root shape m) r o
      by None e again = refl
      by (Some (fixed x s)) e again = refl
      by (Some (variable x i s)) e again = refl
      by (Some (made k kids)) e again =
          ap (λ ts. Con k (typs_of ts)) (maps_agree (λ kid. rank (root kid) < rank r) (λ kid. level leaf root shape n (root kid)) (λ kid. level leaf root shape m (root kid)) kids (ranked r k kids e) (λ kid less. again (root kid) less))

  abbrev ranked_value : ℕ → Typ
  ranked_value r = level leaf root shape (suc (rank r)) r

  value_built : (r : ℕ) (o : Option Part) → shape r ≡ o → IsBuiltAs leaf root ranked_value r o
  value_built r None e = ap (built_of leaf root (level leaf root shape (rank r)) r) e
  value_built r (Some (fixed x s)) e = ap (built_of leaf root (level leaf root shape (rank r)) r) e
  value_built r (Some (variable x i s)) e = ap (built_of leaf root (level leaf root shape (rank r)) r) e
  value_built r (Some (made k kids)) e =
      ap (built_of leaf root (level leaf root shape (rank r)) r) e
      ∙ ap (λ ts. Con k (typs_of ts)) (maps_agree (λ kid. rank (root kid) < rank r) (λ kid. level leaf root shape (rank r) (root kid)) (λ kid. ranked_value (root kid)) kids (ranked r k kids e)
      (λ kid less. levels_agree (rank r) (suc (rank (root kid))) (root kid) less (omega arith)))

  pub built : (value : ℕ → Typ) × ((r : ℕ) → IsBuiltAs leaf root value r (shape r))
  built = (ranked_value, λ r. value_built r (shape r) refl)

-- Nodes in closed classes.
module _ (A : Algebra) (parts : List Part) (root : ℕ → ℕ) (shape : ℕ → Option Part) (rank : ℕ → ℕ) (asked : ℕ → List ℕ) (closed : IsClosed A parts root shape rank asked) where
  abbrev leaf_of : ℕ → Typ
  leaf_of r = TVar 0 0 (asked r)

  -- The value of a class is of each class of types that is asked of it.
  module _ (v : ℕ → Typ) (are : (r : ℕ) → IsBuiltAs leaf_of root v r (shape r)) where
    leaf_of_class : (r c : ℕ) → v r ≡ leaf_of r → IsIn c (asked r) → IsOfClass A (v r) c
    leaf_of_class r c e m = subst (λ (T : Typ). IsOfClass A T c) (sym e) (any_of (λ b. IsClassBelow A b c) c (asked r) m itself)

    kids_of_sorts : (kids : List ℕ) (domains : List (List ℕ)) → Each (λ kid. (c : ℕ) → IsIn c (asked (root kid)) → IsOfClass A (v (root kid)) c) kids
        → EachTwo (λ kid sort. Each (λ d. IsIn d (asked (root kid))) sort) kids domains → EachTwo (IsOfSort A) (map (λ kid. v (root kid)) kids) domains
    kids_of_sorts [] [] each two = two
    kids_of_sorts [] (s ∷ ss) each two = two
    kids_of_sorts (j ∷ js) [] each two = two
    kids_of_sorts (j ∷ js) (s ∷ ss) each two =
        (each_of (IsOfClass A (v (root j))) s (λ c m. each.0 c (each_at (λ d. IsIn d (asked (root j))) s two.0 c m)), kids_of_sorts js ss each.1 two.1)

    of_asked : (n r c : ℕ) → rank r < n → IsIn c (asked r) → IsOfClass A (v r) c
    of_asked zero r c less m = absurd (omega arith)
    of_asked (suc n) r c less m = by (shape r) refl (are r) (closed.met r c m) (λ q d lower k. of_asked n q d (omega arith) k)
      where
        by : (o : Option Part) → shape r ≡ o → IsBuiltAs leaf_of root v r o → IsMet A root asked c o → ((q d : ℕ) → rank q < rank r → IsIn d (asked q) → IsOfClass A (v q) d) → IsOfClass A (v r) c
        by None e is met again = leaf_of_class r c is m
        by (Some (fixed x s)) e is met again = subst (λ (T : Typ). IsOfClass A T c) (sym is) met
        by (Some (variable x i s)) e is met again = leaf_of_class r c is m
        by (Some (made k kids)) e is met again =
            subst (λ (T : Typ). IsOfClass A T c) (sym is)
            (met.1 (typs_of (map (λ kid. v (root kid)) kids))
            ((are_of_sorts A (map (λ kid. v (root kid)) kids) met.0).1
            (kids_of_sorts kids met.0
            (each_imply (λ kid. rank (root kid) < rank r) (λ kid. (d : ℕ) → IsIn d (asked (root kid)) → IsOfClass A (v (root kid)) d) kids (λ kid lower d k. again (root kid) d lower k) (closed.ranked r k kids e))
            met.2)))

    fits_closed : (i : ℕ) (p : Part) → Agrees root asked (shape (root i)) (root i) p → Fits A (λ j. v (root j)) p (v (root i))
    fits_closed i (fixed x s) agree = subst (IsBuiltAs leaf_of root v (root i)) agree (are (root i))
    fits_closed i (variable x j s) agree = each_of (IsOfClass A (v (root i))) s (λ c m. of_asked (suc (rank (root i))) (root i) c (omega arith) (each_at (λ d. IsIn d (asked (root i))) s agree c m))
    fits_closed i (made k kids) agree =
        (let shaped : v (root i) ≡ Con k (typs_of (map (λ kid. v (root kid)) agree.0)) = subst (IsBuiltAs leaf_of root v (root i)) agree.1 (are (root i)) in shaped)
        ∙ ap (λ ts. Con k (typs_of ts)) (map_after root v agree.0 ∙ (ap (map v) (sym agree.2) ∙ sym (map_after root v kids)))

  pub closed_values : HaveValues A parts root
  closed_values =
      let b = built leaf_of root shape rank closed.ranked in
      record {
        value = λ i. b.0 (root i);
        fits = λ i p at. fits_closed b.0 b.1 i p (closed.agree i p at);
        same = λ i j e. ap b.0 e;
      }

-- the schematic variable that a part is, or a type that is none
abbrev part_typ : Option Part → Typ
part_typ None = Con 0 none
part_typ (Some (fixed x s)) = Con 0 none
part_typ (Some (variable x i s)) = TVar x i s
part_typ (Some (made k kids)) = Con 0 none

part_variable : (o : Option Part) (x i : ℕ) (s : List ℕ) → part_typ o ≡ TVar x i s → o ≡ Some (variable x i s)
part_variable None x i s e = absurd (cc)
part_variable (Some (fixed y r)) x i s e = absurd (cc)
part_variable (Some (variable y j r)) x i s e = cc
part_variable (Some (made k kids)) x i s e = absurd (cc)

-- Values of nodes, and types that the nodes stand for.
module _ (A : Algebra) (parts : List Part) (value : ℕ → Typ) (fits : FitsAll A parts value) where
  -- the value of a node below the number that is the variable, or the variable itself
  abbrev found_value : ℕ → Typ → Typ
  found_value zero v = v
  found_value (suc n) v = cond (typ_eq (part_typ (slice_get parts n)) v) (value n) (found_value n v)

  abbrev by_values : Typ → Typ
  by_values (TFree x s) = TFree x s
  by_values (TVar x i s) = found_value (length parts) (TVar x i s)
  by_values (Con k ts) = Con k ts

  found_of_sort : (n x i : ℕ) (s : List ℕ) → IsOfSort A (found_value n (TVar x i s)) s
  found_of_sort zero x i s = sort_below-itself A s
  found_of_sort (suc n) x i s = by (typ_eq (part_typ (slice_get parts n)) (TVar x i s)) refl (found_of_sort n x i s)
    where
      by : (b : Bool) → typ_eq (part_typ (slice_get parts n)) (TVar x i s) ≡ b → IsOfSort A (found_value n (TVar x i s)) s → IsOfSort A (cond b (value n) (found_value n (TVar x i s))) s
      by true e rest = fits n (variable x i s) (part_variable (slice_get parts n) x i s (typ_eq-same (part_typ (slice_get parts n)) (TVar x i s) e))
      by false e rest = rest

  values_substitute : IsSubstitution A by_values
  values_substitute = record {
    respects = record { fixed = λ x s. sort_below-itself A s; schematic = λ x i s. found_of_sort (length parts) x i s };
    keeps = λ x s. refl;
  }

  module _ (one : (i j x k : ℕ) (s : List ℕ) → slice_get parts i ≡ Some (variable x k s) → slice_get parts j ≡ Some (variable x k s) → value i ≡ value j) where
    found_is : (n i x k : ℕ) (s : List ℕ) → i < n → slice_get parts i ≡ Some (variable x k s) → found_value n (TVar x k s) ≡ value i
    found_is zero i x k s less at = absurd (omega arith)
    found_is (suc n) i x k s less at = by (typ_eq (part_typ (slice_get parts n)) (TVar x k s)) refl (λ lower. found_is n i x k s lower at)
      where
        itself_there : n ≡ i → typ_eq (part_typ (slice_get parts n)) (TVar x k s) ≡ true
        itself_there e = ap (λ m. typ_eq (part_typ (slice_get parts m)) (TVar x k s)) e ∙ (ap (λ o. typ_eq (part_typ o) (TVar x k s)) at ∙ typ_eq-itself (TVar x k s))

        false_true : false ≡ true → ⊥
        false_true e = cc

        by : (b : Bool) → typ_eq (part_typ (slice_get parts n)) (TVar x k s) ≡ b → (i < n → found_value n (TVar x k s) ≡ value i) → cond b (value n) (found_value n (TVar x k s)) ≡ value i
        by true e rest = one n i x k s (part_variable (slice_get parts n) x k s (typ_eq-same (part_typ (slice_get parts n)) (TVar x k s) e)) at
        by false e rest = elim (cases_lt i n) [ inl lower ↦ rest lower | inr up ↦ absurd (false_true (sym e ∙ itself_there (omega arith))) ]

    mutual
      value_of_typ : (i : ℕ) (t : Typ) → StandsFor parts i t → typ_instance by_values t ≡ value i
      value_of_typ i (TFree x s) at = sym (fits i (fixed x s) at)
      value_of_typ i (TVar x k s) at = found_is (length parts) i x k s (slice_get_within parts i (variable x k s) at) at
      value_of_typ i (Con k ts) at = ap (Con k) (values_of_typs at.0 ts at.2) ∙ sym (fits i (made k at.0) at.1)

      values_of_typs : (kids : List ℕ) (ts : Typs) → StandForEach parts kids ts → typs_instance by_values ts ≡ typs_of (map value kids)
      values_of_typs [] none each = refl
      values_of_typs [] (also t ts) each = absurd each
      values_of_typs (j ∷ js) none each = absurd each
      values_of_typs (j ∷ js) (also t ts) each = λ l. also (value_of_typ j t each.0 l) (values_of_typs js ts each.1 l)

    pub values_unify : (typs : Typ → Typ) × IsSubstitution A typs × ((i : ℕ) (t : Typ) → StandsFor parts i t → typ_instance typs t ≡ value i)
    values_unify = (by_values, values_substitute, value_of_typ)

-- What a substitution makes of the types that nodes stand for are values of the nodes.
module _ (A : Algebra) (parts : List Part) (below : (i k : ℕ) (kids : List ℕ) → slice_get parts i ≡ Some (made k kids) → Each (λ kid. kid < i) kids) (typs : Typ → Typ) (sub : IsSubstitution A typs) where
  abbrev leaf_under : ℕ → Typ
  leaf_under i = typs (part_typ (slice_get parts i))

  module _ (v : ℕ → Typ) (are : (i : ℕ) → IsBuiltAs leaf_under (λ j. j) v i (slice_get parts i)) where
    built_at : (i : ℕ) (p : Part) → slice_get parts i ≡ Some p → IsBuiltAs leaf_under (λ j. j) v i (Some p)
    built_at i p at = subst (IsBuiltAs leaf_under (λ j. j) v i) at (are i)

    variable_at : (i x k : ℕ) (s : List ℕ) → slice_get parts i ≡ Some (variable x k s) → v i ≡ typs (TVar x k s)
    variable_at i x k s at = built_at i (variable x k s) at ∙ ap (λ o. typs (part_typ o)) at

    fits_under : FitsAll A parts v
    fits_under i (fixed x s) at = built_at i (fixed x s) at
    fits_under i (variable x k s) at = subst (λ (T : Typ). IsOfSort A T s) (sym (variable_at i x k s at)) (sub.respects.schematic x k s)
    fits_under i (made k kids) at = built_at i (made k kids) at

    mutual
      instance_at : (i : ℕ) (t : Typ) → StandsFor parts i t → v i ≡ typ_instance typs t
      instance_at i (TFree x s) at = built_at i (fixed x s) at ∙ sym (sub.keeps x s)
      instance_at i (TVar x k s) at = variable_at i x k s at
      instance_at i (Con k ts) at = built_at i (made k at.0) at.1 ∙ ap (Con k) (instances_at at.0 ts at.2)

      instances_at : (kids : List ℕ) (ts : Typs) → StandForEach parts kids ts → typs_of (map v kids) ≡ typs_instance typs ts
      instances_at [] none each = refl
      instances_at [] (also t ts) each = absurd each
      instances_at (j ∷ js) none each = absurd each
      instances_at (j ∷ js) (also t ts) each = λ l. also (instance_at j t each.0 l) (instances_at js ts each.1 l)

  pub unifier_values : (value : ℕ → Typ) × FitsAll A parts value × ((i : ℕ) (t : Typ) → StandsFor parts i t → value i ≡ typ_instance typs t)
  unifier_values =
      let b = built leaf_under (λ j. j) (slice_get parts) (λ j. j) below in
      (b.0, fits_under b.0 b.1, instance_at b.0 b.1)
