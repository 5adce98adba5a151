-- The first place at which two types differ: what it is a part of, and what makes it equal.
use Rattle.std.proofs.Common.{◌≡◌, ℕ, List, Option, Some, None, Bool, true, false, nat_eq, inl, inr, refl, sym, subst, ◌∙◌, arith}
use Rattle.std.proofs.lemmas.Bool.{eqb-true, eq-eqb}
use Rattle.std.specs.Prelude.{◌&&◌, if◌then◌else◌}
use Rattle.pure_definitions.specs.Types.Typ.{Typ, TFree, TVar, Con, Typs, none, also, typs_count, typ_eq}
use Rattle.pure_definitions.specs.Types.Occurs.{OccursInTyp, OccursInTyps}
use Rattle.pure_definitions.specs.Terms.Subst.{typ_instance, typs_instance}
use Rattle.pure_definitions.specs.Models.Equality.{typ_eq-same, typ_eq-itself}
use Rattle.pure_tunify.specs.declared.pair.TypPair.{TypPair}
use Rattle.pure_tunify.specs.Unifiers.{Equates}
use Rattle.pure_tunify.specs.Steps.{pair}
use Rattle.pure_tunify.specs.Procedure.{sooner, difference, differences}

-- The nodes of the types differ.
abbrev pub DifferAtRoot : Typ → Typ → Type 0
DifferAtRoot (Con k ts) (Con l us) = k ≡ l → typs_count ts ≡ typs_count us → ⊥
DifferAtRoot t u = t ≡ u → ⊥

-- a place of two types: maps that make the types equal make its sides equal, what occurs in them occurs in the types, and their nodes differ
pub record IsPlaceOf (t u : Typ) (d : TypPair) : Type 0 where
  pub equated : (typs : Typ → Typ) → typ_instance typs t ≡ typ_instance typs u → Equates typs d
  pub left_inside : (v : Typ) → OccursInTyp v d.left → OccursInTyp v t
  pub right_inside : (v : Typ) → OccursInTyp v d.right → OccursInTyp v u
  pub roots : DifferAtRoot d.left d.right

pub record IsPlaceAmong (ts us : Typs) (d : TypPair) : Type 0 where
  pub equated : (typs : Typ → Typ) → typs_instance typs ts ≡ typs_instance typs us → Equates typs d
  pub left_inside : (v : Typ) → OccursInTyp v d.left → OccursInTyps v ts
  pub right_inside : (v : Typ) → OccursInTyp v d.right → OccursInTyps v us
  pub roots : DifferAtRoot d.left d.right

itself_place : (t u : Typ) (d : TypPair) → DifferAtRoot t u → pair t u ≡ d → IsPlaceOf t u d
itself_place t u d roots e = subst (IsPlaceOf t u) e (record { equated = λ typs same. same; left_inside = λ v o. o; right_inside = λ v o. o; roots = roots })

some_same : (p d : TypPair) → Some p ≡ Some d → p ≡ d
some_same p d e = cc

none_some : (d : TypPair) → None ≡ Some d → ⊥
none_some d e = cc

false_true : false ≡ true → ⊥
false_true e = cc

-- the test decides whether there is no place, or this one
tested_place : (t u : Typ) (d : TypPair) (b : Bool) → (b ≡ false → DifferAtRoot t u) → (if b then None else Some (pair t u)) ≡ Some d → IsPlaceOf t u d
tested_place t u d true roots e = absurd (none_some d e)
tested_place t u d false roots e = itself_place t u d (roots refl) (some_same (pair t u) d e)

inside_arguments : (k l : ℕ) (ts us : Typs) (d : TypPair) → IsPlaceAmong ts us d → IsPlaceOf (Con k ts) (Con l us) d
inside_arguments k l ts us d p = record {
  equated = λ typs e. p.equated typs (same typs e);
  left_inside = λ v o. inr (p.left_inside v o);
  right_inside = λ v o. inr (p.right_inside v o);
  roots = p.roots;
}
  where
    same : (typs : Typ → Typ) → Con k (typs_instance typs ts) ≡ Con l (typs_instance typs us) → typs_instance typs ts ≡ typs_instance typs us
    same typs e = cc

chosen_place : (k l : ℕ) (ts us : Typs) (d : TypPair) (b : Bool) → (b ≡ false → k ≡ l → typs_count ts ≡ typs_count us → ⊥) → (differences ts us ≡ Some d → IsPlaceAmong ts us d)
    → (if b then differences ts us else Some (pair (Con k ts) (Con l us))) ≡ Some d → IsPlaceOf (Con k ts) (Con l us) d
chosen_place k l ts us d true roots inside e = inside_arguments k l ts us d (inside e)
chosen_place k l ts us d false roots inside e = itself_place (Con k ts) (Con l us) d (roots refl) (some_same (pair (Con k ts) (Con l us)) d e)

first_type : (f : Typ → Typ) (t u : Typ) (ts us : Typs) → typs_instance f (also t ts) ≡ typs_instance f (also u us) → typ_instance f t ≡ typ_instance f u
first_type f t u ts us same = cc

other_types : (f : Typ → Typ) (t u : Typ) (ts us : Typs) → typs_instance f (also t ts) ≡ typs_instance f (also u us) → typs_instance f ts ≡ typs_instance f us
other_types f t u ts us same = cc

sooner_place : (t u : Typ) (ts us : Typs) (d : TypPair) (o : Option TypPair) → (o ≡ Some d → IsPlaceOf t u d) → (differences ts us ≡ Some d → IsPlaceAmong ts us d) → sooner o (differences ts us) ≡ Some d → IsPlaceAmong (also t ts) (also u us) d
sooner_place t u ts us d None here rest e =
    let p = rest e in
    record { equated = λ typs same. p.equated typs (other_types typs t u ts us same); left_inside = λ v o. inr (p.left_inside v o); right_inside = λ v o. inr (p.right_inside v o); roots = p.roots }
sooner_place t u ts us d (Some q) here rest e =
    let p = here e in
    record { equated = λ typs same. p.equated typs (first_type typs t u ts us same); left_inside = λ v o. inl (p.left_inside v o); right_inside = λ v o. inl (p.right_inside v o); roots = p.roots }

pub unequal : (t u : Typ) → typ_eq t u ≡ false → t ≡ u → ⊥
unequal t u e same = false_true (sym e ∙ subst (λ (T : Typ). typ_eq t T ≡ true) same (typ_eq-itself t))

constructor_fixed : (k y : ℕ) (ts : Typs) (r : List ℕ) → Con k ts ≡ TFree y r → ⊥
constructor_fixed k y ts r e = cc

constructor_schematic : (k y j : ℕ) (ts : Typs) (r : List ℕ) → Con k ts ≡ TVar y j r → ⊥
constructor_schematic k y j ts r e = cc

other_constructors : (k l m n : ℕ) → (nat_eq k l && nat_eq m n) ≡ false → k ≡ l → m ≡ n → ⊥
other_constructors k l m n e name count = false_true (sym e ∙ rw (eq-eqb k l name, eq-eqb m n count) refl)

mutual
  pub difference_is_place : (t u : Typ) (d : TypPair) → difference t u ≡ Some d → IsPlaceOf t u d
  difference_is_place (Con k ts) (Con l us) d e =
      chosen_place k l ts us d (nat_eq k l && nat_eq (typs_count ts) (typs_count us)) (other_constructors k l (typs_count ts) (typs_count us)) (differences_are_place ts us d) e
  difference_is_place (TFree x s) u d e = tested_place (TFree x s) u d (typ_eq (TFree x s) u) (unequal (TFree x s) u) e
  difference_is_place (TVar x i s) u d e = tested_place (TVar x i s) u d (typ_eq (TVar x i s) u) (unequal (TVar x i s) u) e
  difference_is_place (Con k ts) (TFree y r) d e = tested_place (Con k ts) (TFree y r) d false (λ f. constructor_fixed k y ts r) e
  difference_is_place (Con k ts) (TVar y j r) d e = tested_place (Con k ts) (TVar y j r) d false (λ f. constructor_schematic k y j ts r) e

  differences_are_place : (ts us : Typs) (d : TypPair) → differences ts us ≡ Some d → IsPlaceAmong ts us d
  differences_are_place (also t ts) (also u us) d e = sooner_place t u ts us d (difference t u) (difference_is_place t u d) (differences_are_place ts us d) e
  differences_are_place none us d e = absurd (none_some d e)
  differences_are_place (also t ts) none d e = absurd (none_some d e)

-- Where there is no place, the types are equal.
tested_none : (t u : Typ) (b : Bool) → (b ≡ true → t ≡ u) → (if b then None else Some (pair t u)) ≡ None → t ≡ u
tested_none t u true same e = same refl
tested_none t u false same e = absurd (none_some (pair t u) (sym e))

chosen_none : (k l : ℕ) (ts us : Typs) (b c : Bool) → (b ≡ true → k ≡ l) → (c ≡ true → differences ts us ≡ None → ts ≡ us) → (if b && c then differences ts us else Some (pair (Con k ts) (Con l us))) ≡ None → Con k ts ≡ Con l us
chosen_none k l ts us true true name inside e = let same = name refl in let rest = inside refl e in λ i. Con (same i) (rest i)
chosen_none k l ts us true false name inside e = absurd (none_some (pair (Con k ts) (Con l us)) (sym e))
chosen_none k l ts us false c name inside e = absurd (none_some (pair (Con k ts) (Con l us)) (sym e))

sooner_none : (o q : Option TypPair) → sooner o q ≡ None → (o ≡ None) × (q ≡ None)
sooner_none None q e = (refl, e)
sooner_none (Some p) q e = absurd (none_some p (sym e))

mutual
  pub no_difference : (t u : Typ) → difference t u ≡ None → t ≡ u
  no_difference (Con k ts) (Con l us) e = chosen_none k l ts us (nat_eq k l) (nat_eq (typs_count ts) (typs_count us)) (eqb-true k l) (λ c. no_differences ts us (eqb-true (typs_count ts) (typs_count us) c)) e
  no_difference (TFree x s) u e = tested_none (TFree x s) u (typ_eq (TFree x s) u) (typ_eq-same (TFree x s) u) e
  no_difference (TVar x i s) u e = tested_none (TVar x i s) u (typ_eq (TVar x i s) u) (typ_eq-same (TVar x i s) u) e
  no_difference (Con k ts) (TFree y r) e = tested_none (Con k ts) (TFree y r) false (λ c. absurd (false_true c)) e
  no_difference (Con k ts) (TVar y j r) e = tested_none (Con k ts) (TVar y j r) false (λ c. absurd (false_true c)) e

  no_differences : (ts us : Typs) → typs_count ts ≡ typs_count us → differences ts us ≡ None → ts ≡ us
  no_differences none none same e = refl
  no_differences none (also u us) same e = absurd (omega arith)
  no_differences (also t ts) none same e = absurd (omega arith)
  no_differences (also t ts) (also u us) same e =
      let parts = sooner_none (difference t u) (differences ts us) e in
      let first = no_difference t u parts.0 in
      let rest = no_differences ts us (omega arith) parts.1 in
      λ i. also (first i) (rest i)

-- Equal types have no place.
mutual
  pub difference-itself : (t : Typ) → difference t t ≡ None
  difference-itself (TFree x s) = rw (typ_eq-itself (TFree x s)) refl
  difference-itself (TVar x i s) = rw (typ_eq-itself (TVar x i s)) refl
  difference-itself (Con k ts) = rw (eq-eqb k k refl, eq-eqb (typs_count ts) (typs_count ts) refl) (differences-itself ts)

  differences-itself : (ts : Typs) → differences ts ts ≡ None
  differences-itself none = refl
  differences-itself (also t ts) = rw (difference-itself t) (differences-itself ts)

-- One constructor with as many arguments: the place is that of the arguments.
pub difference-arguments : (k l : ℕ) (ts us : Typs) → k ≡ l → typs_count ts ≡ typs_count us → difference (Con k ts) (Con l us) ≡ differences ts us
difference-arguments k l ts us name count = rw (eq-eqb k l name, eq-eqb (typs_count ts) (typs_count us) count) refl

-- Otherwise the place is the types themselves.
pub difference-constructors : (k l : ℕ) (ts us : Typs) → (k ≡ l → typs_count ts ≡ typs_count us → ⊥) → difference (Con k ts) (Con l us) ≡ Some (pair (Con k ts) (Con l us))
difference-constructors k l ts us other = by (nat_eq k l) (nat_eq (typs_count ts) (typs_count us)) (eqb-true k l) (eqb-true (typs_count ts) (typs_count us))
  where
    by : (b c : Bool) → (b ≡ true → k ≡ l) → (c ≡ true → typs_count ts ≡ typs_count us) → (if b && c then differences ts us else Some (pair (Con k ts) (Con l us))) ≡ Some (pair (Con k ts) (Con l us))
    by true true name count = absurd (other (name refl) (count refl))
    by true false name count = refl
    by false c name count = refl

not_same : (t u : Typ) (b : Bool) → (b ≡ true → t ≡ u) → (t ≡ u → ⊥) → (if b then None else Some (pair t u)) ≡ Some (pair t u)
not_same t u true same other = absurd (other (same refl))
not_same t u false same other = refl

pub difference-left_variable : (x i : ℕ) (s : List ℕ) (u : Typ) → (TVar x i s ≡ u → ⊥) → difference (TVar x i s) u ≡ Some (pair (TVar x i s) u)
difference-left_variable x i s u other = not_same (TVar x i s) u (typ_eq (TVar x i s) u) (typ_eq-same (TVar x i s) u) other

pub difference-left_fixed : (x : ℕ) (s : List ℕ) (u : Typ) → (TFree x s ≡ u → ⊥) → difference (TFree x s) u ≡ Some (pair (TFree x s) u)
difference-left_fixed x s u other = not_same (TFree x s) u (typ_eq (TFree x s) u) (typ_eq-same (TFree x s) u) other
