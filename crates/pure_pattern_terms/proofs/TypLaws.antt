-- Schematic type variables, told by one above their greatest index.
use Rattle.std.proofs.Common.{◌≡◌, ◌⊎◌, ◌↔◌, ℕ, ◌<◌, inl, inr, List, Bool, true, false, ◌||◌, ap, refl, arith}
use Rattle.std.proofs.lemmas.Bool.{cases_lt}
use Rattle.std.proofs.lemmas.Bool.Decides.{nat_tests}
use Rattle.pure_definitions.specs.Types.Typ.{Typ, TFree, TVar, Con, Typs, none, also}
use Rattle.pure_definitions.specs.Types.Occurs.{OccursInTyp, OccursInTyps}
use Rattle.pure_definitions.specs.Terms.Term.{Term, Const, Free, Var, Bound, Abs, App}
use Rattle.pure_definitions.specs.Terms.Measures.{typ_index_above, typs_index_above, term_index_above}
use Rattle.pure_term_laws.specs.LawsOccurs.{TypOccurs}
use Rattle.pure_pattern_terms.specs.Typs.{HasTypVariable, is_schematic_typ, has_typ_variable}

mutual
  above-occurs : (T : Typ) → 0 < typ_index_above T → (x i : ℕ) × (s : List ℕ) × OccursInTyp (TVar x i s) T
  above-occurs (TFree y r) h = absurd (omega arith)
  above-occurs (TVar y j r) h = (y, j, r, refl)
  above-occurs (Con k ts) h = let found = all_above-occur ts h in (found.0, found.1, found.2, inr found.3)

  all_above-occur : (ts : Typs) → 0 < typs_index_above ts → (x i : ℕ) × (s : List ℕ) × OccursInTyps (TVar x i s) ts
  all_above-occur none h = absurd (omega arith)
  all_above-occur (also t ts) h = elim (cases_lt 0 (typ_index_above t)) [
    | inl some ↦ (let found = above-occurs t some in (found.0, found.1, found.2, inl found.3))
    | inr least ↦ (let found = all_above-occur ts (omega arith) in (found.0, found.1, found.2, inr found.3))
  ]

mutual
  occurs-above : (x i : ℕ) (s : List ℕ) (T : Typ) → OccursInTyp (TVar x i s) T → 0 < typ_index_above T
  occurs-above x i s (TFree y r) o = absurd (cc)
  occurs-above x i s (TVar y j r) o = omega arith
  occurs-above x i s (Con k ts) (inl e) = absurd (cc)
  occurs-above x i s (Con k ts) (inr o) = all_occur-above x i s ts o

  all_occur-above : (x i : ℕ) (s : List ℕ) (ts : Typs) → OccursInTyps (TVar x i s) ts → 0 < typs_index_above ts
  all_occur-above x i s none o = absurd o
  all_occur-above x i s (also t ts) (inl o) = (let some = occurs-above x i s t o in omega arith)
  all_occur-above x i s (also t ts) (inr o) = (let some = all_occur-above x i s ts o in omega arith)

typ-found : (T : Typ) → is_schematic_typ T ≡ true → (x i : ℕ) × (s : List ℕ) × OccursInTyp (TVar x i s) T
typ-found T e = above-occurs T (grind (arith, nat_tests))

typ-told : (x i : ℕ) (s : List ℕ) (T : Typ) → OccursInTyp (TVar x i s) T → is_schematic_typ T ≡ true
typ-told x i s T o = (let some = occurs-above x i s T o in grind (arith, nat_tests))

or-cases : (a b : Bool) → (a || b) ≡ true → (a ≡ true) ⊎ (b ≡ true)
or-cases true b e = inl refl
or-cases false b e = inr e

or-right : (a b : Bool) → b ≡ true → (a || b) ≡ true
or-right true b e = refl
or-right false b e = e

found : (t : Term) → has_typ_variable t ≡ true → HasTypVariable t
found (Const c T) e = typ-found T e
found (Free y T) e = typ-found T e
found (Var y j T) e = typ-found T e
found (Bound p) e = absurd (cc)
found (Abs T b) e = elim (or-cases (is_schematic_typ T) (has_typ_variable b) e) [
  | inl k ↦ (let v = typ-found T k in (v.0, v.1, v.2, inl v.3))
  | inr k ↦ (let v = found b k in (v.0, v.1, v.2, inr v.3))
]
found (App f a) e = elim (or-cases (has_typ_variable f) (has_typ_variable a) e) [
  | inl k ↦ (let v = found f k in (v.0, v.1, v.2, inl v.3))
  | inr k ↦ (let v = found a k in (v.0, v.1, v.2, inr v.3))
]

told : (x i : ℕ) (s : List ℕ) (t : Term) → TypOccurs (TVar x i s) t → has_typ_variable t ≡ true
told x i s (Const c T) o = typ-told x i s T o
told x i s (Free y T) o = typ-told x i s T o
told x i s (Var y j T) o = typ-told x i s T o
told x i s (Bound p) o = absurd o
told x i s (Abs T b) (inl o) = ap (λ a. a || has_typ_variable b) (typ-told x i s T o)
told x i s (Abs T b) (inr o) = or-right (is_schematic_typ T) (has_typ_variable b) (told x i s b o)
told x i s (App f a) (inl o) = ap (λ b. b || has_typ_variable a) (told x i s f o)
told x i s (App f a) (inr o) = or-right (has_typ_variable f) (has_typ_variable a) (told x i s a o)

pub typ_variables-told : (t : Term) → (has_typ_variable t ≡ true) ↔ HasTypVariable t
typ_variables-told t = (found t, λ v. told v.0 v.1 v.2 t v.3)

-- A term without indexes has none.
ground-typ : (T : Typ) → typ_index_above T ≡ 0 → is_schematic_typ T ≡ false
ground-typ T e = grind (arith, nat_tests)

pub ground_none : (t : Term) → term_index_above t ≡ 0 → has_typ_variable t ≡ false
ground_none (Const c T) e = ground-typ T e
ground_none (Free y T) e = ground-typ T e
ground_none (Var y j T) e = absurd (omega arith)
ground_none (Bound p) e = refl
ground_none (Abs T b) e = (λ l. ground-typ T (omega arith) l || ground_none b (omega arith) l)
ground_none (App f a) e = (λ l. ground_none f (omega arith) l || ground_none a (omega arith) l)
