-- Whether types are one constructor with as many arguments.
use Rattle.std.proofs.Common.{◌≡◌, ◌↔◌, ℕ, List, [], ◌∷◌, length, refl, ap, sym, subst, ◌∙◌, arith, Bool, true, false, IsTrue}
use Rattle.std.specs.Prelude.{MatchBool}
use Rattle.pure_definitions.specs.Types.Typ.{Typ, TFree, TVar, Con, typs_of, typs_count, typ_list, typ_eq}
use Rattle.pure_definitions.specs.Models.Equality.{typ_list-typs_of}
use Rattle.pure_tunify.specs.Procedure.{IsSchematic}
use Rattle.pure_tunify.specs.Meeting.{HasArguments, HasOtherNode, HaveArguments, HaveNoArguments, AreApart}
use Rattle.pure_tunify.proofs.NodeLaws.{fixed_constructor, same_arguments, same_constructor, variable_constructor}
use Rattle.pure_tunify.proofs.PlaceLaws.{unequal}
use Rattle.pure_tunify.proofs.PursueLaws.{are_apart}

count_of : (ts : List Typ) → typs_count (typs_of ts) ≡ length ts
count_of [] = refl
count_of (t ∷ ts) = let rest = count_of ts in omega arith

pub fixed_other : (x : ℕ) (s : List ℕ) (k n : ℕ) → HasOtherNode (TFree x s) k n
fixed_other x s k n l ts e name count = fixed_constructor x l s ts e

pub variable_other : (x i : ℕ) (s : List ℕ) (k n : ℕ) → HasOtherNode (TVar x i s) k n
variable_other x i s k n l ts e name count = variable_constructor x i l s ts e

pub other_name : (m k n : ℕ) (ts : List Typ) → (k ≡ m → ⊥) → HasOtherNode (Con m (typs_of ts)) k n
other_name m k n ts other l us e name count = other (name ∙ sym (same_constructor m l (typs_of ts) us e))

pub other_count : (m k n : ℕ) (ts : List Typ) → (length ts ≡ n → ⊥) → HasOtherNode (Con m (typs_of ts)) k n
other_count m k n ts other l us e name count = other (sym (count_of ts) ∙ (ap typs_count (same_arguments m l (typs_of ts) us e) ∙ sym count))

pub both_arguments : (b : Bool) (k : ℕ) (ts : List Typ) (u : Typ) → MatchBool b (HasArguments u k (length ts)) (HasOtherNode u k (length ts)) → MatchBool b (HaveArguments (Con k (typs_of ts)) u) (HaveNoArguments (Con k (typs_of ts)) u)
both_arguments true k ts u h = record { name = k; lefts = ts; rights = h.args; left = refl; right = h.is; many = sym h.many }
both_arguments false k ts u h = λ l m us vs e f name count. h m vs f (same_constructor k l (typs_of ts) us e ∙ name) (sym (count_of ts) ∙ (ap typs_count (same_arguments k l (typs_of ts) us e) ∙ count))

pub fixed_none : (x : ℕ) (s : List ℕ) (u : Typ) → HaveNoArguments (TFree x s) u
fixed_none x s u l m us vs e f name count = fixed_constructor x l s us e

pub variable_none : (x i : ℕ) (s : List ℕ) (u : Typ) → HaveNoArguments (TVar x i s) u
variable_none x i s u l m us vs e f name count = variable_constructor x i l s us e

-- The arguments of a constructor are its own.
pub arguments_are : (m k : ℕ) (us ts : List Typ) → Con m (typs_of us) ≡ Con k (typs_of ts) → us ≡ ts
arguments_are m k us ts e = sym (typ_list-typs_of us) ∙ (ap typ_list (same_arguments m k (typs_of us) (typs_of ts) e) ∙ typ_list-typs_of ts)

pub no_arguments_fixed : (x k : ℕ) (s : List ℕ) (us ts : List Typ) → TFree x s ≡ Con k (typs_of ts) → us ≡ ts
no_arguments_fixed x k s us ts e = absurd (fixed_constructor x k s (typs_of ts) e)

pub no_arguments_variable : (x i k : ℕ) (s : List ℕ) (us ts : List Typ) → TVar x i s ≡ Con k (typs_of ts) → us ≡ ts
no_arguments_variable x i k s us ts e = absurd (variable_constructor x i k s (typs_of ts) e)

pub not_so : (b : Bool) (P : Type 0) → (IsTrue b ↔ P) → b ≡ false → ¬ P
not_so b P test e h = false_true (sym e ∙ test.1 h)
  where
    false_true : false ≡ true → ⊥
    false_true f = cc

-- Types that pass none of the tests are apart.
pub meets_apart : (t u : Typ) (a b h e : Bool) → (IsTrue a ↔ IsSchematic t) → a ≡ false → (IsTrue b ↔ IsSchematic u) → b ≡ false → MatchBool h (HaveArguments t u) (HaveNoArguments t u) → h ≡ false → e ≡ typ_eq t u → e ≡ false
    → (¬ IsSchematic t) × (¬ IsSchematic u) × AreApart t u
meets_apart t u a b h e left not_left right not_right have none equal unequal_test =
    let apart_left = not_so a (IsSchematic t) left not_left in
    let apart_right = not_so b (IsSchematic u) right not_right in
    let other : HaveNoArguments t u = subst (λ (c : Bool). MatchBool c (HaveArguments t u) (HaveNoArguments t u)) none have in
    (apart_left, apart_right, are_apart t u apart_left apart_right other (unequal t u (sym equal ∙ unequal_test)))
