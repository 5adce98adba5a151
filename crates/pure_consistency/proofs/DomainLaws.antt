-- The values of a type: there are some, none is listed twice, and those of functions are tables. Each constant has a value of its type.
use Rattle.std.proofs.Common.{◌≡◌, ℕ, Bool, true, false, cond, nat_eq, List, [], ◌∷◌, inl, inr, refl, ap, sym, subst}
use Rattle.std.specs.Cmp.{second_so}
use Rattle.std.specs.Cmp.Derive.{both_true}
use Rattle.pure_text.specs.Lists.{IsIn, AreDistinct}
use Rattle.pure_text.proofs.ListLaws.{in-map}
use Rattle.pure_definitions.specs.Names.{fun_name, prop_name, all_name, imp_name, eq_name, protect_name}
use Rattle.pure_definitions.specs.Types.Typ.{Typ, TFree, TVar, Con, Typs, none, also, arrow, prop, typ_eq}
use Rattle.pure_definitions.specs.Models.Equality.{typ_eq-same, typ_eq-itself}
use Rattle.pure_definitions.proofs.EntryLemmas.{chosen}
use Rattle.pure_logic.specs.Connectives.{all_typ, imp_typ, eq_typ, protect_typ}
use Rattle.pure_consistency.specs.Values.{Value, Truth, Function, Rows, value_eq, table, tables, is_true_everywhere, truths, first_of}
use Rattle.pure_consistency.specs.Model.{domain, functions, argument_typ, quantified, implied, all_value, eq_value, imp_value, protect_value, is_constant, constant_value}
use Rattle.pure_consistency.proofs.ValueLaws.{taken}
use Rattle.pure_consistency.proofs.TableLaws.{mapped-in, distinct-mapped, table-in, tables-distinct}

either : {A : Type 0} (P : A → Type 0) (b : Bool) (x y : A) → P x → P y → P (cond b x y)
either P true x y h k = h
either P false x y h k = k

pub first-in : (vs : List Value) → (v : Value) × IsIn v vs → IsIn (first_of vs) vs
first-in [] h = absurd h.1
first-in (v ∷ vs) h = inl refl

pub truth-is : (b : Bool) → IsIn (Truth b) truths
truth-is true = inr (inl refl)
truth-is false = inl refl

pub truth-of : (v : Value) → IsIn v truths → (b : Bool) × (v ≡ Truth b)
truth-of v (inl e) = (false, e)
truth-of v (inr (inl e)) = (true, e)
truth-of v (inr (inr absent)) = absurd absent

truths-distinct : AreDistinct truths
truths-distinct = (λ m. elim m [ inl e ↦ cc | inr n ↦ n ], (λ m. m, tt))

-- the rows of a function
abbrev rows_of : Value → Rows
rows_of (Function rs) = rs
rows_of _ = Rows.end

function-once : (rs ss : Rows) → Function rs ≡ Function ss → rs ≡ ss
function-once rs ss e = ap rows_of e

-- a value of a type of functions
pub function-in : (points : List Value) (T U : Typ) (f : Value) → IsIn f (domain points (arrow T U)) → (rs : Rows) × IsIn rs (tables (domain points T) (domain points U)) × (f ≡ Function rs)
function-in points T U f m = mapped-in Function (tables (domain points T) (domain points U)) f m

pub function-is : (points : List Value) (T U : Typ) (f : Value → Value) → ((v : Value) → IsIn v (domain points T) → IsIn (f v) (domain points U)) → IsIn (Function (table (domain points T) f)) (domain points (arrow T U))
function-is points T U f h = in-map Function (table (domain points T) f) (tables (domain points T) (domain points U)) (table-in (domain points T) (domain points U) f h)

module _ (points : List Value) (some : (v : Value) × IsIn v points) where
  mutual
    pub domain-first : (T : Typ) → IsIn (first_of (domain points T)) (domain points T)
    domain-first (TFree x s) = first-in points some
    domain-first (TVar x i s) = first-in points some
    domain-first (Con k ts) = either (λ vs. IsIn (first_of vs) vs) (nat_eq k prop_name) truths (cond (nat_eq k fun_name) (functions points ts) points) (inl refl)
        (either (λ vs. IsIn (first_of vs) vs) (nat_eq k fun_name) (functions points ts) points (functions-first ts) (first-in points some))

    functions-first : (ts : Typs) → IsIn (first_of (functions points ts)) (functions points ts)
    functions-first (also a (also b none)) =
        first-in (functions points (also a (also b none)))
        (Function (table (domain points a) (λ v. first_of (domain points b))), function-is points a b (λ v. first_of (domain points b)) (λ v m. domain-first b))
    functions-first _ = first-in points some

  all_value-in : (T : Typ) → IsIn (all_value points T) (domain points (all_typ T))
  all_value-in T = function-is points (arrow T prop) prop quantified (λ v m. quantified-in v)
    where
      quantified-in : (v : Value) → IsIn (quantified v) truths
      quantified-in (Function rs) = truth-is (is_true_everywhere rs)
      quantified-in _ = truth-is false

  eq_value-in : (T : Typ) → IsIn (eq_value points T) (domain points (eq_typ T))
  eq_value-in T = function-is points T (arrow T prop) (λ v. Function (table (domain points T) (λ w. Truth (value_eq v w))))
      (λ v m. function-is points T prop (λ w. Truth (value_eq v w)) (λ w n. truth-is (value_eq v w)))

  imp_value-in : IsIn imp_value (domain points imp_typ)
  imp_value-in = function-is points prop (arrow prop prop) (λ a. Function (table truths (implied a))) (λ a m. function-is points prop prop (implied a) (λ b n. implied-in a b m n))
    where
      implied-in : (a b : Value) → IsIn a truths → IsIn b truths → IsIn (implied a b) truths
      implied-in a b m n = let x = truth-of a m in let y = truth-of b n in rw (x.1, y.1) (truth-is _)

  protect_value-in : IsIn protect_value (domain points protect_typ)
  protect_value-in = function-is points prop prop (λ a. a) (λ a m. m)

  same-typ : (c : ℕ) (T : Typ) (d : ℕ) (U : Typ) → is_constant c T d U ≡ true → U ≡ T
  same-typ c T d U h = sym (typ_eq-same T U (second_so (nat_eq c d) (typ_eq T U) h))

  pub constant-in : (c : ℕ) (T : Typ) → IsIn (constant_value points c T) (domain points T)
  constant-in c T =
      let In : Value → Type 0 = λ v. IsIn v (domain points T) in
      let A = argument_typ (argument_typ T) in
      let B = argument_typ T in
      chosen In (is_constant c T all_name (all_typ A)) (all_value points A) _ (λ h. subst (λ U. IsIn (all_value points A) (domain points U)) (same-typ c T all_name (all_typ A) h) (all_value-in A))
      (chosen In (is_constant c T imp_name imp_typ) imp_value _ (λ h. subst (λ U. IsIn imp_value (domain points U)) (same-typ c T imp_name imp_typ h) imp_value-in)
      (chosen In (is_constant c T eq_name (eq_typ B)) (eq_value points B) _ (λ h. subst (λ U. IsIn (eq_value points B) (domain points U)) (same-typ c T eq_name (eq_typ B) h) (eq_value-in B))
      (chosen In (is_constant c T protect_name protect_typ) protect_value _ (λ h. subst (λ U. IsIn protect_value (domain points U)) (same-typ c T protect_name protect_typ h) protect_value-in)
      (domain-first T))))

module _ (points : List Value) (once : AreDistinct points) where
  mutual
    pub domain-distinct : (T : Typ) → AreDistinct (domain points T)
    domain-distinct (TFree x s) = once
    domain-distinct (TVar x i s) = once
    domain-distinct (Con k ts) = either AreDistinct (nat_eq k prop_name) truths (cond (nat_eq k fun_name) (functions points ts) points) truths-distinct
        (either AreDistinct (nat_eq k fun_name) (functions points ts) points (functions-distinct ts) once)

    functions-distinct : (ts : Typs) → AreDistinct (functions points ts)
    functions-distinct (also a (also b none)) = distinct-mapped Function (tables (domain points a) (domain points b)) function-once (tables-distinct (domain points a) (domain points b) (domain-distinct b))
    functions-distinct _ = once

-- The connectives have their own values.
pub constant-all : (points : List Value) (T : Typ) → constant_value points all_name (all_typ T) ≡ all_value points T
constant-all points T = taken (is_constant all_name (all_typ T) all_name (all_typ T)) _ _ (both_true refl (typ_eq-itself (all_typ T)))

pub constant-imp : (points : List Value) → constant_value points imp_name imp_typ ≡ imp_value
constant-imp points = refl

pub constant-eq : (points : List Value) (T : Typ) → constant_value points eq_name (eq_typ T) ≡ eq_value points T
constant-eq points T = taken (is_constant eq_name (eq_typ T) eq_name (eq_typ T)) _ _ (both_true refl (typ_eq-itself (eq_typ T)))

pub constant-protect : (points : List Value) → constant_value points protect_name protect_typ ≡ protect_value
constant-protect points = refl
