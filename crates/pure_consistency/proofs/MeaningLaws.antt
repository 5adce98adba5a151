-- The value of a term: of its type, and what instantiation, abstraction and other values of its variables make of it.
use Rattle.std.proofs.Common.{◌≡◌, ℕ, zero, suc, ◌+◌, ◌<◌, ◌≤◌, Bool, true, false, cond, nat_lt, List, [], ◌∷◌, ◌++◌, length, inl, inr, refl, ap, sym, subst, ◌∙◌, arith}
use Rattle.std.specs.Prelude.{slice_get, Some}
use Rattle.std.proofs.lemmas.Bool.{ltb-true, ltb-false}
use Rattle.pure_text.specs.Lists.{IsIn, EachTwo}
use Rattle.pure_definitions.specs.Types.Typ.{Typ, arrow}
use Rattle.pure_definitions.specs.Terms.Term.{Term, Const, Free, Var, Bound, Abs, App, term_eq}
use Rattle.pure_definitions.specs.Terms.Typing.{HasType}
use Rattle.pure_definitions.specs.Terms.Bounds.{lift_term, place_at, subst_under, bind_under, Occurs, IsClosedUnder}
use Rattle.pure_definitions.specs.Terms.Conditions.{variable_typ}
use Rattle.pure_definitions.specs.Models.Equality.{term_eq-same}
use Rattle.pure_definitions.proofs.BindLemmas.{term_eq-other}
use Rattle.pure_definitions.proofs.EntryLemmas.{chosen}
use Rattle.pure_term_laws.proofs.MapLaws.{place-below, place-itself, place-above, Beside, beside}
use Rattle.pure_term_laws.proofs.TypingLaws.{typed-closed, lift-closed}
use Rattle.pure_consistency.specs.Values.{Value, Function, applied}
use Rattle.pure_consistency.specs.Model.{domain, bound_value, meaning, AreValues, revalued}
use Rattle.pure_consistency.proofs.ValueLaws.{table-same}
use Rattle.pure_consistency.proofs.TableLaws.{value-in}
use Rattle.pure_consistency.proofs.DomainLaws.{function-in, function-is, constant-in}

-- bound variables of the front, of the place behind it, and of the rest
bound-before : (front rest more : List Value) (p : ℕ) → p < length front → bound_value (front ++ rest) p ≡ bound_value (front ++ more) p
bound-before [] rest more p h = absurd (omega arith)
bound-before (v ∷ vs) rest more zero h = refl
bound-before (v ∷ vs) rest more (suc p) h = bound-before vs rest more p (omega arith)

bound-there : (front rest : List Value) (v : Value) (n : ℕ) → n ≡ length front → bound_value (front ++ v ∷ rest) n ≡ v
bound-there [] rest v zero e = refl
bound-there [] rest v (suc n) e = absurd (omega arith)
bound-there (w ∷ ws) rest v zero e = absurd (omega arith)
bound-there (w ∷ ws) rest v (suc n) e = bound-there ws rest v n (omega arith)

bound-after_suc : (front rest : List Value) (v : Value) (p : ℕ) → length front ≤ p → bound_value (front ++ v ∷ rest) (suc p) ≡ bound_value (front ++ rest) p
bound-after_suc [] rest v p h = refl
bound-after_suc (w ∷ ws) rest v zero h = absurd (omega arith)
bound-after_suc (w ∷ ws) rest v (suc p) h = bound-after_suc ws rest v p (omega arith)

bound-after : (front rest : List Value) (v : Value) (p : ℕ) → length front ≤ p → bound_value (front ++ v ∷ rest) (p + 1) ≡ bound_value (front ++ rest) p
bound-after front rest v p h = let e : p + 1 ≡ suc p = omega arith in rw e (bound-after_suc front rest v p h)

module _ (points : List Value) (variables : Term → Value) where
  -- Values of binders behind a closed term don't matter.
  meaning-closed_under : (front rest more : List Value) (n : ℕ) → length front ≡ n → (t : Term) → IsClosedUnder n t → meaning points variables (front ++ rest) t ≡ meaning points variables (front ++ more) t
  meaning-closed_under front rest more n e (Const c T) h = refl
  meaning-closed_under front rest more n e (Free x T) h = refl
  meaning-closed_under front rest more n e (Var x i T) h = refl
  meaning-closed_under front rest more n e (Bound p) h = bound-before front rest more p (omega arith)
  meaning-closed_under front rest more n e (Abs T b) h =
      ap Function (table-same (domain points T) _ _ (λ v m. meaning-closed_under (v ∷ front) rest more (n + 1) (omega arith) b h))
  meaning-closed_under front rest more n e (App f a) h = λ l. applied (meaning-closed_under front rest more n e f h.0 l) (meaning-closed_under front rest more n e a h.1 l)

  pub meaning-closed : (binders : List Value) (t : Term) (T : Typ) → HasType [] t T → meaning points variables binders t ≡ meaning points variables [] t
  meaning-closed binders t T h = meaning-closed_under [] binders [] 0 refl t (typed-closed t T h)

  subst-bound : (front rest : List Value) (n : ℕ) → length front ≡ n → (arg : Term) (v : Value) → ((binders : List Value) → meaning points variables binders (lift_term n 0 arg) ≡ v) → (p : ℕ) → Beside n p
      → meaning points variables (front ++ rest) (place_at n arg p) ≡ bound_value (front ++ v ∷ rest) p
  subst-bound front rest n e arg v h p (inl low) = ap (meaning points variables (front ++ rest)) (place-below n arg p low) ∙ bound-before front rest (v ∷ rest) p (omega arith)
  subst-bound front rest n e arg v h p (inr (inl there)) =
      rw there (ap (meaning points variables (front ++ rest)) (place-itself n arg) ∙ (h (front ++ rest) ∙ sym (bound-there front rest v n (sym e))))
  subst-bound front rest n e arg v h p (inr (inr (q, above, high))) =
      rw above (ap (meaning points variables (front ++ rest)) (place-above n arg q high) ∙ sym (bound-after front rest v q (omega arith)))

  -- A body with an argument put in has the value that it has where the binder has the argument's.
  meaning-subst_under : (front rest : List Value) (n : ℕ) → length front ≡ n → (arg : Term) (v : Value) → ((m : ℕ) (binders : List Value) → meaning points variables binders (lift_term m 0 arg) ≡ v) → (t : Term)
      → meaning points variables (front ++ rest) (subst_under n arg t) ≡ meaning points variables (front ++ v ∷ rest) t
  meaning-subst_under front rest n e arg v h (Const c T) = refl
  meaning-subst_under front rest n e arg v h (Free x T) = refl
  meaning-subst_under front rest n e arg v h (Var x i T) = refl
  meaning-subst_under front rest n e arg v h (Bound p) = subst-bound front rest n e arg v (h n) p (beside n p)
  meaning-subst_under front rest n e arg v h (Abs T b) =
      ap Function (table-same (domain points T) _ _ (λ w m. meaning-subst_under (w ∷ front) rest (n + 1) (omega arith) arg v h b))
  meaning-subst_under front rest n e arg v h (App f a) = λ l. applied (meaning-subst_under front rest n e arg v h f l) (meaning-subst_under front rest n e arg v h a l)

  pub meaning-subst : (arg body : Term) (T : Typ) → HasType [] arg T → meaning points variables [] (subst_under 0 arg body) ≡ meaning points variables (meaning points variables [] arg ∷ []) body
  meaning-subst arg body T h =
      meaning-subst_under [] [] 0 refl arg (meaning points variables [] arg)
      (λ m binders. ap (meaning points variables binders) (lift-closed m 0 arg (typed-closed arg T h)) ∙ meaning-closed binders arg T h) body

  bind-bound : (front rest : List Value) (v : Value) (n p : ℕ) → length front ≡ n → (b : Bool) → nat_lt p n ≡ b
      → meaning points variables (front ++ v ∷ rest) (cond b (Bound p) (Bound (p + 1))) ≡ bound_value (front ++ rest) p
  bind-bound front rest v n p e true h = let below = ltb-true p n h in bound-before front (v ∷ rest) rest p (omega arith)
  bind-bound front rest v n p e false h = let above = ltb-false p n h in bound-after front rest v p (omega arith)

  bind-variable : (front rest : List Value) (v : Value) (n : ℕ) (w : Term) → length front ≡ n → meaning points variables (front ++ v ∷ rest) w ≡ variables w → (b : Bool)
      → meaning points variables (front ++ v ∷ rest) (cond b (Bound n) w) ≡ cond b v (variables w)
  bind-variable front rest v n w e same true = bound-there front rest v n (sym e)
  bind-variable front rest v n w e same false = same

  -- A term with a variable bound has the value that it has where the variable has the binder's.
  pub meaning-bind : (front rest : List Value) (n : ℕ) → length front ≡ n → (x : Term) (v : Value) (t : Term)
      → meaning points variables (front ++ v ∷ rest) (bind_under n x t) ≡ meaning points (revalued x v variables) (front ++ rest) t
  meaning-bind front rest n e x v (Const c T) = refl
  meaning-bind front rest n e x v (Free y T) = bind-variable front rest v n (Free y T) e refl (term_eq x (Free y T))
  meaning-bind front rest n e x v (Var y i T) = bind-variable front rest v n (Var y i T) e refl (term_eq x (Var y i T))
  meaning-bind front rest n e x v (Bound p) = bind-bound front rest v n p e (nat_lt p n) refl
  meaning-bind front rest n e x v (Abs T b) = ap Function (table-same (domain points T) _ _ (λ w m. meaning-bind (w ∷ front) rest (n + 1) (omega arith) x v b))
  meaning-bind front rest n e x v (App f a) = λ l. applied (meaning-bind front rest n e x v f l) (meaning-bind front rest n e x v a l)

  -- The value of a variable that doesn't occur doesn't matter.
  pub meaning-fresh : (x : Term) (v : Value) (binders : List Value) (t : Term) → (¬ Occurs x t) → meaning points (revalued x v variables) binders t ≡ meaning points variables binders t
  meaning-fresh x v binders (Const c T) h = refl
  meaning-fresh x v binders (Free y T) h = rw (term_eq-other x (Free y T) h) refl
  meaning-fresh x v binders (Var y i T) h = rw (term_eq-other x (Var y i T) h) refl
  meaning-fresh x v binders (Bound p) h = refl
  meaning-fresh x v binders (Abs T b) h = ap Function (table-same (domain points T) _ _ (λ w m. meaning-fresh x v (w ∷ binders) b (λ k. h (inr k))))
  meaning-fresh x v binders (App f a) h = λ l. applied (meaning-fresh x v binders f (λ k. h (inr (inl k))) l) (meaning-fresh x v binders a (λ k. h (inr (inr k))) l)

  pub values-revalued : (x : Term) (v : Value) → AreValues points variables → IsIn v (domain points (variable_typ x)) → AreValues points (revalued x v variables)
  values-revalued x v are m = record {
    fixed = λ y T. chosen (λ w. IsIn w (domain points T)) (term_eq x (Free y T)) v (variables (Free y T)) (λ h. let same = term_eq-same x (Free y T) h in subst (λ u. IsIn v (domain points (variable_typ u))) same m) (are.fixed y T);
    schematic = λ y i T. chosen (λ w. IsIn w (domain points T)) (term_eq x (Var y i T)) v (variables (Var y i T)) (λ h. let same = term_eq-same x (Var y i T) h in subst (λ u. IsIn v (domain points (variable_typ u))) same m) (are.schematic y i T);
  }

bound-in : (points : List Value) (binders : List Value) (bs : List Typ) (n : ℕ) (T : Typ) → EachTwo (λ v U. IsIn v (domain points U)) binders bs → slice_get bs n ≡ Some T → IsIn (bound_value binders n) (domain points T)
bound-in points [] [] n T two h = absurd (cc)
bound-in points (v ∷ vs) (U ∷ bs) zero T two h = let same : U ≡ T = cc in rw (← same) two.0
bound-in points (v ∷ vs) (U ∷ bs) (suc n) T two h = bound-in points vs bs n T two.1 h
bound-in points [] (U ∷ bs) n T two h = absurd two
bound-in points (v ∷ vs) [] n T two h = absurd two

-- A term has a value of its type.
pub meaning-in : (points : List Value) (some : (v : Value) × IsIn v points) (variables : Term → Value) → AreValues points variables → (bs : List Typ) (binders : List Value) (t : Term) (T : Typ)
    → EachTwo (λ v U. IsIn v (domain points U)) binders bs → HasType bs t T → IsIn (meaning points variables binders t) (domain points T)
meaning-in points some variables are bs binders (Const c U) T two h = rw (← h) (constant-in points some c U)
meaning-in points some variables are bs binders (Free x U) T two h = rw (← h) (are.fixed x U)
meaning-in points some variables are bs binders (Var x i U) T two h = rw (← h) (are.schematic x i U)
meaning-in points some variables are bs binders (Bound n) T two h = bound-in points binders bs n T two h
meaning-in points some variables are bs binders (Abs U b) T two h =
    subst (λ V. IsIn (meaning points variables binders (Abs U b)) (domain points V)) h.2
    (function-is points U h.0 (λ v. meaning points variables (v ∷ binders) b) (λ v m. meaning-in points some variables are (U ∷ bs) (v ∷ binders) b h.0 (m, two) h.1))
meaning-in points some variables are bs binders (App f a) T two h =
    let function = function-in points h.0 T (meaning points variables binders f) (meaning-in points some variables are bs binders f (arrow h.0 T) two h.1) in
    rw function.2 (value-in (domain points h.0) (domain points T) function.0 function.1 (meaning points variables binders a) (meaning-in points some variables are bs binders a h.0 two h.2))
