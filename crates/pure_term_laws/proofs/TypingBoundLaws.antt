-- Typing under lifting, instantiation, abstraction and maps.
use Rattle.std.proofs.Common.{◌≡◌, ℕ, zero, suc, ◌+◌, ◌<◌, List, [], ◌∷◌, ◌++◌, length, map, Bool, true, false, refl, ap, sym, ◌∙◌, arith}
use Rattle.std.proofs.lemmas.Bool.Decides.{nat_tests}
use Rattle.std.specs.Prelude.{◌-◌, nat_eq, nat_lt, slice_get, Some, if◌then◌else◌}
use Rattle.pure_definitions.specs.Types.Typ.{Typ, arrow}
use Rattle.pure_definitions.specs.Terms.Term.{Term, Const, Free, Var, Bound, Abs, App, term_eq}
use Rattle.pure_definitions.specs.Terms.Typing.{HasType}
use Rattle.pure_definitions.specs.Terms.Bounds.{lift_term, place_at, subst_under, bind_under}
use Rattle.pure_definitions.specs.Terms.Conditions.{variable_typ}
use Rattle.pure_definitions.specs.Models.Equality.{term_eq-same}
use Rattle.pure_definitions.specs.Terms.Subst.{typ_instance, term_instance, IsTypeRespecting}
use Rattle.pure_definitions.proofs.LiftLaws.{lifted, lift_term-bound, subst-lift}

-- a place in lists, one after another
get-left : (bs cs : List Typ) (p : ℕ) → p < length bs → slice_get (bs ++ cs) p ≡ slice_get bs p
get-left [] cs p h = absurd (omega arith)
get-left (b ∷ bs) cs zero h = refl
get-left (b ∷ bs) cs (suc p) h = get-left bs cs p (omega arith)

get-beyond : (bs cs : List Typ) (p : ℕ) → slice_get (bs ++ cs) (p + length bs) ≡ slice_get cs p
get-beyond [] cs p = let same : p + 0 ≡ p = omega arith in rw same refl
get-beyond (b ∷ bs) cs p = let next : p + suc (length bs) ≡ suc (p + length bs) = omega arith in rw next (get-beyond bs cs p)

-- A bound variable has the type of its binder wherever further binders stand between.
get-lifted : (bs ds cs : List Typ) (n by p : ℕ) → n ≡ length bs → by ≡ length ds → slice_get (bs ++ (ds ++ cs)) (lifted by n p) ≡ slice_get (bs ++ cs) p
get-lifted bs ds cs n by p e f = choose (nat_lt p n) refl
  where
    choose : (b : Bool) → nat_lt p n ≡ b → slice_get (bs ++ (ds ++ cs)) (if b then p else p + by) ≡ slice_get (bs ++ cs) p
    choose true g = let below : p < length bs = grind (arith, nat_tests) in get-left bs (ds ++ cs) p below ∙ sym (get-left bs cs p below)
    choose false g =
        let rest : (p - n) + length bs ≡ p = grind (arith, nat_tests) in
        let far : ((p - n) + length ds) + length bs ≡ p + by = grind (arith, nat_tests) in
        let left = get-beyond bs (ds ++ cs) ((p - n) + length ds) ∙ get-beyond ds cs (p - n) in
        let right = get-beyond bs cs (p - n) in
        ap (slice_get (bs ++ (ds ++ cs))) (sym far) ∙ (left ∙ (sym right ∙ ap (slice_get (bs ++ cs)) rest))

-- Typing is kept by lifting over further binders.
pub typing-lift : (bs ds cs : List Typ) (n by : ℕ) (t : Term) (T : Typ) → n ≡ length bs → by ≡ length ds → HasType (bs ++ cs) t T → HasType (bs ++ (ds ++ cs)) (lift_term by n t) T
typing-lift bs ds cs n by (Const c V) T e f h = h
typing-lift bs ds cs n by (Free x V) T e f h = h
typing-lift bs ds cs n by (Var x i V) T e f h = h
typing-lift bs ds cs n by (Bound p) T e f h = rw (lift_term-bound by n p) (get-lifted bs ds cs n by p e f ∙ h)
typing-lift bs ds cs n by (Abs V b) T e f h = (h.0, typing-lift (V ∷ bs) ds cs (n + 1) by b h.0 (omega arith) f h.1, h.2)
typing-lift bs ds cs n by (App g a) T e f h = (h.0, typing-lift bs ds cs n by g (arrow h.0 T) e f h.1, typing-lift bs ds cs n by a h.0 e f h.2)

-- what stands in a bound variable's place has its type
typing-place : (bs cs : List Typ) (n : ℕ) (arg : Term) (U T : Typ) (p : ℕ) → n ≡ length bs → HasType cs arg U → slice_get (bs ++ U ∷ cs) p ≡ Some T → HasType (bs ++ cs) (place_at n arg p) T
typing-place bs cs n arg U T p e typed h = choose (nat_lt p n) (nat_eq p n) refl refl
  where
    choose : (b s : Bool) → nat_lt p n ≡ b → nat_eq p n ≡ s → HasType (bs ++ cs) (if b then Bound p else (if s then lift_term n 0 arg else Bound (p - 1))) T
    choose true s g k = let below : p < length bs = grind (arith, nat_tests) in get-left bs cs p below ∙ (sym (get-left bs (U ∷ cs) p below) ∙ h)
    choose false true g k =
        let here : 0 + length bs ≡ p = grind (arith, nat_tests) in
        let found : Some U ≡ Some T = sym (get-beyond bs (U ∷ cs) 0) ∙ (ap (slice_get (bs ++ U ∷ cs)) here ∙ h) in
        let same : U ≡ T = cc in
        rw (← same) (typing-lift [] bs cs 0 n arg U refl e typed)
    choose false false g k =
        let above : suc (p - n - 1) + length bs ≡ p = grind (arith, nat_tests) in
        let lower : (p - n - 1) + length bs ≡ p - 1 = grind (arith, nat_tests) in
        let found = sym (get-beyond bs (U ∷ cs) (suc (p - n - 1))) ∙ (ap (slice_get (bs ++ U ∷ cs)) above ∙ h) in
        ap (slice_get (bs ++ cs)) (sym lower) ∙ (get-beyond bs cs (p - n - 1) ∙ found)

-- Typing is kept by instantiation: the argument has the binder's type.
pub typing-subst : (bs cs : List Typ) (n : ℕ) (arg b : Term) (U T : Typ) → n ≡ length bs → HasType cs arg U → HasType (bs ++ U ∷ cs) b T → HasType (bs ++ cs) (subst_under n arg b) T
typing-subst bs cs n arg (Const c V) U T e typed h = h
typing-subst bs cs n arg (Free x V) U T e typed h = h
typing-subst bs cs n arg (Var x i V) U T e typed h = h
typing-subst bs cs n arg (Bound p) U T e typed h = typing-place bs cs n arg U T p e typed h
typing-subst bs cs n arg (Abs V b) U T e typed h = (h.0, typing-subst (V ∷ bs) cs (n + 1) arg b U h.0 (omega arith) typed h.1, h.2)
typing-subst bs cs n arg (App f a) U T e typed h = (h.0, typing-subst bs cs n arg f U (arrow h.0 T) e typed h.1, typing-subst bs cs n arg a U h.0 e typed h.2)

-- A closed term has its type under any binders.
pub typing-weaken : (bs cs : List Typ) (t : Term) (T : Typ) → HasType bs t T → HasType (bs ++ cs) t T
typing-weaken bs cs (Const c V) T h = h
typing-weaken bs cs (Free x V) T h = h
typing-weaken bs cs (Var x i V) T h = h
typing-weaken bs cs (Bound p) T h = get-more bs cs p T h
  where
    get-more : (bs cs : List Typ) (p : ℕ) (T : Typ) → slice_get bs p ≡ Some T → slice_get (bs ++ cs) p ≡ Some T
    get-more [] cs p T h = absurd (cc)
    get-more (b ∷ bs) cs zero T h = h
    get-more (b ∷ bs) cs (suc p) T h = get-more bs cs p T h
typing-weaken bs cs (Abs V b) T h = (h.0, typing-weaken (V ∷ bs) cs b h.0 h.1, h.2)
typing-weaken bs cs (App f a) T h = (h.0, typing-weaken bs cs f (arrow h.0 T) h.1, typing-weaken bs cs a h.0 h.2)

get-map : (g : Typ → Typ) (bs : List Typ) (p : ℕ) (T : Typ) → slice_get bs p ≡ Some T → slice_get (map g bs) p ≡ Some (g T)
get-map g [] p T h = absurd (cc)
get-map g (b ∷ bs) zero T h = let same : b ≡ T = cc in rw same refl
get-map g (b ∷ bs) (suc p) T h = get-map g bs p T h

-- Typing is kept by a type map and a term map that respects types beside it.
pub typing-instance : (typs : Typ → Typ) (terms : Term → Term) → IsTypeRespecting typs terms → (bs : List Typ) (t : Term) (T : Typ) → HasType bs t T
    → HasType (map (typ_instance typs) bs) (term_instance typs terms t) (typ_instance typs T)
typing-instance typs terms r bs (Const c V) T h = ap (typ_instance typs) h
typing-instance typs terms r bs (Free x V) T h = rw (← h) (typing-weaken [] (map (typ_instance typs) bs) (terms (Free x V)) (typ_instance typs V) (r.fixed x V))
typing-instance typs terms r bs (Var x i V) T h = rw (← h) (typing-weaken [] (map (typ_instance typs) bs) (terms (Var x i V)) (typ_instance typs V) (r.schematic x i V))
typing-instance typs terms r bs (Bound p) T h = get-map (typ_instance typs) bs p T h
typing-instance typs terms r bs (Abs V b) T h =
    (typ_instance typs h.0, typing-instance typs terms r (V ∷ bs) b h.0 h.1, ap (typ_instance typs) h.2)
typing-instance typs terms r bs (App f a) T h =
    (typ_instance typs h.0, typing-instance typs terms r bs f (arrow h.0 T) h.1, typing-instance typs terms r bs a h.0 h.2)

-- The binder behind those of a list has its type.
get-binder : (bs cs : List Typ) (U : Typ) → slice_get (bs ++ U ∷ cs) (length bs) ≡ Some U
get-binder [] cs U = refl
get-binder (b ∷ bs) cs U = get-binder bs cs U

-- A variable has its type, bound or not.
typing-bind_variable : (bs cs : List Typ) (n : ℕ) (v t : Term) (T : Typ) → n ≡ length bs → variable_typ t ≡ T → HasType (bs ++ variable_typ v ∷ cs) t T
    → (b : Bool) → term_eq v t ≡ b → HasType (bs ++ variable_typ v ∷ cs) (if b then Bound n else t) T
typing-bind_variable bs cs n v t T e f h true g =
    ap (slice_get (bs ++ variable_typ v ∷ cs)) e ∙ (get-binder bs cs (variable_typ v) ∙ ap (λ (U : Typ). Some U) (ap variable_typ (term_eq-same v t g) ∙ f))
typing-bind_variable bs cs n v t T e f h false g = h

-- Typing is kept by abstraction over a variable, whose type the new binder has.
pub typing-bind : (bs cs : List Typ) (n : ℕ) (v t : Term) (T : Typ) → n ≡ length bs → HasType (bs ++ cs) t T → HasType (bs ++ variable_typ v ∷ cs) (bind_under n v t) T
typing-bind bs cs n v (Const c V) T e h = h
typing-bind bs cs n v (Free x V) T e h = typing-bind_variable bs cs n v (Free x V) T e h h (term_eq v (Free x V)) refl
typing-bind bs cs n v (Var x i V) T e h = typing-bind_variable bs cs n v (Var x i V) T e h h (term_eq v (Var x i V)) refl
typing-bind bs cs n v (Bound p) T e h = typing-lift bs (variable_typ v ∷ []) cs n 1 (Bound p) T e refl h
typing-bind bs cs n v (Abs V b) T e h = (h.0, typing-bind (V ∷ bs) cs (n + 1) v b h.0 (omega arith) h.1, h.2)
typing-bind bs cs n v (App f a) T e h = (h.0, typing-bind bs cs n v f (arrow h.0 T) e h.1, typing-bind bs cs n v a h.0 e h.2)

-- A term has its type without a binder over which it is lifted.
pub typing-unlift : (bs : List Typ) (V : Typ) (t : Term) (T : Typ) → HasType (V ∷ bs) (lift_term 1 0 t) T → HasType bs t T
typing-unlift bs V t T h = rw (subst-lift 0 (Free 0 V) t) at (typing-subst [] bs 0 (Free 0 V) (lift_term 1 0 t) V T refl refl h)
