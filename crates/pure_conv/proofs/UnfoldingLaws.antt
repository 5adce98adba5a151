-- Walks that unfold a definition.
use Rattle.std.proofs.Common.{◌≡◌, ◌⊎◌, ℕ, ◌-◌, ◌<◌, ◌≤◌, Bool, true, false, ◌||◌, IsTrue, inl, inr, refl, sym, subst, ◌∙◌, arith}
use Rattle.std.proofs.lemmas.Bool.{cases_lt}
use Rattle.std.specs.Prelude.{Option, Some, None, option_map, Result, Ok, Err, IfOk, IsErrAnd, MatchOption, MatchResult}
use Rattle.pure_definitions.specs.Types.Typ.{Typ, typ_size, typ_depth}
use Rattle.pure_definitions.specs.Terms.Term.{Term, Const, Abs, App, term_size, term_depth, IsWithin}
use Rattle.pure_definitions.specs.Terms.Limits.{Leaves}
use Rattle.pure_definitions.proofs.TermLemmas.{term_size-some, term_depth-some}
use Rattle.pure_definitions.proofs.GrownLemmas.{leaves-abs, leaves-part_none}
use Rattle.pure_logic.specs.Connectives.{eq}
use Rattle.pure_term.specs.Grown.{IsGrown}
use Rattle.pure_typ.specs.declared.grow.Grow.{Grow}
use Rattle.pure_typ.specs.declared.grow.Grow.TheVariants as grow
use Rattle.pure_unfold.specs.Replaced.{IsReplaced, HasReplaced}
use Rattle.pure_unfold.proofs.UnfoldLaws.{replaced-once}
use Rattle.pure_conv.specs.Rules.{became, IsLookedThrough, IsTooLarge}

or-true : (a b : Bool) → IsTrue (a || b) → IsTrue a ⊎ IsTrue b
or-true true b h = inl refl
or-true false b h = inr h

or-left : (a b : Bool) → IsTrue a → IsTrue (a || b)
or-left true b h = refl
or-left false b h = absurd (let no-way : false ≡ true = h in cc)

or-right : (a b : Bool) → IsTrue b → IsTrue (a || b)
or-right true b h = refl
or-right false b h = h

false-true : IsTrue false → ⊥
false-true e = cc

pub or-then : (a b : Bool) → a ≡ true → a ≡ (a || b)
or-then true b e = refl
or-then false b e = absurd (let no-way : false ≡ true = e in cc)

pub or-else : (a b : Bool) → a ≡ false → b ≡ (a || b)
or-else true b e = absurd (let no-way : true ≡ false = e in cc)
or-else false b e = refl

-- A rule that puts one term at most for a constant.
module _ (Puts : ℕ → Typ → Term → Type 0) where
  pub looked-put : (c : ℕ) (T : Typ) (u : Term) → Puts c T u → IsLookedThrough Puts (Const c T) true
  looked-put c T u p = ((u, inl p), (λ t. (u, p), λ k. refl))

  pub looked-kept : (c : ℕ) (T : Typ) → ((u : Term) → ¬ Puts c T u) → IsLookedThrough Puts (Const c T) false
  looked-kept c T none = ((Const c T, inr (refl, none)), (λ t. absurd (false-true t), λ k. absurd (none k.0 k.1)))

  -- The term is no constant, and nothing is inside it.
  pub looked-leaf : (t : Term) → IsReplaced Puts t t → (¬ HasReplaced Puts t) → IsLookedThrough Puts t false
  looked-leaf t r none = ((t, r), (λ e. absurd (false-true e), λ k. absurd (none k)))

  pub looked-body : (T : Typ) (b : Term) (some : Bool) → IsLookedThrough Puts b some → IsLookedThrough Puts (Abs T b) some
  looked-body T b some h = ((Abs T h.0.0, (h.0.0, h.0.1, refl)), h.1)

  pub looked-body_ok : {E : Type 0} (t b : Term) (T : Typ) (r : Result Bool E) → t ≡ Abs T b → IfOk r (IsLookedThrough Puts b) → IfOk r (IsLookedThrough Puts t)
  looked-body_ok t b T (Ok some) e h = subst (λ (x : Term). IsLookedThrough Puts x some) (sym e) (looked-body T b some h)
  looked-body_ok t b T (Err x) e h = tt

  pub looked-parts : (f a : Term) (first second : Bool) → IsLookedThrough Puts f first → IsLookedThrough Puts a second → IsLookedThrough Puts (App f a) (first || second)
  looked-parts f a first second h k = (
    (App h.0.0 k.0.0, (h.0.0, k.0.0, h.0.1, k.0.1, refl)),
    (λ t. elim (or-true first second t) [ inl x ↦ inl (h.1.0 x) | inr y ↦ inr (k.1.0 y) ], λ m. elim m [ inl x ↦ or-left first second (h.1.1 x) | inr y ↦ or-right first second (k.1.1 y) ]),
  )

  pub looked-either : (t f a : Term) (first second some : Bool) → t ≡ App f a → some ≡ (first || second) → IsLookedThrough Puts f first → IsLookedThrough Puts a second → IsLookedThrough Puts t some
  looked-either t f a first second some e d h k =
      subst (λ (x : Term). IsLookedThrough Puts x some) (sym e) (subst (IsLookedThrough Puts (App f a)) (sym d) (looked-parts f a first second h k))

  module _ (once : (c : ℕ) (T : Typ) (u v : Term) → Puts c T u → Puts c T v → u ≡ v) where
    -- What is left of room when what the term becomes is put in.
    abbrev pub LeavesAny : Term → (left room : ℕ) → Option ℕ → Type 0
    LeavesAny t left room rest = (u : Term) → IsReplaced Puts t u → Leaves left room (term_size u) (term_depth u) rest

    pub leaves-put : (t : Term) (c : ℕ) (T : Typ) (v : Term) (left room : ℕ) (rest : Option ℕ) → t ≡ Const c T → Puts c T v → Leaves left room (term_size v) (term_depth v) rest → LeavesAny t left room rest
    leaves-put t c T v left room rest e p h u r = by (subst (λ (x : Term). IsReplaced Puts x u) e r)
      where
        by : IsReplaced Puts (Const c T) u → Leaves left room (term_size u) (term_depth u) rest
        by (inl k) = subst (λ (x : Term). Leaves left room (term_size x) (term_depth x) rest) (once c T v u p k) h
        by (inr k) = absurd (k.1 v p)

    pub leaves-put_ok : {E : Type 0} (t : Term) (c : ℕ) (T : Typ) (v : Term) (left room : ℕ) (r : Result (Option ℕ) E) → t ≡ Const c T → Puts c T v → IfOk r (Leaves left room (term_size v) (term_depth v)) → IfOk r (LeavesAny t left room)
    leaves-put_ok t c T v left room (Ok rest) e p h = leaves-put t c T v left room rest e p h
    leaves-put_ok t c T v left room (Err x) e p h = tt

    -- What is put for a constant isn't within the limits.
    pub put-large : {B : Type 0} (P : B → Type 0) (t : Term) (c : ℕ) (T : Typ) (v : Term) (fault : Grow) (r : Result B Grow) → IsErrAnd r (λ e. e ≡ fault) → t ≡ Const c T → Puts c T v → IsGrown v (Err fault) → MatchResult r P (IsTooLarge Puts t)
    put-large P t c T v fault (Ok b) is e p h = absurd is
    put-large P t c T v fault (Err f) is e p h = subst (IsTooLarge Puts t) (sym is) (by fault h)
      where
        large : (u : Term) → IsReplaced Puts (Const c T) u → (¬ IsWithin v) → ¬ IsWithin u
        large u (inl k) big w = big (subst IsWithin (once c T u v k p) w)
        large u (inr k) big w = absurd (k.1 v p)

        by : (fault : Grow) → IsGrown v (Err fault) → IsTooLarge Puts t fault
        by grow.Big big = λ u r w. large u (subst (λ (x : Term). IsReplaced Puts x u) e r) big w
        by grow.Memory h = tt

    pub leaves-kept : (t : Term) (c : ℕ) (T : Typ) (left room : ℕ) (rest : Option ℕ) → t ≡ Const c T → ((u : Term) → ¬ Puts c T u) → Leaves left room (term_size t) (term_depth t) rest → LeavesAny t left room rest
    leaves-kept t c T left room rest e none h u r = by (subst (λ (x : Term). IsReplaced Puts x u) e r)
      where
        by : IsReplaced Puts (Const c T) u → Leaves left room (term_size u) (term_depth u) rest
        by (inl k) = absurd (none u k)
        by (inr k) = subst (λ (x : Term). Leaves left room (term_size x) (term_depth x) rest) (e ∙ sym k.0) h

    pub leaves-still : (t : Term) (left room : ℕ) (rest : Option ℕ) → ((u : Term) → IsReplaced Puts t u → u ≡ t) → Leaves left room (term_size t) (term_depth t) rest → LeavesAny t left room rest
    leaves-still t left room rest still h u r = subst (λ (x : Term). Leaves left room (term_size x) (term_depth x) rest) (sym (still u r)) h

    pub leaves-body : (t b : Term) (T : Typ) (left room rest : ℕ) (more : Option ℕ) → t ≡ Abs T b → (left ≡ 0 → ⊥) → (room ≡ 0 → ⊥) → Leaves (left - 1) (room - 1) (typ_size T) (typ_depth T) (Some rest) → LeavesAny b rest (room - 1) more → LeavesAny t left room more
    leaves-body t b T left room rest more e some deep h k u r =
        let q = subst (λ (x : Term). IsReplaced Puts x u) e r in
        subst (λ (x : Term). Leaves left room (term_size x) (term_depth x) more) (sym q.2)
        (leaves-abs left room rest (typ_size T) (typ_depth T) (term_size q.0) (term_depth q.0) more some deep h (k q.0 q.1))

    pub leaves-binder : (t b : Term) (T : Typ) (left room : ℕ) → t ≡ Abs T b → (left ≡ 0 → ⊥) → (room ≡ 0 → ⊥) → Leaves (left - 1) (room - 1) (typ_size T) (typ_depth T) None → LeavesAny t left room None
    leaves-binder t b T left room e some deep h u r =
        let q = subst (λ (x : Term). IsReplaced Puts x u) e r in
        subst (λ (x : Term). Leaves left room (term_size x) (term_depth x) None) (sym q.2)
        (leaves-part_none left room (typ_size T) (typ_depth T) (term_size q.0) (term_depth q.0) _ _ refl refl some deep h)

    pub leaves-parts : (t f a : Term) (left room rest : ℕ) (more : Option ℕ) → t ≡ App f a → (left ≡ 0 → ⊥) → (room ≡ 0 → ⊥) → LeavesAny f (left - 1) (room - 1) (Some rest) → LeavesAny a rest (room - 1) more → LeavesAny t left room more
    leaves-parts t f a left room rest more e some deep h k u r =
        let q = subst (λ (x : Term). IsReplaced Puts x u) e r in
        subst (λ (x : Term). Leaves left room (term_size x) (term_depth x) more) (sym q.4)
        (leaves-abs left room rest (term_size q.0) (term_depth q.0) (term_size q.1) (term_depth q.1) more some deep (h q.0 q.2) (k q.1 q.3))

    pub leaves-function : (t f a : Term) (left room : ℕ) → t ≡ App f a → (left ≡ 0 → ⊥) → (room ≡ 0 → ⊥) → LeavesAny f (left - 1) (room - 1) None → LeavesAny t left room None
    leaves-function t f a left room e some deep h u r =
        let q = subst (λ (x : Term). IsReplaced Puts x u) e r in
        subst (λ (x : Term). Leaves left room (term_size x) (term_depth x) None) (sym q.4)
        (leaves-part_none left room (term_size q.0) (term_depth q.0) (term_size q.1) (term_depth q.1) _ _ refl refl some deep (h q.0 q.2))

    pub leaves-full : (t : Term) (left room : ℕ) → left ≡ 0 → LeavesAny t left room None
    leaves-full t left room e u r = λ fits. let some = term_size-some u in absurd (omega arith)

    pub leaves-deep : (t : Term) (left room : ℕ) → room ≡ 0 → LeavesAny t left room None
    leaves-deep t left room e u r = λ fits. let some = term_depth-some u in omega arith

  -- What the term becomes, where it is made anew and where it stays.
  pub put-constant : (c : ℕ) (T : Typ) (u : Term) (made : Option Term) → Puts c T u → made ≡ Some u → IsReplaced Puts (Const c T) (became (Const c T) made)
  put-constant c T u made p e = subst (λ (x : Option Term). IsReplaced Puts (Const c T) (became (Const c T) x)) (sym e) (inl p)

  pub kept-constant : (c : ℕ) (T : Typ) (made : Option Term) → ((u : Term) → ¬ Puts c T u) → made ≡ None → IsReplaced Puts (Const c T) (became (Const c T) made)
  kept-constant c T made none e = subst (λ (x : Option Term). IsReplaced Puts (Const c T) (became (Const c T) x)) (sym e) (inr (refl, none))

  pub put-body : (t b : Term) (T : Typ) (inside made : Option Term) → t ≡ Abs T b → IsReplaced Puts b (became b inside) → made ≡ option_map (Abs T) inside → IsReplaced Puts t (became t made)
  put-body t b T inside made e h d = subst (λ (x : Term). IsReplaced Puts x (became x made)) (sym e) (subst (λ (x : Option Term). IsReplaced Puts (Abs T b) (became (Abs T b) x)) (sym d) (by inside h))
    where
      by : (inside : Option Term) → IsReplaced Puts b (became b inside) → IsReplaced Puts (Abs T b) (became (Abs T b) (option_map (Abs T) inside))
      by None h = (b, h, refl)
      by (Some c) h = (c, h, refl)

  pub put-parts : (t f a g b : Term) (made : Option Term) → t ≡ App f a → IsReplaced Puts f g → IsReplaced Puts a b → became (App f a) made ≡ App g b → IsReplaced Puts t (became t made)
  put-parts t f a g b made e h k d = subst (λ (x : Term). IsReplaced Puts x (became x made)) (sym e) (g, b, h, k, d)

  -- It isn't within the limits where a part isn't.
  body-within : (T : Typ) (b : Term) → IsWithin (Abs T b) → IsWithin b
  body-within T b w = let size = w.size in let depth = w.depth in record { size = omega arith; depth = omega arith }

  function-within : (f a : Term) → IsWithin (App f a) → IsWithin f
  function-within f a w = let size = w.size in let depth = w.depth in record { size = omega arith; depth = omega arith }

  argument-within : (f a : Term) → IsWithin (App f a) → IsWithin a
  argument-within f a w = let size = w.size in let depth = w.depth in record { size = omega arith; depth = omega arith }

  pub body-large : (t b : Term) (T : Typ) (fault : Grow) → t ≡ Abs T b → IsTooLarge Puts b fault → IsTooLarge Puts t fault
  body-large t b T grow.Big e h = λ u r w.
      let q = subst (λ (x : Term). IsReplaced Puts x u) e r in h q.0 q.1 (body-within T q.0 (subst IsWithin q.2 w))
  body-large t b T grow.Memory e h = tt

  pub function-large : (t f a : Term) (fault : Grow) → t ≡ App f a → IsTooLarge Puts f fault → IsTooLarge Puts t fault
  function-large t f a grow.Big e h = λ u r w.
      let q = subst (λ (x : Term). IsReplaced Puts x u) e r in h q.0 q.2 (function-within q.0 q.1 (subst IsWithin q.4 w))
  function-large t f a grow.Memory e h = tt

  pub argument-large : (t f a : Term) (fault : Grow) → t ≡ App f a → IsTooLarge Puts a fault → IsTooLarge Puts t fault
  argument-large t f a grow.Big e h = λ u r w.
      let q = subst (λ (x : Term). IsReplaced Puts x u) e r in h q.1 q.3 (argument-within q.0 q.1 (subst IsWithin q.4 w))
  argument-large t f a grow.Memory e h = tt

  -- The equation of the term and what it becomes.
  pub equation-full : (T : Typ) (t : Term) → ((u : Term) → IsReplaced Puts t u → Leaves 200000 2000 (term_size u) (term_depth u) None) → (u : Term) → IsReplaced Puts t u → ¬ IsWithin (eq T t u)
  equation-full T t h u r w =
      let right = argument-within (App (Const 4 _) t) u w in
      let size = right.size in
      let depth = right.depth in
      let deep : 2000 < term_depth u = h u r size in
      absurd (omega arith)

  pub equation-large : (T : Typ) (t : Term) → IsTooLarge Puts t grow.Big → (u : Term) → IsReplaced Puts t u → ¬ IsWithin (eq T t u)
  equation-large T t h u r w = h u r (argument-within (App (Const 4 _) t) u w)

  pub equation-made : ((c : ℕ) (T : Typ) (u v : Term) → Puts c T u → Puts c T v → u ≡ v) → (T : Typ) (t left right made : Term) → left ≡ t → IsReplaced Puts t right → made ≡ eq T left right → (u : Term) → IsReplaced Puts t u → made ≡ eq T t u
  equation-made once T t left right made e h d u r = d ∙ (λ i. eq T (e i) (replaced-once Puts once t right u h r i))

-- A term that isn't within the limits leaves no room within them.
pub large-leaves : (u : Term) (left room : ℕ) → left ≤ 200000 → room ≤ 2000 → (¬ IsWithin u) → Leaves left room (term_size u) (term_depth u) None
large-leaves u left room h k large = λ fits. elim (cases_lt room (term_depth u)) [
  | inl deep ↦ deep
  | inr shallow ↦ absurd (large (record { size = omega arith; depth = omega arith }))
]

-- What is said of no answer.
pub none-of : {B : Type 0} (P : Type 0) (Q : B → Type 0) (o : Option B) → MatchOption o P Q → ((x : B) → o ≡ Some x → ⊥) → P
none-of P Q None h some = h
none-of P Q (Some x) h some = absurd (some x refl)
