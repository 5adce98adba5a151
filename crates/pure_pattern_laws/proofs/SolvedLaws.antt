-- What a map that solves a pair of patterns says of the images of their variables.
use Rattle.std.proofs.Common.{◌≡◌, ℕ, ◌+◌, ◌<◌, ◌≤◌, inl, inr, List, [], ◌∷◌, ◌++◌, length, Bool, true, false, ap, refl, sym, subst, ◌∙◌, arith, nat_lt, slice_get, Some, reverse}
use Rattle.std.specs.Prelude.{if◌then◌else◌}
use Rattle.pure_text.specs.Lists.{EachTwo}
use Rattle.pure_definitions.specs.Types.Typ.{Typ, arrow}
use Rattle.pure_definitions.specs.Terms.Term.{Term, Const, Free, Var, Bound, Abs, App}
use Rattle.pure_definitions.specs.Terms.Bounds.{Occurs, lift_term}
use Rattle.pure_definitions.specs.Terms.Typing.{node_count}
use Rattle.pure_definitions.specs.Terms.Subst.{inst_term}
use Rattle.pure_definitions.specs.Reduction.Eta.{EtaStep, EtaReduces, IsLongForm}
use Rattle.pure_eta.proofs.LongLaws.{IsFront, IsLong}
use Rattle.pure_reduction.specs.LongForms.{HaveOneLongForm}
use Rattle.pure_reduction.proofs.LongLaws.{one_long_form_of_term}
use Rattle.pure_unify_definitions.specs.Fronts.{front, arguments, is_schematic, below, domains, range}
use Rattle.pure_unify_laws.proofs.SplitLaws.{under}
use Rattle.pure_unify_final.proofs.SideLaws.{IsRigidHead}
use Rattle.pure_solutions.specs.Solutions.{IsTermSubstitution, IsLongMap}
use Rattle.pure_solutions.proofs.SolutionLaws.{image-typed}
use Rattle.pure_pattern_laws.specs.Patterns.{IsPlace, IsPattern}
use Rattle.pure_pattern_laws.specs.Treatment.{IsFlexibleSide}
use Rattle.pure_pattern_laws.specs.Putting.{place_in, put_application, put_in}
use Rattle.pure_pattern_laws.proofs.PlacedLaws.{raised, renaming}
use Rattle.pure_pattern_laws.proofs.BuiltLaws.{body-long, IsLongBelow, below-of, long-front, renaming-itself}
use Rattle.pure_pattern_laws.proofs.PutLaws.{schematic-is, chosen, some_second, some_typ, IsFlexibleLong, flexible-long, set-is, front-function, put_in_is_long_form}
use Rattle.pure_pattern_laws.proofs.KeepLaws.{side-long, side-form, side-body, flexible-side}

no_list : {A : Type 0} (xs : List A) → 0 ≡ length xs → xs ≡ []
no_list [] e = refl
no_list (x ∷ xs) e = absurd (omega arith)

two-first : (ts : List Term) (a : Term) (zs : List ℕ) → EachTwo IsPlace (ts ++ a ∷ []) zs → (ws : List ℕ) × EachTwo IsPlace ts ws × (z : ℕ) × IsPlace a z
two-first [] a [] h = absurd h
two-first [] a (z ∷ zs) h = ([], tt, z, h.0)
two-first (t ∷ ts) a [] h = absurd h
two-first (t ∷ ts) a (z ∷ zs) h = (let rest = two-first ts a zs h.1 in (z ∷ rest.0, (h.0, rest.1), rest.2, rest.3))

decided : {P : Type 0} (b : Bool) → (b ≡ true → P) → (b ≡ false → P) → P
decided true h k = h refl
decided false h k = k refl

pub occurs-lift : (x i : ℕ) (T : Typ) (by from : ℕ) (t : Term) → Occurs (Var x i T) (lift_term by from t) → Occurs (Var x i T) t
occurs-lift x i T by from (Const c V) o = o
occurs-lift x i T by from (Free y V) o = o
occurs-lift x i T by from (Var y j V) o = o
occurs-lift x i T by from (Bound p) o = absurd (bound-absent (nat_lt p from) o)
  where
    bound-absent : (b : Bool) → Occurs (Var x i T) (if b then Bound p else Bound (p + by)) → ⊥
    bound-absent true e = absurd (cc)
    bound-absent false e = absurd (cc)
occurs-lift x i T by from (Abs V b) (inl e) = absurd (cc)
occurs-lift x i T by from (Abs V b) (inr o) = inr (occurs-lift x i T by (from + 1) b o)
occurs-lift x i T by from (App f a) (inl e) = absurd (cc)
occurs-lift x i T by from (App f a) (inr (inl o)) = inr (inl (occurs-lift x i T by from f o))
occurs-lift x i T by from (App f a) (inr (inr o)) = inr (inr (occurs-lift x i T by from a o))

occurs-step : (x i : ℕ) (T : Typ) {t u : Term} → EtaStep t u → Occurs (Var x i T) t → Occurs (Var x i T) u
occurs-step x i T (EtaStep.contract {f = f} {g = g} e) (inl k) = absurd (cc)
occurs-step x i T (EtaStep.contract {f = f} {g = g} e) (inr (inl k)) = absurd (cc)
occurs-step x i T (EtaStep.contract {f = f} {g = g} e) (inr (inr (inl o))) = occurs-lift x i T 1 0 f (subst (Occurs (Var x i T)) e o)
occurs-step x i T (EtaStep.contract {f = f} {g = g} e) (inr (inr (inr k))) = absurd (cc)
occurs-step x i T (EtaStep.body k) (inl e) = absurd (cc)
occurs-step x i T (EtaStep.body k) (inr o) = inr (occurs-step x i T k o)
occurs-step x i T (EtaStep.function k) (inl e) = absurd (cc)
occurs-step x i T (EtaStep.function k) (inr (inl o)) = inr (inl (occurs-step x i T k o))
occurs-step x i T (EtaStep.function k) (inr (inr o)) = inr (inr o)
occurs-step x i T (EtaStep.argument k) (inl e) = absurd (cc)
occurs-step x i T (EtaStep.argument k) (inr (inl o)) = inr (inl o)
occurs-step x i T (EtaStep.argument k) (inr (inr o)) = inr (inr (occurs-step x i T k o))

pub place-lacks : (x i : ℕ) (T : Typ) {t : Term} (z : ℕ) → EtaReduces t (Bound z) → Occurs (Var x i T) t → ⊥
place-lacks x i T z EtaReduces.done o = absurd (cc)
place-lacks x i T z (EtaReduces.next k r) o = place-lacks x i T z r (occurs-step x i T k o)

-- In a term whose arguments are bound variables no other variable occurs than the one at its front.
pub places-lack : (x i : ℕ) (T : Typ) (t : Term) (zs : List ℕ) → EachTwo IsPlace (arguments t) zs → is_schematic (front t) ≡ true → Occurs (Var x i T) t → Var x i T ≡ front t
places-lack x i T (Const c V) zs h e o = absurd (cc)
places-lack x i T (Free y V) zs h e o = absurd (cc)
places-lack x i T (Var y j V) zs h e o = o
places-lack x i T (Bound p) zs h e o = absurd (cc)
places-lack x i T (Abs V b) zs h e o = absurd (cc)
places-lack x i T (App f a) zs h e (inl k) = absurd (cc)
places-lack x i T (App f a) zs h e (inr (inl o)) = (let split = two-first (arguments f) a zs h in places-lack x i T f split.0 split.1 e o)
places-lack x i T (App f a) zs h e (inr (inr o)) = (let split = two-first (arguments f) a zs h in absurd (place-lacks x i T split.2 split.3 o))

-- Each image of a schematic variable is in long form.
abbrev pub AreLongImages : (Term → Term) → Type 0
AreLongImages terms = (x i : ℕ) (T : Typ) → IsLongForm (terms (Var x i T)) (terms (Var x i T))

module _ (terms : Term → Term) (s : IsTermSubstitution terms) (long : AreLongImages terms) where
  pub long-map : IsLongMap terms
  long-map = record { substitution = s; images = λ x i T. inr (long x i T) }

  -- the body of a variable's image
  pub image-below : (x i : ℕ) (T : Typ) → IsLongBelow [] (terms (Var x i T)) T
  image-below x i T = below-of [] (terms (Var x i T)) T (side-long (terms (Var x i T)) T (long x i T) (image-typed terms s x i T))

  -- What is put for an application of a variable.
  flexible-is : (bs : List Typ) (t : Term) (R : Typ) (x i : ℕ) (T : Typ) (zs : List ℕ) → front t ≡ Var x i T → EachTwo IsPlace (arguments t) zs → IsFlexibleLong bs t R x i T zs → put_in terms t ≡ renaming (place_in (reverse zs)) (image-below x i T).body
  flexible-is bs (App f a) R x i T zs e p h =
      let first = some_second IsPlace (arguments f) a zs p in
      let some = some_typ (λ z U. slice_get bs z ≡ Some U) zs first.0 first.1 (domains T) first.2 h.types in
      let put : put_application (terms (front f)) (App f a) ≡ renaming (place_in (reverse zs)) (image-below x i T).body =
      ap (λ v. put_application (terms v) (App f a)) e ∙ set-is terms long-map (App f a) R bs x i T zs h (image-below x i T) some.0 some.1 some.2 in
      let test : is_schematic (front f) ≡ true = ap is_schematic e in
      rw test put
  flexible-is bs (Var y j V) R x i T [] e p h =
      let none : domains T ≡ [] = no_list (domains T) h.domains_long in
      let b = image-below x i T in
      let image : terms (Var x i T) ≡ b.body = b.is ∙ ap (λ Ts. below Ts b.body) none in
      ap terms e ∙ (image ∙ sym (renaming-itself b.body))
  flexible-is bs (Var y j V) R x i T (z ∷ zs) e p h = absurd p
  flexible-is bs (Const c V) R x i T zs e p h = absurd (cc)
  flexible-is bs (Free y V) R x i T zs e p h = absurd (cc)
  flexible-is bs (Bound q) R x i T zs e p h = absurd (cc)
  flexible-is bs (Abs V b) R x i T zs e p h = absurd (cc)

  pub flexible-body : (t : Term) (S : Typ) (x i : ℕ) (T : Typ) (zs : List ℕ) (b : IsLongBelow [] t S) → IsFlexibleSide t x i T zs → put_in terms b.body ≡ renaming (place_in (reverse zs)) (image-below x i T).body
  flexible-body t S x i T zs b h =
      flexible-is (under (domains S) []) b.body (range S) x i T zs (sym (ap front (side-body t S b)) ∙ h.variable) (subst (λ u. EachTwo IsPlace (arguments u) zs) (side-body t S b) h.places.are) (flexible-side t S x i T zs b h)

  put-below : (Ts : List Typ) (t : Term) → put_in terms (below Ts t) ≡ below Ts (put_in terms t)
  put-below [] t = refl
  put-below (T ∷ Ts) t = ap (Abs T) (put-below Ts t)

  below-same : (Ts : List Typ) (t u : Term) → below Ts t ≡ below Ts u → t ≡ u
  below-same [] t u e = e
  below-same (T ∷ Ts) t u e = (let inner : below Ts t ≡ below Ts u = cc in below-same Ts t u inner)

  -- The bodies of two sides that are solved, with the map put into them, are the same.
  pub solved-bodies : (S : Typ) (l r : Term) → IsLong [] l l S → IsLong [] r r S → IsPattern l → IsPattern r → HaveOneLongForm (inst_term terms l) (inst_term terms r) → (b : IsLongBelow [] l S) (c : IsLongBelow [] r S) → put_in terms b.body ≡ put_in terms c.body
  solved-bodies S l r h k p q (w, left, right) b c =
      let first : put_in terms l ≡ w = one_long_form_of_term (inst_term terms l) (put_in terms l) w (put_in_is_long_form terms long-map l (side-form l S h) p) left in
      let second : put_in terms r ≡ w = one_long_form_of_term (inst_term terms r) (put_in terms r) w (put_in_is_long_form terms long-map r (side-form r S k) q) right in
      let whole : below (domains S) (put_in terms b.body) ≡ below (domains S) (put_in terms c.body) =
      sym (put-below (domains S) b.body) ∙ (ap (put_in terms) (sym b.is) ∙ ((first ∙ sym second) ∙ (ap (put_in terms) c.is ∙ put-below (domains S) c.body))) in
      below-same (domains S) (put_in terms b.body) (put_in terms c.body) whole

  -- A head that isn't schematic stays.
  pub rigid-front : (t : Term) → IsRigidHead (front t) → front (put_in terms t) ≡ front t
  rigid-front (Const c V) n = refl
  rigid-front (Free x V) n = refl
  rigid-front (Var x i V) n = absurd n
  rigid-front (Bound p) n = refl
  rigid-front (Abs V b) n = absurd n
  rigid-front (App f a) n =
      chosen (λ u. front u ≡ front f) (is_schematic (front f)) (put_application (terms (front f)) (App f a)) (App (put_in terms f) (put_in terms a)) (λ e. absurd (no_schematic (front f) n e)) (λ e. rigid-front f n)
    where
      no_schematic : (k : Term) → IsRigidHead k → is_schematic k ≡ true → ⊥
      no_schematic (Const c V) m e = absurd (cc)
      no_schematic (Free x V) m e = absurd (cc)
      no_schematic (Bound p) m e = absurd (cc)
      no_schematic (Var x i V) m e = m
      no_schematic (Abs V b) m e = m
      no_schematic (App g b) m e = m

  -- Where a variable occurs, the body of its image stands.
  count-renaming : (r : ℕ → ℕ) (t : Term) → node_count (renaming r t) ≡ node_count t
  count-renaming r (Const c V) = refl
  count-renaming r (Free x V) = refl
  count-renaming r (Var x i V) = refl
  count-renaming r (Bound p) = refl
  count-renaming r (Abs V b) = ap (λ n. 1 + n) (count-renaming (raised r) b)
  count-renaming r (App f a) = λ l. 1 + (count-renaming r f l + count-renaming r a l)

  application-occurs : (x i : ℕ) (T : Typ) (f a : Term) → is_schematic (front f) ≡ false → (Occurs (Var x i T) f → node_count (image-below x i T).body < node_count (put_in terms f)) → (Occurs (Var x i T) a → node_count (image-below x i T).body ≤ node_count (put_in terms a))
      → Occurs (Var x i T) (App f a) → node_count (image-below x i T).body < node_count (put_in terms (App f a))
  application-occurs x i T f a e h k (inl c) = absurd (cc)
  application-occurs x i T f a e h k (inr (inl o)) = (let less = h o in rw e (omega arith))
  application-occurs x i T f a e h k (inr (inr o)) = (let less = k o in rw e (omega arith))

  mutual
    count-occurs : (bs : List Typ) (x i : ℕ) (T : Typ) (t : Term) (R : Typ) → IsLong bs t t R → IsPattern t → Occurs (Var x i T) t → node_count (image-below x i T).body ≤ node_count (put_in terms t)
    count-occurs bs x i T (Const c V) R h p o = absurd (cc)
    count-occurs bs x i T (Free y V) R h p o = absurd (cc)
    count-occurs bs x i T (Bound q) R h p o = absurd (cc)
    count-occurs bs x i T (Var y j V) R h p o =
        let is = flexible-is bs (Var y j V) R x i T [] (sym o) tt (flexible-long bs (Var y j V) R x i T [] h (sym h.count) (sym o) tt) in
        let same = ap node_count is ∙ count-renaming (place_in (reverse [])) (image-below x i T).body in
        omega arith
    count-occurs bs x i T (Abs V b) R h p (inl e) = absurd (cc)
    count-occurs bs x i T (Abs V b) R h p (inr o) = (let k = body-long bs V b R h in let rest = count-occurs (V ∷ bs) x i T b k.0 k.1 p o in omega arith)
    count-occurs bs x i T (App f a) R h p o =
        decided (is_schematic (front f))
        (λ e. (let v = schematic-is (front f) e in
        let places = p.0 e in
        let here : Var x i T ≡ front f = places-lack x i T (App f a) places.0 places.1.are e o in
        let is = flexible-is bs (App f a) R x i T places.0 (sym here) places.1.are (flexible-long bs (App f a) R x i T places.0 h (sym h.count) (sym here) places.1.are) in
        let same = ap node_count is ∙ count-renaming (place_in (reverse places.0)) (image-below x i T).body in
        omega arith))
        (λ e. (let k = front-function terms long-map bs f a R (long-front bs (App f a) R h (λ x. x)) in
        let q = p.1 e in
        let rest = application-occurs x i T f a e (λ o. count-front bs x i T f (arrow k.0 R) k.1 e q.0 o) (λ o. count-occurs bs x i T a k.0 k.2 q.1 o) o in
        omega arith))

    count-front : (bs : List Typ) (x i : ℕ) (T : Typ) (t : Term) (R : Typ) → IsFront bs t t R → is_schematic (front t) ≡ false → IsPattern t → Occurs (Var x i T) t → node_count (image-below x i T).body < node_count (put_in terms t)
    count-front bs x i T (Const c V) R h e p o = absurd (cc)
    count-front bs x i T (Free y V) R h e p o = absurd (cc)
    count-front bs x i T (Bound q) R h e p o = absurd (cc)
    count-front bs x i T (Var y j V) R h e p o = absurd (cc)
    count-front bs x i T (Abs V b) R h e p o = absurd (h.applied tt)
    count-front bs x i T (App f a) R h e p o =
        let k = front-function terms long-map bs f a R h in
        let q = p.1 e in
        application-occurs x i T f a e (λ o. count-front bs x i T f (arrow k.0 R) k.1 e q.0 o) (λ o. count-occurs bs x i T a k.0 k.2 q.1 o) o

  -- So a variable doesn't occur in a rigid side of a pair whose other side is an application of it.
  pub occurs-unsolved : (bs : List Typ) (x i : ℕ) (T : Typ) (t : Term) (R : Typ) (zs : List ℕ) → IsFront bs t t R → is_schematic (front t) ≡ false → IsPattern t → Occurs (Var x i T) t → renaming (place_in (reverse zs)) (image-below x i T).body ≡ put_in terms t → ⊥
  occurs-unsolved bs x i T t R zs h e p o same =
      let more = count-front bs x i T t R h e p o in
      let counts = sym (count-renaming (place_in (reverse zs)) (image-below x i T).body) ∙ ap node_count same in
      absurd (omega arith)
