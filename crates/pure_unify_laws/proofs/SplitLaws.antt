-- Sides with one head are equated where the pairs of their arguments are.
use Rattle.std.proofs.Common.{◌≡◌, ℕ, ◌+◌, List, [], ◌∷◌, ◌++◌, map, length, refl, ap, sym, subst, ◌∙◌, arith}
use Rattle.std.proofs.lemmas.List.{length-append}
use Rattle.pure_text.specs.Lists.{Each, EachTwo}
use Rattle.pure_text.proofs.ListLaws.{each-append}
use Rattle.pure_definitions.specs.Types.Typ.{Typ, arrow}
use Rattle.pure_definitions.specs.Terms.Term.{Term, Const, Free, Var, Bound, Abs, App}
use Rattle.pure_definitions.specs.Terms.Typing.{HasType}
use Rattle.pure_definitions.specs.Reduction.Beta.{IsBetaNormal}
use Rattle.pure_definitions.specs.Reduction.Eta.{abstraction_count, arrow_count, HasSaturatedParts, IsLongForm}
use Rattle.pure_definitions.specs.Declarations.Decl.{Decl}
use Rattle.pure_definitions.specs.Declarations.Certified.{IsCertifiedTyp}
use Rattle.pure_term_laws.proofs.TypingLaws.{typed-once}
use Rattle.pure_logic.specs.Derivable.{Pair}
use Rattle.pure_equation_laws.specs.Equated.{IsTypedUnder, AreEquated, IsPairEquated, AreEqualModulo}
use Rattle.pure_equation_laws.proofs.SidesLaws.{equated_are_typed, typed-abstraction, typed-function, typed-argument, typed-body}
use Rattle.pure_equation_laws.proofs.NodesLaws.{equated_bodies, equated_node_by_node}
use Rattle.pure_unify_definitions.specs.Fronts.{abstractions, term_body, front, arguments, head, below, pair, pairs_below, argument_pairs}
use Rattle.pure_unify_definitions.specs.Node.{Setting, term_after}
use Rattle.pure_unify_laws.specs.Reached.{pair_after}
use Rattle.pure_unify_laws.proofs.SettingLaws.{typ_through, after-abs, after-app}

-- A term in long form, under binders: typed, with certified parts, and with as many abstractions as its type has arrows, and so for its parts that aren't applied.
pub record IsLongIn (ds : List Decl) (bs : List Typ) (t : Term) : Type 0 where
  pub typ : Typ
  pub typed : IsTypedUnder ds bs t typ
  pub count : abstraction_count t ≡ arrow_count typ
  pub parts : HasSaturatedParts bs t
  pub normal : IsBetaNormal t

-- both sides of a pair are
abbrev pub AreSidesLong : List Decl → Pair → Type 0
AreSidesLong ds p = IsLongIn ds [] p.left × IsLongIn ds [] p.right

pub long-is : (ds : List Decl) (t u : Term) (T : Typ) → IsTypedUnder ds [] u T → IsLongForm t u → IsLongIn ds [] u
long-is ds t u T h l =
    let same : l.saturated.0 ≡ T = typed-once [] u l.saturated.0 T l.saturated.1 h.typed in
    record { typ = T; typed = h; count = rw (sym same) l.saturated.2; parts = l.parts; normal = l.normal }

module _ (ds : List Decl) where
  close : (bs : List Typ) (V : Typ) (b : Term) → IsCertifiedTyp ds V → IsLongIn ds (V ∷ bs) b → IsLongIn ds bs (Abs V b)
  close bs V b v h = record {
    typ = arrow V h.typ;
    typed = typed-abstraction ds bs V h.typ b v h.typed;
    count = ap (λ n. 1 + n) h.count;
    parts = ((h.typ, h.typed.typed, h.count), h.parts);
    normal = h.normal;
  }

  open_body : (bs : List Typ) (V : Typ) (b : Term) → IsLongIn ds bs (Abs V b) → IsLongIn ds (V ∷ bs) b
  open_body bs V b h =
      let own = typed-body ds bs h.typ V b h.typed in
      let same : h.parts.0.0 ≡ h.typed.typed.0 = typed-once (V ∷ bs) b h.parts.0.0 h.typed.typed.0 h.parts.0.1 own.typed in
      record { typ = h.typed.typed.0; typed = own; count = rw (sym same) h.parts.0.2; parts = h.parts.1; normal = h.normal }

  -- an argument of a term whose parts are in long form
  argument-long : (bs : List Typ) (U : Typ) (f a : Term) → IsTypedUnder ds bs (App f a) U → HasSaturatedParts bs (App f a) → IsBetaNormal a → IsLongIn ds bs a
  argument-long bs U f a h p m =
      let own = typed-argument ds bs U f a h in
      let same : p.1.0 ≡ h.typed.0 = typed-once bs a p.1.0 h.typed.0 p.1.1 own.typed in
      record { typ = h.typed.0; typed = own; count = rw (sym same) p.1.2; parts = p.2; normal = m }

  spine-long : (bs : List Typ) (U : Typ) (t : Term) → IsTypedUnder ds bs t U → HasSaturatedParts bs t → IsBetaNormal t → Each (IsLongIn ds bs) (arguments t)
  spine-long bs U (App f a) h p m = each-append (IsLongIn ds bs) (arguments f) (a ∷ []) (spine-long bs (arrow h.typed.0 U) f (typed-function ds bs U f a h) p.0 m.1) (argument-long bs U f a h p m.2, tt)
  spine-long bs U (Const c T) h p m = tt
  spine-long bs U (Free x T) h p m = tt
  spine-long bs U (Var x i T) h p m = tt
  spine-long bs U (Bound n) h p m = tt
  spine-long bs U (Abs T b) h p m = tt

  closed-each : (bs : List Typ) (V : Typ) (Ts : List Typ) → IsCertifiedTyp ds V → (ts : List Term) → Each (λ a. IsLongIn ds (V ∷ bs) (below Ts a)) ts → Each (λ a. IsLongIn ds bs (below (V ∷ Ts) a)) ts
  closed-each bs V Ts v [] h = tt
  closed-each bs V Ts v (t ∷ ts) h = (close bs V (below Ts t) v h.0, closed-each bs V Ts v ts h.1)

  pub arguments-long : (bs : List Typ) (t : Term) → IsLongIn ds bs t → Each (λ a. IsLongIn ds bs (below (abstractions t) a)) (arguments (term_body t))
  arguments-long bs (Abs V b) h = closed-each bs V (abstractions b) h.typed.parts.0 (arguments (term_body b)) (arguments-long (V ∷ bs) b (open_body bs V b h))
  arguments-long bs (App f a) h = spine-long bs h.typ (App f a) h.typed h.parts h.normal
  arguments-long bs (Const c T) h = tt
  arguments-long bs (Free x T) h = tt
  arguments-long bs (Var x i T) h = tt
  arguments-long bs (Bound n) h = tt

  below-long : (Ts Us : List Typ) (ts us : List Term) → Each (λ a. IsLongIn ds [] (below Ts a)) ts → Each (λ a. IsLongIn ds [] (below Us a)) us → Each (AreSidesLong ds) (pairs_below Ts Us ts us)
  below-long Ts Us [] us h k = tt
  below-long Ts Us (t ∷ ts) [] h k = tt
  below-long Ts Us (t ∷ ts) (u ∷ us) h k = ((h.0, k.0), below-long Ts Us ts us h.1 k.1)

  pub argument_pairs-long : (l r : Term) → IsLongIn ds [] l → IsLongIn ds [] r → Each (AreSidesLong ds) (argument_pairs l r)
  argument_pairs-long l r h k = below-long (abstractions l) (abstractions r) (arguments (term_body l)) (arguments (term_body r)) (arguments-long [] l h) (arguments-long [] r k)

-- Long terms of one type have the same abstractions, and under one head as many arguments.
record AreBuiltAlike (l r : Term) : Type 0 where
  same : abstractions l ≡ abstractions r
  many : length (arguments (term_body l)) ≡ length (arguments (term_body r))

none_more : (n : ℕ) → n ≡ 0 + n
none_more n = omega arith

front-typed : (bs : List Typ) (t : Term) (U : Typ) → HasType bs t U → (F : Typ) × HasType bs (front t) F × (arrow_count F ≡ length (arguments t) + arrow_count U)
front-typed bs (App f a) U h =
    let rest = front-typed bs f (arrow h.0 U) h.1 in
    let many : length (arguments f ++ a ∷ []) ≡ length (arguments f) + 1 = length-append (arguments f) (a ∷ []) in
    (rest.0, rest.1, counted rest.0 (length (arguments f)) (length (arguments f ++ a ∷ [])) (arrow_count U) rest.2 many)
  where
    counted : (F : Typ) (n m k : ℕ) → arrow_count F ≡ n + (1 + k) → m ≡ n + 1 → arrow_count F ≡ m + k
    counted F n m k e f = omega arith
front-typed bs (Const c T) U h = (U, h, none_more (arrow_count U))
front-typed bs (Free x T) U h = (U, h, none_more (arrow_count U))
front-typed bs (Var x i T) U h = (U, h, none_more (arrow_count U))
front-typed bs (Bound n) U h = (U, h, none_more (arrow_count U))
front-typed bs (Abs T b) U h = (U, h, none_more (arrow_count U))

no_abstraction : (n : ℕ) → 0 ≡ 1 + n → ⊥
no_abstraction n e = absurd (omega arith)

pub spines-alike : (bs : List Typ) (l r : Term) (T : Typ) → HasType bs l T → HasType bs r T → front l ≡ front r → length (arguments l) ≡ length (arguments r)
spines-alike bs l r T h k e =
    let first = front-typed bs l T h in
    let second = front-typed bs r T k in
    let same : first.0 ≡ second.0 = typed-once bs (front r) first.0 second.0 (subst (λ (t : Term). HasType bs t first.0) e first.1) second.1 in
    counted (arrow_count first.0) (length (arguments l)) (length (arguments r)) (arrow_count T) first.2 (ap arrow_count same ∙ second.2)
  where
    counted : (a n m k : ℕ) → a ≡ n + k → a ≡ m + k → n ≡ m
    counted a n m k e f = omega arith

alike : (bs : List Typ) (l r : Term) (T : Typ) → HasType bs l T → HasType bs r T → abstraction_count l ≡ arrow_count T → abstraction_count r ≡ arrow_count T → HasSaturatedParts bs l → HasSaturatedParts bs r → head l ≡ head r → AreBuiltAlike l r
alike bs (Abs V b) (Abs W c) T h k m n p q e =
    let arrows : arrow V h.0 ≡ arrow W k.0 = h.2 ∙ sym k.2 in
    let binders : V ≡ W = cc in
    let ranges : h.0 ≡ k.0 = cc in
    let first : p.0.0 ≡ h.0 = typed-once (V ∷ bs) b p.0.0 h.0 p.0.1 h.1 in
    let second : q.0.0 ≡ h.0 = typed-once (W ∷ bs) c q.0.0 k.0 q.0.1 k.1 ∙ sym ranges in
    let moved : HasType (V ∷ bs) c h.0 = rw (binders, ranges) k.1 in
    let parts : HasSaturatedParts (V ∷ bs) c = rw binders q.1 in
    let inside = alike (V ∷ bs) b c h.0 h.1 moved (rw (sym first) p.0.2) (rw (sym second) q.0.2) p.1 parts e in
    record { same = λ i. binders i ∷ inside.same i; many = inside.many }
alike bs (Abs V b) (Const c U) T h k m n p q e = absurd (no_abstraction (arrow_count h.0) (n ∙ ap arrow_count (sym h.2)))
alike bs (Abs V b) (Free c U) T h k m n p q e = absurd (no_abstraction (arrow_count h.0) (n ∙ ap arrow_count (sym h.2)))
alike bs (Abs V b) (Var c i U) T h k m n p q e = absurd (no_abstraction (arrow_count h.0) (n ∙ ap arrow_count (sym h.2)))
alike bs (Abs V b) (Bound c) T h k m n p q e = absurd (no_abstraction (arrow_count h.0) (n ∙ ap arrow_count (sym h.2)))
alike bs (Abs V b) (App f a) T h k m n p q e = absurd (no_abstraction (arrow_count h.0) (n ∙ ap arrow_count (sym h.2)))
alike bs (Const c U) (Abs V b) T h k m n p q e = absurd (no_abstraction (arrow_count k.0) (m ∙ ap arrow_count (sym k.2)))
alike bs (Free c U) (Abs V b) T h k m n p q e = absurd (no_abstraction (arrow_count k.0) (m ∙ ap arrow_count (sym k.2)))
alike bs (Var c i U) (Abs V b) T h k m n p q e = absurd (no_abstraction (arrow_count k.0) (m ∙ ap arrow_count (sym k.2)))
alike bs (Bound c) (Abs V b) T h k m n p q e = absurd (no_abstraction (arrow_count k.0) (m ∙ ap arrow_count (sym k.2)))
alike bs (App f a) (Abs V b) T h k m n p q e = absurd (no_abstraction (arrow_count k.0) (m ∙ ap arrow_count (sym k.2)))
alike bs l r T h k m n p q e = record { same = refl; many = spines-alike bs l r T h k e }

-- the binders of a term below abstractions, within others
abbrev pub under : List Typ → List Typ → List Typ
under [] bs = bs
under (T ∷ Ts) bs = under Ts (T ∷ bs)

after-below : (ss : List Setting) (Ts : List Typ) (t : Term) → term_after ss (below Ts t) ≡ below (map (typ_through ss) Ts) (term_after ss t)
after-below ss [] t = refl
after-below ss (T ∷ Ts) t = after-abs ss T (below Ts t) ∙ ap (Abs (typ_through ss T)) (after-below ss Ts t)

module _ (ds : List Decl) (ms : List Pair) where
  -- Where terms are equated below abstractions, they are under their binders.
  opened : (Ts bs : List Typ) (a b : Term) → (T : Typ) × AreEquated ds ms bs T (below Ts a) (below Ts b) → (U : Typ) × AreEquated ds ms (under Ts bs) U a b
  opened [] bs a b e = e
  opened (V ∷ Ts) bs a b (T, e) =
      let typed = (equated_are_typed ds ms bs T (Abs V (below Ts a)) (Abs V (below Ts b)) e).0 in
      let same : AreEquated ds ms bs (arrow V typed.typed.0) (Abs V (below Ts a)) (Abs V (below Ts b)) = subst (λ (W : Typ). AreEquated ds ms bs W (Abs V (below Ts a)) (Abs V (below Ts b))) (sym typed.typed.2) e in
      opened Ts (V ∷ bs) a b (typed.typed.0, (equated_bodies ds ms bs V typed.typed.0 (below Ts a) (below Ts b) typed.parts.0).0 same)

  -- The arguments are equated under the binders, where their pairs are after settings.
  abbrev ArgumentsEquated : List Setting → (Ts bs : List Typ) → List Term → List Term → Type 0
  ArgumentsEquated ss Ts bs ts us = EachTwo (λ a b. (U : Typ) × AreEquated ds ms (under (map (typ_through ss) Ts) bs) U (term_after ss a) (term_after ss b)) ts us

  arguments-equated : (ss : List Setting) (Ts Us : List Typ) → Ts ≡ Us → (ts us : List Term) → length ts ≡ length us → Each (λ p. IsPairEquated ds ms (pair_after ss p)) (pairs_below Ts Us ts us) → ArgumentsEquated ss Ts [] ts us
  arguments-equated ss Ts Us e [] [] n h = tt
  arguments-equated ss Ts Us e [] (u ∷ us) n h = absurd (omega arith)
  arguments-equated ss Ts Us e (t ∷ ts) [] n h = absurd (omega arith)
  arguments-equated ss Ts Us e (t ∷ ts) (u ∷ us) n h =
      let here : (T : Typ) × AreEquated ds ms [] T (term_after ss (below Ts t)) (term_after ss (below Ts u)) = subst (λ (Vs : List Typ). (T : Typ) × AreEquated ds ms [] T (term_after ss (below Ts t)) (term_after ss (below Vs u))) (sym e) h.0 in (
        opened (map (typ_through ss) Ts) [] (term_after ss t) (term_after ss u) (here.0, rw (sym (after-below ss Ts t), sym (after-below ss Ts u)) here.1),
        arguments-equated ss Ts Us e ts us (omega arith) h.1,
      )

  two-before : {A B : Type 0} (R : A → B → Type 0) (xs : List A) (x : A) (ys : List B) (y : B) → EachTwo R (xs ++ x ∷ []) (ys ++ y ∷ []) → EachTwo R xs ys × R x y
  two-before R [] x [] y h = (tt, h.0)
  two-before R [] x (z ∷ []) y h = absurd h.1
  two-before R [] x (z ∷ (w ∷ ys)) y h = absurd h.1
  two-before R (z ∷ []) x [] y h = absurd h.1
  two-before R (z ∷ (w ∷ xs)) x [] y h = absurd h.1
  two-before R (z ∷ xs) x (w ∷ ys) y h = let rest = two-before R xs x ys y h.1 in ((h.0, rest.0), rest.1)

  none-behind : {A B : Type 0} (R : A → B → Type 0) (xs : List A) (x : A) → EachTwo R (xs ++ x ∷ []) [] → ⊥
  none-behind R [] x h = h
  none-behind R (z ∷ xs) x h = h

  none-before : {A B : Type 0} (R : A → B → Type 0) (ys : List B) (y : B) → EachTwo R [] (ys ++ y ∷ []) → ⊥
  none-before R [] y h = h
  none-before R (z ∷ ys) y h = h

  abbrev AreThere : List Setting → (bs : List Typ) → (a b : Term) → Type 0
  AreThere ss bs a b = (U : Typ) × AreEquated ds ms bs U (term_after ss a) (term_after ss b)

  leaf-equal : (ss : List Setting) (bs : List Typ) (l r : Term) → l ≡ r → AreEqualModulo ds ms bs (term_after ss l) (term_after ss r)
  leaf-equal ss bs l r e = subst (λ (t : Term). AreEqualModulo ds ms bs (term_after ss l) (term_after ss t)) e AreEqualModulo.itself

  spines-equal : (ss : List Setting) (bs : List Typ) (l r : Term) → front l ≡ front r → EachTwo (AreThere ss bs) (arguments l) (arguments r) → AreEqualModulo ds ms bs (term_after ss l) (term_after ss r)
  spines-equal ss bs (App f a) (App g b) e h =
      let split = two-before (AreThere ss bs) (arguments f) a (arguments g) b h in
      rw (after-app ss f a, after-app ss g b) (AreEqualModulo.applied (spines-equal ss bs f g e split.0) (AreEqualModulo.equated split.1.1))
  spines-equal ss bs (App f a) (Const c U) e h = absurd (none-behind (AreThere ss bs) (arguments f) a h)
  spines-equal ss bs (App f a) (Free c U) e h = absurd (none-behind (AreThere ss bs) (arguments f) a h)
  spines-equal ss bs (App f a) (Var c i U) e h = absurd (none-behind (AreThere ss bs) (arguments f) a h)
  spines-equal ss bs (App f a) (Bound c) e h = absurd (none-behind (AreThere ss bs) (arguments f) a h)
  spines-equal ss bs (App f a) (Abs V b) e h = absurd (none-behind (AreThere ss bs) (arguments f) a h)
  spines-equal ss bs (Const c U) (App f a) e h = absurd (none-before (AreThere ss bs) (arguments f) a h)
  spines-equal ss bs (Free c U) (App f a) e h = absurd (none-before (AreThere ss bs) (arguments f) a h)
  spines-equal ss bs (Var c i U) (App f a) e h = absurd (none-before (AreThere ss bs) (arguments f) a h)
  spines-equal ss bs (Bound c) (App f a) e h = absurd (none-before (AreThere ss bs) (arguments f) a h)
  spines-equal ss bs (Abs V b) (App f a) e h = absurd (none-before (AreThere ss bs) (arguments f) a h)
  spines-equal ss bs l r e h = leaf-equal ss bs l r e

  -- Terms with the same abstractions and one head, whose arguments are equated, are equal node by node but for equated nodes.
  bodies-equal : (ss : List Setting) (bs : List Typ) (l r : Term) → abstractions l ≡ abstractions r → head l ≡ head r
      → EachTwo (AreThere ss (under (map (typ_through ss) (abstractions l)) bs)) (arguments (term_body l)) (arguments (term_body r)) → AreEqualModulo ds ms bs (term_after ss l) (term_after ss r)
  bodies-equal ss bs (Abs V b) (Abs W c) e f h =
      let binders : V ≡ W = cc in
      let rest : abstractions b ≡ abstractions c = cc in
      let inside = bodies-equal ss (typ_through ss V ∷ bs) b c rest f h in
      let same : term_after ss (Abs W c) ≡ Abs (typ_through ss V) (term_after ss c) = after-abs ss W c ∙ (λ i. Abs (typ_through ss (sym binders i)) (term_after ss c)) in
      rw (after-abs ss V b, same) (AreEqualModulo.bodies inside)
  bodies-equal ss bs (Abs V b) (Const c U) e f h = absurd (cc)
  bodies-equal ss bs (Abs V b) (Free c U) e f h = absurd (cc)
  bodies-equal ss bs (Abs V b) (Var c i U) e f h = absurd (cc)
  bodies-equal ss bs (Abs V b) (Bound c) e f h = absurd (cc)
  bodies-equal ss bs (Abs V b) (App g a) e f h = absurd (cc)
  bodies-equal ss bs (Const c U) (Abs V b) e f h = absurd (cc)
  bodies-equal ss bs (Free c U) (Abs V b) e f h = absurd (cc)
  bodies-equal ss bs (Var c i U) (Abs V b) e f h = absurd (cc)
  bodies-equal ss bs (Bound c) (Abs V b) e f h = absurd (cc)
  bodies-equal ss bs (App g a) (Abs V b) e f h = absurd (cc)
  bodies-equal ss bs l r e f h = spines-equal ss bs l r f h

  pub split-equated : (ss : List Setting) (l r : Term) (T : Typ) → HasType [] l T → HasType [] r T → IsLongIn ds [] l → IsLongIn ds [] r → head l ≡ head r
      → (U : Typ) × IsTypedUnder ds [] (term_after ss l) U → Each (λ p. IsPairEquated ds ms (pair_after ss p)) (argument_pairs l r) → IsPairEquated ds ms (pair_after ss (pair l r))
  split-equated ss l r T h k first second e typed each =
      let left : first.typ ≡ T = typed-once [] l first.typ T first.typed.typed h in
      let right : second.typ ≡ T = typed-once [] r second.typ T second.typed.typed k in
      let built = alike [] l r T h k (rw (sym left) first.count) (rw (sym right) second.count) first.parts second.parts e in
      let there = arguments-equated ss (abstractions l) (abstractions r) built.same (arguments (term_body l)) (arguments (term_body r)) built.many each in
      (typed.0, equated_node_by_node ds ms [] typed.0 (term_after ss l) (term_after ss r) typed.1 (bodies-equal ss [] l r built.same e there))
