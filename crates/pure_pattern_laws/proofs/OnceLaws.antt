-- Pairs have one answer at most.
use Rattle.std.proofs.Common.{◌≡◌, ◌≢◌, ℕ, suc, ◌+◌, inl, inr, List, [], ◌∷◌, ◌++◌, length, true, false, Some, nat_eq, ap, refl, sym, subst, ◌∙◌, arith}
use Rattle.std.proofs.lemmas.Bool.{eqb-true}
use Rattle.pure_text.specs.Lists.{IsIn, Each, EachTwo}
use Rattle.pure_text.proofs.ListLaws.{each-right}
use Rattle.pure_definitions.specs.Types.Typ.{Typ}
use Rattle.pure_definitions.specs.Terms.Term.{Term, Var, Bound}
use Rattle.pure_definitions.specs.Terms.Bounds.{Occurs}
use Rattle.pure_definitions.specs.Terms.Limits.{cut_off}
use Rattle.pure_definitions.specs.Terms.Subst.{TermBind, term_image, inst_term}
use Rattle.pure_definitions.specs.Reduction.Eta.{EtaReduces, IsLongForm}
use Rattle.pure_term_laws.proofs.EtaNormalLaws.{one_eta_normal_form}
use Rattle.pure_eta.proofs.EtaStepLaws.{bound-normal}
use Rattle.pure_eta.proofs.FormLaws.{long_forms_of_joined}
use Rattle.pure_logic.specs.Derivable.{Pair}
use Rattle.pure_theorem.specs.First.{IsFirstWith}
use Rattle.pure_reduction.proofs.LongLaws.{one_long_form_of_term}
use Rattle.pure_unify_definitions.specs.Fronts.{term_body, head, arguments, is_schematic, is_flexible, domains, argument_pairs}
use Rattle.pure_unify_definitions.specs.Node.{bind}
use Rattle.pure_unify_definitions.specs.Children.{image_of}
use Rattle.pure_pattern_laws.specs.Patterns.{IsPlace, IsPatternPair, HasSchematicTyp}
use Rattle.pure_pattern_laws.specs.Places.{at_place}
use Rattle.pure_pattern_laws.specs.Treatment.{own_bounds, agreeing_image, left_image, right_image, IsFlexibleSide, AreMixed, on_left, on_right, IsWritten, Treatment, Becomes, Sets, Never, IsTreated}
use Rattle.pure_pattern_laws.specs.Steps.{Outcome, State, start, IsPut, IsPairPut, IsBindPut, Follows, Stops, Runs}
use Rattle.pure_pattern_laws.specs.Answers.{Answer, SchematicType, NotPattern, answer_of, IsPatternAnswer}
use Rattle.pure_pattern_laws.specs.Laws.{OneAnswer}
use Rattle.pure_pattern_laws.proofs.ListLaws.{first-some}

-- Sides.
place-once : (t : Term) (z w : ℕ) → IsPlace t z → IsPlace t w → z ≡ w
place-once t z w h k =
    let same = one_eta_normal_form t (Bound z) (Bound w) (record { reduces = h; normal = bound-normal z }) (record { reduces = k; normal = bound-normal w }) in
    bound-same z w same
  where
    bound-same : (p q : ℕ) → Bound p ≡ Bound q → p ≡ q
    bound-same p q e = cc

pub places-once : (ts : List Term) (zs ws : List ℕ) → EachTwo IsPlace ts zs → EachTwo IsPlace ts ws → zs ≡ ws
places-once [] [] [] h k = refl
places-once [] [] (w ∷ ws) h k = absurd k
places-once [] (z ∷ zs) ws h k = absurd h
places-once (t ∷ ts) [] ws h k = absurd h
places-once (t ∷ ts) (z ∷ zs) [] h k = absurd k
places-once (t ∷ ts) (z ∷ zs) (w ∷ ws) h k = λ l. place-once t z w h.0 k.0 l ∷ places-once ts zs ws h.1 k.1 l

-- one flexible side, read twice
record AreSame (x i y j : ℕ) (T U : Typ) (zs ws : List ℕ) : Type 0 where
  name : x ≡ y
  index : i ≡ j
  typ : T ≡ U
  places : zs ≡ ws

variable-same : (x i y j : ℕ) (T U : Typ) → Var x i T ≡ Var y j U → (x ≡ y) × (i ≡ j) × (T ≡ U)
variable-same x i y j T U e = (cc, cc, cc)

flexible-once : (t : Term) (x i y j : ℕ) (T U : Typ) (zs ws : List ℕ) → IsFlexibleSide t x i T zs → IsFlexibleSide t y j U ws → AreSame x i y j T U zs ws
flexible-once t x i y j T U zs ws h k =
    let v = variable-same x i y j T U (sym h.variable ∙ k.variable) in
    record { name = v.0; index = v.1; typ = v.2; places = places-once (arguments (term_body t)) zs ws h.places.are k.places.are }

flexible-true : (t : Term) (x i : ℕ) (T : Typ) (zs : List ℕ) → IsFlexibleSide t x i T zs → is_flexible t ≡ true
flexible-true t x i T zs h = ap is_schematic h.variable

flexible-not : {A : Type 0} (t : Term) (x i : ℕ) (T : Typ) (zs : List ℕ) → IsFlexibleSide t x i T zs → is_flexible t ≡ false → A
flexible-not t x i T zs h e = (let yes = flexible-true t x i T zs h in absurd (cc))

long-once : (t u w : Term) → IsLongForm t u → IsLongForm t w → u ≡ w
long-once t u w h k = long_forms_of_joined t u t w t h k EtaReduces.done EtaReduces.done

mixed-once : (l r f k g m : Term) → AreMixed l r f k → AreMixed l r g m → (f ≡ g) × (k ≡ m)
mixed-once l r f k g m (on_left a b e h) (on_left c d i j) = (e ∙ sym i, h ∙ sym j)
mixed-once l r f k g m (on_right a b e h) (on_right c d i j) = (e ∙ sym i, h ∙ sym j)
mixed-once l r f k g m (on_left a b e h) (on_right c d i j) = absurd (cc)
mixed-once l r f k g m (on_right a b e h) (on_left c d i j) = absurd (cc)

-- Sides of a pair of which one is flexible alone differ, and neither both are flexible nor both rigid.
mixed-differ : {A : Type 0} (l r f k : Term) → AreMixed l r f k → l ≡ r → A
mixed-differ l r f k (on_left a b e h) same = (let c = ap is_flexible same in absurd (cc))
mixed-differ l r f k (on_right a b e h) same = (let c = ap is_flexible same in absurd (cc))

mixed-not_rigid : {A : Type 0} (l r f k : Term) → AreMixed l r f k → is_flexible l ≡ false → is_flexible r ≡ false → A
mixed-not_rigid l r f k (on_left a b e h) c d = absurd (cc)
mixed-not_rigid l r f k (on_right a b e h) c d = absurd (cc)

mixed-not_flexible : {A : Type 0} (l r f k : Term) → AreMixed l r f k → is_flexible l ≡ true → is_flexible r ≡ true → A
mixed-not_flexible l r f k (on_left a b e h) c d = absurd (cc)
mixed-not_flexible l r f k (on_right a b e h) c d = absurd (cc)

written-once : (T : Typ) (zs : List ℕ) (k m g h : Term) (U V : Typ) → k ≡ m → IsWritten T zs k g U → IsWritten T zs m h V → (g ≡ h) × (U ≡ V)
written-once T zs k m g h U V e IsWritten.constant IsWritten.constant = (e, cc)
written-once T zs k m g h U V e IsWritten.fixed IsWritten.fixed = (e, cc)
written-once T zs k m g h U V e (IsWritten.bound {p = p} a b) (IsWritten.bound {p = q} c d) =
    let same : p ≡ q = cc in
    let first : Some g ≡ Some h = sym a ∙ (ap (λ n. at_place n zs (own_bounds T)) same ∙ c) in
    let second : Some U ≡ Some V = sym b ∙ (ap (λ n. at_place n zs (domains T)) same ∙ d) in
    (cc, cc)
written-once T zs k m g h U V e IsWritten.constant IsWritten.fixed = absurd (cc)
written-once T zs k m g h U V e IsWritten.constant (IsWritten.bound a b) = absurd (cc)
written-once T zs k m g h U V e IsWritten.fixed IsWritten.constant = absurd (cc)
written-once T zs k m g h U V e IsWritten.fixed (IsWritten.bound a b) = absurd (cc)
written-once T zs k m g h U V e (IsWritten.bound a b) IsWritten.constant = absurd (cc)
written-once T zs k m g h U V e (IsWritten.bound a b) IsWritten.fixed = absurd (cc)

-- A bound variable that is written stands in the list.
in-places : (p : ℕ) (zs : List ℕ) (us : List Term) (h : Term) → at_place p zs us ≡ Some h → IsIn p zs
in-places p [] us h e = absurd (cc)
in-places p (z ∷ zs) [] h e = absurd (cc)
in-places p (z ∷ zs) (u ∷ us) h e = elim (first-some (nat_eq p z) u h (at_place p zs us) e) [
  | inl k ↦ inl (eqb-true p z k.0)
  | inr k ↦ inr (in-places p zs us h k.1)
]

written-bound : (T : Typ) (zs : List ℕ) (k h : Term) (U : Typ) (p : ℕ) → k ≡ Bound p → IsWritten T zs k h U → IsIn p zs
written-bound T zs k h U p e IsWritten.constant = absurd (cc)
written-bound T zs k h U p e IsWritten.fixed = absurd (cc)
written-bound T zs k h U p e (IsWritten.bound {p = q} a b) = (let same : p ≡ q = cc in subst (λ n. IsIn n zs) (sym same) (in-places q zs (own_bounds T) h a))

-- What one treatment says of another.
module _ (index : ℕ) (l r : Term) where
  only-equal : l ≡ r → (B : Treatment) → IsTreated index l r B → Becomes [] ≡ B
  only-equal e B (IsTreated.equal k) = refl
  only-equal e B (IsTreated.same_heads n a b k) = absurd (n e)
  only-equal e B (IsTreated.clash a b n) = absurd (n (ap head e))
  only-equal e B (IsTreated.one_variable n a b k) = absurd (n e)
  only-equal e B (IsTreated.two_variables a b n k m) = absurd (n (sym a.variable ∙ (ap head e ∙ b.variable)))
  only-equal e B (IsTreated.occurs {f = f} {k = k} mixed a o) = mixed-differ l r f k mixed e
  only-equal e B (IsTreated.escapes {f = f} {k = k} mixed a o n) = mixed-differ l r f k mixed e
  only-equal e B (IsTreated.imitates {f = f} {k = k} mixed a o w u) = mixed-differ l r f k mixed e

  only-heads : l ≢ r → is_flexible l ≡ false → is_flexible r ≡ false → head l ≡ head r → (B : Treatment) → IsTreated index l r B → Becomes (argument_pairs l r) ≡ B
  only-heads d p q e B (IsTreated.equal k) = absurd (d k)
  only-heads d p q e B (IsTreated.same_heads n a b k) = refl
  only-heads d p q e B (IsTreated.clash a b n) = absurd (n e)
  only-heads d p q e B (IsTreated.one_variable {x = x} {i = i} {T = T} {zs = zs} n a b k) = flexible-not l x i T zs a p
  only-heads d p q e B (IsTreated.two_variables {x = x} {i = i} {T = T} {zs = zs} a b n k m) = flexible-not l x i T zs a p
  only-heads d p q e B (IsTreated.occurs {f = f} {k = k} mixed a o) = mixed-not_rigid l r f k mixed p q
  only-heads d p q e B (IsTreated.escapes {f = f} {k = k} mixed a o n) = mixed-not_rigid l r f k mixed p q
  only-heads d p q e B (IsTreated.imitates {f = f} {k = k} mixed a o w u) = mixed-not_rigid l r f k mixed p q

  only-clash : is_flexible l ≡ false → is_flexible r ≡ false → head l ≢ head r → (B : Treatment) → IsTreated index l r B → Never ≡ B
  only-clash p q d B (IsTreated.equal k) = absurd (d (ap head k))
  only-clash p q d B (IsTreated.same_heads n a b k) = absurd (d k)
  only-clash p q d B (IsTreated.clash a b n) = refl
  only-clash p q d B (IsTreated.one_variable {x = x} {i = i} {T = T} {zs = zs} n a b k) = flexible-not l x i T zs a p
  only-clash p q d B (IsTreated.two_variables {x = x} {i = i} {T = T} {zs = zs} a b n k m) = flexible-not l x i T zs a p
  only-clash p q d B (IsTreated.occurs {f = f} {k = k} mixed a o) = mixed-not_rigid l r f k mixed p q
  only-clash p q d B (IsTreated.escapes {f = f} {k = k} mixed a o n) = mixed-not_rigid l r f k mixed p q
  only-clash p q d B (IsTreated.imitates {f = f} {k = k} mixed a o w u) = mixed-not_rigid l r f k mixed p q

  same-one : (x i y j : ℕ) (T U : Typ) (zs ws vs ts : List ℕ) (u v : Term) → AreSame x i y j T U zs vs → ws ≡ ts → IsLongForm (agreeing_image index T zs ws) u → IsLongForm (agreeing_image index U vs ts) v → Sets (bind x i T u ∷ []) ≡ Sets (bind y j U v ∷ [])
  same-one x i y j T U zs ws vs ts u v s e h k =
      let plain : agreeing_image index T zs ws ≡ agreeing_image index U vs ts = λ l. agreeing_image index (s.typ l) (s.places l) (e l) in
      let image : u ≡ v = long-once (agreeing_image index U vs ts) u v (subst (λ t. IsLongForm t u) plain h) k in
      λ l. Sets (bind (s.name l) (s.index l) (s.typ l) (image l) ∷ [])

  only-one : (x i : ℕ) (T : Typ) (zs ws : List ℕ) (u : Term) → l ≢ r → IsFlexibleSide l x i T zs → IsFlexibleSide r x i T ws → IsLongForm (agreeing_image index T zs ws) u → (B : Treatment) → IsTreated index l r B → Sets (bind x i T u ∷ []) ≡ B
  only-one x i T zs ws u d a b h B (IsTreated.equal k) = absurd (d k)
  only-one x i T zs ws u d a b h B (IsTreated.same_heads n p q k) = flexible-not l x i T zs a p
  only-one x i T zs ws u d a b h B (IsTreated.clash p q n) = flexible-not l x i T zs a p
  only-one x i T zs ws u d a b h B (IsTreated.one_variable {x = y} {i = j} {T = U} {zs = vs} {ws = ts} {u = v} n p q k) =
      same-one x i y j T U zs ws vs ts u v (flexible-once l x i y j T U zs vs a p) (flexible-once r x i y j T U ws ts b q).places h k
  only-one x i T zs ws u d a b h B (IsTreated.two_variables {x = y} {i = j} {y = z} {j = m} {T = U} {U = V} p q n k o) = absurd (n (sym p.variable ∙ (a.variable ∙ (sym b.variable ∙ q.variable))))
  only-one x i T zs ws u d a b h B (IsTreated.occurs {f = f} {k = k} mixed p o) = mixed-not_flexible l r f k mixed (flexible-true l x i T zs a) (flexible-true r x i T ws b)
  only-one x i T zs ws u d a b h B (IsTreated.escapes {f = f} {k = k} mixed p o n) = mixed-not_flexible l r f k mixed (flexible-true l x i T zs a) (flexible-true r x i T ws b)
  only-one x i T zs ws u d a b h B (IsTreated.imitates {f = f} {k = k} mixed p o w v) = mixed-not_flexible l r f k mixed (flexible-true l x i T zs a) (flexible-true r x i T ws b)

  same-two : (x i y j m n o p : ℕ) (T U V W : Typ) (zs ws vs ts : List ℕ) (u v a b : Term) → AreSame x i m n T V zs vs → AreSame y j o p U W ws ts
      → IsLongForm (left_image index T zs ws) u → IsLongForm (right_image index U zs ws) v → IsLongForm (left_image index V vs ts) a → IsLongForm (right_image index W vs ts) b
      → Sets (bind x i T u ∷ bind y j U v ∷ []) ≡ Sets (bind m n V a ∷ bind o p W b ∷ [])
  same-two x i y j m n o p T U V W zs ws vs ts u v a b s q h k c d =
      let left : left_image index T zs ws ≡ left_image index V vs ts = λ l. left_image index (s.typ l) (s.places l) (q.places l) in
      let right : right_image index U zs ws ≡ right_image index W vs ts = λ l. right_image index (q.typ l) (s.places l) (q.places l) in
      let first : u ≡ a = long-once (left_image index V vs ts) u a (subst (λ t. IsLongForm t u) left h) c in
      let second : v ≡ b = long-once (right_image index W vs ts) v b (subst (λ t. IsLongForm t v) right k) d in
      λ l. Sets (bind (s.name l) (s.index l) (s.typ l) (first l) ∷ bind (q.name l) (q.index l) (q.typ l) (second l) ∷ [])

  only-two : (x i y j : ℕ) (T U : Typ) (zs ws : List ℕ) (u v : Term) → IsFlexibleSide l x i T zs → IsFlexibleSide r y j U ws → Var x i T ≢ Var y j U → IsLongForm (left_image index T zs ws) u → IsLongForm (right_image index U zs ws) v
      → (B : Treatment) → IsTreated index l r B → Sets (bind x i T u ∷ bind y j U v ∷ []) ≡ B
  only-two x i y j T U zs ws u v a b d h k B (IsTreated.equal e) = absurd (d (sym a.variable ∙ (ap head e ∙ b.variable)))
  only-two x i y j T U zs ws u v a b d h k B (IsTreated.same_heads n p q e) = flexible-not l x i T zs a p
  only-two x i y j T U zs ws u v a b d h k B (IsTreated.clash p q n) = flexible-not l x i T zs a p
  only-two x i y j T U zs ws u v a b d h k B (IsTreated.one_variable n p q e) = absurd (d (sym a.variable ∙ (p.variable ∙ (sym q.variable ∙ b.variable))))
  only-two x i y j T U zs ws u v a b d h k B (IsTreated.two_variables {x = m} {i = n} {y = o} {j = p} {T = V} {U = W} {zs = vs} {ws = ts} {u = e} {w = f} c g apart first second) =
      same-two x i y j m n o p T U V W zs ws vs ts u v e f (flexible-once l x i m n T V zs vs a c) (flexible-once r y j o p U W ws ts b g) h k first second
  only-two x i y j T U zs ws u v a b d h k B (IsTreated.occurs {f = f} {k = g} mixed p o) = mixed-not_flexible l r f g mixed (flexible-true l x i T zs a) (flexible-true r y j U ws b)
  only-two x i y j T U zs ws u v a b d h k B (IsTreated.escapes {f = f} {k = g} mixed p o n) = mixed-not_flexible l r f g mixed (flexible-true l x i T zs a) (flexible-true r y j U ws b)
  only-two x i y j T U zs ws u v a b d h k B (IsTreated.imitates {f = f} {k = g} mixed p o w z) = mixed-not_flexible l r f g mixed (flexible-true l x i T zs a) (flexible-true r y j U ws b)

  -- A flexible and a rigid side.
  module _ (f k : Term) (mixed : AreMixed l r f k) (x i : ℕ) (T : Typ) (zs : List ℕ) (a : IsFlexibleSide f x i T zs) where
    again : (g m : Term) → AreMixed l r g m → (y j : ℕ) (U : Typ) (ws : List ℕ) → IsFlexibleSide g y j U ws → AreSame x i y j T U zs ws
    again g m other y j U ws b = flexible-once f x i y j T U zs ws a (subst (λ t. IsFlexibleSide t y j U ws) (sym (mixed-once l r f k g m mixed other).0) b)

    other-rigid : (g m : Term) → AreMixed l r g m → k ≡ m
    other-rigid g m other = (mixed-once l r f k g m mixed other).1

    -- Neither both sides are rigid nor both flexible, nor are they equal.
    only-mixed : (A B : Treatment) → IsTreated index l r B
        → ((g m : Term) (y j : ℕ) (U : Typ) (ws : List ℕ) → AreMixed l r g m → IsFlexibleSide g y j U ws → Occurs (Var y j U) m → A ≡ Never)
        → ((g m : Term) (y j p : ℕ) (U : Typ) (ws : List ℕ) → AreMixed l r g m → IsFlexibleSide g y j U ws → head m ≡ Bound p → ¬ IsIn p ws → A ≡ Never)
        → ((g m h u : Term) (y j : ℕ) (U V : Typ) (ws : List ℕ) → AreMixed l r g m → IsFlexibleSide g y j U ws → ¬ Occurs (Var y j U) m → IsWritten U ws (head m) h V → IsLongForm (image_of index (domains U) h (domains V)) u → A ≡ Sets (bind y j U u ∷ []))
        → A ≡ B
    only-mixed A B (IsTreated.equal e) c d s = mixed-differ l r f k mixed e
    only-mixed A B (IsTreated.same_heads n p q e) c d s = mixed-not_rigid l r f k mixed p q
    only-mixed A B (IsTreated.clash p q n) c d s = mixed-not_rigid l r f k mixed p q
    only-mixed A B (IsTreated.one_variable {x = y} {i = j} {T = U} {zs = vs} {ws = ts} n p q e) c d s = mixed-not_flexible l r f k mixed (flexible-true l y j U vs p) (flexible-true r y j U ts q)
    only-mixed A B (IsTreated.two_variables {x = y} {i = j} {y = y'} {j = j'} {T = U} {U = V} {zs = vs} {ws = ts} p q n e o) c d s = mixed-not_flexible l r f k mixed (flexible-true l y j U vs p) (flexible-true r y' j' V ts q)
    only-mixed A B (IsTreated.occurs {f = g} {k = m} {x = y} {i = j} {T = U} {zs = ws} other b o) c d s = c g m y j U ws other b o
    only-mixed A B (IsTreated.escapes {f = g} {k = m} {x = y} {i = j} {p = p} {T = U} {zs = ws} other b e o) c d s = d g m y j p U ws other b e o
    only-mixed A B (IsTreated.imitates {f = g} {k = m} {h = h} {u = u} {x = y} {i = j} {T = U} {U = V} {zs = ws} other b o w e) c d s = s g m h u y j U V ws other b o w e

    same-occurs : (g m : Term) (y j : ℕ) (U : Typ) (ws : List ℕ) → AreMixed l r g m → IsFlexibleSide g y j U ws → Occurs (Var x i T) k → Occurs (Var y j U) m
    same-occurs g m y j U ws other b o =
        let s = again g m other y j U ws b in
        let v : Var x i T ≡ Var y j U = λ l. Var (s.name l) (s.index l) (s.typ l) in
        subst (Occurs (Var y j U)) (other-rigid g m other) (subst (λ t. Occurs t k) v o)

    only-occurs : Occurs (Var x i T) k → (B : Treatment) → IsTreated index l r B → Never ≡ B
    only-occurs o B t =
        only-mixed Never B t (λ g m y j U ws other b oc. refl) (λ g m y j p U ws other b e out. refl)
        (λ g m h u y j U V ws other b absent w e. absurd (absent (same-occurs g m y j U ws other b o)))

    only-escapes : (p : ℕ) → head k ≡ Bound p → ¬ IsIn p zs → (B : Treatment) → IsTreated index l r B → Never ≡ B
    only-escapes p e out B t =
        only-mixed Never B t (λ g m y j U ws other b oc. refl) (λ g m y j q U ws other b e out. refl)
        (λ g m h u y j U V ws other b absent w form. absurd (out (subst (IsIn p) (sym (again g m other y j U ws b).places) (written-bound U ws (head m) h V p (ap head (sym (other-rigid g m other)) ∙ e) w))))

    back-occurs : (g m : Term) (y j : ℕ) (U : Typ) (ws : List ℕ) → AreMixed l r g m → IsFlexibleSide g y j U ws → Occurs (Var y j U) m → Occurs (Var x i T) k
    back-occurs g m y j U ws other b o =
        let s = again g m other y j U ws b in
        let v : Var x i T ≡ Var y j U = λ l. Var (s.name l) (s.index l) (s.typ l) in
        subst (Occurs (Var x i T)) (sym (other-rigid g m other)) (subst (λ t. Occurs t m) (sym v) o)

    same-imitation : (g m h v u w : Term) (y j : ℕ) (U V W : Typ) (ws : List ℕ) → AreMixed l r g m → IsFlexibleSide g y j U ws → IsWritten T zs (head k) h V → IsWritten U ws (head m) v W
        → IsLongForm (image_of index (domains T) h (domains V)) u → IsLongForm (image_of index (domains U) v (domains W)) w → Sets (bind x i T u ∷ []) ≡ Sets (bind y j U w ∷ [])
    same-imitation g m h v u w y j U V W ws other b first second form long =
        let s = again g m other y j U ws b in
        let moved : IsWritten U ws (head k) h V = subst (λ S. IsWritten S ws (head k) h V) s.typ (subst (λ vs. IsWritten T vs (head k) h V) s.places first) in
        let written = written-once U ws (head k) (head m) h v V W (ap head (other-rigid g m other)) moved second in
        let plain : image_of index (domains T) h (domains V) ≡ image_of index (domains U) v (domains W) = λ l. image_of index (domains (s.typ l)) (written.0 l) (domains (written.1 l)) in
        let image : u ≡ w = long-once (image_of index (domains U) v (domains W)) u w (subst (λ t. IsLongForm t u) plain form) long in
        λ l. Sets (bind (s.name l) (s.index l) (s.typ l) (image l) ∷ [])

    only-imitates : (h u : Term) (V : Typ) → ¬ Occurs (Var x i T) k → IsWritten T zs (head k) h V → IsLongForm (image_of index (domains T) h (domains V)) u → (B : Treatment) → IsTreated index l r B → Sets (bind x i T u ∷ []) ≡ B
    only-imitates h u V absent written form B t =
        only-mixed (Sets (bind x i T u ∷ [])) B t (λ g m y j U ws other b oc. absurd (absent (back-occurs g m y j U ws other b oc)))
        (λ g m y j p U ws other b e out. absurd (out (subst (IsIn p) (again g m other y j U ws b).places (written-bound T zs (head k) h V p (ap head (other-rigid g m other) ∙ e) written))))
        (λ g m v w y j U W ws other b none other_written long. same-imitation g m h v u w y j U V W ws other b written other_written form long)

  pub treated-once : (A B : Treatment) → IsTreated index l r A → IsTreated index l r B → A ≡ B
  treated-once A B (IsTreated.equal e) t = only-equal e B t
  treated-once A B (IsTreated.same_heads n p q e) t = only-heads n p q e B t
  treated-once A B (IsTreated.clash p q n) t = only-clash p q n B t
  treated-once A B (IsTreated.one_variable {x = x} {i = i} {T = T} {zs = zs} {ws = ws} {u = u} n a b h) t = only-one x i T zs ws u n a b h B t
  treated-once A B (IsTreated.two_variables {x = x} {i = i} {y = y} {j = j} {T = T} {U = U} {zs = zs} {ws = ws} {u = u} {w = w} a b n h k) t = only-two x i y j T U zs ws u w a b n h k B t
  treated-once A B (IsTreated.occurs {f = f} {k = k} {x = x} {i = i} {T = T} {zs = zs} mixed a o) t = only-occurs f k mixed x i T zs a o B t
  treated-once A B (IsTreated.escapes {f = f} {k = k} {x = x} {i = i} {p = p} {T = T} {zs = zs} mixed a e out) t = only-escapes f k mixed x i T zs a p e out B t
  treated-once A B (IsTreated.imitates {f = f} {k = k} {h = h} {u = u} {x = x} {i = i} {T = T} {U = U} {zs = zs} mixed a absent w form) t = only-imitates f k mixed x i T zs a h u U absent w form B t

-- Steps.
pair-treated : (index : ℕ) (p q : Pair) (A B : Treatment) → p ≡ q → IsTreated index p.left p.right A → IsTreated index q.left q.right B → A ≡ B
pair-treated index p q A B e h k = treated-once index q.left q.right A B (subst (λ o. IsTreated index o.left o.right A) e h) k

first-pair : (p q : Pair) (ps qs : List Pair) → p ∷ ps ≡ q ∷ qs → (p ≡ q) × (ps ≡ qs)
first-pair p q ps qs e = (cc, cc)

same-becomes : (ps qs : List Pair) → Becomes ps ≡ Becomes qs → ps ≡ qs
same-becomes ps qs e = cc

same-sets : (bs cs : List TermBind) → Sets bs ≡ Sets cs → bs ≡ cs
same-sets bs cs e = cc

two-once : {A B : Type 0} (R : A → B → Type 0) → ((x : A) (y z : B) → R x y → R x z → y ≡ z) → (xs : List A) (ys zs : List B) → EachTwo R xs ys → EachTwo R xs zs → ys ≡ zs
two-once R once [] [] [] h k = refl
two-once R once [] [] (z ∷ zs) h k = absurd k
two-once R once [] (y ∷ ys) zs h k = absurd h
two-once R once (x ∷ xs) [] zs h k = absurd h
two-once R once (x ∷ xs) (y ∷ ys) [] h k = absurd k
two-once R once (x ∷ xs) (y ∷ ys) (z ∷ zs) h k = λ l. once x y z h.0 k.0 l ∷ two-once R once xs ys zs h.1 k.1 l

put-once : (bs : List TermBind) (t u w : Term) → IsPut bs t u → IsPut bs t w → u ≡ w
put-once bs t u w h k = one_long_form_of_term (inst_term (term_image bs) t) u w h k

pair-put-once : (bs : List TermBind) (p q r : Pair) → IsPairPut bs p q → IsPairPut bs p r → q ≡ r
pair-put-once bs p q r h k = (let left = put-once bs p.left q.left r.left h.0 k.0 in let right = put-once bs p.right q.right r.right h.1 k.1 in λ l. record { left = left l; right = right l })

bind-put-once : (bs : List TermBind) (b c d : TermBind) → IsBindPut bs b c → IsBindPut bs b d → c ≡ d
bind-put-once bs b c d h k =
    let v = variable-same c.name c.index d.name d.index c.typ d.typ (sym h.0 ∙ k.0) in
    let image = put-once bs b.image c.image d.image h.1 k.1 in
    λ l. record { name = v.0 l; index = v.1 l; typ = v.2 l; image = image l }

never-follows : {A : Type 0} (index : ℕ) (s m : State) → Stops index s → Follows index s m → A
never-follows index s m h (Follows.replaced {p = p} {ps = ps} {qs = qs} e treated) =
    let first = first-pair h.first p h.rest ps (sym h.are ∙ e) in
    let same = pair-treated index h.first p Never (Becomes qs) first.0 h.never treated in
    absurd (cc)
never-follows index s m h (Follows.set {p = p} {ps = ps} {bs = bs} cs e treated pairs binds) =
    let first = first-pair h.first p h.rest ps (sym h.are ∙ e) in
    let same = pair-treated index h.first p Never (Sets bs) first.0 h.never treated in
    absurd (cc)

set-once : (s : State) (bs ds cs es : List TermBind) (qs rs : List Pair) → bs ≡ ds → EachTwo (IsPairPut bs) s.pairs qs → EachTwo (IsPairPut ds) s.pairs rs → EachTwo (IsBindPut bs) s.binds cs → EachTwo (IsBindPut ds) s.binds es → (qs ≡ rs) × (cs ≡ es)
set-once s bs ds cs es qs rs e h k m n =
    (two-once (IsPairPut ds) (pair-put-once ds) s.pairs qs rs (subst (λ b. EachTwo (IsPairPut b) s.pairs qs) e h) k, two-once (IsBindPut ds) (bind-put-once ds) s.binds cs es (subst (λ b. EachTwo (IsBindPut b) s.binds cs) e m) n)

follows-once : (index : ℕ) (s m n : State) → Follows index s m → Follows index s n → m ≡ n
follows-once index s m n (Follows.replaced {p = p} {ps = ps} {qs = qs} e h) (Follows.replaced {p = q} {ps = rs} {qs = ts} f k) =
    let first = first-pair p q ps rs (sym e ∙ f) in
    let same = same-becomes qs ts (pair-treated index p q (Becomes qs) (Becomes ts) first.0 h k) in
    λ l. record { pairs = same l ++ first.1 l; binds = s.binds }
follows-once index s m n (Follows.replaced {p = p} {ps = ps} {qs = qs} e h) (Follows.set {p = q} {ps = rs} {bs = bs} cs f k pairs binds) =
    let first = first-pair p q ps rs (sym e ∙ f) in
    let same = pair-treated index p q (Becomes qs) (Sets bs) first.0 h k in
    absurd (cc)
follows-once index s m n (Follows.set {p = p} {ps = ps} {bs = bs} cs e h pairs binds) (Follows.replaced {p = q} {ps = rs} {qs = ts} f k) =
    let first = first-pair p q ps rs (sym e ∙ f) in
    let same = pair-treated index p q (Sets bs) (Becomes ts) first.0 h k in
    absurd (cc)
follows-once index s m n (Follows.set {p = p} {ps = ps} {qs = qs} {bs = bs} cs e h pairs binds) (Follows.set {p = q} {ps = rs} {qs = ts} {bs = ds} es f k others more) =
    let first = first-pair p q ps rs (sym e ∙ f) in
    let same = same-sets bs ds (pair-treated index p q (Sets bs) (Sets ds) first.0 h k) in
    let lists = set-once s bs ds cs es qs ts same pairs others binds more in
    λ l. record { pairs = lists.0 l; binds = lists.1 l ++ same l }

some-pair : {A : Type 0} (ps qs : List Pair) (p : Pair) → ps ≡ [] → ps ≡ p ∷ qs → A
some-pair ps qs p e f = absurd (cc)

follows-some : (index : ℕ) (s m : State) → Follows index s m → (p : Pair) × (ps : List Pair) × (s.pairs ≡ p ∷ ps)
follows-some index s m (Follows.replaced {p = p} {ps = ps} e h) = (p, ps, e)
follows-some index s m (Follows.set {p = p} {ps = ps} cs e h pairs binds) = (p, ps, e)

runs-once : (maxidx n : ℕ) (s : State) (A B : Outcome) → Runs maxidx n s A → Runs maxidx n s B → A ≡ B
runs-once maxidx n s A B (Runs.big out) (Runs.big beyond) = refl
runs-once maxidx n s A B (Runs.big out) (Runs.over within e) = absurd (out within)
runs-once maxidx n s A B (Runs.big out) (Runs.out_of_steps within e k) = absurd (out within)
runs-once maxidx n s A B (Runs.big out) (Runs.never within less stops) = absurd (out within)
runs-once maxidx n s A B (Runs.big out) (Runs.next within less follows run) = absurd (out within)
runs-once maxidx n s A B (Runs.over within e) (Runs.big out) = absurd (out within)
runs-once maxidx n s A B (Runs.over within e) (Runs.over others f) = refl
runs-once maxidx n s A B (Runs.over within e) (Runs.out_of_steps {p = p} {ps = ps} others f k) = some-pair s.pairs ps p e f
runs-once maxidx n s A B (Runs.over within e) (Runs.never others less stops) = some-pair s.pairs stops.rest stops.first e stops.are
runs-once maxidx n s A B (Runs.over within e) (Runs.next {m = m} others less follows run) = (let some = follows-some (maxidx + (n + 1)) s m follows in some-pair s.pairs some.1 some.0 e some.2)
runs-once maxidx n s A B (Runs.out_of_steps within e k) (Runs.big out) = absurd (out within)
runs-once maxidx n s A B (Runs.out_of_steps {p = p} {ps = ps} within e k) (Runs.over others f) = some-pair s.pairs ps p f e
runs-once maxidx n s A B (Runs.out_of_steps within e k) (Runs.out_of_steps others f j) = refl
runs-once maxidx n s A B (Runs.out_of_steps within e k) (Runs.never others less stops) = absurd (omega arith)
runs-once maxidx n s A B (Runs.out_of_steps within e k) (Runs.next others less follows run) = absurd (omega arith)
runs-once maxidx n s A B (Runs.never within less stops) (Runs.big out) = absurd (out within)
runs-once maxidx n s A B (Runs.never within less stops) (Runs.over others f) = some-pair s.pairs stops.rest stops.first f stops.are
runs-once maxidx n s A B (Runs.never within less stops) (Runs.out_of_steps others f k) = absurd (omega arith)
runs-once maxidx n s A B (Runs.never within less stops) (Runs.never others fewer again) = refl
runs-once maxidx n s A B (Runs.never within less stops) (Runs.next {m = m} others fewer follows run) = never-follows (maxidx + (n + 1)) s m stops follows
runs-once maxidx n s A B (Runs.next within less follows run) (Runs.big out) = absurd (out within)
runs-once maxidx n s A B (Runs.next {m = m} within less follows run) (Runs.over others f) = (let some = follows-some (maxidx + (n + 1)) s m follows in some-pair s.pairs some.1 some.0 f some.2)
runs-once maxidx n s A B (Runs.next within less follows run) (Runs.out_of_steps others f k) = absurd (omega arith)
runs-once maxidx n s A B (Runs.next {m = m} within less follows run) (Runs.never others fewer stops) = never-follows (maxidx + (n + 1)) s m stops follows
runs-once maxidx n s A B (Runs.next {m = m} within less follows run) (Runs.next {m = k} others fewer other more) =
    let same = follows-once (maxidx + (n + 1)) s m k follows other in
    runs-once maxidx (n + 1) m A B run (subst (λ t. Runs maxidx (n + 1) t B) (sym same) more)

-- Refusals.
first-length : {A : Type 0} (P : A → Type 0) (fs gs xs ys : List A) (x y : A) → fs ++ x ∷ xs ≡ gs ++ y ∷ ys → Each (λ z. ¬ P z) fs → Each (λ z. ¬ P z) gs → P x → P y → length fs ≡ length gs
first-length P [] [] xs ys x y e h k a b = refl
first-length P [] (g ∷ gs) xs ys x y e h k a b = (let same : x ≡ g = cc in absurd (k.0 (subst P same a)))
first-length P (f ∷ fs) [] xs ys x y e h k a b = (let same : y ≡ f = cc in absurd (h.0 (subst P same b)))
first-length P (f ∷ fs) (g ∷ gs) xs ys x y e h k a b = (let rest : fs ++ x ∷ xs ≡ gs ++ y ∷ ys = cc in ap (λ n. suc n) (first-length P fs gs xs ys x y rest h.1 k.1 a b))

first-once : (P : Pair → Type 0) (ps : List Pair) (i j : ℕ) → IsFirstWith P ps i → IsFirstWith P ps j → i ≡ j
first-once P ps i j h k = h.place ∙ (ap cut_off (first-length P h.front k.front h.rest k.rest h.element k.element (sym h.is ∙ k.is) h.lacking k.lacking h.has k.has) ∙ sym k.place)

none-first : {A : Type 0} (P : Pair → Type 0) (ps : List Pair) (i : ℕ) → IsFirstWith P ps i → Each (λ p. ¬ P p) ps → A
none-first P ps i h none = absurd ((each-right (λ p. ¬ P p) h.front (h.element ∷ h.rest) (subst (Each (λ p. ¬ P p)) h.is none)).0 h.has)

all-first : {A : Type 0} (P : Pair → Type 0) (ps : List Pair) (i : ℕ) → IsFirstWith (λ p. ¬ P p) ps i → Each P ps → A
all-first P ps i h all = absurd (h.has (each-right P h.front (h.element ∷ h.rest) (subst (Each P) h.is all)).0)

answers-once : (maxidx : ℕ) (ps : List Pair) (a b : Answer) → IsPatternAnswer maxidx ps a → IsPatternAnswer maxidx ps b → a ≡ b
answers-once maxidx ps a b (IsPatternAnswer.schematic_type {index = i} h) (IsPatternAnswer.schematic_type {index = j} k) = ap SchematicType (first-once HasSchematicTyp ps i j h k)
answers-once maxidx ps a b (IsPatternAnswer.schematic_type {index = i} h) (IsPatternAnswer.no_pattern none k) = none-first HasSchematicTyp ps i h none
answers-once maxidx ps a b (IsPatternAnswer.schematic_type {index = i} h) (IsPatternAnswer.decided none patterns run e) = none-first HasSchematicTyp ps i h none
answers-once maxidx ps a b (IsPatternAnswer.no_pattern none h) (IsPatternAnswer.schematic_type {index = j} k) = none-first HasSchematicTyp ps j k none
answers-once maxidx ps a b (IsPatternAnswer.no_pattern {index = i} none h) (IsPatternAnswer.no_pattern {index = j} others k) = ap NotPattern (first-once (λ p. ¬ IsPatternPair p) ps i j h k)
answers-once maxidx ps a b (IsPatternAnswer.no_pattern {index = i} none h) (IsPatternAnswer.decided others patterns run e) = all-first IsPatternPair ps i h patterns
answers-once maxidx ps a b (IsPatternAnswer.decided none patterns run e) (IsPatternAnswer.schematic_type {index = j} k) = none-first HasSchematicTyp ps j k none
answers-once maxidx ps a b (IsPatternAnswer.decided none patterns run e) (IsPatternAnswer.no_pattern {index = j} others k) = all-first IsPatternPair ps j k patterns
answers-once maxidx ps a b (IsPatternAnswer.decided {outcome = A} none patterns run e) (IsPatternAnswer.decided {outcome = B} others again other f) = e ∙ (ap (answer_of ps) (runs-once maxidx 0 (start ps) A B run other) ∙ sym f)

pub one_answer : OneAnswer
one_answer maxidx ps h a b first second = answers-once maxidx ps a b first second
