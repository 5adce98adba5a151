-- Variables that were set don't occur any more, so that no variable is set twice.
use Rattle.std.proofs.Common.{◌≡◌, ◌⊎◌, ℕ, zero, suc, ◌+◌, ◌≤◌, inl, inr, List, [], ◌∷◌, ◌++◌, length, map, Bool, true, false, ap, refl, sym, subst, ◌∙◌, arith, reverse}
use Rattle.std.specs.Prelude.{if◌then◌else◌}
use Rattle.std.specs.List.{list_any}
use Rattle.pure_text.specs.Lists.{IsIn, Each, EachTwo, AreDistinct}
use Rattle.pure_text.proofs.ListLaws.{each_at, each-append, in_split}
use Rattle.pure_definitions.specs.Types.Typ.{Typ, arrow}
use Rattle.pure_definitions.specs.Terms.Term.{Term, Const, Free, Var, Bound, Abs, App, term_eq}
use Rattle.pure_definitions.specs.Terms.Bounds.{Occurs}
use Rattle.pure_definitions.specs.Terms.Subst.{TermBind, term_variable, term_image, inst_term}
use Rattle.pure_definitions.specs.Models.Equality.{term_eq-itself}
use Rattle.pure_definitions.specs.Reduction.Eta.{IsLongForm}
use Rattle.pure_eta.proofs.LongLaws.{IsFront, IsLong}
use Rattle.pure_logic.specs.Derivable.{Pair}
use Rattle.pure_reduction.proofs.LongLaws.{one_long_form_of_term}
use Rattle.pure_unify_answers.proofs.PartLaws.{HasParts, long-parts}
use Rattle.pure_unify_definitions.specs.Fronts.{abstractions, term_body, front, arguments, is_schematic, below, domains, range, function_typ, applied, bounds, pairs_below, pair_variables}
use Rattle.pure_unify_definitions.specs.Children.{new_arguments, image_of}
use Rattle.pure_unify_final.proofs.SideLaws.{IsRigidHead, long_form-long}
use Rattle.pure_unify_final.proofs.RuleLaws.{AnyTyp, IsUpTo, any-parts}
use Rattle.pure_solutions.specs.Solutions.{IsLongMap}
use Rattle.pure_pattern_laws.specs.Patterns.{IsPlace, IsPattern, IsPatternPair}
use Rattle.pure_pattern_laws.specs.Places.{agreeing, shared_left, shared_right}
use Rattle.pure_pattern_laws.specs.Treatment.{selection, own_bounds, agreeing_image, left_image, right_image, IsFlexibleSide, AreMixed, on_left, on_right, Becomes, Sets, IsTreated}
use Rattle.pure_pattern_laws.specs.Steps.{State, start, IsPut, IsPairPut, IsBindPut, Follows, Solved, Runs, given_binds}
use Rattle.pure_pattern_laws.specs.Putting.{place_in, put_application, put_in}
use Rattle.pure_pattern_laws.specs.Answers.{AreLongOfOneTyp, Unified}
use Rattle.pure_pattern_laws.specs.Laws.{IsPatternBind, IsPatternState, UnifierIsMap}
use Rattle.pure_pattern_laws.proofs.PlacedLaws.{raised, renaming}
use Rattle.pure_pattern_laws.proofs.BuiltLaws.{body-long, long-front}
use Rattle.pure_pattern_laws.proofs.PutLaws.{bound_terms, schematic-is, flexible-long, flexible-split, front-function, put_in_is_long_form}
use Rattle.pure_pattern_laws.proofs.PatternLaws.{true-false}
use Rattle.pure_pattern_laws.proofs.SolvedLaws.{places-lack}
use Rattle.pure_pattern_laws.proofs.KeepLaws.{image-of, binds-long_map, written-rigid, settings_are_patterns, steps_keep_patterns}
use Rattle.pure_pattern_laws.proofs.SoundLaws.{start-ready, run-of}
use Rattle.pure_pattern_laws.proofs.LowLaws.{IsLow, IsLowBind, IsLowState, agreeing-bounds, left-bounds, right-bounds, step-low}
use Rattle.pure_pattern_laws.proofs.GeneralLaws.{start-lower}
use Rattle.pure_pattern_laws.proofs.ListLaws.{numbers}

-- Occurrences.
renaming-occurs : (x i : ℕ) (T : Typ) (r : ℕ → ℕ) (t : Term) → Occurs (Var x i T) (renaming r t) → Occurs (Var x i T) t
renaming-occurs x i T r (Const c V) o = o
renaming-occurs x i T r (Free y V) o = o
renaming-occurs x i T r (Var y j V) o = o
renaming-occurs x i T r (Bound p) o = absurd (cc)
renaming-occurs x i T r (Abs V b) (inl e) = absurd (cc)
renaming-occurs x i T r (Abs V b) (inr o) = inr (renaming-occurs x i T (raised r) b o)
renaming-occurs x i T r (App f a) (inl e) = absurd (cc)
renaming-occurs x i T r (App f a) (inr (inl o)) = inr (inl (renaming-occurs x i T r f o))
renaming-occurs x i T r (App f a) (inr (inr o)) = inr (inr (renaming-occurs x i T r a o))

in-below : (v : Term) (Ts : List Typ) (t : Term) → Occurs v t → Occurs v (below Ts t)
in-below v [] t o = o
in-below v (T ∷ Ts) t o = inr (in-below v Ts t o)

pub of-below : (x i : ℕ) (T : Typ) (Ts : List Typ) (t : Term) → Occurs (Var x i T) (below Ts t) → Occurs (Var x i T) t
of-below x i T [] t o = o
of-below x i T (V ∷ Ts) t (inl e) = absurd (cc)
of-below x i T (V ∷ Ts) t (inr o) = of-below x i T Ts t o

pub of-body : (v : Term) (t : Term) → Occurs v (term_body t) → Occurs v t
of-body v (Const c V) o = o
of-body v (Free y V) o = o
of-body v (Var y j V) o = o
of-body v (Bound p) o = o
of-body v (Abs V b) o = inr (of-body v b o)
of-body v (App f a) o = o

front-occurs : (x i : ℕ) (T : Typ) (t : Term) → front t ≡ Var x i T → Occurs (Var x i T) t
front-occurs x i T (Const c V) e = absurd (cc)
front-occurs x i T (Free y V) e = absurd (cc)
front-occurs x i T (Var y j V) e = sym e
front-occurs x i T (Bound p) e = absurd (cc)
front-occurs x i T (Abs V b) e = absurd (cc)
front-occurs x i T (App f a) e = inr (inl (front-occurs x i T f e))

argument-occurs : (v : Term) (t a : Term) → IsIn a (arguments t) → Occurs v a → Occurs v t
argument-occurs v (Const c V) a m o = absurd m
argument-occurs v (Free y V) a m o = absurd m
argument-occurs v (Var y j V) a m o = absurd m
argument-occurs v (Bound p) a m o = absurd m
argument-occurs v (Abs V b) a m o = absurd m
argument-occurs v (App f b) a m o = elim (in_split a (arguments f) (b ∷ []) m) [
  | inl k ↦ inr (inl (argument-occurs v f a k o))
  | inr k ↦ inr (inr (last k))
]
  where
    last : IsIn a (b ∷ []) → Occurs v b
    last (inl e) = subst (Occurs v) e o
    last (inr n) = absurd n

-- What occurs in a pattern with images put in, occurs in the image of a variable in it.
pub record IsFromImage (terms : Term → Term) (t : Term) (x i : ℕ) (T : Typ) : Type 0 where
  pub name : ℕ
  pub index : ℕ
  pub typ : Typ
  pub there : Occurs (Var name index typ) t
  pub inside : Occurs (Var x i T) (terms (Var name index typ))

module _ (terms : Term → Term) (long : IsLongMap terms) (x i : ℕ) (T : Typ) where
  abbrev pub IsFrom : Term → Type 0
  IsFrom t = IsFromImage terms t x i T

  from-part : (t u : Term) → ((v : Term) → Occurs v t → Occurs v u) → IsFrom t → IsFrom u
  from-part t u part k = record { name = k.name; index = k.index; typ = k.typ; there = part (Var k.name k.index k.typ) k.there; inside = k.inside }

  flexible-from : (bs : List Typ) (f a : Term) (R : Typ) → IsLong bs (App f a) (App f a) R → (y j : ℕ) (F : Typ) → front f ≡ Var y j F → (zs : List ℕ) → EachTwo IsPlace (arguments (App f a)) zs → Occurs (Var x i T) (put_application (terms (front f)) (App f a)) → IsFrom (App f a)
  flexible-from bs f a R h y j F e zs p o =
      let flexible = flexible-long bs (App f a) R y j F zs h (sym h.count) e p in
      elim (flexible-split terms long bs f a R y j F zs flexible e p) [
        | inl k ↦
            (let old : Occurs (Var x i T) (App f a) = subst (Occurs (Var x i T)) k.1 o in
            let here : Var x i T ≡ front f = places-lack x i T (App f a) zs p (ap is_schematic e) old in
            let image : terms (Var x i T) ≡ Var x i T = ap terms (here ∙ e) ∙ (k.0 ∙ (sym e ∙ sym here)) in
            record { name = x; index = i; typ = T; there = old; inside = subst (Occurs (Var x i T)) (sym image) refl })
        | inr k ↦
            (let b = k.0 in
            let inner : Occurs (Var x i T) b.body = renaming-occurs x i T (place_in (reverse zs)) b.body (subst (Occurs (Var x i T)) k.1 o) in
            record { name = y; index = j; typ = F; there = front-occurs y j F (App f a) e; inside = subst (Occurs (Var x i T)) (sym b.is) (in-below (Var x i T) (domains F) b.body inner) })
      ]

  application-from : (f a : Term) → (Occurs (Var x i T) (put_in terms f) → IsFrom f) → (Occurs (Var x i T) (put_in terms a) → IsFrom a) → Occurs (Var x i T) (App (put_in terms f) (put_in terms a)) → IsFrom (App f a)
  application-from f a h k (inl e) = absurd (cc)
  application-from f a h k (inr (inl o)) = from-part f (App f a) (λ v m. inr (inl m)) (h o)
  application-from f a h k (inr (inr o)) = from-part a (App f a) (λ v m. inr (inr m)) (k o)

  abstraction-from : (V : Typ) (b : Term) → (Occurs (Var x i T) (put_in terms b) → IsFrom b) → Occurs (Var x i T) (Abs V (put_in terms b)) → IsFrom (Abs V b)
  abstraction-from V b h (inl e) = absurd (cc)
  abstraction-from V b h (inr o) = from-part b (Abs V b) (λ v m. inr m) (h o)

  by_test : (f a : Term) (b : Bool) → Occurs (Var x i T) (if b then put_application (terms (front f)) (App f a) else App (put_in terms f) (put_in terms a))
      → (b ≡ true → Occurs (Var x i T) (put_application (terms (front f)) (App f a)) → IsFrom (App f a)) → (b ≡ false → Occurs (Var x i T) (App (put_in terms f) (put_in terms a)) → IsFrom (App f a)) → IsFrom (App f a)
  by_test f a true o h k = h refl o
  by_test f a false o h k = k refl o

  mutual
    pub from-image : (bs : List Typ) (t : Term) (R : Typ) → IsLong bs t t R → IsPattern t → Occurs (Var x i T) (put_in terms t) → IsFrom t
    from-image bs (Const c V) R h p o = absurd (cc)
    from-image bs (Free y V) R h p o = absurd (cc)
    from-image bs (Bound q) R h p o = absurd (cc)
    from-image bs (Var y j V) R h p o = record { name = y; index = j; typ = V; there = refl; inside = o }
    from-image bs (Abs V b) R h p o = (let k = body-long bs V b R h in abstraction-from V b (λ m. from-image (V ∷ bs) b k.0 k.1 p m) o)
    from-image bs (App f a) R h p o =
        by_test f a (is_schematic (front f)) o
        (λ e m. (let v = schematic-is (front f) e in let places = p.0 e in flexible-from bs f a R h v.0 v.1 v.2 v.3 places.0 places.1.are m))
        (λ e m. (let k = front-function terms long bs f a R (long-front bs (App f a) R h (λ z. z)) in let q = p.1 e in
        application-from f a (λ n. front-from bs f (arrow k.0 R) k.1 e q.0 n) (λ n. from-image bs a k.0 k.2 q.1 n) m))

    front-from : (bs : List Typ) (t : Term) (R : Typ) → IsFront bs t t R → is_schematic (front t) ≡ false → IsPattern t → Occurs (Var x i T) (put_in terms t) → IsFrom t
    front-from bs (Const c V) R h e p o = absurd (cc)
    front-from bs (Free y V) R h e p o = absurd (cc)
    front-from bs (Bound q) R h e p o = absurd (cc)
    front-from bs (Var y j V) R h e p o = absurd (cc)
    front-from bs (Abs V b) R h e p o = absurd (h.applied tt)
    front-from bs (App f a) R h e p o =
        by_test f a (is_schematic (front f)) o
        (λ d m. true-false (is_schematic (front f)) d e)
        (λ d m. (let k = front-function terms long bs f a R h in let q = p.1 e in
        application-from f a (λ n. front-from bs f (arrow k.0 R) k.1 e q.0 n) (λ n. from-image bs a k.0 k.2 q.1 n) m))

-- The variables in what is set have just the new index.
abbrev IsNew : ℕ → Term → Type 0
IsNew index (Var x i T) = i ≡ index
IsNew index _ = Unit {0}

abbrev HasNew : ℕ → Term → Type 0
HasNew index t = HasParts AnyTyp (IsNew index) t

new-occurs : (index x i : ℕ) (T : Typ) (t : Term) → HasNew index t → Occurs (Var x i T) t → i ≡ index
new-occurs index x i T (Const c V) h o = absurd (cc)
new-occurs index x i T (Free y V) h o = absurd (cc)
new-occurs index x i T (Var y j V) h o = (let same : i ≡ j = cc in same ∙ h.1)
new-occurs index x i T (Bound p) h o = absurd (cc)
new-occurs index x i T (Abs V b) h (inl e) = absurd (cc)
new-occurs index x i T (Abs V b) h (inr o) = new-occurs index x i T b h.1 o
new-occurs index x i T (App f a) h (inl e) = absurd (cc)
new-occurs index x i T (App f a) h (inr (inl o)) = new-occurs index x i T f h.0 o
new-occurs index x i T (App f a) h (inr (inr o)) = new-occurs index x i T a h.1 o

new-below : (index : ℕ) (Ts : List Typ) (t : Term) → HasNew index t → HasNew index (below Ts t)
new-below index [] t h = h
new-below index (T ∷ Ts) t h = (tt, new-below index Ts t h)

new-applied : (index : ℕ) (f : Term) (ts : List Term) → HasNew index f → Each (HasNew index) ts → HasNew index (applied f ts)
new-applied index f [] h k = h
new-applied index f (t ∷ ts) h k = new-applied index (App f t) ts (h, k.0) k.1

new-bounds : (index : ℕ) (zs : List ℕ) → Each (HasNew index) (bound_terms zs)
new-bounds index [] = tt
new-bounds index (z ∷ zs) = (tt, new-bounds index zs)

new-own : (index count : ℕ) → Each (HasNew index) (bounds count)
new-own index zero = tt
new-own index (suc count) = (tt, new-own index count)

new-selection : (index : ℕ) (T : Typ) (Us : List Typ) (us : List Term) (ks : List ℕ) → us ≡ bound_terms ks → HasNew index (selection index T Us us)
new-selection index T Us us ks e = new-below index (domains T) (applied (Var 0 index (function_typ Us (range T))) us) (new-applied index (Var 0 index (function_typ Us (range T))) us (tt, refl) (subst (Each (HasNew index)) (sym e) (new-bounds index ks)))

new-arguments : (index : ℕ) (Ts : List Typ) (name : ℕ) (Us : List Typ) → Each (HasNew index) (new_arguments index Ts name Us)
new-arguments index Ts name [] = tt
new-arguments index Ts name (U ∷ Us) = (new-applied index (Var name index (function_typ Ts U)) (bounds (length Ts)) (tt, refl) (new-own index (length Ts)), new-arguments index Ts (name + 1) Us)

new-rigid : (index : ℕ) (h : Term) → IsRigidHead h → HasNew index h
new-rigid index (Const c T) k = tt
new-rigid index (Free x T) k = tt
new-rigid index (Bound p) k = tt
new-rigid index (Var x i T) k = absurd k
new-rigid index (Abs T b) k = absurd k
new-rigid index (App f a) k = absurd k

new-long : (index : ℕ) (t u : Term) → IsLongForm t u → HasNew index t → HasNew index u
new-long index t u h k = long-parts AnyTyp (IsNew index) any-parts t u h k

-- A treatment sets distinct variables of its pair.
record AreSet (index : ℕ) (l r : Term) (bs : List TermBind) : Type 0 where
  new : Each (λ b. HasNew index b.image) bs
  there : Each (λ b. Occurs (term_variable b) l ⊎ Occurs (term_variable b) r) bs
  distinct : AreDistinct (map term_variable bs)

pub side-occurs : (t : Term) (x i : ℕ) (T : Typ) (zs : List ℕ) → IsFlexibleSide t x i T zs → Occurs (Var x i T) t
side-occurs t x i T zs h = of-body (Var x i T) t (front-occurs x i T (term_body t) h.variable)

pub mixed-occurs : (l r f k v : Term) → AreMixed l r f k → Occurs v f → Occurs v l ⊎ Occurs v r
mixed-occurs l r f k v (on_left a b e g) o = inl (subst (Occurs v) e o)
mixed-occurs l r f k v (on_right a b e g) o = inr (subst (Occurs v) e o)

are-set : (index : ℕ) (l r : Term) (bs : List TermBind) → IsTreated index l r (Sets bs) → AreSet index l r bs
are-set index l r bs (IsTreated.one_variable {x = x} {i = i} {T = T} {zs = zs} {ws = ws} {u = u} apart a b long) = record {
  new = (new-long index (agreeing_image index T zs ws) u long (new-selection index T (agreeing zs ws (domains T)) (agreeing zs ws (own_bounds T)) (agreeing zs ws (numbers (length (domains T)))) (agreeing-bounds T zs ws)), tt);
  there = (inl (side-occurs l x i T zs a), tt);
  distinct = (λ m. m, tt);
}
are-set index l r bs (IsTreated.two_variables {x = x} {i = i} {y = y} {j = j} {T = T} {U = U} {zs = zs} {ws = ws} {u = u} {w = w} a b apart long other) = record {
  new = (
    new-long index (left_image index T zs ws) u long (new-selection index T (shared_left zs ws (domains T)) (shared_left zs ws (own_bounds T)) (shared_left zs ws (numbers (length (domains T)))) (left-bounds T zs ws)),
    (new-long index (right_image index U zs ws) w other (new-selection index U (shared_right zs ws (domains U)) (shared_right zs ws (own_bounds U)) (shared_right zs ws (numbers (length (domains U)))) (right-bounds U zs ws)), tt),
  );
  there = (inl (side-occurs l x i T zs a), (inr (side-occurs r y j U ws b), tt));
  distinct = ((λ m. elim m [ inl e ↦ apart e | inr n ↦ n ]), ((λ m. m), tt));
}
are-set index l r bs (IsTreated.imitates {f = f} {k = k} {h = h} {u = u} {x = x} {i = i} {T = T} {U = U} {zs = zs} mixed a absent written long) = record {
  new = (
    new-long index (image_of index (domains T) h (domains U)) u long
        (new-below index (domains T) (applied h (new_arguments index (domains T) 0 (domains U))) (new-applied index h (new_arguments index (domains T) 0 (domains U)) (new-rigid index h (written-rigid T zs _ h U written)) (new-arguments index (domains T) 0 (domains U)))),
    tt,
  );
  there = (mixed-occurs l r f k (Var x i T) mixed (side-occurs f x i T zs a), tt);
  distinct = ((λ m. m), tt);
}

-- None of these variables occurs in the term.
abbrev Lacks : List Term → Term → Type 0
Lacks vs t = (x i : ℕ) (T : Typ) → Occurs (Var x i T) t → ¬ IsIn (Var x i T) vs

record IsFree (s : State) : Type 0 where
  distinct : AreDistinct (map term_variable s.binds)
  pairs : Each (λ p. Lacks (map term_variable s.binds) p.left × Lacks (map term_variable s.binds) p.right) s.pairs

distinct-append : (xs ys : List Term) → AreDistinct xs → AreDistinct ys → ((x : Term) → IsIn x xs → ¬ IsIn x ys) → AreDistinct (xs ++ ys)
distinct-append [] ys d k h = k
distinct-append (x ∷ xs) ys d k h = (λ m. elim (in_split x xs ys m) [ inl n ↦ d.0 n | inr n ↦ h x (inl refl) n ], distinct-append xs ys d.1 k (λ z m. h z (inr m)))

map-append : (cs bs : List TermBind) → map term_variable (cs ++ bs) ≡ map term_variable cs ++ map term_variable bs
map-append [] bs = refl
map-append (c ∷ cs) bs = ap (λ vs. term_variable c ∷ vs) (map-append cs bs)

put-variables : (bs cs ds : List TermBind) → EachTwo (IsBindPut bs) cs ds → map term_variable cs ≡ map term_variable ds
put-variables bs [] [] h = refl
put-variables bs [] (d ∷ ds) h = absurd h
put-variables bs (c ∷ cs) [] h = absurd h
put-variables bs (c ∷ cs) (d ∷ ds) h = λ l. h.0.0 l ∷ put-variables bs cs ds h.1 l

of-map : (v : Term) (bs : List TermBind) → IsIn v (map term_variable bs) → (b : TermBind) × IsIn b bs × (v ≡ term_variable b)
of-map v [] m = absurd m
of-map v (b ∷ bs) (inl e) = (b, inl refl, e)
of-map v (b ∷ bs) (inr m) = (let rest = of-map v bs m in (rest.0, inr rest.1, rest.2))

-- The image of a variable that is set has new variables alone.
image-new : (index : ℕ) (bs : List TermBind) → Each (λ b. HasNew index b.image) bs → (v : Term) → IsIn v (map term_variable bs) → HasNew index (term_image bs v)
image-new index [] h v m = absurd m
image-new index (b ∷ bs) h v (inl e) = (let test : term_eq (term_variable b) v ≡ true = subst (λ u. term_eq (term_variable b) u ≡ true) (sym e) (term_eq-itself (term_variable b)) in rw test h.0)
image-new index (b ∷ bs) h v (inr m) = either (term_eq (term_variable b) v) (image-new index bs h.1 v m)
  where
    either : (test : Bool) → HasNew index (term_image bs v) → HasNew index (if test then b.image else term_image bs v)
    either true k = h.0
    either false k = k

low-occurs : (n x i : ℕ) (T : Typ) (t : Term) → IsLow n t → Occurs (Var x i T) t → i ≤ n
low-occurs n x i T (Const c V) h o = absurd (cc)
low-occurs n x i T (Free y V) h o = absurd (cc)
low-occurs n x i T (Var y j V) h o = (let same : i ≡ j = cc in let small = h.1 in omega arith)
low-occurs n x i T (Bound p) h o = absurd (cc)
low-occurs n x i T (Abs V b) h (inl e) = absurd (cc)
low-occurs n x i T (Abs V b) h (inr o) = low-occurs n x i T b h.1 o
low-occurs n x i T (App f a) h (inl e) = absurd (cc)
low-occurs n x i T (App f a) h (inr (inl o)) = low-occurs n x i T f h.0 o
low-occurs n x i T (App f a) h (inr (inr o)) = low-occurs n x i T a h.1 o

low-variables : (n x i : ℕ) (T : Typ) (bs : List TermBind) → Each (λ b. IsUpTo n (term_variable b)) bs → IsIn (Var x i T) (map term_variable bs) → i ≤ n
low-variables n x i T bs h m =
    let found = of-map (Var x i T) bs m in
    let low = each_at (λ b. IsUpTo n (term_variable b)) bs h found.0 found.1 in
    let same : i ≡ found.0.index = (let e = found.2 in cc) in
    omega arith

-- One step: the variables that were set before, and those that it sets.
module _ (n : ℕ) (bs olds : List TermBind) (ready : Each IsPatternBind bs) (new : Each (λ b. HasNew (n + 1) b.image) bs) (low : Each (λ b. IsUpTo n (term_variable b)) bs) (old : Each (λ b. IsUpTo n (term_variable b)) olds) where
  abbrev all : List Term
  all = map term_variable olds ++ map term_variable bs

  none-new : (x i : ℕ) (T : Typ) → i ≡ n + 1 → ¬ IsIn (Var x i T) all
  none-new x i T e m = elim (in_split (Var x i T) (map term_variable olds) (map term_variable bs) m) [
    | inl k ↦ (let small = low-variables n x i T olds old k in absurd (omega arith))
    | inr k ↦ (let small = low-variables n x i T bs low k in absurd (omega arith))
  ]

  put-lacks : (t u : Term) → IsLongForm t t → IsPattern t → IsLow n t → IsPut bs t u → Lacks (map term_variable olds) t → Lacks all u
  put-lacks t u h p small put lacks x i T o m =
      let renamed = put_in_is_long_form (term_image bs) (binds-long_map bs ready) t h p in
      let same = one_long_form_of_term (inst_term (term_image bs) t) (put_in (term_image bs) t) u renamed put in
      let long = long_form-long t t h in
      let from = from-image (term_image bs) (binds-long_map bs ready) x i T [] t long.0 long.1 p (subst (Occurs (Var x i T)) (sym same) o) in
      by_cases from.name from.index from.typ from.there from.inside (image-of bs from.name from.index from.typ)
    where
      by_cases : (y j : ℕ) (V : Typ) → Occurs (Var y j V) t → Occurs (Var x i T) (term_image bs (Var y j V))
          → (term_image bs (Var y j V) ≡ Var y j V) ⊎ ((b : TermBind) × IsIn b bs × (term_variable b ≡ Var y j V) × (term_image bs (Var y j V) ≡ b.image)) → ⊥
      by_cases y j V there inside (inr k) =
          let image = each_at (λ b. HasNew (n + 1) b.image) bs new k.0 k.1 in
          none-new x i T (new-occurs (n + 1) x i T k.0.image image (subst (Occurs (Var x i T)) k.3 inside)) m
      by_cases y j V there inside (inl e) =
          let same : Var x i T ≡ Var y j V = subst (Occurs (Var x i T)) e inside in
          let here : Occurs (Var x i T) t = subst (λ v. Occurs v t) (sym same) there in
          elim (in_split (Var x i T) (map term_variable olds) (map term_variable bs) m) [
            | inl k ↦ lacks x i T here k
            | inr k ↦
                (let image = image-new (n + 1) bs new (Var x i T) k in
                let stays : term_image bs (Var x i T) ≡ Var x i T = subst (λ v. term_image bs v ≡ v) (sym same) e in
                let number = new-occurs (n + 1) x i T (Var x i T) (subst (HasNew (n + 1)) stays image) refl in
                let bound = low-occurs n x i T t small here in
                absurd (omega arith))
          ]

  put-pairs-lack : (ps qs : List Pair) → Each AreLongOfOneTyp ps → Each IsPatternPair ps → Each (λ p. IsLow n p.left × IsLow n p.right) ps → EachTwo (IsPairPut bs) ps qs
      → Each (λ p. Lacks (map term_variable olds) p.left × Lacks (map term_variable olds) p.right) ps → Each (λ p. Lacks all p.left × Lacks all p.right) qs
  put-pairs-lack [] [] h p small put lacks = tt
  put-pairs-lack [] (q ∷ qs) h p small put lacks = absurd put
  put-pairs-lack (p ∷ ps) [] h k small put lacks = absurd put
  put-pairs-lack (p ∷ ps) (q ∷ qs) h k small put lacks =
      ((put-lacks p.left q.left h.0.left k.0.0 small.0.0 put.0.0 lacks.0.0, put-lacks p.right q.right h.0.right k.0.1 small.0.1 put.0.1 lacks.0.1), put-pairs-lack ps qs h.1 k.1 small.1 put.1 lacks.1)

pairs-lack : (vs : List Term) (Ts Us : List Typ) (l r : Term) (ts us : List Term) → ((a : Term) → IsIn a ts → IsIn a (arguments (term_body l))) → ((a : Term) → IsIn a us → IsIn a (arguments (term_body r))) → Lacks vs l → Lacks vs r
    → Each (λ p. Lacks vs p.left × Lacks vs p.right) (pairs_below Ts Us ts us)
pairs-lack vs Ts Us l r [] us h k a b = tt
pairs-lack vs Ts Us l r (t ∷ ts) [] h k a b = tt
pairs-lack vs Ts Us l r (t ∷ ts) (u ∷ us) h k a b = (
  (
    (λ x i T o. a x i T (of-body (Var x i T) l (argument-occurs (Var x i T) (term_body l) t (h t (inl refl)) (of-below x i T Ts t o)))),
    (λ x i T o. b x i T (of-body (Var x i T) r (argument-occurs (Var x i T) (term_body r) u (k u (inl refl)) (of-below x i T Us u o)))),
  ),
  pairs-lack vs Ts Us l r ts us (λ c m. h c (inr m)) (λ c m. k c (inr m)) a b,
)

becomes-lack : (vs : List Term) (index : ℕ) (l r : Term) (qs : List Pair) → IsTreated index l r (Becomes qs) → Lacks vs l → Lacks vs r → Each (λ p. Lacks vs p.left × Lacks vs p.right) qs
becomes-lack vs index l r qs (IsTreated.equal e) h k = tt
becomes-lack vs index l r qs (IsTreated.same_heads n e f same) h k = pairs-lack vs (abstractions l) (abstractions r) l r (arguments (term_body l)) (arguments (term_body r)) (λ a m. m) (λ a m. m) h k

pair-variable : (v : Term) (b : TermBind) → v ≡ term_variable b → (l r : Term) (vs : List Term) → Lacks vs l → Lacks vs r → Occurs (term_variable b) l ⊎ Occurs (term_variable b) r → ¬ IsIn v vs
pair-variable v b e l r vs h k (inl o) m = h b.name b.index b.typ o (subst (λ u. IsIn u vs) e m)
pair-variable v b e l r vs h k (inr o) m = k b.name b.index b.typ o (subst (λ u. IsIn u vs) e m)

bind-lows : (n : ℕ) (bs : List TermBind) → Each (IsLowBind n) bs → Each (λ b. IsUpTo n (term_variable b)) bs
bind-lows n [] h = tt
bind-lows n (b ∷ bs) h = (h.0.0, bind-lows n bs h.1)

set-lows : (n : ℕ) (l r : Term) (bs : List TermBind) → IsLow n l → IsLow n r → Each (λ b. Occurs (term_variable b) l ⊎ Occurs (term_variable b) r) bs → Each (λ b. IsUpTo n (term_variable b)) bs
set-lows n l r [] h k there = tt
set-lows n l r (b ∷ bs) h k there = (elim there.0 [ inl o ↦ low-occurs n b.name b.index b.typ l h o | inr o ↦ low-occurs n b.name b.index b.typ r k o ], set-lows n l r bs h k there.1)

step-free : (n : ℕ) (s m : State) → IsPatternState s → IsLowState n s → IsFree s → Follows (n + 1) s m → IsFree m
step-free n s m h low free (Follows.replaced {p = p} {ps = ps} {qs = qs} e treated) =
    let vs = map term_variable s.binds in
    let lacks = subst (Each (λ p. Lacks vs p.left × Lacks vs p.right)) e free.pairs in
    record { distinct = free.distinct; pairs = each-append (λ p. Lacks vs p.left × Lacks vs p.right) qs ps (becomes-lack vs (n + 1) p.left p.right qs treated lacks.0.0 lacks.0.1) lacks.1 }
step-free n s m h low free (Follows.set {p = p} {ps = ps} {qs = qs} {bs = bs} cs e treated pairs binds) =
    let vs = map term_variable s.binds in
    let long = subst (Each AreLongOfOneTyp) e h.long in
    let patterns = subst (Each IsPatternPair) e h.patterns in
    let small = subst (Each (λ p. IsLow n p.left × IsLow n p.right)) e low.pairs in
    let lacks = subst (Each (λ p. Lacks vs p.left × Lacks vs p.right)) e free.pairs in
    let set = are-set (n + 1) p.left p.right bs treated in
    let ready = settings_are_patterns (n + 1) p long.0 patterns.0 bs treated in
    let lows = set-lows n p.left p.right bs small.0.0 small.0.1 set.there in
    let olds = bind-lows n s.binds low.binds in
    let together : map term_variable (cs ++ bs) ≡ map term_variable s.binds ++ map term_variable bs = map-append cs bs ∙ ap (λ us. us ++ map term_variable bs) (sym (put-variables bs s.binds cs binds)) in
    let apart : (v : Term) → IsIn v (map term_variable s.binds) → ¬ IsIn v (map term_variable bs) = λ v k o.
    (let found = of-map v bs o in pair-variable v found.0 found.2 p.left p.right vs lacks.0.0 lacks.0.1 (each_at (λ b. Occurs (term_variable b) p.left ⊎ Occurs (term_variable b) p.right) bs set.there found.0 found.1) k) in
    let inside = put-pairs-lack n bs s.binds ready set.new lows olds s.pairs qs h.long h.patterns low.pairs pairs free.pairs in
    record {
      distinct = subst AreDistinct (sym together) (distinct-append (map term_variable s.binds) (map term_variable bs) free.distinct set.distinct apart);
      pairs = subst (λ us. Each (λ p. Lacks us p.left × Lacks us p.right) qs) (sym together) inside;
    }

run-distinct : (maxidx n : ℕ) (s : State) (bs : List TermBind) → Runs maxidx n s (Solved bs) → IsPatternState s → IsLowState (maxidx + n) s → IsFree s → AreDistinct (map term_variable bs)
run-distinct maxidx n s bs (Runs.over within e) h low free = free.distinct
run-distinct maxidx n s bs (Runs.next {m = m} within less follows run) h low free =
    let number : maxidx + (n + 1) ≡ (maxidx + n) + 1 = omega arith in
    let step : Follows ((maxidx + n) + 1) s m = subst (λ i. Follows i s m) number follows in
    run-distinct maxidx (n + 1) m bs run (steps_keep_patterns (maxidx + (n + 1)) s m h follows) (step-low (maxidx + (n + 1)) (maxidx + n) (omega arith) s m h follows low) (step-free (maxidx + n) s m h low free step)

-- The entries of the given variables are some of them.
in-given : (ps : List Pair) (bs : List TermBind) (v : Term) → IsIn v (map term_variable (given_binds ps bs)) → IsIn v (map term_variable bs)
in-given ps [] v m = m
in-given ps (b ∷ bs) v m = by_cases (list_any (term_eq (term_variable b)) (pair_variables ps)) m (λ k. in-given ps bs v k)
  where
    by_cases : (test : Bool) → IsIn v (map term_variable (if test then (b ∷ given_binds ps bs) else given_binds ps bs)) → (IsIn v (map term_variable (given_binds ps bs)) → IsIn v (map term_variable bs)) → IsIn v (map term_variable (b ∷ bs))
    by_cases true (inl e) rest = inl e
    by_cases true (inr k) rest = inr (rest k)
    by_cases false k rest = inr (rest k)

distinct-given : (ps : List Pair) (bs : List TermBind) → AreDistinct (map term_variable bs) → AreDistinct (map term_variable (given_binds ps bs))
distinct-given ps [] d = tt
distinct-given ps (b ∷ bs) d = by_cases (list_any (term_eq (term_variable b)) (pair_variables ps)) (distinct-given ps bs d.1)
  where
    by_cases : (test : Bool) → AreDistinct (map term_variable (given_binds ps bs)) → AreDistinct (map term_variable (if test then (b ∷ given_binds ps bs) else given_binds ps bs))
    by_cases true k = (λ m. d.0 (in-given ps bs (term_variable b) m), k)
    by_cases false k = k

all-lack : (ps : List Pair) → Each (λ p. Lacks [] p.left × Lacks [] p.right) ps
all-lack [] = tt
all-lack (p ∷ ps) = (((λ x i T o m. m), (λ x i T o m. m)), all-lack ps)

pub unifier_is_map : UnifierIsMap
unifier_is_map maxidx ps h bs answer =
    let run = run-of maxidx ps bs (Unified bs) refl answer in
    let all = run-distinct maxidx 0 (start ps) run.all run.run (start-ready maxidx ps h run.patterns) (start-lower maxidx ps h) (record { distinct = tt; pairs = all-lack ps }) in
    subst (λ cs. AreDistinct (map term_variable cs)) (sym run.are) (distinct-given ps run.all all)
