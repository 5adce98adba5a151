-- Pairs have one answer at least.
use Rattle.std.proofs.Common.{◌≡◌, ◌≢◌, ◌⊎◌, ℕ, zero, suc, ◌+◌, ◌<◌, ◌≤◌, inl, inr, List, [], ◌∷◌, ◌++◌, length, Bool, true, false, Some, nat_eq, ap, refl, sym, subst, ◌∙◌, arith}
use Rattle.std.proofs.lemmas.Bool.{eq-eqb, cases_lt}
use Rattle.std.specs.Prelude.{if◌then◌else◌}
use Rattle.pure_text.specs.Lists.{IsIn, Each, EachTwo, AreDistinct}
use Rattle.pure_text.proofs.ListLaws.{in_or_not, each_decided}
use Rattle.pure_definitions.specs.Types.Typ.{Typ, TFree, TVar, Con, Typs, none, also}
use Rattle.pure_definitions.specs.Types.Occurs.{OccursInTyp, OccursInTyps}
use Rattle.pure_definitions.specs.Terms.Term.{Term, Const, Free, Var, Bound, Abs, App, term_eq, term_size, term_depth, max_size, max_depth, IsWithin}
use Rattle.pure_definitions.specs.Terms.Bounds.{Occurs}
use Rattle.pure_definitions.specs.Terms.Limits.{cut_off}
use Rattle.pure_definitions.specs.Terms.Subst.{TermBind, term_image}
use Rattle.pure_definitions.specs.Models.Equality.{term_eq-same, term_eq-itself}
use Rattle.pure_definitions.specs.Reduction.Beta.{IsAbs, IsBetaNormal}
use Rattle.pure_definitions.specs.Reduction.Eta.{EtaReduces, IsLongForm}
use Rattle.pure_term_laws.specs.LawsOccurs.{TypOccurs}
use Rattle.pure_term_laws.proofs.EtaNormalLaws.{one_eta_normal_form}
use Rattle.pure_eta.proofs.EtaStepLaws.{bound-normal}
use Rattle.pure_eta.proofs.FormLaws.{each_term_has_eta_normal_form, each_typed_normal_term_has_long_form}
use Rattle.pure_logic.specs.Derivable.{Pair}
use Rattle.pure_theorem.specs.First.{IsFirstWith}
use Rattle.pure_unify_definitions.specs.Fronts.{term_body, front, head, arguments, is_schematic, is_flexible, below, domains, range, function_typ, applied, bounds, pair}
use Rattle.pure_unify_definitions.specs.Node.{bind}
use Rattle.pure_unify_definitions.specs.Children.{new_arguments, image_of}
use Rattle.pure_unify_final.proofs.SideLaws.{IsRigidHead, head-rigid}
use Rattle.pure_pattern_laws.specs.Patterns.{IsPlace, HasPlaces, IsPattern, IsPatternPair, HasSchematicTyp}
use Rattle.pure_pattern_laws.specs.Places.{agreeing, shared_left, shared_right, at_place}
use Rattle.pure_pattern_laws.specs.Treatment.{selection, own_bounds, agreeing_image, left_image, right_image, IsFlexibleSide, AreMixed, on_left, on_right, IsWritten, Treatment, Becomes, Sets, Never, IsTreated}
use Rattle.pure_pattern_laws.specs.Steps.{Outcome, State, start, IsPut, IsPairPut, IsBindPut, Follows, Stops, IsWithinState, max_steps, Runs}
use Rattle.pure_pattern_laws.specs.Putting.{put_in}
use Rattle.pure_pattern_laws.specs.Answers.{AreLongOfOneTyp, SchematicType, NotPattern, answer_of, IsPatternAnswer}
use Rattle.pure_pattern_laws.specs.Laws.{IsPatternBind, IsPatternState, SomeAnswer}
use Rattle.pure_pattern_laws.proofs.BuiltLaws.{below-of}
use Rattle.pure_pattern_laws.proofs.PutLaws.{bound_terms, schematic-is, put_in_is_long_form}
use Rattle.pure_pattern_laws.proofs.ImageLaws.{pattern-places}
use Rattle.pure_pattern_laws.proofs.KeepLaws.{binds-long_map, body-pattern, mixed-long, mixed-patterns, flexible-side, agreeing-typed, left-typed, right-typed, imitation-typed, written-rigid, settings_are_patterns, steps_keep_patterns}
use Rattle.pure_pattern_laws.proofs.LowLaws.{agreeing-bounds, left-bounds, right-bounds}
use Rattle.pure_pattern_laws.proofs.SoundLaws.{start-ready}
use Rattle.pure_pattern_laws.proofs.ListLaws.{numbers}
use Rattle.pure_pattern_laws.proofs.OnceLaws.{places-once}

-- Decisions on terms and lists.
same-or-not : (t u : Term) → (t ≡ u) ⊎ (t ≢ u)
same-or-not t u = by_cases (term_eq t u) refl
  where
    by_cases : (b : Bool) → term_eq t u ≡ b → (t ≡ u) ⊎ (t ≢ u)
    by_cases true e = inl (term_eq-same t u e)
    by_cases false e = inr (λ k. (let yes = term_eq-itself u in let no : term_eq u u ≡ false = subst (λ x. term_eq x u ≡ false) k e in absurd (cc)))

occurs-or-not : (v t : Term) → Occurs v t ⊎ ¬ Occurs v t
occurs-or-not v (Const c T) = same-or-not v (Const c T)
occurs-or-not v (Free x T) = same-or-not v (Free x T)
occurs-or-not v (Var x i T) = same-or-not v (Var x i T)
occurs-or-not v (Bound p) = same-or-not v (Bound p)
occurs-or-not v (Abs T b) = two (same-or-not v (Abs T b)) (occurs-or-not v b)
  where
    two : (v ≡ Abs T b) ⊎ (v ≢ Abs T b) → Occurs v b ⊎ ¬ Occurs v b → Occurs v (Abs T b) ⊎ ¬ Occurs v (Abs T b)
    two (inl e) k = inl (inl e)
    two (inr n) (inl o) = inl (inr o)
    two (inr n) (inr o) = inr (λ k. elim k [ inl e ↦ n e | inr m ↦ o m ])
occurs-or-not v (App f a) = three (same-or-not v (App f a)) (occurs-or-not v f) (occurs-or-not v a)
  where
    three : (v ≡ App f a) ⊎ (v ≢ App f a) → Occurs v f ⊎ ¬ Occurs v f → Occurs v a ⊎ ¬ Occurs v a → Occurs v (App f a) ⊎ ¬ Occurs v (App f a)
    three (inl e) k m = inl (inl e)
    three (inr n) (inl o) m = inl (inr (inl o))
    three (inr n) (inr o) (inl m) = inl (inr (inr m))
    three (inr n) (inr o) (inr m) = inr (λ k. elim k [ inl e ↦ n e | inr l ↦ elim l [ inl f ↦ o f | inr a ↦ m a ] ])

bool-cases : (b : Bool) → (b ≡ true) ⊎ (b ≡ false)
bool-cases true = inl refl
bool-cases false = inr refl

-- The images before they are brought to long form are normal.
applied-normal : (f : Term) (ts : List Term) → ¬ IsAbs f → IsBetaNormal f → Each IsBetaNormal ts → IsBetaNormal (applied f ts)
applied-normal f [] n h k = h
applied-normal f (t ∷ ts) n h k = applied-normal (App f t) ts (λ x. x) (n, h, k.0) k.1

below-normal : (Ts : List Typ) (t : Term) → IsBetaNormal t → IsBetaNormal (below Ts t)
below-normal [] t h = h
below-normal (T ∷ Ts) t h = below-normal Ts t h

bounds-normal : (zs : List ℕ) → Each IsBetaNormal (bound_terms zs)
bounds-normal [] = tt
bounds-normal (z ∷ zs) = (tt, bounds-normal zs)

own-normal : (n : ℕ) → Each IsBetaNormal (bounds n)
own-normal zero = tt
own-normal (suc n) = (tt, own-normal n)

pub selection-normal : (index : ℕ) (T : Typ) (Us : List Typ) (us : List Term) (ks : List ℕ) → us ≡ bound_terms ks → IsBetaNormal (selection index T Us us)
selection-normal index T Us us ks e = below-normal (domains T) (applied (Var 0 index (function_typ Us (range T))) us) (applied-normal (Var 0 index (function_typ Us (range T))) us (λ x. x) tt (subst (Each IsBetaNormal) (sym e) (bounds-normal ks)))

new-normal : (index : ℕ) (Ts : List Typ) (name : ℕ) (Us : List Typ) → Each IsBetaNormal (new_arguments index Ts name Us)
new-normal index Ts name [] = tt
new-normal index Ts name (U ∷ Us) = (applied-normal (Var name index (function_typ Ts U)) (bounds (length Ts)) (λ x. x) tt (own-normal (length Ts)), new-normal index Ts (name + 1) Us)

rigid-normal : (h : Term) → IsRigidHead h → (¬ IsAbs h) × IsBetaNormal h
rigid-normal (Const c T) k = (λ x. x, tt)
rigid-normal (Free x T) k = (λ x. x, tt)
rigid-normal (Bound p) k = (λ x. x, tt)
rigid-normal (Var x i T) k = absurd k
rigid-normal (Abs T b) k = absurd k
rigid-normal (App f a) k = absurd k

pub image-normal : (index : ℕ) (Ts : List Typ) (h : Term) (Us : List Typ) → IsRigidHead h → IsBetaNormal (image_of index Ts h Us)
image-normal index Ts h Us k = let n = rigid-normal h k in below-normal Ts (applied h (new_arguments index Ts 0 Us)) (applied-normal h (new_arguments index Ts 0 Us) n.0 n.1 (new-normal index Ts 0 Us))

-- A flexible side has its places.
pub flexible-some : (t : Term) → IsPattern t → is_flexible t ≡ true → (x i : ℕ) × (T : Typ) × (zs : List ℕ) × IsFlexibleSide t x i T zs
flexible-some t p e =
    let v = schematic-is (head t) e in
    let places = pattern-places (term_body t) e (body-pattern t p) in
    (v.0, v.1, v.2, places.0, record { variable = v.3; places = places.1 })

at-in : {A : Type 0} (p : ℕ) (zs : List ℕ) (us : List A) → IsIn p zs → length zs ≡ length us → (u : A) × (at_place p zs us ≡ Some u)
at-in p [] us m e = absurd m
at-in p (z ∷ zs) [] m e = absurd (omega arith)
at-in p (z ∷ zs) (u ∷ us) m e = by_cases (nat_eq p z) refl m (λ k. at-in p zs us k (omega arith))
  where
    by_cases : (b : Bool) → nat_eq p z ≡ b → IsIn p (z ∷ zs) → (IsIn p zs → (w : _) × (at_place p zs us ≡ Some w)) → (w : _) × ((if b then Some u else at_place p zs us) ≡ Some w)
    by_cases true t m rest = (u, refl)
    by_cases false t (inl s) rest = (let yes = eq-eqb p z s in absurd (cc))
    by_cases false t (inr k) rest = rest k

pub bounds-length : (n : ℕ) → length (bounds n) ≡ n
bounds-length zero = refl
bounds-length (suc n) = ap (λ m. suc m) (bounds-length n)

-- How the head of a rigid side is written, or that it is a bound variable that isn't in the list.
written-some : (T : Typ) (zs : List ℕ) (k : Term) → IsRigidHead k → length zs ≡ length (domains T) → ((h : Term) × (U : Typ) × IsWritten T zs k h U) ⊎ ((p : ℕ) × (k ≡ Bound p) × ¬ IsIn p zs)
written-some T zs (Const c U) r e = inl (Const c U, U, IsWritten.constant)
written-some T zs (Free y U) r e = inl (Free y U, U, IsWritten.fixed)
written-some T zs (Bound p) r e = elim (in_or_not p zs) [
  | inl m ↦ (let own = at-in p zs (own_bounds T) m (e ∙ sym (bounds-length (length (domains T)))) in let typ = at-in p zs (domains T) m e in inl (own.0, typ.0, IsWritten.bound own.1 typ.1))
  | inr n ↦ inr (p, refl, n)
]
written-some T zs (Var y j U) r e = absurd r
written-some T zs (Abs U b) r e = absurd r
written-some T zs (App f a) r e = absurd r

-- Each pair of patterns has a treatment.
module _ (index : ℕ) (p : Pair) (h : AreLongOfOneTyp p) (patterns : IsPatternPair p) where
  abbrev HasTreatment : Type 0
  HasTreatment = (A : Treatment) × IsTreated index p.left p.right A

  rigid-some : p.left ≢ p.right → is_flexible p.left ≡ false → is_flexible p.right ≡ false → HasTreatment
  rigid-some n e f = elim (same-or-not (head p.left) (head p.right)) [
    | inl same ↦ (Becomes _, IsTreated.same_heads n e f same)
    | inr apart ↦ (Never, IsTreated.clash e f apart)
  ]

  one-some : (x i : ℕ) (T : Typ) (zs ws : List ℕ) → p.left ≢ p.right → IsFlexibleSide p.left x i T zs → IsFlexibleSide p.right x i T ws → HasTreatment
  one-some x i T zs ws n a b =
      let normal = selection-normal index T (agreeing zs ws (domains T)) (agreeing zs ws (own_bounds T)) (agreeing zs ws (numbers (length (domains T)))) (agreeing-bounds T zs ws) in
      let u = each_typed_normal_term_has_long_form (agreeing_image index T zs ws) T (agreeing-typed index T zs ws) normal in
      (Sets (bind x i T u.0 ∷ []), IsTreated.one_variable n a b u.1)

  two-some : (x i y j : ℕ) (T U : Typ) (zs ws : List ℕ) → IsFlexibleSide p.left x i T zs → IsFlexibleSide p.right y j U ws → Var x i T ≢ Var y j U → HasTreatment
  two-some x i y j T U zs ws a b n =
      let left = selection-normal index T (shared_left zs ws (domains T)) (shared_left zs ws (own_bounds T)) (shared_left zs ws (numbers (length (domains T)))) (left-bounds T zs ws) in
      let right = selection-normal index U (shared_right zs ws (domains U)) (shared_right zs ws (own_bounds U)) (shared_right zs ws (numbers (length (domains U)))) (right-bounds U zs ws) in
      let u = each_typed_normal_term_has_long_form (left_image index T zs ws) T (left-typed index T zs ws) left in
      let w = each_typed_normal_term_has_long_form (right_image index U zs ws) U (right-typed index U zs ws) right in
      (Sets (bind x i T u.0 ∷ bind y j U w.0 ∷ []), IsTreated.two_variables a b n u.1 w.1)

  both-some : p.left ≢ p.right → is_flexible p.left ≡ true → is_flexible p.right ≡ true → HasTreatment
  both-some n e f =
      let l = flexible-some p.left patterns.0 e in
      let r = flexible-some p.right patterns.1 f in
      elim (same-or-not (Var l.0 l.1 l.2) (Var r.0 r.1 r.2)) [
        | inl same ↦ one-some l.0 l.1 l.2 l.3 r.3 n l.4 (record { variable = r.4.variable ∙ sym same; places = r.4.places })
        | inr apart ↦ two-some l.0 l.1 r.0 r.1 l.2 r.2 l.3 r.3 l.4 r.4 apart
      ]

  mixed-some : (f k : Term) → AreMixed p.left p.right f k → is_flexible f ≡ true → HasTreatment
  mixed-some f k mixed e =
      let sides = mixed-long p f k h mixed in
      let v = flexible-some f (mixed-patterns p f k patterns mixed).0 e in
      let flexible = flexible-side f h.typ v.0 v.1 v.2 v.3 (below-of [] f h.typ sides.0) v.4 in
      elim (occurs-or-not (Var v.0 v.1 v.2) k) [
        | inl o ↦ (Never, IsTreated.occurs mixed v.4 o)
        | inr absent ↦ elim (written-some v.2 v.3 (head k) (head-rigid k sides.1.normal sides.2) flexible.domains_long) [
          | inl w ↦
              (let typed = imitation-typed index f k h.typ v.0 v.1 v.2 w.1 v.3 w.0 sides.0 sides.1 v.4 w.2 in
              let u = each_typed_normal_term_has_long_form (image_of index (domains v.2) w.0 (domains w.1)) v.2 typed (image-normal index (domains v.2) w.0 (domains w.1) (written-rigid v.2 v.3 (head k) w.0 w.1 w.2)) in
              (Sets (bind v.0 v.1 v.2 u.0 ∷ []), IsTreated.imitates mixed v.4 absent w.2 u.1))
          | inr out ↦ (Never, IsTreated.escapes mixed v.4 out.1 out.2)
        ]
      ]

  pub treatment-some : HasTreatment
  treatment-some = by_cases (same-or-not p.left p.right) (bool-cases (is_flexible p.left)) (bool-cases (is_flexible p.right))
    where
      by_cases : (p.left ≡ p.right) ⊎ (p.left ≢ p.right) → (is_flexible p.left ≡ true) ⊎ (is_flexible p.left ≡ false) → (is_flexible p.right ≡ true) ⊎ (is_flexible p.right ≡ false) → (A : Treatment) × IsTreated index p.left p.right A
      by_cases (inl e) k m = (Becomes [], IsTreated.equal e)
      by_cases (inr n) (inl k) (inl m) = both-some n k m
      by_cases (inr n) (inr k) (inr m) = rigid-some n k m
      by_cases (inr n) (inl k) (inr m) = mixed-some p.left p.right (on_left k m refl refl) k
      by_cases (inr n) (inr k) (inl m) = mixed-some p.right p.left (on_right k m refl refl) m

-- What is put.
put-some : (bs : List TermBind) → Each IsPatternBind bs → (t : Term) → IsLongForm t t → IsPattern t → IsPut bs t (put_in (term_image bs) t)
put-some bs ready t h p = put_in_is_long_form (term_image bs) (binds-long_map bs ready) t h p

put-pairs-some : (bs : List TermBind) → Each IsPatternBind bs → (ps : List Pair) → Each AreLongOfOneTyp ps → Each IsPatternPair ps → (qs : List Pair) × EachTwo (IsPairPut bs) ps qs
put-pairs-some bs ready [] h k = ([], tt)
put-pairs-some bs ready (p ∷ ps) h k =
    let rest = put-pairs-some bs ready ps h.1 k.1 in
    (pair (put_in (term_image bs) p.left) (put_in (term_image bs) p.right) ∷ rest.0, ((put-some bs ready p.left h.0.left k.0.0, put-some bs ready p.right h.0.right k.0.1), rest.1))

put-binds-some : (bs : List TermBind) → Each IsPatternBind bs → (cs : List TermBind) → Each IsPatternBind cs → (ds : List TermBind) × EachTwo (IsBindPut bs) cs ds
put-binds-some bs ready [] h = ([], tt)
put-binds-some bs ready (c ∷ cs) h =
    let rest = put-binds-some bs ready cs h.1 in
    (bind c.name c.index c.typ (put_in (term_image bs) c.image) ∷ rest.0, ((refl, put-some bs ready c.image h.0.long h.0.pattern), rest.1))

step-some : (index : ℕ) (s : State) (p : Pair) (ps : List Pair) → IsPatternState s → s.pairs ≡ p ∷ ps → ((m : State) × Follows index s m) ⊎ Stops index s
step-some index s p ps h e = by_cases (treatment-some index p (subst (Each AreLongOfOneTyp) e h.long).0 (subst (Each IsPatternPair) e h.patterns).0)
  where
    by_cases : (A : Treatment) × IsTreated index p.left p.right A → ((m : State) × Follows index s m) ⊎ Stops index s
    by_cases (Becomes qs, treated) = inl (record { pairs = qs ++ ps; binds = s.binds }, Follows.replaced e treated)
    by_cases (Never, treated) = inr (record { first = p; rest = ps; are = e; never = treated })
    by_cases (Sets bs, treated) =
        let ready = settings_are_patterns index p (subst (Each AreLongOfOneTyp) e h.long).0 (subst (Each IsPatternPair) e h.patterns).0 bs treated in
        let pairs = put-pairs-some bs ready s.pairs h.long h.patterns in
        let binds = put-binds-some bs ready s.binds h.binds in
        inl (record { pairs = pairs.0; binds = binds.0 ++ bs }, Follows.set binds.0 e treated pairs.1 binds.1)

-- Limits.
within-or-not : (t : Term) → IsWithin t ⊎ ¬ IsWithin t
within-or-not t = by_cases (cases_lt max_size (term_size t)) (cases_lt max_depth (term_depth t))
  where
    by_cases : (max_size < term_size t) ⊎ (term_size t ≤ max_size) → (max_depth < term_depth t) ⊎ (term_depth t ≤ max_depth) → IsWithin t ⊎ ¬ IsWithin t
    by_cases (inr a) (inr b) = inl (record { size = a; depth = b })
    by_cases (inl a) b = inr (λ w. (let c = w.size in absurd (omega arith)))
    by_cases (inr a) (inl b) = inr (λ w. (let c = w.depth in absurd (omega arith)))

both-or-not : {P Q : Type 0} → P ⊎ ¬ P → Q ⊎ ¬ Q → (P × Q) ⊎ ¬ (P × Q)
both-or-not (inl p) (inl q) = inl (p, q)
both-or-not (inr n) q = inr (λ k. n k.0)
both-or-not (inl p) (inr n) = inr (λ k. n k.1)

state-or-not : (s : State) → IsWithinState s ⊎ ¬ IsWithinState s
state-or-not s =
    by_cases (each_decided (λ (p : Pair). IsWithin p.left × IsWithin p.right) (λ p. both-or-not (within-or-not p.left) (within-or-not p.right)) s.pairs) (each_decided (λ (b : TermBind). IsWithin b.image) (λ b. within-or-not b.image) s.binds)
  where
    by_cases : Each (λ p. IsWithin p.left × IsWithin p.right) s.pairs ⊎ ¬ Each (λ p. IsWithin p.left × IsWithin p.right) s.pairs → Each (λ b. IsWithin b.image) s.binds ⊎ ¬ Each (λ b. IsWithin b.image) s.binds → IsWithinState s ⊎ ¬ IsWithinState s
    by_cases (inl a) (inl b) = inl (record { sides = a; images = b })
    by_cases (inr n) b = inr (λ w. n w.sides)
    by_cases (inl a) (inr n) = inr (λ w. n w.images)

list-cases : (ps : List Pair) → (ps ≡ []) ⊎ ((p : Pair) × (rest : List Pair) × (ps ≡ p ∷ rest))
list-cases [] = inl refl
list-cases (p ∷ ps) = inr (p, ps, refl)

-- So many steps may still be done.
run-some : (maxidx fuel n : ℕ) (s : State) → n + fuel ≡ max_steps → IsPatternState s → (A : Outcome) × Runs maxidx n s A
run-some maxidx zero n s e h = by_cases (state-or-not s) (list-cases s.pairs)
  where
    by_cases : IsWithinState s ⊎ ¬ IsWithinState s → (s.pairs ≡ []) ⊎ ((p : Pair) × (rest : List Pair) × (s.pairs ≡ p ∷ rest)) → (A : Outcome) × Runs maxidx n s A
    by_cases (inr out) k = (_, Runs.big out)
    by_cases (inl within) (inl empty) = (_, Runs.over within empty)
    by_cases (inl within) (inr some) = (_, Runs.out_of_steps within some.2 (omega arith))
run-some maxidx (suc fuel) n s e h = by_cases (state-or-not s) (list-cases s.pairs) (λ m follows. run-some maxidx fuel (n + 1) m (omega arith) (steps_keep_patterns (maxidx + (n + 1)) s m h follows))
  where
    by_cases : IsWithinState s ⊎ ¬ IsWithinState s → (s.pairs ≡ []) ⊎ ((p : Pair) × (rest : List Pair) × (s.pairs ≡ p ∷ rest)) → ((m : State) → Follows (maxidx + (n + 1)) s m → (A : Outcome) × Runs maxidx (n + 1) m A) → (A : Outcome) × Runs maxidx n s A
    by_cases (inr out) k rest = (_, Runs.big out)
    by_cases (inl within) (inl empty) rest = (_, Runs.over within empty)
    by_cases (inl within) (inr some) rest = elim (step-some (maxidx + (n + 1)) s some.0 some.1 h some.2) [
      | inl m ↦ (let more = rest m.0 m.1 in (more.0, Runs.next within (omega arith) m.1 more.1))
      | inr stops ↦ (_, Runs.never within (omega arith) stops)
    ]

-- Refusals are decided.
abbrev HasVariable : Typ → Type 0
HasVariable T = (x i : ℕ) × (s : List ℕ) × OccursInTyp (TVar x i s) T

mutual
  typ-or-not : (T : Typ) → HasVariable T ⊎ ((x i : ℕ) (s : List ℕ) → ¬ OccursInTyp (TVar x i s) T)
  typ-or-not (TFree y r) = inr (λ x i s e. absurd (cc))
  typ-or-not (TVar y j r) = inl (y, j, r, refl)
  typ-or-not (Con k ts) = elim (typs-or-not ts) [
    | inl m ↦ inl (m.0, m.1, m.2, inr m.3)
    | inr n ↦ inr (λ x i s o. elim o [ inl e ↦ absurd (cc) | inr m ↦ n x i s m ])
  ]

  typs-or-not : (ts : Typs) → ((x i : ℕ) × (s : List ℕ) × OccursInTyps (TVar x i s) ts) ⊎ ((x i : ℕ) (s : List ℕ) → ¬ OccursInTyps (TVar x i s) ts)
  typs-or-not none = inr (λ x i s o. o)
  typs-or-not (also t ts) = elim (typ-or-not t) [
    | inl m ↦ inl (m.0, m.1, m.2, inl m.3)
    | inr n ↦ elim (typs-or-not ts) [ inl m ↦ inl (m.0, m.1, m.2, inr m.3) | inr k ↦ inr (λ x i s o. elim o [ inl e ↦ n x i s e | inr m ↦ k x i s m ]) ]
  ]

abbrev HasTypVariable : Term → Type 0
HasTypVariable t = (x i : ℕ) × (s : List ℕ) × TypOccurs (TVar x i s) t

term-or-not : (t : Term) → HasTypVariable t ⊎ ((x i : ℕ) (s : List ℕ) → ¬ TypOccurs (TVar x i s) t)
term-or-not (Const c T) = typ-or-not T
term-or-not (Free x T) = typ-or-not T
term-or-not (Var x i T) = typ-or-not T
term-or-not (Bound p) = inr (λ x i s o. o)
term-or-not (Abs T b) = elim (typ-or-not T) [
  | inl m ↦ inl (m.0, m.1, m.2, inl m.3)
  | inr n ↦ elim (term-or-not b) [ inl m ↦ inl (m.0, m.1, m.2, inr m.3) | inr k ↦ inr (λ x i s o. elim o [ inl e ↦ n x i s e | inr m ↦ k x i s m ]) ]
]
term-or-not (App f a) = elim (term-or-not f) [
  | inl m ↦ inl (m.0, m.1, m.2, inl m.3)
  | inr n ↦ elim (term-or-not a) [ inl m ↦ inl (m.0, m.1, m.2, inr m.3) | inr k ↦ inr (λ x i s o. elim o [ inl e ↦ n x i s e | inr m ↦ k x i s m ]) ]
]

schematic-or-not : (p : Pair) → HasSchematicTyp p ⊎ ¬ HasSchematicTyp p
schematic-or-not p = elim (term-or-not p.left) [
  | inl m ↦ inl (m.0, m.1, m.2, inl m.3)
  | inr n ↦ elim (term-or-not p.right) [ inl m ↦ inl (m.0, m.1, m.2, inr m.3) | inr k ↦ inr (λ o. elim o.3 [ inl e ↦ n o.0 o.1 o.2 e | inr m ↦ k o.0 o.1 o.2 m ]) ]
]

bound-or-not : (t : Term) → ((z : ℕ) × (t ≡ Bound z)) ⊎ ((z : ℕ) → ¬ (t ≡ Bound z))
bound-or-not (Bound z) = inl (z, refl)
bound-or-not (Const c T) = inr (λ z e. absurd (cc))
bound-or-not (Free x T) = inr (λ z e. absurd (cc))
bound-or-not (Var x i T) = inr (λ z e. absurd (cc))
bound-or-not (Abs T b) = inr (λ z e. absurd (cc))
bound-or-not (App f a) = inr (λ z e. absurd (cc))

place-or-not : (t : Term) → ((z : ℕ) × IsPlace t z) ⊎ ((z : ℕ) → ¬ IsPlace t z)
place-or-not t =
    let n = each_term_has_eta_normal_form t in
    elim (bound-or-not n.0) [
      | inl k ↦ inl (k.0, subst (EtaReduces t) k.1 n.1.reduces)
      | inr k ↦ inr (λ z h. k z (one_eta_normal_form t n.0 (Bound z) n.1 (record { reduces = h; normal = bound-normal z })))
    ]

places-or-not : (ts : List Term) → ((zs : List ℕ) × EachTwo IsPlace ts zs) ⊎ ((zs : List ℕ) → ¬ EachTwo IsPlace ts zs)
places-or-not [] = inl ([], tt)
places-or-not (t ∷ ts) = by_cases (place-or-not t) (places-or-not ts)
  where
    by_cases : ((z : ℕ) × IsPlace t z) ⊎ ((z : ℕ) → ¬ IsPlace t z) → ((zs : List ℕ) × EachTwo IsPlace ts zs) ⊎ ((zs : List ℕ) → ¬ EachTwo IsPlace ts zs) → ((zs : List ℕ) × EachTwo IsPlace (t ∷ ts) zs) ⊎ ((zs : List ℕ) → ¬ EachTwo IsPlace (t ∷ ts) zs)
    by_cases (inl z) (inl zs) = inl (z.0 ∷ zs.0, (z.1, zs.1))
    by_cases (inr n) k = inr none_first
      where
        none_first : (zs : List ℕ) → ¬ EachTwo IsPlace (t ∷ ts) zs
        none_first [] h = h
        none_first (z ∷ zs) h = n z h.0
    by_cases (inl z) (inr n) = inr none_later
      where
        none_later : (zs : List ℕ) → ¬ EachTwo IsPlace (t ∷ ts) zs
        none_later [] h = h
        none_later (w ∷ zs) h = n zs h.1

distinct-or-not : (zs : List ℕ) → AreDistinct zs ⊎ ¬ AreDistinct zs
distinct-or-not [] = inl tt
distinct-or-not (z ∷ zs) = by_cases (in_or_not z zs) (distinct-or-not zs)
  where
    by_cases : IsIn z zs ⊎ ¬ IsIn z zs → AreDistinct zs ⊎ ¬ AreDistinct zs → AreDistinct (z ∷ zs) ⊎ ¬ AreDistinct (z ∷ zs)
    by_cases (inl m) k = inr (λ d. d.0 m)
    by_cases (inr n) (inl d) = inl (n, d)
    by_cases (inr n) (inr k) = inr (λ d. k d.1)

has-places-or-not : (t : Term) → ((zs : List ℕ) × HasPlaces t zs) ⊎ ¬ ((zs : List ℕ) × HasPlaces t zs)
has-places-or-not t = elim (places-or-not (arguments t)) [
  | inl k ↦ elim (distinct-or-not k.0) [
    | inl d ↦ inl (k.0, record { are = k.1; distinct = d })
    | inr n ↦ inr (λ h. n (subst AreDistinct (places-once (arguments t) h.0 k.0 h.1.are k.1) h.1.distinct))
  ]
  | inr n ↦ inr (λ h. n h.0 h.1.are)
]

pattern-or-not : (t : Term) → IsPattern t ⊎ ¬ IsPattern t
pattern-or-not (Const c T) = inl tt
pattern-or-not (Free x T) = inl tt
pattern-or-not (Var x i T) = inl tt
pattern-or-not (Bound p) = inl tt
pattern-or-not (Abs T b) = pattern-or-not b
pattern-or-not (App f a) = by_cases (bool-cases (is_schematic (front f))) (has-places-or-not (App f a)) (both-or-not (pattern-or-not f) (pattern-or-not a))
  where
    by_cases : (is_schematic (front f) ≡ true) ⊎ (is_schematic (front f) ≡ false) → ((zs : List ℕ) × HasPlaces (App f a) zs) ⊎ ¬ ((zs : List ℕ) × HasPlaces (App f a) zs) → (IsPattern f × IsPattern a) ⊎ ¬ (IsPattern f × IsPattern a) → IsPattern (App f a) ⊎ ¬ IsPattern (App f a)
    by_cases (inl e) (inl k) m = inl (λ o. k, λ o. absurd (cc))
    by_cases (inl e) (inr n) m = inr (λ p. n (p.0 e))
    by_cases (inr e) k (inl m) = inl (λ o. absurd (cc), λ o. m)
    by_cases (inr e) k (inr n) = inr (λ p. n (p.1 e))

-- The first of a list, or none.
first-or-none : (P : Pair → Type 0) → ((p : Pair) → P p ⊎ ¬ P p) → (ps : List Pair) → ((i : ℕ) × IsFirstWith P ps i) ⊎ Each (λ p. ¬ P p) ps
first-or-none P decide [] = inr tt
first-or-none P decide (p ∷ ps) = by_cases (decide p) (first-or-none P decide ps)
  where
    by_cases : P p ⊎ ¬ P p → ((i : ℕ) × IsFirstWith P ps i) ⊎ Each (λ q. ¬ P q) ps → ((i : ℕ) × IsFirstWith P (p ∷ ps) i) ⊎ Each (λ q. ¬ P q) (p ∷ ps)
    by_cases (inl h) k = inl (cut_off 0, record { front = []; element = p; rest = ps; is = refl; lacking = tt; has = h; place = refl })
    by_cases (inr n) (inl k) = inl (cut_off (length (p ∷ k.1.front)), record { front = p ∷ k.1.front; element = k.1.element; rest = k.1.rest; is = ap (λ qs. p ∷ qs) k.1.is; lacking = (n, k.1.lacking); has = k.1.has; place = refl })
    by_cases (inr n) (inr k) = inr (n, k)

not-pattern-or-not : (p : Pair) → (¬ IsPatternPair p) ⊎ ¬ (¬ IsPatternPair p)
not-pattern-or-not p = elim (both-or-not (pattern-or-not p.left) (pattern-or-not p.right)) [
  | inl k ↦ inr (λ n. n k)
  | inr n ↦ inl n
]

all-patterns : (ps : List Pair) → Each (λ p. ¬ (¬ IsPatternPair p)) ps → Each IsPatternPair ps
all-patterns [] h = tt
all-patterns (p ∷ ps) h = (elim (both-or-not (pattern-or-not p.left) (pattern-or-not p.right)) [ inl k ↦ k | inr n ↦ absurd (h.0 n) ], all-patterns ps h.1)

pub some_answer : SomeAnswer
some_answer maxidx ps h = elim (first-or-none HasSchematicTyp schematic-or-not ps) [
  | inl k ↦ (SchematicType k.0, IsPatternAnswer.schematic_type k.1)
  | inr lacking ↦ elim (first-or-none (λ p. ¬ IsPatternPair p) not-pattern-or-not ps) [
    | inl k ↦ (NotPattern k.0, IsPatternAnswer.no_pattern lacking k.1)
    | inr all ↦ (let patterns = all-patterns ps all in let run = run-some maxidx max_steps 0 (start ps) (omega arith) (start-ready maxidx ps h patterns) in (answer_of ps run.0, IsPatternAnswer.decided lacking patterns run.1 refl))
  ]
]
