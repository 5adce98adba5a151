-- The indexes of the variables in states.
use Rattle.std.proofs.Common.{◌≡◌, ℕ, zero, suc, ◌+◌, ◌≤◌, inl, inr, List, [], ◌∷◌, length, refl, sym, subst, arith, map, reverse}
use Rattle.pure_text.specs.Lists.{Each, EachTwo}
use Rattle.pure_text.proofs.ListLaws.{each_at, each-append}
use Rattle.pure_definitions.specs.Types.Typ.{Typ}
use Rattle.pure_definitions.specs.Terms.Term.{Term, Const, Free, Var, Bound, Abs, App}
use Rattle.pure_definitions.specs.Terms.Subst.{TermBind, term_variable, term_image, inst_term}
use Rattle.pure_definitions.specs.Reduction.Eta.{IsLongForm}
use Rattle.pure_logic.specs.Derivable.{Pair}
use Rattle.pure_reduction.proofs.LongLaws.{one_long_form_of_term}
use Rattle.pure_unify_definitions.specs.Fronts.{abstractions, term_body, front, arguments, is_schematic, below, domains, range, function_typ, applied, bounds, pairs_below}
use Rattle.pure_unify_definitions.specs.Children.{new_arguments, image_of}
use Rattle.pure_unify_answers.proofs.PartLaws.{HasParts, long-parts}
use Rattle.pure_unify_final.specs.Laws.{HasVariablesUpTo, AreVariablesUpTo}
use Rattle.pure_unify_final.proofs.SideLaws.{IsRigidHead}
use Rattle.pure_unify_final.proofs.RuleLaws.{AnyTyp, IsUpTo, any-parts}
use Rattle.pure_pattern_laws.specs.Patterns.{IsPattern, IsPatternPair}
use Rattle.pure_pattern_laws.specs.Places.{agreeing, shared_left, shared_right}
use Rattle.pure_pattern_laws.specs.Treatment.{selection, own_bounds, agreeing_image, left_image, right_image, AreMixed, on_left, on_right, Becomes, Sets, IsTreated}
use Rattle.pure_pattern_laws.specs.Steps.{State, start, IsPut, IsPairPut, IsBindPut, Follows}
use Rattle.pure_pattern_laws.specs.Putting.{place_of, put_application, put_in}
use Rattle.pure_pattern_laws.specs.Answers.{AreLongOfOneTyp}
use Rattle.pure_pattern_laws.specs.Laws.{IsPatternBind, IsPatternState}
use Rattle.pure_pattern_laws.proofs.PlacedLaws.{raised, renaming}
use Rattle.pure_pattern_laws.proofs.RenameLaws.{renamed-renaming}
use Rattle.pure_pattern_laws.proofs.PutLaws.{schematic-is, chosen, put_in_is_long_form, bound_terms}
use Rattle.pure_pattern_laws.proofs.KeepLaws.{image-of, binds-long_map, written-rigid, settings_are_patterns}
use Rattle.pure_pattern_laws.proofs.SelectLaws.{bounds-are, as-bounds}
use Rattle.pure_pattern_laws.proofs.ListLaws.{numbers, agreeing-two, shared_left-two, shared_right-two}

-- The indexes of the schematic variables in the term are at most n.
abbrev pub IsLow : ℕ → Term → Type 0
IsLow n t = HasParts AnyTyp (IsUpTo n) t

pub low-of : (n m : ℕ) → n ≤ m → (t : Term) → HasVariablesUpTo n t → IsLow m t
low-of n m le (Const c T) h = tt
low-of n m le (Free x T) h = tt
low-of n m le (Var x i T) h = let low = h x i T refl in (tt, omega arith)
low-of n m le (Bound p) h = tt
low-of n m le (Abs T b) h = (tt, low-of n m le b (λ x i U o. h x i U (inr o)))
low-of n m le (App f a) h = (low-of n m le f (λ x i U o. h x i U (inr (inl o))), low-of n m le a (λ x i U o. h x i U (inr (inr o))))

pub low-more : (n m : ℕ) → n ≤ m → (t : Term) → IsLow n t → IsLow m t
low-more n m le (Const c T) h = tt
low-more n m le (Free x T) h = tt
low-more n m le (Var x i T) h = let low = h.1 in (tt, omega arith)
low-more n m le (Bound p) h = tt
low-more n m le (Abs T b) h = (tt, low-more n m le b h.1)
low-more n m le (App f a) h = (low-more n m le f h.0, low-more n m le a h.1)

low-renaming : (n : ℕ) (r : ℕ → ℕ) (t : Term) → IsLow n t → IsLow n (renaming r t)
low-renaming n r (Const c T) h = h
low-renaming n r (Free x T) h = h
low-renaming n r (Var x i T) h = h
low-renaming n r (Bound p) h = h
low-renaming n r (Abs T b) h = (tt, low-renaming n (raised r) b h.1)
low-renaming n r (App f a) h = (low-renaming n r f h.0, low-renaming n r a h.1)

low-body : (n : ℕ) (t : Term) → IsLow n t → IsLow n (term_body t)
low-body n (Const c T) h = h
low-body n (Free x T) h = h
low-body n (Var x i T) h = h
low-body n (Bound p) h = h
low-body n (Abs T b) h = low-body n b h.1
low-body n (App f a) h = h

pub low-front : (n : ℕ) (t : Term) → IsLow n t → IsLow n (front t)
low-front n (Const c T) h = h
low-front n (Free x T) h = h
low-front n (Var x i T) h = h
low-front n (Bound p) h = h
low-front n (Abs T b) h = h
low-front n (App f a) h = low-front n f h.0

pub low-head : (n : ℕ) (t : Term) → IsLow n t → IsLow n (front (term_body t))
low-head n t h = low-front n (term_body t) (low-body n t h)

low-arguments : (n : ℕ) (t : Term) → IsLow n t → Each (IsLow n) (arguments t)
low-arguments n (Const c T) h = tt
low-arguments n (Free x T) h = tt
low-arguments n (Var x i T) h = tt
low-arguments n (Bound p) h = tt
low-arguments n (Abs T b) h = tt
low-arguments n (App f a) h = each-append (IsLow n) (arguments f) (a ∷ []) (low-arguments n f h.0) (h.1, tt)

low-below : (n : ℕ) (Ts : List Typ) (t : Term) → IsLow n t → IsLow n (below Ts t)
low-below n [] t h = h
low-below n (T ∷ Ts) t h = (tt, low-below n Ts t h)

low-applied : (n : ℕ) (f : Term) (ts : List Term) → IsLow n f → Each (IsLow n) ts → IsLow n (applied f ts)
low-applied n f [] h k = h
low-applied n f (t ∷ ts) h k = low-applied n (App f t) ts (h, k.0) k.1

low-bounds : (n : ℕ) (zs : List ℕ) → Each (IsLow n) (bound_terms zs)
low-bounds n [] = tt
low-bounds n (z ∷ zs) = (tt, low-bounds n zs)

low-own : (n count : ℕ) → Each (IsLow n) (bounds count)
low-own n zero = tt
low-own n (suc count) = (tt, low-own n count)

low-application : (n : ℕ) (u t : Term) → IsLow n u → IsLow n t → IsLow n (put_application u t)
low-application n (Const c T) t h k = k
low-application n (Free x T) t h k = k
low-application n (Var x i T) t h k = k
low-application n (Bound p) t h k = k
low-application n (Abs T b) t h k = subst (IsLow n) (sym (renamed-renaming (reverse (map place_of (arguments t))) (term_body b))) (low-renaming n _ (term_body b) (low-body n b h.1))
low-application n (App f a) t h k = k

-- What is put into a term: images up to a greater index.
low-put : (terms : Term → Term) (n m : ℕ) → n ≤ m → ((x i : ℕ) (T : Typ) → i ≤ n → IsLow m (terms (Var x i T))) → (t : Term) → IsLow n t → IsLow m (put_in terms t)
low-put terms n m le images (Const c T) h = tt
low-put terms n m le images (Free x T) h = tt
low-put terms n m le images (Var x i T) h = images x i T h.1
low-put terms n m le images (Bound p) h = tt
low-put terms n m le images (Abs T b) h = (tt, low-put terms n m le images b h.1)
low-put terms n m le images (App f a) h =
    chosen (IsLow m) (is_schematic (front f)) (put_application (terms (front f)) (App f a)) (App (put_in terms f) (put_in terms a))
    (λ e. (let v = schematic-is (front f) e in
    let index = subst (IsLow n) v.3 (low-front n f h.0) in
    let image = subst (λ u. IsLow m (terms u)) (sym v.3) (images v.0 v.1 v.2 index.1) in
    low-application m (terms (front f)) (App f a) image (low-more n m le (App f a) h)))
    (λ e. (low-put terms n m le images f h.0, low-put terms n m le images a h.1))

-- The new images.
low-selection : (index : ℕ) (T : Typ) (Us : List Typ) (us : List Term) (ks : List ℕ) → us ≡ bound_terms ks → IsLow index (selection index T Us us)
low-selection index T Us us ks e = low-below index (domains T) (applied (Var 0 index (function_typ Us (range T))) us) (low-applied index (Var 0 index (function_typ Us (range T))) us (tt, omega arith) (subst (Each (IsLow index)) (sym e) (low-bounds index ks)))

pub agreeing-bounds : (T : Typ) (zs ws : List ℕ) → agreeing zs ws (own_bounds T) ≡ bound_terms (agreeing zs ws (numbers (length (domains T))))
agreeing-bounds T zs ws = let n = length (domains T) in as-bounds (agreeing zs ws (bounds n)) (agreeing zs ws (numbers n)) (agreeing-two (λ u k. u ≡ Bound k) zs ws (bounds n) (numbers n) (bounds-are n))

pub left-bounds : (T : Typ) (zs ws : List ℕ) → shared_left zs ws (own_bounds T) ≡ bound_terms (shared_left zs ws (numbers (length (domains T))))
left-bounds T zs ws = let n = length (domains T) in as-bounds (shared_left zs ws (bounds n)) (shared_left zs ws (numbers n)) (shared_left-two (λ u k. u ≡ Bound k) zs ws (bounds n) (numbers n) (bounds-are n))

pub right-bounds : (T : Typ) (zs ws : List ℕ) → shared_right zs ws (own_bounds T) ≡ bound_terms (shared_right zs ws (numbers (length (domains T))))
right-bounds T zs ws = let n = length (domains T) in as-bounds (shared_right zs ws (bounds n)) (shared_right zs ws (numbers n)) (shared_right-two (λ u k. u ≡ Bound k) zs ws (bounds n) (numbers n) (bounds-are n))

low-new : (index : ℕ) (Ts : List Typ) (name : ℕ) (Us : List Typ) → Each (IsLow index) (new_arguments index Ts name Us)
low-new index Ts name [] = tt
low-new index Ts name (U ∷ Us) = (low-applied index (Var name index (function_typ Ts U)) (bounds (length Ts)) (tt, omega arith) (low-own index (length Ts)), low-new index Ts (name + 1) Us)

low-long : (n : ℕ) (t u : Term) → IsLongForm t u → IsLow n t → IsLow n u
low-long n t u h k = long-parts AnyTyp (IsUpTo n) any-parts t u h k

-- an entry's variable and its image
abbrev pub IsLowBind : ℕ → TermBind → Type 0
IsLowBind n b = IsUpTo n (term_variable b) × IsLow n b.image

low-rigid : (n : ℕ) (h : Term) → IsRigidHead h → IsLow n h
low-rigid n (Const c T) k = tt
low-rigid n (Free x T) k = tt
low-rigid n (Bound p) k = tt
low-rigid n (Var x i T) k = absurd k
low-rigid n (Abs T b) k = absurd k
low-rigid n (App f a) k = absurd k

low-variable : (n m : ℕ) → n ≤ m → (t : Term) (x i : ℕ) (T : Typ) → IsLow n t → front (term_body t) ≡ Var x i T → i ≤ m
low-variable n m le t x i T h e = let low = subst (IsLow n) e (low-head n t h) in let bound = low.1 in omega arith

pub mixed-low : (n : ℕ) (l r f k : Term) → AreMixed l r f k → IsLow n l → IsLow n r → IsLow n f
mixed-low n l r f k (on_left a b e g) h m = subst (IsLow n) (sym e) h
mixed-low n l r f k (on_right a b e g) h m = subst (IsLow n) (sym e) m

settings-low : (index n : ℕ) → n ≤ index → (l r : Term) (bs : List TermBind) → IsTreated index l r (Sets bs) → IsLow n l → IsLow n r → Each (IsLowBind index) bs
settings-low index n le l r bs (IsTreated.one_variable {x = x} {i = i} {T = T} {zs = zs} {ws = ws} {u = u} apart a b long) h k =
    ((low-variable n index le l x i T h a.variable, low-long index (agreeing_image index T zs ws) u long (low-selection index T (agreeing zs ws (domains T)) (agreeing zs ws (own_bounds T)) (agreeing zs ws (numbers (length (domains T)))) (agreeing-bounds T zs ws))), tt)
settings-low index n le l r bs (IsTreated.two_variables {x = x} {i = i} {y = y} {j = j} {T = T} {U = U} {zs = zs} {ws = ws} {u = u} {w = w} a b apart long other) h k = (
  (low-variable n index le l x i T h a.variable, low-long index (left_image index T zs ws) u long (low-selection index T (shared_left zs ws (domains T)) (shared_left zs ws (own_bounds T)) (shared_left zs ws (numbers (length (domains T)))) (left-bounds T zs ws))),
  (
    (low-variable n index le r y j U k b.variable, low-long index (right_image index U zs ws) w other (low-selection index U (shared_right zs ws (domains U)) (shared_right zs ws (own_bounds U)) (shared_right zs ws (numbers (length (domains U)))) (right-bounds U zs ws))),
    tt,
  ),
)
settings-low index n le l r bs (IsTreated.imitates {f = f} {k = g} {h = head} {u = u} {x = x} {i = i} {T = T} {U = U} {zs = zs} mixed a absent written long) h k =
    let rigid = written-rigid T zs _ head U written in
    let plain = low-below index (domains T) (applied head (new_arguments index (domains T) 0 (domains U))) (low-applied index head (new_arguments index (domains T) 0 (domains U)) (low-rigid index head rigid) (low-new index (domains T) 0 (domains U))) in
    ((low-variable n index le f x i T (mixed-low n l r f g mixed h k) a.variable, low-long index (image_of index (domains T) head (domains U)) u long plain), tt)

-- The variables of the pairs and of the settings have indexes of at most n.
pub record IsLowState (n : ℕ) (s : State) : Type 0 where
  pub pairs : Each (λ p. IsLow n p.left × IsLow n p.right) s.pairs
  pub binds : Each (IsLowBind n) s.binds

low-pairs : (n m : ℕ) → n ≤ m → (ps : List Pair) → Each (λ p. IsLow n p.left × IsLow n p.right) ps → Each (λ p. IsLow m p.left × IsLow m p.right) ps
low-pairs n m le [] h = tt
low-pairs n m le (p ∷ ps) h = ((low-more n m le p.left h.0.0, low-more n m le p.right h.0.1), low-pairs n m le ps h.1)

up-more : (n m : ℕ) → n ≤ m → (v : Term) → IsUpTo n v → IsUpTo m v
up-more n m le (Var x i T) h = omega arith
up-more n m le (Const c T) h = tt
up-more n m le (Free x T) h = tt
up-more n m le (Bound p) h = tt
up-more n m le (Abs T b) h = tt
up-more n m le (App f a) h = tt

low-binds : (n m : ℕ) → n ≤ m → (bs : List TermBind) → Each (IsLowBind n) bs → Each (IsLowBind m) bs
low-binds n m le [] h = tt
low-binds n m le (b ∷ bs) h = ((up-more n m le (term_variable b) h.0.0, low-more n m le b.image h.0.1), low-binds n m le bs h.1)

below-pairs : (n : ℕ) (Ts Us : List Typ) (ts us : List Term) → Each (IsLow n) ts → Each (IsLow n) us → Each (λ p. IsLow n p.left × IsLow n p.right) (pairs_below Ts Us ts us)
below-pairs n Ts Us [] us h k = tt
below-pairs n Ts Us (t ∷ ts) [] h k = tt
below-pairs n Ts Us (t ∷ ts) (u ∷ us) h k = ((low-below n Ts t h.0, low-below n Us u k.0), below-pairs n Ts Us ts us h.1 k.1)

becomes-low : (index n : ℕ) (l r : Term) (qs : List Pair) → IsTreated index l r (Becomes qs) → IsLow n l → IsLow n r → Each (λ p. IsLow n p.left × IsLow n p.right) qs
becomes-low index n l r qs (IsTreated.equal e) h k = tt
becomes-low index n l r qs (IsTreated.same_heads apart e f same) h k = below-pairs n (abstractions l) (abstractions r) (arguments (term_body l)) (arguments (term_body r)) (low-arguments n (term_body l) (low-body n l h)) (low-arguments n (term_body r) (low-body n r k))

module _ (index n : ℕ) (le : n ≤ index) (bs : List TermBind) (ready : Each IsPatternBind bs) (low : Each (IsLowBind index) bs) where
  images-low : (x i : ℕ) (T : Typ) → i ≤ n → IsLow index (term_image bs (Var x i T))
  images-low x i T small = elim (image-of bs x i T) [
    | inl e ↦ subst (IsLow index) (sym e) (tt, omega arith)
    | inr k ↦ subst (IsLow index) (sym k.3) (each_at (IsLowBind index) bs low k.0 k.1).1
  ]

  put-low : (t u : Term) → IsLongForm t t → IsPattern t → IsPut bs t u → IsLow n t → IsLow index u
  put-low t u h p k small =
      let renamed = put_in_is_long_form (term_image bs) (binds-long_map bs ready) t h p in
      let same = one_long_form_of_term (inst_term (term_image bs) t) (put_in (term_image bs) t) u renamed k in
      subst (IsLow index) same (low-put (term_image bs) n index le images-low t small)

  put-pairs-low : (ps qs : List Pair) → Each AreLongOfOneTyp ps → Each IsPatternPair ps → EachTwo (IsPairPut bs) ps qs → Each (λ p. IsLow n p.left × IsLow n p.right) ps → Each (λ p. IsLow index p.left × IsLow index p.right) qs
  put-pairs-low [] [] h p k small = tt
  put-pairs-low [] (q ∷ qs) h p k small = absurd k
  put-pairs-low (p ∷ ps) [] h o k small = absurd k
  put-pairs-low (p ∷ ps) (q ∷ qs) h o k small =
      ((put-low p.left q.left h.0.left o.0.0 k.0.0 small.0.0, put-low p.right q.right h.0.right o.0.1 k.0.1 small.0.1), put-pairs-low ps qs h.1 o.1 k.1 small.1)

  put-binds-low : (cs ds : List TermBind) → Each IsPatternBind cs → EachTwo (IsBindPut bs) cs ds → Each (IsLowBind n) cs → Each (IsLowBind index) ds
  put-binds-low [] [] h k small = tt
  put-binds-low [] (d ∷ ds) h k small = absurd k
  put-binds-low (c ∷ cs) [] h k small = absurd k
  put-binds-low (c ∷ cs) (d ∷ ds) h k small =
      ((subst (IsUpTo index) k.0.0 (up-more n index le (term_variable c) small.0.0), put-low c.image d.image h.0.long h.0.pattern k.0.1 small.0.1), put-binds-low cs ds h.1 k.1 small.1)

pub step-low : (index n : ℕ) → n ≤ index → (s m : State) → IsPatternState s → Follows index s m → IsLowState n s → IsLowState index m
step-low index n le s m h (Follows.replaced {p = p} {ps = ps} {qs = qs} e treated) k =
    let low = subst (Each (λ p. IsLow n p.left × IsLow n p.right)) e k.pairs in
    record {
      pairs = each-append (λ p. IsLow index p.left × IsLow index p.right) qs ps (low-pairs n index le qs (becomes-low index n p.left p.right qs treated low.0.0 low.0.1)) (low-pairs n index le ps low.1);
      binds = low-binds n index le s.binds k.binds;
    }
step-low index n le s m h (Follows.set {p = p} {ps = ps} {qs = qs} {bs = bs} cs e treated pairs binds) k =
    let long = subst (Each AreLongOfOneTyp) e h.long in
    let patterns = subst (Each IsPatternPair) e h.patterns in
    let low = subst (Each (λ p. IsLow n p.left × IsLow n p.right)) e k.pairs in
    let ready = settings_are_patterns index p long.0 patterns.0 bs treated in
    let new = settings-low index n le p.left p.right bs treated low.0.0 low.0.1 in
    record {
      pairs = put-pairs-low index n le bs ready new s.pairs qs h.long h.patterns pairs k.pairs;
      binds = each-append (IsLowBind index) cs bs (put-binds-low index n le bs ready new s.binds cs h.binds binds k.binds) new;
    }

pub start-low : (n : ℕ) (ps : List Pair) → Each (AreVariablesUpTo n) ps → IsLowState n (start ps)
start-low n ps h = record { pairs = each ps h; binds = tt }
  where
    each : (qs : List Pair) → Each (AreVariablesUpTo n) qs → Each (λ p. IsLow n p.left × IsLow n p.right) qs
    each [] k = tt
    each (q ∷ qs) k = ((low-of n n (omega arith) q.left k.0.0, low-of n n (omega arith) q.right k.0.1), each qs k.1)
