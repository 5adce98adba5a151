-- States in which each new variable that was set has an image that is bounded by that of a variable of the given indexes.
use Rattle.std.proofs.Common.{◌≡◌, ◌≢◌, ◌⊎◌, ◌∙◌, ℕ, ◌+◌, ◌<◌, ◌≤◌, inl, inr, List, [], ◌∷◌, ◌++◌, map, Bool, true, false, ap, refl, sym, subst, arith}
use Rattle.std.proofs.lemmas.Bool.{cases_lt}
use Rattle.std.specs.Prelude.{if◌then◌else◌}
use Rattle.pure_text.specs.Lists.{IsIn, Each, AnyOf}
use Rattle.pure_text.proofs.ListLaws.{each_at, each_of, in-append_left, in-append_right, in-map, in_split, any_split, any-append_left, any-append_right, any-map, any_some, any_of}
use Rattle.pure_definitions.specs.Types.Typ.{Typ, typ_depth}
use Rattle.pure_definitions.specs.Terms.Term.{Term, Const, Free, Var, Bound, Abs, App, IsWithin, term_eq, term_depth, max_depth}
use Rattle.pure_definitions.specs.Terms.Bounds.{Occurs}
use Rattle.pure_definitions.specs.Terms.Typing.{HasType}
use Rattle.pure_definitions.specs.Terms.Subst.{TermBind, term_variable, term_image}
use Rattle.pure_definitions.specs.Models.Equality.{term_eq-same, term_eq-itself}
use Rattle.pure_term_laws.proofs.SubstLaws.{typ_instance-identity}
use Rattle.pure_logic.specs.Derivable.{Pair}
use Rattle.pure_unify_definitions.specs.Fronts.{abstractions, term_body, front, arguments, is_schematic, below, pairs_below, argument_pairs}
use Rattle.pure_unify_definitions.specs.Node.{bind}
use Rattle.pure_unify_final.specs.Laws.{AreVariablesUpTo}
use Rattle.pure_unify_final.proofs.SideLaws.{long_form-long}
use Rattle.pure_pattern_laws.specs.Patterns.{IsPattern, IsPatternPair}
use Rattle.pure_pattern_laws.specs.Treatment.{Becomes, Sets, IsTreated}
use Rattle.pure_pattern_laws.specs.Steps.{State, start, IsWithinState}
use Rattle.pure_pattern_laws.specs.Putting.{put_application, put_in}
use Rattle.pure_pattern_laws.specs.Answers.{AreLongOfOneTyp}
use Rattle.pure_pattern_laws.specs.Laws.{IsPatternBind, IsPatternState}
use Rattle.pure_pattern_laws.proofs.PutLaws.{schematic-is}
use Rattle.pure_pattern_laws.proofs.KeepLaws.{image-of, binds-long_map, binds-patterns, settings_are_patterns}
use Rattle.pure_pattern_laws.proofs.FreeLaws.{from-image, of-below, of-body, side-occurs, mixed-occurs}
use Rattle.pure_pattern_bounds.specs.Put.{pair_put, bind_put, state_put}
use Rattle.pure_pattern_bounds.specs.Covered.{IsBounded, IsPatternMap, OccursIn, IsBelow, IsHeldBelow, IsHeldIn, IsCovered}
use Rattle.pure_pattern_bounds.specs.Laws.{StartIsCovered, ReplacedIsCovered, SetIsCovered, CoveredIsWithin}
use Rattle.pure_pattern_bounds.proofs.BoundLaws.{image-bounded, image-inside}
use Rattle.pure_pattern_bounds.proofs.CoverLaws.{IsLongPattern, both-map, put-put}

none-above : (n x i : ℕ) (T : Typ) → n < i → (ps : List Pair) → Each (AreVariablesUpTo n) ps → ¬ AnyOf (OccursIn (Var x i T)) ps
none-above n x i T less [] h m = m
none-above n x i T less (p ∷ ps) h (inl (inl o)) = (let low = h.0.0 x i T o in absurd (omega arith))
none-above n x i T less (p ∷ ps) h (inl (inr o)) = (let low = h.0.1 x i T o in absurd (omega arith))
none-above n x i T less (p ∷ ps) h (inr m) = none-above n x i T less ps h.1 m

pub start_is_covered : StartIsCovered
start_is_covered n ps h = record { sides = λ x i T less m. absurd (none-above n x i T less ps h m); images = λ b m less. absurd m }

-- The map that leaves all as it is.
id-put : (t : Term) → put_in (λ v. v) t ≡ t
id-put (Const c T) = refl
id-put (Free x T) = refl
id-put (Var x i T) = refl
id-put (Bound p) = refl
id-put (Abs T b) = ap (Abs T) (id-put b)
id-put (App f a) = decided (is_schematic (front f)) refl (λ l. App (id-put f l) (id-put a l))
  where
    stays : (v : Term) → is_schematic v ≡ true → put_application v (App f a) ≡ App f a
    stays v e = (let is = schematic-is v e in subst (λ u. put_application u (App f a) ≡ App f a) (sym is.3) refl)

    decided : (b : Bool) → is_schematic (front f) ≡ b → App (put_in (λ v. v) f) (put_in (λ v. v) a) ≡ App f a → (if b then put_application (front f) (App f a) else App (put_in (λ v. v) f) (put_in (λ v. v) a)) ≡ App f a
    decided true e same = stays (front f) e
    decided false e same = same

id-map : IsPatternMap (λ v. v)
id-map = record {
  long = record {
    substitution = record {
      respecting = record {
        fixed = λ x T. subst (HasType [] (Free x T)) (sym (typ_instance-identity T)) refl;
        schematic = λ x i T. subst (HasType [] (Var x i T)) (sym (typ_instance-identity T)) refl;
      };
      fixed = λ x T. ap (Free x) (sym (typ_instance-identity T));
    };
    images = λ x i T. inl refl;
  };
  patterns = λ x i T. tt;
}

bounded-within : (u : Term) (b : TermBind) → IsBelow u b.image → IsWithin b.image → IsWithin u
bounded-within u b h within =
    let bounded : IsBounded u b.image = subst (λ t. IsBounded t b.image) (id-put u) (subst (IsBounded (put_in (λ v. v) u)) (id-put b.image) (h (λ v. v) id-map)) in
    (let small = bounded.size in let size = within.size in record { size = omega arith; depth = bounded.depth within.depth })

pub covered_is_within : CoveredIsWithin
covered_is_within n s h sides low = record {
  sides = sides;
  images = each_of (λ b. IsWithin b.image) s.binds (λ b m. elim (cases_lt n b.index) [
    | inl less ↦ (let held = h.images b m less in bounded-within b.image held.entry held.bounds (low held.entry held.among held.given))
    | inr least ↦ low b m (omega arith)
  ]);
}

-- Pairs that take a pair's place have no other variables.
of-pairs : (x i : ℕ) (T : Typ) (Ts Us : List Typ) (ts us : List Term) → AnyOf (OccursIn (Var x i T)) (pairs_below Ts Us ts us) → AnyOf (Occurs (Var x i T)) ts ⊎ AnyOf (Occurs (Var x i T)) us
of-pairs x i T Ts Us [] us m = absurd m
of-pairs x i T Ts Us (t ∷ ts) [] m = absurd m
of-pairs x i T Ts Us (t ∷ ts) (u ∷ us) (inl (inl o)) = inl (inl (of-below x i T Ts t o))
of-pairs x i T Ts Us (t ∷ ts) (u ∷ us) (inl (inr o)) = inr (inl (of-below x i T Us u o))
of-pairs x i T Ts Us (t ∷ ts) (u ∷ us) (inr m) = elim (of-pairs x i T Ts Us ts us m) [ inl k ↦ inl (inr k) | inr k ↦ inr (inr k) ]

holds-argument : (v t : Term) → AnyOf (Occurs v) (arguments t) → Occurs v t
holds-argument v (Const c T) m = absurd m
holds-argument v (Free x T) m = absurd m
holds-argument v (Var x i T) m = absurd m
holds-argument v (Bound p) m = absurd m
holds-argument v (Abs T b) m = absurd m
holds-argument v (App f a) m = elim (any_split (Occurs v) (arguments f) (a ∷ []) m) [
  | inl k ↦ inr (inl (holds-argument v f k))
  | inr k ↦ elim k [ inl o ↦ inr (inr o) | inr none ↦ absurd none ]
]

of-arguments : (v t : Term) → AnyOf (Occurs v) (arguments (term_body t)) → Occurs v t
of-arguments v t m = of-body v t (holds-argument v (term_body t) m)

becomes-occur : (index x i : ℕ) (T : Typ) (p : Pair) (qs : List Pair) → IsTreated index p.left p.right (Becomes qs) → AnyOf (OccursIn (Var x i T)) qs → OccursIn (Var x i T) p
becomes-occur index x i T p qs (IsTreated.equal e) m = absurd m
becomes-occur index x i T p qs (IsTreated.same_heads n e f same) m =
    elim (of-pairs x i T (abstractions p.left) (abstractions p.right) (arguments (term_body p.left)) (arguments (term_body p.right)) m) [ inl k ↦ inl (of-arguments (Var x i T) p.left k) | inr k ↦ inr (of-arguments (Var x i T) p.right k) ]

pub replaced_is_covered : ReplacedIsCovered
replaced_is_covered index n p ps qs bs treated h = record {
  sides = λ x i T less m. elim (any_split (OccursIn (Var x i T)) qs ps m) [
    | inl k ↦ h.sides x i T less (inl (becomes-occur index x i T p qs treated k))
    | inr k ↦ h.sides x i T less (inr k)
  ];
  images = h.images;
}

-- What a treatment sets: variables of the pair, each with its image.
record IsOwnEntry (p : Pair) (bs : List TermBind) (b : TermBind) : Type 0 where
  there : OccursIn (term_variable b) p
  image : term_image bs (term_variable b) ≡ b.image

first-image : (b : TermBind) (bs : List TermBind) → term_image (b ∷ bs) (term_variable b) ≡ b.image
first-image b bs = (let test = term_eq-itself (term_variable b) in rw test refl)

second-image : (b c : TermBind) → (¬ (term_variable b ≡ term_variable c)) → term_image (b ∷ c ∷ []) (term_variable c) ≡ c.image
second-image b c n = decided (term_eq (term_variable b) (term_variable c)) refl
  where
    decided : (test : Bool) → term_eq (term_variable b) (term_variable c) ≡ test → (if test then b.image else term_image (c ∷ []) (term_variable c)) ≡ c.image
    decided true e = absurd (n (term_eq-same (term_variable b) (term_variable c) e))
    decided false e = first-image c []

own-entries : (index : ℕ) (p : Pair) (bs : List TermBind) → IsTreated index p.left p.right (Sets bs) → Each (IsOwnEntry p bs) bs
own-entries index p bs (IsTreated.one_variable {x = x} {i = i} {T = T} {zs = zs} {u = u} apart a b long) = (record { there = inl (side-occurs p.left x i T zs a); image = first-image (bind x i T u) [] }, tt)
own-entries index p bs (IsTreated.two_variables {x = x} {i = i} {y = y} {j = j} {T = T} {U = U} {zs = zs} {ws = ws} {u = u} {w = w} a b apart long other) = (
  record { there = inl (side-occurs p.left x i T zs a); image = first-image (bind x i T u) (bind y j U w ∷ []) },
  (record { there = inr (side-occurs p.right y j U ws b); image = second-image (bind x i T u) (bind y j U w) apart }, tt),
)
own-entries index p bs (IsTreated.imitates {f = f} {k = k} {u = u} {x = x} {i = i} {T = T} {zs = zs} mixed a absent written long) =
    (record { there = mixed-occurs p.left p.right f k (Var x i T) mixed (side-occurs f x i T zs a); image = first-image (bind x i T u) [] }, tt)

-- The type of a variable of a pair within the limits isn't deeper than they allow.
occurs-depth : (v t : Term) → Occurs v t → term_depth v ≤ term_depth t
occurs-depth v (Const c T) e = (let same : term_depth v ≡ term_depth (Const c T) = ap term_depth e in omega arith)
occurs-depth v (Free x T) e = (let same : term_depth v ≡ term_depth (Free x T) = ap term_depth e in omega arith)
occurs-depth v (Var x i T) e = (let same : term_depth v ≡ term_depth (Var x i T) = ap term_depth e in omega arith)
occurs-depth v (Bound p) e = (let same : term_depth v ≡ term_depth (Bound p) = ap term_depth e in omega arith)
occurs-depth v (Abs T b) (inl e) = (let same : term_depth v ≡ term_depth (Abs T b) = ap term_depth e in omega arith)
occurs-depth v (Abs T b) (inr o) = (let rest = occurs-depth v b o in omega arith)
occurs-depth v (App f a) (inl e) = (let same : term_depth v ≡ term_depth (App f a) = ap term_depth e in omega arith)
occurs-depth v (App f a) (inr (inl o)) = (let rest = occurs-depth v f o in omega arith)
occurs-depth v (App f a) (inr (inr o)) = (let rest = occurs-depth v a o in omega arith)

typ-within : (v : Term) (T : Typ) (p : Pair) → term_depth v ≡ 1 + typ_depth T → OccursIn v p → IsWithin p.left × IsWithin p.right → typ_depth T ≤ max_depth
typ-within v T p e (inl o) w = (let deep = occurs-depth v p.left o in let low = w.0.depth in omega arith)
typ-within v T p e (inr o) w = (let deep = occurs-depth v p.right o in let low = w.1.depth in omega arith)

-- Variables are set.
module _ (n : ℕ) (p : Pair) (bs : List TermBind) (s : State) (patterns : IsPatternState s) (ready : Each IsPatternBind bs) (own : Each (IsOwnEntry p bs) bs) (within : IsWithin p.left × IsWithin p.right) (first : (v : Term) → OccursIn v p → AnyOf (OccursIn v) s.pairs) (h : IsCovered n s) where
  abbrev terms : Term → Term
  terms = term_image bs

  map_of : IsPatternMap terms
  map_of = record { long = binds-long_map bs ready; patterns = binds-patterns bs ready }

  abbrev olds : List TermBind
  olds = map (bind_put terms) s.binds

  image-pattern : (b : TermBind) → IsIn b s.binds → IsLongPattern b.image b.typ
  image-pattern b m = (let k = each_at IsPatternBind s.binds patterns.binds b m in record { typed = k.typed; long = k.long; pattern = k.pattern })

  -- What occurs in the image of a variable that occurs in an entry's image occurs in that with the images put in.
  held-put : (x i : ℕ) (T : Typ) (y j : ℕ) (U : Typ) → IsHeldIn n s.binds (Var x i T) → Occurs (Var y j U) (terms (Var x i T)) → IsHeldIn n (olds ++ bs) (Var y j U)
  held-put x i T y j U k o =
      let image = image-pattern k.entry k.among in
      let long = long_form-long k.entry.image k.entry.image image.long in record {
        entry = bind_put terms k.entry;
        among = in-append_left (bind_put terms k.entry) olds bs (in-map (bind_put terms) k.entry s.binds k.among);
        given = k.given;
        there = image-inside terms map_of.long x i T k.entry.image long.0 long.1 image.pattern k.there y j U o;
      }

  -- A variable of another index that is left.
  left-held : (y j : ℕ) (U : Typ) → n < j → (x i : ℕ) (T : Typ) → AnyOf (OccursIn (Var x i T)) s.pairs → Occurs (Var y j U) (terms (Var x i T)) → IsHeldIn n (olds ++ bs) (Var y j U)
  left-held y j U less x i T there o = elim (cases_lt n i) [
    | inl more ↦ held-put x i T y j U (h.sides x i T more there) o
    | inr least ↦ by_image (image-of bs x i T) least
  ]
    where
      same_index : (b : TermBind) → term_variable b ≡ Var x i T → b.index ≡ i
      same_index b e = cc

      other : (x i : ℕ) (T : Typ) → Occurs (Var y j U) (Var x i T) → j ≡ i
      other x i T e = cc

      by_image : (terms (Var x i T) ≡ Var x i T) ⊎ ((b : TermBind) × IsIn b bs × (term_variable b ≡ Var x i T) × (terms (Var x i T) ≡ b.image)) → i ≤ n → IsHeldIn n (olds ++ bs) (Var y j U)
      by_image (inl e) low = (let same = other x i T (subst (Occurs (Var y j U)) e o) in absurd (omega arith))
      by_image (inr k) low = record {
        entry = k.0;
        among = in-append_right k.0 olds bs k.1;
        given = (let same = same_index k.0 k.2 in omega arith);
        there = subst (Occurs (Var y j U)) k.3 o;
      }

  side-held : (y j : ℕ) (U : Typ) → n < j → (t : Term) (R : Typ) → IsLongPattern t R → ((v : Term) → Occurs v t → AnyOf (OccursIn v) s.pairs) → Occurs (Var y j U) (put_in terms t) → IsHeldIn n (olds ++ bs) (Var y j U)
  side-held y j U less t R pattern among o =
      let long = long_form-long t t pattern.long in
      let from = from-image terms map_of.long y j U [] t long.0 long.1 pattern.pattern o in
      left-held y j U less from.name from.index from.typ (among (Var from.name from.index from.typ) from.there) from.inside

  pairs-held : (y j : ℕ) (U : Typ) → n < j → (ps : List Pair) → Each AreLongOfOneTyp ps → Each IsPatternPair ps → ((v : Term) → AnyOf (OccursIn v) ps → AnyOf (OccursIn v) s.pairs) → AnyOf (OccursIn (Var y j U)) (map (pair_put terms) ps) → IsHeldIn n (olds ++ bs) (Var y j U)
  pairs-held y j U less [] k q among m = absurd m
  pairs-held y j U less (r ∷ ps) k q among (inl (inl o)) =
      side-held y j U less r.left k.0.typ (record { typed = k.0.left_typ; long = k.0.left; pattern = q.0.0 }) (λ v m. among v (inl (inl m))) o
  pairs-held y j U less (r ∷ ps) k q among (inl (inr o)) =
      side-held y j U less r.right k.0.typ (record { typed = k.0.right_typ; long = k.0.right; pattern = q.0.1 }) (λ v m. among v (inl (inr m))) o
  pairs-held y j U less (r ∷ ps) k q among (inr m) = pairs-held y j U less ps k.1 q.1 (λ v o. among v (inr o)) m

  -- An image that was set before stays bounded.
  old-below : (u : Term) (R : Typ) → IsLongPattern u R → IsHeldBelow n s.binds u → IsHeldBelow n (olds ++ bs) (put_in terms u)
  old-below u R pattern k = record {
    entry = bind_put terms k.entry;
    among = in-append_left (bind_put terms k.entry) olds bs (in-map (bind_put terms) k.entry s.binds k.among);
    given = k.given;
    bounds = λ others o. subst (λ t. IsBounded t (put_in others (put_in terms k.entry.image))) (sym (put-put others terms o map_of u R pattern))
        (subst (IsBounded (put_in (λ v. put_in others (terms v)) u)) (sym (put-put others terms o map_of k.entry.image k.entry.typ (image-pattern k.entry k.among))) (k.bounds (λ v. put_in others (terms v)) (both-map others terms o map_of)));
  }

  -- The image of a new variable that is set is bounded by one in which it occurred.
  new-below : (b : TermBind) → IsIn b bs → n < b.index → IsHeldBelow n (olds ++ bs) b.image
  new-below b m less =
      let mine = each_at (IsOwnEntry p bs) bs own b m in
      let k = h.sides b.name b.index b.typ less (first (term_variable b) mine.there) in
      let image = image-pattern k.entry k.among in
      let long = long_form-long k.entry.image k.entry.image image.long in record {
        entry = bind_put terms k.entry;
        among = in-append_left (bind_put terms k.entry) olds bs (in-map (bind_put terms) k.entry s.binds k.among);
        given = k.given;
        bounds = λ others o. subst (λ t. IsBounded (put_in others t) (put_in others (put_in terms k.entry.image))) mine.image
            (subst (IsBounded (put_in others (terms (term_variable b)))) (sym (put-put others terms o map_of k.entry.image k.entry.typ image))
            (image-bounded (λ v. put_in others (terms v)) (both-map others terms o map_of).long b.name b.index b.typ k.entry.image long.0 long.1 image.pattern k.there (typ-within (term_variable b) b.typ p refl mine.there within)));
      }

  of-olds : (b : TermBind) (cs : List TermBind) → IsIn b (map (bind_put terms) cs) → (c : TermBind) × IsIn c cs × (b ≡ bind_put terms c)
  of-olds b [] m = absurd m
  of-olds b (c ∷ cs) (inl e) = (c, inl refl, e)
  of-olds b (c ∷ cs) (inr m) = (let rest = of-olds b cs m in (rest.0, inr rest.1, rest.2))

  entry-below : (b : TermBind) → IsIn b (olds ++ bs) → n < b.index → IsHeldBelow n (olds ++ bs) b.image
  entry-below b m less = elim (in_split b olds bs m) [
    | inl k ↦ old (of-olds b s.binds k)
    | inr k ↦ new-below b k less
  ]
    where
      old : (c : TermBind) × IsIn c s.binds × (b ≡ bind_put terms c) → IsHeldBelow n (olds ++ bs) b.image
      old k =
          let more : n < k.0.index = subst (λ i. n < i) (ap (λ (d : TermBind). d.index) k.2) less in
          subst (IsHeldBelow n (olds ++ bs)) (sym (ap (λ (d : TermBind). d.image) k.2)) (old-below k.0.image k.0.typ (image-pattern k.0 k.1) (h.images k.0 k.1 more))

  put-covered : IsCovered n (state_put bs s)
  put-covered = record { sides = λ y j U less m. pairs-held y j U less s.pairs patterns.long patterns.patterns (λ v o. o) m; images = entry-below }

pub set_is_covered : SetIsCovered
set_is_covered index n p ps bs s e within patterns treated h =
    let long = subst (Each AreLongOfOneTyp) e patterns.long in
    let pattern = subst (Each IsPatternPair) e patterns.patterns in
    put-covered n p bs s patterns (settings_are_patterns index p long.0 pattern.0 bs treated) (own-entries index p bs treated) within (λ v o. subst (AnyOf (OccursIn v)) (sym e) (inl o)) h
