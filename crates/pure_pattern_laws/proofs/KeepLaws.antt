-- Steps keep patterns in long form.
use Rattle.std.proofs.Common.{◌≡◌, ◌⊎◌, ℕ, zero, suc, inl, inr, List, [], ◌∷◌, length, Bool, true, false, ap, refl, sym, subst, ◌∙◌, nat_eq, slice_get, Some}
use Rattle.std.proofs.lemmas.Bool.{eqb-true}
use Rattle.std.specs.Prelude.{if◌then◌else◌}
use Rattle.pure_text.specs.Lists.{IsIn, Each, EachTwo, AreDistinct}
use Rattle.pure_text.proofs.ListLaws.{each_at, each-append}
use Rattle.pure_definitions.specs.Types.Typ.{Typ}
use Rattle.pure_definitions.specs.Terms.Term.{Term, Const, Free, Var, Bound, Abs, App, term_eq}
use Rattle.pure_definitions.specs.Terms.Typing.{HasType}
use Rattle.pure_definitions.specs.Terms.Subst.{TermBind, term_variable, term_image, inst_term}
use Rattle.pure_definitions.specs.Models.Equality.{term_eq-same}
use Rattle.pure_definitions.specs.Reduction.Eta.{EtaReduces, arrow_count, IsLongForm}
use Rattle.pure_definitions.proofs.InstanceLemmas.{term_image-fixed}
use Rattle.pure_term_laws.proofs.TypingLaws.{typed-once}
use Rattle.pure_term_laws.proofs.SubstLaws.{typ_instance-identity}
use Rattle.pure_eta.proofs.FormLaws.{long_form_of_long_form}
use Rattle.pure_eta.proofs.LongLaws.{IsLong, no_abstraction}
use Rattle.pure_logic.specs.Derivable.{Pair}
use Rattle.pure_reduction.proofs.LongLaws.{one_long_form_of_term, long_form_keeps_type}
use Rattle.pure_unify_definitions.specs.Fronts.{abstractions, term_body, front, arguments, head, is_schematic, is_flexible, below, domains, range, function_typ, bounds, pairs_below, argument_pairs}
use Rattle.pure_unify_definitions.specs.Node.{bind}
use Rattle.pure_unify_definitions.specs.Children.{image_of}
use Rattle.pure_unify_laws.proofs.SplitLaws.{under}
use Rattle.pure_unify_final.proofs.SideLaws.{IsLongIn, IsRigidHead, long_form-long, spine-long, abstractions-domains}
use Rattle.pure_unify_final.proofs.BuiltLaws.{spine-typed, head-domains}
use Rattle.pure_solutions.specs.Solutions.{IsLongMap}
use Rattle.pure_solutions.proofs.SolutionLaws.{instance-typed}
use Rattle.pure_pattern_laws.specs.Patterns.{IsPlace, IsPattern, IsPatternPair}
use Rattle.pure_pattern_laws.specs.Places.{agreeing, shared_left, shared_right, at_place}
use Rattle.pure_pattern_laws.specs.Treatment.{own_bounds, agreeing_image, left_image, right_image, IsFlexibleSide, AreMixed, on_left, on_right, IsWritten, Becomes, IsTreated}
use Rattle.pure_pattern_laws.specs.Steps.{IsPut, IsPairPut, IsBindPut, Follows}
use Rattle.pure_pattern_laws.specs.Putting.{put_in}
use Rattle.pure_pattern_laws.specs.Answers.{AreLongOfOneTyp}
use Rattle.pure_pattern_laws.specs.Laws.{IsPatternBind, SettingsArePatterns, StepsKeepPatterns}
use Rattle.pure_pattern_laws.proofs.BuiltLaws.{IsLongBelow, below-of, below-long, body-below, long-own}
use Rattle.pure_pattern_laws.proofs.PutLaws.{IsFlexibleLong, flexible-long, put_in_is_long_form}
use Rattle.pure_pattern_laws.proofs.PatternLaws.{below-pattern, put_in_is_pattern}
use Rattle.pure_pattern_laws.proofs.ListLaws.{agreeing-two, shared_left-two, shared_right-two, at_place-both, distinct-agreeing, distinct-shared_left, distinct-shared_right, in-at_place, first-some, numbers, distinct-numbers}
use Rattle.pure_pattern_laws.proofs.ImageLaws.{own-typed, selection-typed, image_of-typed, bounds-numbers, selection-pattern, image_of-pattern, long-pattern}

-- Sides in long form.
pub side-long : (t : Term) (S : Typ) → IsLongForm t t → HasType [] t S → IsLong [] t t S
side-long t S h k = let own = long_form-long t t h in subst (IsLong [] t t) (typed-once [] t own.0 S own.1.typed k) own.1

pub side-form : (t : Term) (S : Typ) → IsLong [] t t S → IsLongForm t t
side-form t S h = long-own t t S h EtaReduces.done h.typed

pub side-body : (t : Term) (S : Typ) (b : IsLongBelow [] t S) → term_body t ≡ b.body
side-body t S b = ap term_body b.is ∙ body-below (domains S) b.body b.bare

pub no_arrows : (t : Term) (S : Typ) (b : IsLongBelow [] t S) → arrow_count (range S) ≡ 0
no_arrows t S b = sym b.long.count ∙ no_abstraction b.body b.bare

pub flexible-side : (t : Term) (S : Typ) (x i : ℕ) (T : Typ) (zs : List ℕ) (b : IsLongBelow [] t S) → IsFlexibleSide t x i T zs → IsFlexibleLong (under (domains S) []) b.body (range S) x i T zs
flexible-side t S x i T zs b h =
    flexible-long (under (domains S) []) b.body (range S) x i T zs b.long (no_arrows t S b) (sym (ap front (side-body t S b)) ∙ h.variable) (subst (λ u. EachTwo IsPlace (arguments u) zs) (side-body t S b) h.places.are)

-- The images of entries.
pub image-of : (bs : List TermBind) (x i : ℕ) (T : Typ) → (term_image bs (Var x i T) ≡ Var x i T) ⊎ ((b : TermBind) × IsIn b bs × (term_variable b ≡ Var x i T) × (term_image bs (Var x i T) ≡ b.image))
image-of [] x i T = inl refl
image-of (b ∷ bs) x i T = by_cases (term_eq (term_variable b) (Var x i T)) refl (image-of bs x i T)
  where
    by_cases : (test : Bool) → term_eq (term_variable b) (Var x i T) ≡ test → (term_image bs (Var x i T) ≡ Var x i T) ⊎ ((c : TermBind) × IsIn c bs × (term_variable c ≡ Var x i T) × (term_image bs (Var x i T) ≡ c.image))
        → ((if test then b.image else term_image bs (Var x i T)) ≡ Var x i T) ⊎ ((c : TermBind) × IsIn c (b ∷ bs) × (term_variable c ≡ Var x i T) × ((if test then b.image else term_image bs (Var x i T)) ≡ c.image))
    by_cases true e rest = inr (b, inl refl, term_eq-same (term_variable b) (Var x i T) e, refl)
    by_cases false e (inl same) = inl same
    by_cases false e (inr k) = inr (k.0, inr k.1, k.2, k.3)

bind-typ : (b : TermBind) (x i : ℕ) (T : Typ) → term_variable b ≡ Var x i T → b.typ ≡ T
bind-typ b x i T e = cc

module _ (bs : List TermBind) (ready : Each IsPatternBind bs) where
  image-typed : (x i : ℕ) (T : Typ) → HasType [] (term_image bs (Var x i T)) T
  image-typed x i T = elim (image-of bs x i T) [
    | inl e ↦ subst (λ u. HasType [] u T) (sym e) refl
    | inr k ↦ subst (λ u. HasType [] u T) (sym k.3) (subst (HasType [] k.0.image) (bind-typ k.0 x i T k.2) (each_at IsPatternBind bs ready k.0 k.1).typed)
  ]

  pub binds-long_map : IsLongMap (term_image bs)
  binds-long_map = record {
    substitution = record {
      respecting = record {
        fixed = λ x T. rw (term_image-fixed bs x T) (sym (typ_instance-identity T));
        schematic = λ x i T. subst (HasType [] (term_image bs (Var x i T))) (sym (typ_instance-identity T)) (image-typed x i T);
      };
      fixed = λ x T. term_image-fixed bs x T ∙ ap (Free x) (sym (typ_instance-identity T));
    };
    images = λ x i T. elim (image-of bs x i T) [
      | inl e ↦ inl e
      | inr k ↦ inr (subst (λ u. IsLongForm u u) (sym k.3) (each_at IsPatternBind bs ready k.0 k.1).long)
    ];
  }

  pub binds-patterns : (x i : ℕ) (T : Typ) → IsPattern (term_image bs (Var x i T))
  binds-patterns x i T = elim (image-of bs x i T) [
    | inl e ↦ subst IsPattern (sym e) tt
    | inr k ↦ subst IsPattern (sym k.3) (each_at IsPatternBind bs ready k.0 k.1).pattern
  ]

  -- What is put into a side is a side.
  pub put-side : (t u : Term) (S : Typ) → IsLongForm t t → HasType [] t S → IsPattern t → IsPut bs t u → HasType [] u S × IsLongForm u u × IsPattern u
  put-side t u S h k p put =
      let renamed = put_in_is_long_form (term_image bs) binds-long_map t h p in
      let same : put_in (term_image bs) t ≡ u = one_long_form_of_term (inst_term (term_image bs) t) (put_in (term_image bs) t) u renamed put in (
        long_form_keeps_type (inst_term (term_image bs) t) u S (instance-typed (term_image bs) binds-long_map.substitution t S k) put,
        long_form_of_long_form put.normal u put.long,
        subst IsPattern same (put_in_is_pattern (term_image bs) binds-long_map binds-patterns t h p),
      )

-- What treatments set.
bind-ready : (x i : ℕ) (T : Typ) (plain u : Term) → HasType [] plain T → IsPattern plain → IsLongForm plain u → IsPatternBind (bind x i T u)
bind-ready x i T plain u k p h = record { typed = subst (HasType [] u) (typed-once [] plain h.typ T h.typed k) h.long_typed; long = long_form_of_long_form plain u h; pattern = long-pattern plain u h p }

pub agreeing-typed : (index : ℕ) (T : Typ) (zs ws : List ℕ) → HasType [] (agreeing_image index T zs ws) T
agreeing-typed index T zs ws = selection-typed index T (agreeing zs ws (domains T)) (agreeing zs ws (own_bounds T)) (agreeing-two (HasType (under (domains T) [])) zs ws (own_bounds T) (domains T) (own-typed T))

pub left-typed : (index : ℕ) (T : Typ) (zs ws : List ℕ) → HasType [] (left_image index T zs ws) T
left-typed index T zs ws = selection-typed index T (shared_left zs ws (domains T)) (shared_left zs ws (own_bounds T)) (shared_left-two (HasType (under (domains T) [])) zs ws (own_bounds T) (domains T) (own-typed T))

pub right-typed : (index : ℕ) (U : Typ) (zs ws : List ℕ) → HasType [] (right_image index U zs ws) U
right-typed index U zs ws = selection-typed index U (shared_right zs ws (domains U)) (shared_right zs ws (own_bounds U)) (shared_right-two (HasType (under (domains U) [])) zs ws (own_bounds U) (domains U) (own-typed U))

own-places : (T : Typ) → EachTwo IsPlace (own_bounds T) (numbers (length (domains T)))
own-places T = bounds-numbers (length (domains T))

agreeing-pattern : (index : ℕ) (T : Typ) (zs ws : List ℕ) → IsPattern (agreeing_image index T zs ws)
agreeing-pattern index T zs ws =
    let ns = numbers (length (domains T)) in
    selection-pattern index T (agreeing zs ws (domains T)) (agreeing zs ws (own_bounds T)) (agreeing zs ws ns) (agreeing-two IsPlace zs ws (own_bounds T) ns (own-places T)) (distinct-agreeing zs ws ns (distinct-numbers (length (domains T))))

left-pattern : (index : ℕ) (T : Typ) (zs ws : List ℕ) → IsPattern (left_image index T zs ws)
left-pattern index T zs ws =
    let ns = numbers (length (domains T)) in
    selection-pattern index T (shared_left zs ws (domains T)) (shared_left zs ws (own_bounds T)) (shared_left zs ws ns) (shared_left-two IsPlace zs ws (own_bounds T) ns (own-places T)) (distinct-shared_left zs ws ns (distinct-numbers (length (domains T))))

right-pattern : (index : ℕ) (U : Typ) (zs ws : List ℕ) → AreDistinct zs → IsPattern (right_image index U zs ws)
right-pattern index U zs ws d =
    let ns = numbers (length (domains U)) in
    selection-pattern index U (shared_right zs ws (domains U)) (shared_right zs ws (own_bounds U)) (shared_right zs ws ns) (shared_right-two IsPlace zs ws (own_bounds U) ns (own-places U)) (distinct-shared_right zs ws ns d (distinct-numbers (length (domains U))))

-- Heads as they are written.
pub place-typed : (bs : List Typ) (p : ℕ) (zs : List ℕ) (Ts : List Typ) (U : Typ) → EachTwo (λ z W. slice_get bs z ≡ Some W) zs Ts → at_place p zs Ts ≡ Some U → slice_get bs p ≡ Some U
place-typed bs p [] Ts U h e = absurd (cc)
place-typed bs p (z ∷ zs) [] U h e = absurd (cc)
place-typed bs p (z ∷ zs) (T ∷ Ts) U h e = elim (first-some (nat_eq p z) T U (at_place p zs Ts) e) [
  | inl k ↦ ap (slice_get bs) (eqb-true p z k.0) ∙ (h.0 ∙ ap (λ V. Some V) k.1)
  | inr k ↦ place-typed bs p zs Ts U h.1 k.1
]

pub some-same : {A : Type 0} (x y : A) → Some x ≡ Some y → x ≡ y
some-same x y e = cc

pub written-typed : (T : Typ) (zs : List ℕ) (k h : Term) (U V : Typ) (bs : List Typ) → IsWritten T zs k h U → HasType bs k V → EachTwo (λ z W. slice_get bs z ≡ Some W) zs (domains T) → HasType (under (domains T) []) h U × (U ≡ V)
written-typed T zs k h U V bs IsWritten.constant typed places = (refl, typed)
written-typed T zs k h U V bs IsWritten.fixed typed places = (refl, typed)
written-typed T zs k h U V bs (IsWritten.bound {p = p} e f) typed places =
    (at_place-both (HasType (under (domains T) [])) p zs (own_bounds T) (domains T) h U (own-typed T) e f, some-same U V (sym (place-typed bs p zs (domains T) U places f) ∙ typed))

in-bounds : (n : ℕ) (h : Term) → IsIn h (bounds n) → (m : ℕ) × (h ≡ Bound m)
in-bounds zero h m = absurd m
in-bounds (suc n) h (inl e) = (n, e)
in-bounds (suc n) h (inr m) = in-bounds n h m

written-leaf : (T : Typ) (zs : List ℕ) (k h : Term) (U : Typ) → IsWritten T zs k h U → (is_schematic (front h) ≡ false) × IsPattern h
written-leaf T zs k h U IsWritten.constant = (refl, tt)
written-leaf T zs k h U IsWritten.fixed = (refl, tt)
written-leaf T zs k h U (IsWritten.bound {p = p} e f) =
    let own = in-bounds (length (domains T)) h (in-at_place p zs (own_bounds T) h e) in
    (ap (λ t. is_schematic (front t)) own.1, subst IsPattern (sym own.1) tt)

pub written-rigid : (T : Typ) (zs : List ℕ) (k h : Term) (U : Typ) → IsWritten T zs k h U → IsRigidHead h
written-rigid T zs k h U IsWritten.constant = tt
written-rigid T zs k h U IsWritten.fixed = tt
written-rigid T zs k h U (IsWritten.bound {p = p} e f) = (let own = in-bounds (length (domains T)) h (in-at_place p zs (own_bounds T) h e) in subst IsRigidHead (sym own.1) tt)

pub head-typed : (t : Term) (S : Typ) (b : IsLongBelow [] t S) → (V : Typ) × HasType (under (domains S) []) (head t) V × (range V ≡ range S)
head-typed t S b =
    let spine = spine-typed (under (domains S) []) b.body (range S) b.long.typed in
    (function_typ spine.0 (range S), subst (λ u. HasType (under (domains S) []) (front u) (function_typ spine.0 (range S))) (sym (side-body t S b)) spine.1, (head-domains spine.0 S).1)

-- The flexible and the rigid side, both of the pair's type.
pub left-long : (p : Pair) (h : AreLongOfOneTyp p) → IsLong [] p.left p.left h.typ
left-long p h = side-long p.left h.typ h.left h.left_typ

pub right-long : (p : Pair) (h : AreLongOfOneTyp p) → IsLong [] p.right p.right h.typ
right-long p h = side-long p.right h.typ h.right h.right_typ

pub mixed-long : (p : Pair) (f k : Term) (h : AreLongOfOneTyp p) → AreMixed p.left p.right f k → IsLong [] f f h.typ × IsLong [] k k h.typ × (is_flexible k ≡ false)
mixed-long p f k h (on_left a b e g) = (subst (λ t. IsLong [] t t h.typ) (sym e) (left-long p h), subst (λ t. IsLong [] t t h.typ) (sym g) (right-long p h), subst (λ t. is_flexible t ≡ false) (sym g) b)
mixed-long p f k h (on_right a b e g) = (subst (λ t. IsLong [] t t h.typ) (sym e) (right-long p h), subst (λ t. IsLong [] t t h.typ) (sym g) (left-long p h), subst (λ t. is_flexible t ≡ false) (sym g) a)

pub mixed-patterns : (p : Pair) (f k : Term) → IsPatternPair p → AreMixed p.left p.right f k → IsPattern f × IsPattern k
mixed-patterns p f k h (on_left a b e g) = (subst IsPattern (sym e) h.0, subst IsPattern (sym g) h.1)
mixed-patterns p f k h (on_right a b e g) = (subst IsPattern (sym e) h.1, subst IsPattern (sym g) h.0)

-- The image that imitates a head has its variable's type.
pub imitation-typed : (index : ℕ) (f k : Term) (S : Typ) (x i : ℕ) (T U : Typ) (zs : List ℕ) (h : Term) → IsLong [] f f S → IsLong [] k k S → IsFlexibleSide f x i T zs → IsWritten T zs (head k) h U → HasType [] (image_of index (domains T) h (domains U)) T
imitation-typed index f k S x i T U zs h fl kl side written =
    let b = below-of [] f S fl in
    let c = below-of [] k S kl in
    let flexible = flexible-side f S x i T zs b side in
    let head = head-typed k S c in
    let typed = written-typed T zs _ h U head.0 (under (domains S) []) written head.1 flexible.types in
    image_of-typed index T h U typed.0 (ap range typed.1 ∙ (head.2 ∙ sym (flexible.range_is)))

pub settings_are_patterns : SettingsArePatterns
settings_are_patterns index p ready patterns bs (IsTreated.one_variable {x = x} {i = i} {T = T} {zs = zs} {ws = ws} {u = u} n l r long) =
    (bind-ready x i T (agreeing_image index T zs ws) u (agreeing-typed index T zs ws) (agreeing-pattern index T zs ws) long, tt)
settings_are_patterns index p ready patterns bs (IsTreated.two_variables {x = x} {i = i} {y = y} {j = j} {T = T} {U = U} {zs = zs} {ws = ws} {u = u} {w = w} l r n long other) = (
  bind-ready x i T (left_image index T zs ws) u (left-typed index T zs ws) (left-pattern index T zs ws) long,
  (bind-ready y j U (right_image index U zs ws) w (right-typed index U zs ws) (right-pattern index U zs ws l.places.distinct) other, tt),
)
settings_are_patterns index p ready patterns bs (IsTreated.imitates {f = f} {k = k} {h = h} {u = u} {x = x} {i = i} {T = T} {U = U} {zs = zs} mixed side n written long) =
    let sides = mixed-long p f k ready mixed in
    let typed = imitation-typed index f k ready.typ x i T U zs h sides.0 sides.1 side written in
    let leaf = written-leaf T zs (head k) h U written in
    (bind-ready x i T (image_of index (domains T) h (domains U)) u typed (image_of-pattern index (domains T) h (domains U) leaf.0 leaf.1) long, tt)

-- The pairs of arguments.
typed-long : (bs : List Typ) (ts : List Term) (Us : List Typ) → EachTwo (HasType bs) ts Us → Each (IsLongIn bs) ts → EachTwo (λ a U. IsLong bs a a U) ts Us
typed-long bs [] [] h k = tt
typed-long bs [] (U ∷ Us) h k = absurd h
typed-long bs (t ∷ ts) [] h k = absurd h
typed-long bs (t ∷ ts) (U ∷ Us) h k = (subst (IsLong bs t t) (typed-once bs t k.0.0 U k.0.1.typed h.0) k.0.1, typed-long bs ts Us h.1 k.1)

pairs-ready : (Ts : List Typ) (ts us : List Term) (Us : List Typ) → EachTwo (λ a U. IsLong (under Ts []) a a U) ts Us → EachTwo (λ a U. IsLong (under Ts []) a a U) us Us → Each AreLongOfOneTyp (pairs_below Ts Ts ts us)
pairs-ready Ts [] us Us h k = tt
pairs-ready Ts (t ∷ ts) [] Us h k = tt
pairs-ready Ts (t ∷ ts) (u ∷ us) [] h k = absurd h
pairs-ready Ts (t ∷ ts) (u ∷ us) (U ∷ Us) h k =
    let left = below-long Ts [] t U h.0 in
    let right = below-long Ts [] u U k.0 in
    (record { left = side-form (below Ts t) (function_typ Ts U) left; right = side-form (below Ts u) (function_typ Ts U) right; typ = function_typ Ts U; left_typ = left.typed; right_typ = right.typed }, pairs-ready Ts ts us Us h.1 k.1)

-- The arguments of two long sides with one head, and their types.
pub record AreArgumentsAlike (S : Typ) (l r : Term) : Type 0 where
  pub types : List Typ
  pub left : EachTwo (λ a U. IsLong (under (domains S) []) a a U) (arguments (term_body l)) types
  pub right : EachTwo (λ a U. IsLong (under (domains S) []) a a U) (arguments (term_body r)) types

pub arguments-alike : (S : Typ) (l r : Term) → IsLong [] l l S → IsLong [] r r S → head l ≡ head r → AreArgumentsAlike S l r
arguments-alike S l r h k e =
    let b = below-of [] l S h in
    let c = below-of [] r S k in
    let bs = under (domains S) [] in
    let first = spine-typed bs b.body (range S) b.long.typed in
    let second = spine-typed bs c.body (range S) c.long.typed in
    let fronts : front b.body ≡ front c.body = sym (ap front (side-body l S b)) ∙ (e ∙ ap front (side-body r S c)) in
    let types : function_typ first.0 (range S) ≡ function_typ second.0 (range S) = typed-once bs (front c.body) (function_typ first.0 (range S)) (function_typ second.0 (range S)) (subst (λ u. HasType bs u (function_typ first.0 (range S))) fronts first.1) second.1 in
    let same : second.0 ≡ first.0 = sym (head-domains second.0 S).0 ∙ (ap domains (sym types) ∙ (head-domains first.0 S).0) in
    record {
      types = first.0;
      left = subst (λ u. EachTwo (λ a U. IsLong bs a a U) (arguments u) first.0) (sym (side-body l S b)) (typed-long bs (arguments b.body) first.0 first.2 (spine-long bs b.body b.long.parts b.long.normal));
      right = subst (λ u. EachTwo (λ a U. IsLong bs a a U) (arguments u) first.0) (sym (side-body r S c)) (subst (EachTwo (λ a U. IsLong bs a a U) (arguments c.body)) same (typed-long bs (arguments c.body) second.0 second.2 (spine-long bs c.body c.long.parts c.long.normal)));
    }

pub arguments-ready : (S : Typ) (l r : Term) → IsLong [] l l S → IsLong [] r r S → head l ≡ head r → Each AreLongOfOneTyp (argument_pairs l r)
arguments-ready S l r h k e =
    let alike = arguments-alike S l r h k e in
    let left = abstractions-domains [] l S h.parts h.typed h.count in
    let right = abstractions-domains [] r S k.parts k.typed k.count in
    rw (left, right) (pairs-ready (domains S) (arguments (term_body l)) (arguments (term_body r)) alike.types alike.left alike.right)

pattern-arguments : (t : Term) → is_schematic (front t) ≡ false → IsPattern t → Each IsPattern (arguments t)
pattern-arguments (Const c V) e p = tt
pattern-arguments (Free x V) e p = tt
pattern-arguments (Var x i V) e p = tt
pattern-arguments (Bound q) e p = tt
pattern-arguments (Abs V b) e p = tt
pattern-arguments (App f a) e p = let k = p.1 e in each-append IsPattern (arguments f) (a ∷ []) (pattern-arguments f e k.0) (k.1, tt)

pub body-pattern : (t : Term) → IsPattern t → IsPattern (term_body t)
body-pattern (Const c V) p = p
body-pattern (Free x V) p = p
body-pattern (Var x i V) p = p
body-pattern (Bound q) p = p
body-pattern (Abs V b) p = body-pattern b p
body-pattern (App f a) p = p

pairs-patterns : (Ts Us : List Typ) (ts us : List Term) → Each IsPattern ts → Each IsPattern us → Each IsPatternPair (pairs_below Ts Us ts us)
pairs-patterns Ts Us [] us h k = tt
pairs-patterns Ts Us (t ∷ ts) [] h k = tt
pairs-patterns Ts Us (t ∷ ts) (u ∷ us) h k = ((below-pattern Ts t h.0, below-pattern Us u k.0), pairs-patterns Ts Us ts us h.1 k.1)

pub arguments-patterns : (l r : Term) → is_flexible l ≡ false → is_flexible r ≡ false → IsPattern l → IsPattern r → Each IsPatternPair (argument_pairs l r)
arguments-patterns l r e f h k =
    pairs-patterns (abstractions l) (abstractions r) (arguments (term_body l)) (arguments (term_body r)) (pattern-arguments (term_body l) e (body-pattern l h)) (pattern-arguments (term_body r) f (body-pattern r k))

becomes-ready : (index : ℕ) (p : Pair) (qs : List Pair) → AreLongOfOneTyp p → IsPatternPair p → IsTreated index p.left p.right (Becomes qs) → Each AreLongOfOneTyp qs × Each IsPatternPair qs
becomes-ready index p qs h k (IsTreated.equal e) = (tt, tt)
becomes-ready index p qs h k (IsTreated.same_heads n e f same) = (arguments-ready h.typ p.left p.right (left-long p h) (right-long p h) same, arguments-patterns p.left p.right e f k.0 k.1)

-- What settings make of pairs and of entries.
put-pairs : (bs : List TermBind) → Each IsPatternBind bs → (ps qs : List Pair) → Each AreLongOfOneTyp ps → Each IsPatternPair ps → EachTwo (IsPairPut bs) ps qs → Each AreLongOfOneTyp qs × Each IsPatternPair qs
put-pairs bs ready [] [] h k put = (tt, tt)
put-pairs bs ready [] (q ∷ qs) h k put = absurd put
put-pairs bs ready (p ∷ ps) [] h k put = absurd put
put-pairs bs ready (p ∷ ps) (q ∷ qs) h k put =
    let left = put-side bs ready p.left q.left h.0.typ h.0.left h.0.left_typ k.0.0 put.0.0 in
    let right = put-side bs ready p.right q.right h.0.typ h.0.right h.0.right_typ k.0.1 put.0.1 in
    let rest = put-pairs bs ready ps qs h.1 k.1 put.1 in
    ((record { left = left.1; right = right.1; typ = h.0.typ; left_typ = left.0; right_typ = right.0 }, rest.0), ((left.2, right.2), rest.1))

same-typ : (b c : TermBind) → term_variable b ≡ term_variable c → b.typ ≡ c.typ
same-typ b c e = cc

pub put-binds : (bs : List TermBind) → Each IsPatternBind bs → (cs ds : List TermBind) → Each IsPatternBind cs → EachTwo (IsBindPut bs) cs ds → Each IsPatternBind ds
put-binds bs ready [] [] h put = tt
put-binds bs ready [] (d ∷ ds) h put = absurd put
put-binds bs ready (c ∷ cs) [] h put = absurd put
put-binds bs ready (c ∷ cs) (d ∷ ds) h put =
    let image = put-side bs ready c.image d.image c.typ h.0.long h.0.typed h.0.pattern put.0.1 in
    (record { typed = subst (HasType [] d.image) (same-typ c d put.0.0) image.0; long = image.1; pattern = image.2 }, put-binds bs ready cs ds h.1 put.1)

pub steps_keep_patterns : StepsKeepPatterns
steps_keep_patterns index s m h (Follows.replaced {p = p} {ps = ps} {qs = qs} e treated) =
    let long = subst (Each AreLongOfOneTyp) e h.long in
    let patterns = subst (Each IsPatternPair) e h.patterns in
    let inner = becomes-ready index p qs long.0 patterns.0 treated in
    record { long = each-append AreLongOfOneTyp qs ps inner.0 long.1; patterns = each-append IsPatternPair qs ps inner.1 patterns.1; binds = h.binds }
steps_keep_patterns index s m h (Follows.set {p = p} {ps = ps} {qs = qs} {bs = bs} cs e treated pairs binds) =
    let long = subst (Each AreLongOfOneTyp) e h.long in
    let patterns = subst (Each IsPatternPair) e h.patterns in
    let ready = settings_are_patterns index p long.0 patterns.0 bs treated in
    let put = put-pairs bs ready s.pairs qs h.long h.patterns pairs in
    record { long = put.0; patterns = put.1; binds = each-append IsPatternBind cs bs (put-binds bs ready s.binds cs h.binds binds) ready }
