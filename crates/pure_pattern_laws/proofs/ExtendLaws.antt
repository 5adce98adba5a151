-- A map that solves a pair, with images for the new variables of its treatment: under it each variable that is set has the image that the setting gives it.
use Rattle.std.proofs.Common.{◌≡◌, ℕ, ◌+◌, ◌≤◌, inl, inr, List, [], ◌∷◌, length, Bool, true, false, ap, refl, sym, subst, ◌∙◌, arith, nat_eq, slice_get, Some, None, reverse, ◌||◌}
use Rattle.std.specs.Prelude.{if◌then◌else◌}
use Rattle.std.proofs.lemmas.Bool.{eqb-true}
use Rattle.std.proofs.lemmas.List.{length-reverse}
use Rattle.std.specs.List.{list_any}
use Rattle.pure_text.specs.Lists.{IsIn, Each, EachTwo, AreDistinct}
use Rattle.pure_definitions.specs.Types.Typ.{Typ}
use Rattle.pure_definitions.specs.Terms.Term.{Term, Const, Free, Var, Bound, Abs, App}
use Rattle.pure_definitions.specs.Terms.Bounds.{Occurs}
use Rattle.pure_definitions.specs.Terms.Typing.{HasType}
use Rattle.pure_definitions.specs.Terms.Subst.{TermBind, term_variable, inst_term}
use Rattle.pure_definitions.specs.Models.Equality.{term_eq-itself}
use Rattle.pure_definitions.specs.Reduction.Eta.{IsLongForm}
use Rattle.pure_term_laws.proofs.TypingLaws.{typed-once}
use Rattle.pure_eta.proofs.LongLaws.{IsLong}
use Rattle.pure_reduction.specs.Steps.{BetaReduces}
use Rattle.pure_reduction.specs.LongForms.{HaveOneLongForm}
use Rattle.pure_reduction.proofs.StepLaws.{reduces-body}
use Rattle.pure_reduction.proofs.LongLaws.{long_form_of_normal, long-from_reduct}
use Rattle.pure_unify_definitions.specs.Fronts.{front, arguments, head, is_schematic, is_flexible, below, domains, range, function_typ, applied}
use Rattle.pure_unify_definitions.specs.Node.{bind}
use Rattle.pure_unify_definitions.specs.Children.{image_of}
use Rattle.pure_unify_laws.proofs.SplitLaws.{under}
use Rattle.pure_unify_final.proofs.SideLaws.{IsRigidHead, head-rigid}
use Rattle.pure_unify_final.proofs.BuiltLaws.{applied-spine, spine-typed, head-domains}
use Rattle.pure_unify_final.proofs.ExtendLaws.{extended, entries, entries-typed, extended-substitution, fixed-extended, old-stays, image-reduces}
use Rattle.pure_solutions.specs.Solutions.{IsTermSubstitution}
use Rattle.pure_solutions.proofs.SolutionLaws.{long-instance, fixed-stays}
use Rattle.pure_pattern_laws.specs.Patterns.{IsPattern}
use Rattle.pure_pattern_laws.specs.Places.{agreeing, shared_left, at_place, with_first, shared_right}
use Rattle.pure_pattern_laws.specs.Treatment.{selection, own_bounds, agreeing_image, left_image, right_image, IsFlexibleSide, IsWritten}
use Rattle.pure_pattern_laws.specs.Putting.{place_in, put_in}
use Rattle.pure_pattern_laws.proofs.PlacedLaws.{renaming, placed}
use Rattle.pure_pattern_laws.proofs.RenameLaws.{renaming-typed}
use Rattle.pure_pattern_laws.proofs.BuiltLaws.{below-of, long-front}
use Rattle.pure_pattern_laws.proofs.PutLaws.{bound_terms, scoped-places}
use Rattle.pure_pattern_laws.proofs.PatternLaws.{front-renaming, low-place, length-under, reverse-apart, in-place, pattern-below}
use Rattle.pure_pattern_laws.proofs.ListLaws.{numbers, agreeing-two, shared_left-two, at_place-both, first-some}
use Rattle.pure_pattern_laws.proofs.ImageLaws.{own-typed}
use Rattle.pure_pattern_laws.proofs.KeepLaws.{flexible-side, side-body, some-same, written-rigid}
use Rattle.pure_pattern_laws.proofs.SelectLaws.{agree-placed, two-placed, IsOwn, own-numbers, common, common-typed, comes-back, common-applied, back, in-agreeing_places, in-shared, of-reverse_aux, two-with, in-numbers, bounds-are}
use Rattle.pure_pattern_laws.proofs.LowLaws.{agreeing-bounds, left-bounds, right-bounds}
use Rattle.pure_pattern_laws.proofs.SolvedLaws.{AreLongImages, image-below, flexible-body, solved-bodies, rigid-front, occurs-unsolved}

-- The settings agree with the map: each variable has the image that its setting gives it.
abbrev pub Fits : (Term → Term) → List TermBind → Type 0
Fits terms bs = Each (λ b. HaveOneLongForm (terms (term_variable b)) (inst_term terms b.image)) bs

-- A map that agrees with another on variables of lower indexes, and with these settings.
pub record IsExtension (index : ℕ) (terms : Term → Term) (bs : List TermBind) : Type 0 where
  pub map : Term → Term
  pub substitution : IsTermSubstitution map
  pub old : (x i : ℕ) (T : Typ) → i + 1 ≤ index → map (Var x i T) ≡ terms (Var x i T)
  pub fixed : (x : ℕ) (T : Typ) → map (Free x T) ≡ terms (Free x T)
  pub fits : Fits map bs

-- Lists and heads.
-- What stands in the one list and in the other, at the places of the other.
pub at-match : {A : Type 0} (R : ℕ → A → Type 0) (z : ℕ) (ws : List ℕ) (ys : List A) → EachTwo R ws ys → list_any (nat_eq z) ws ≡ true → (y : A) × (at_place z ws ys ≡ Some y) × R z y
at-match R z [] ys h e = absurd (cc)
at-match R z (w ∷ ws) [] h e = absurd h
at-match R z (w ∷ ws) (y ∷ ys) h e = by_cases (nat_eq z w) refl e (λ k. at-match R z ws ys h.1 k)
  where
    by_cases : (b : Bool) → nat_eq z w ≡ b → (b || list_any (nat_eq z) ws) ≡ true → (list_any (nat_eq z) ws ≡ true → (x : _) × (at_place z ws ys ≡ Some x) × R z x)
        → (x : _) × ((if b then Some y else at_place z ws ys) ≡ Some x) × R z x
    by_cases true t f rest = (y, refl, subst (λ v. R v y) (sym (eqb-true z w t)) h.0)
    by_cases false t f rest = rest f

at-none : {A : Type 0} (z : ℕ) (ws : List ℕ) (ys : List A) → list_any (nat_eq z) ws ≡ false → at_place z ws ys ≡ None
at-none z [] ys e = refl
at-none z (w ∷ ws) [] e = refl
at-none z (w ∷ ws) (y ∷ ys) e = by_cases (nat_eq z w) e (λ k. at-none z ws ys k)
  where
    by_cases : (b : Bool) → (b || list_any (nat_eq z) ws) ≡ false → (list_any (nat_eq z) ws ≡ false → at_place z ws ys ≡ None) → (if b then Some y else at_place z ws ys) ≡ None
    by_cases true f rest = absurd (cc)
    by_cases false f rest = rest f

pub shared-match : {A : Type 0} (R : ℕ → A → Type 0) (zs ws : List ℕ) (ys : List A) → EachTwo R ws ys → EachTwo R (shared_left zs ws zs) (shared_right zs ws ys)
shared-match R [] ws ys h = tt
shared-match R (z ∷ zs) ws ys h = by_cases (list_any (nat_eq z) ws) refl (shared-match R zs ws ys h)
  where
    by_cases : (b : Bool) → list_any (nat_eq z) ws ≡ b → EachTwo R (shared_left zs ws zs) (shared_right zs ws ys)
        → EachTwo R (if b then (z ∷ shared_left zs ws zs) else shared_left zs ws zs) (with_first (at_place z ws ys) (shared_right zs ws ys))
    by_cases true e rest = (let found = at-match R z ws ys h e in rw found.1 (found.2, rest))
    by_cases false e rest = rw (at-none z ws ys e) rest

two-same : (bs : List Typ) (qs : List ℕ) (Us Vs : List Typ) → EachTwo (λ q V. slice_get bs q ≡ Some V) qs Us → EachTwo (λ q V. slice_get bs q ≡ Some V) qs Vs → Us ≡ Vs
two-same bs [] [] [] h k = refl
two-same bs [] [] (V ∷ Vs) h k = absurd k
two-same bs [] (U ∷ Us) Vs h k = absurd h
two-same bs (q ∷ qs) [] Vs h k = absurd h
two-same bs (q ∷ qs) (U ∷ Us) [] h k = absurd k
two-same bs (q ∷ qs) (U ∷ Us) (V ∷ Vs) h k = λ l. some-same U V (sym h.0 ∙ k.0) l ∷ two-same bs qs Us Vs h.1 k.1 l

in-places : (Ts : List Typ) (zs : List ℕ) (p : ℕ) (V : Typ) → length zs ≡ length Ts → slice_get (under Ts []) p ≡ Some V → IsIn (place_in (reverse zs) p) zs
in-places Ts zs p V n e =
    let low = low-place (under Ts []) p V e in
    let high = length-under Ts [] in
    let long = length-reverse zs in
    elim (of-reverse_aux (place_in (reverse zs) p) zs [] (in-place (reverse zs) p (omega arith))) [ inl m ↦ m | inr m ↦ absurd m ]

-- A bound variable that heads the image is renamed to one of zs.
bound-escapes : (k : Term) (p : ℕ) (zs : List ℕ) (Ts : List Typ) (V : Typ) → length zs ≡ length Ts → HasType (under Ts []) k V → renaming (place_in (reverse zs)) k ≡ Bound p → ¬ IsIn p zs → ⊥
bound-escapes (Bound q) p zs Ts V n typed e out = (let same : place_in (reverse zs) q ≡ p = cc in out (subst (λ m. IsIn m zs) same (in-places Ts zs q V n typed)))
bound-escapes (Const c U) p zs Ts V n typed e out = absurd (cc)
bound-escapes (Free y U) p zs Ts V n typed e out = absurd (cc)
bound-escapes (Var y j U) p zs Ts V n typed e out = absurd (cc)
bound-escapes (Abs U b) p zs Ts V n typed e out = absurd (cc)
bound-escapes (App f b) p zs Ts V n typed e out = absurd (cc)

written-own : (T : Typ) (zs : List ℕ) (k h : Term) (U : Typ) → IsWritten T zs k h U → HasType (under (domains T) []) h U
written-own T zs k h U IsWritten.constant = refl
written-own T zs k h U IsWritten.fixed = refl
written-own T zs k h U (IsWritten.bound {p = p} e f) = at_place-both (HasType (under (domains T) [])) p zs (own_bounds T) (domains T) h U (own-typed T) e f

-- The image's head is the head of the other side as it is written there.
renamed-constant : (r : ℕ → ℕ) (t : Term) (c : ℕ) (U : Typ) → renaming r t ≡ Const c U → t ≡ Const c U
renamed-constant r (Const d V) c U e = e
renamed-constant r (Free y V) c U e = absurd (cc)
renamed-constant r (Var y j V) c U e = absurd (cc)
renamed-constant r (Bound q) c U e = absurd (cc)
renamed-constant r (Abs V b) c U e = absurd (cc)
renamed-constant r (App f b) c U e = absurd (cc)

renamed-fixed : (r : ℕ → ℕ) (t : Term) (c : ℕ) (U : Typ) → renaming r t ≡ Free c U → t ≡ Free c U
renamed-fixed r (Const d V) c U e = absurd (cc)
renamed-fixed r (Free y V) c U e = e
renamed-fixed r (Var y j V) c U e = absurd (cc)
renamed-fixed r (Bound q) c U e = absurd (cc)
renamed-fixed r (Abs V b) c U e = absurd (cc)
renamed-fixed r (App f b) c U e = absurd (cc)

renamed-bound : (r : ℕ → ℕ) (t : Term) (p : ℕ) → renaming r t ≡ Bound p → (q : ℕ) × (t ≡ Bound q) × (r q ≡ p)
renamed-bound r (Bound q) p e = (q, refl, cc)
renamed-bound r (Const d V) p e = absurd (cc)
renamed-bound r (Free y V) p e = absurd (cc)
renamed-bound r (Var y j V) p e = absurd (cc)
renamed-bound r (Abs V b) p e = absurd (cc)
renamed-bound r (App f b) p e = absurd (cc)

-- the bound variable that is written for p, and where it stands
place-own : (p : ℕ) (zs ns : List ℕ) (us : List Term) (h : Term) → EachTwo (λ u k. u ≡ Bound k) us ns → (R : ℕ → ℕ → Type 0) → EachTwo R zs ns → at_place p zs us ≡ Some h → (k : ℕ) × (h ≡ Bound k) × R p k
place-own p [] ns us h m R k e = absurd (cc)
place-own p (z ∷ zs) ns [] h m R k e = absurd (cc)
place-own p (z ∷ zs) [] (u ∷ us) h m R k e = absurd m
place-own p (z ∷ zs) (n ∷ ns) (u ∷ us) h m R k e = elim (first-some (nat_eq p z) u h (at_place p zs us) e) [
  | inl t ↦ (n, sym t.1 ∙ m.0, subst (λ v. R v n) (sym (eqb-true p z t.0)) k.0)
  | inr t ↦ place-own p zs ns us h m.1 R k.1 t.1
]

written-is : (T : Typ) (zs : List ℕ) (k h f : Term) (U V : Typ) → AreDistinct zs → length zs ≡ length (domains T) → HasType (under (domains T) []) f V → IsWritten T zs k h U → renaming (place_in (reverse zs)) f ≡ k → f ≡ h
written-is T zs k h f U V d n typed (IsWritten.constant {c = c} {U = W}) e = renamed-constant (place_in (reverse zs)) f c W e
written-is T zs k h f U V d n typed (IsWritten.fixed {y = y} {U = W}) e = renamed-fixed (place_in (reverse zs)) f y W e
written-is T zs k h f U V d n typed (IsWritten.bound {p = p} at types) e =
    let own = renamed-bound (place_in (reverse zs)) f p e in
    let match : EachTwo (IsOwn zs) zs (numbers (length (domains T))) = subst (λ m. EachTwo (IsOwn zs) zs (numbers m)) n (own-numbers zs) in
    let there = place-own p zs (numbers (length (domains T))) (own_bounds T) h (bounds-are (length (domains T))) (IsOwn zs) match at in
    let low = low-place (under (domains T) []) own.0 V (subst (λ t. HasType (under (domains T) []) t V) own.1 typed) in
    let high = length-under (domains T) [] in
    let bound = there.2.low in
    let same : own.0 ≡ there.0 = reverse-apart (domains T) zs d n own.0 there.0 low (omega arith) (own.2 ∙ sym there.2.is) in
    own.1 ∙ (ap Bound same ∙ sym there.1)

kept-head : (on : Term → Term) → ((y : ℕ) (V : Typ) → on (Free y V) ≡ Free y V) → (h : Term) → IsRigidHead h → inst_term on h ≡ h
kept-head on fixed (Const c V) k = refl
kept-head on fixed (Free y V) k = fixed y V
kept-head on fixed (Bound p) k = refl
kept-head on fixed (Var y j V) k = absurd k
kept-head on fixed (Abs V b) k = absurd k
kept-head on fixed (App f a) k = absurd k

occurs-below : (x i : ℕ) (T : Typ) (Ts : List Typ) (t : Term) → Occurs (Var x i T) (below Ts t) → Occurs (Var x i T) t
occurs-below x i T [] t o = o
occurs-below x i T (V ∷ Ts) t (inl e) = absurd (cc)
occurs-below x i T (V ∷ Ts) t (inr o) = occurs-below x i T Ts t o

reduces-below : (Ts : List Typ) {t u : Term} → BetaReduces t u → BetaReduces (below Ts t) (below Ts u)
reduces-below [] r = r
reduces-below (T ∷ Ts) r = reduces-body T (reduces-below Ts r)

below-instance : (on : Term → Term) (Ts : List Typ) (t : Term) → inst_term on (below Ts t) ≡ below Ts (inst_term on t)
below-instance on [] t = refl
below-instance on (T ∷ Ts) t = ap (Abs T) (below-instance on Ts t)

bounds-instance : (on : Term → Term) (zs : List ℕ) (f : Term) → inst_term on (applied f (bound_terms zs)) ≡ applied (inst_term on f) (bound_terms zs)
bounds-instance on [] f = refl
bounds-instance on (z ∷ zs) f = bounds-instance on zs (App f (Bound z))

-- Where a new variable's image, applied to the variables that are kept, gives the body of the old image, the setting agrees.
selection-reduces : (on : Term → Term) (index : ℕ) (T : Typ) (Us : List Typ) (us : List Term) (ks : List ℕ) (J b : Term) → on (Var 0 index (function_typ Us (range T))) ≡ J → us ≡ bound_terms ks → BetaReduces (applied J (bound_terms ks)) b
    → BetaReduces (inst_term on (selection index T Us us)) (below (domains T) b)
selection-reduces on index T Us us ks J b e same r =
    let v = Var 0 index (function_typ Us (range T)) in
    let whole : inst_term on (selection index T Us us) ≡ below (domains T) (applied J (bound_terms ks)) =
    below-instance on (domains T) (applied v us) ∙ ap (below (domains T)) (ap (λ ts. inst_term on (applied v ts)) same ∙ (bounds-instance on ks v ∙ ap (λ u. applied u (bound_terms ks)) e)) in
    subst (λ u. BetaReduces u (below (domains T) b)) (sym whole) (reduces-below (domains T) r)

setting-fits : (on : Term → Term) → IsTermSubstitution on → (v plain u w : Term) → IsLongForm w w → on v ≡ w → IsLongForm plain u → BetaReduces (inst_term on plain) w → HaveOneLongForm (on v) (inst_term on u)
setting-fits on s v plain u w long e form r =
    let own = long_form_of_normal w w long in
    let first = long-from_reduct (inst_term on plain) w w r own in
    let second = (long-instance on s plain u w (long_form_of_normal plain u form)).0 first in
    subst (λ t. HaveOneLongForm t (inst_term on u)) (sym e) (w, own, second)

module _ (terms : Term → Term) (s : IsTermSubstitution terms) (long : AreLongImages terms) where
  new-read : (index : ℕ) (Us : List Typ) (R : Typ) (J : Term) → extended (bind 0 index (function_typ Us R) J ∷ []) terms (Var 0 index (function_typ Us R)) ≡ J
  new-read index Us R J = rw (term_eq-itself (Var 0 index (function_typ Us R))) refl

  new-old : (index : ℕ) (Us : List Typ) (R : Typ) (J : Term) (x i : ℕ) (T : Typ) → i + 1 ≤ index → extended (bind 0 index (function_typ Us R) J ∷ []) terms (Var x i T) ≡ terms (Var x i T)
  new-old index Us R J x i T le = old-stays terms s index [] 0 (function_typ Us R ∷ []) (J ∷ []) x i T le

  -- Two flexible sides: what stands below the abstractions is one and the same.
  module _ (S : Typ) (l r : Term) (left : IsLong [] l l S) (right : IsLong [] r r S) (lp : IsPattern l) (rp : IsPattern r) (solved : HaveOneLongForm (inst_term terms l) (inst_term terms r)) where
    same-met : put_in terms (below-of [] l S left).body ≡ put_in terms (below-of [] r S right).body
    same-met = solved-bodies terms s long S l r left right lp rp solved (below-of [] l S left) (below-of [] r S right)

    -- `?F zs` and `?F ws`
    pub one-extension : (index x i : ℕ) (T : Typ) (zs ws : List ℕ) (u : Term) → i + 1 ≤ index → IsFlexibleSide l x i T zs → IsFlexibleSide r x i T ws → IsLongForm (agreeing_image index T zs ws) u → IsExtension index terms (bind x i T u ∷ [])
    one-extension index x i T zs ws u le a b form =
        let bs = under (domains S) [] in
        let lb = below-of [] l S left in
        let rb = below-of [] r S right in
        let w = put_in terms lb.body in
        let c = image-below terms s long x i T in
        let fa = flexible-side l S x i T zs lb a in
        let fb = flexible-side r S x i T ws rb b in
        let is : renaming (place_in (reverse zs)) c.body ≡ w = sym (flexible-body terms s long l S x i T zs lb a) in
        let other : renaming (place_in (reverse ws)) c.body ≡ w = sym (same-met ∙ flexible-body terms s long r S x i T ws rb b) in
        let typed : HasType bs w (range T) = subst (λ t. HasType bs t (range T)) is (renaming-typed (place_in (reverse zs)) (under (domains T) []) bs (scoped-places (domains T) zs bs [] [] fa.types (λ q U z. absurd (cc))) c.body (range T) c.long.typed) in
        let qs = agreeing zs ws zs in
        let ks = agreeing zs ws (numbers (length (domains T))) in
        let Us = agreeing zs ws (domains T) in
        let types : EachTwo (λ q U. slice_get bs q ≡ Some U) qs Us = agreeing-two (λ q U. slice_get bs q ≡ Some U) zs ws zs (domains T) fa.types in
        let own : EachTwo (IsOwn zs) qs ks = agreeing-two (IsOwn zs) zs ws zs (numbers (length (domains T))) (subst (λ n. EachTwo (IsOwn zs) zs (numbers n)) fa.domains_long (own-numbers zs)) in
        let own_zs : EachTwo (λ z k. place_in (reverse zs) k ≡ z) zs (numbers (length (domains T))) = two-with (IsOwn zs) (λ z k. place_in (reverse zs) k ≡ z) zs (numbers (length (domains T))) (λ z k m o. o.is) (subst (λ n. EachTwo (IsOwn zs) zs (numbers n)) fa.domains_long (own-numbers zs)) in
        let own_ws : EachTwo (λ z k. place_in (reverse ws) k ≡ z) ws (numbers (length (domains T))) = two-with (IsOwn ws) (λ z k. place_in (reverse ws) k ≡ z) ws (numbers (length (domains T))) (λ z k m o. o.is) (subst (λ n. EachTwo (IsOwn ws) ws (numbers n)) fb.domains_long (own-numbers ws)) in
        let J = below Us (common bs w (range T) typed qs Us types) in
        let kept : placed (back bs w (range T) typed qs Us types (domains T) zs ks c.body a.places.distinct fa.domains_long is own) c.body ≡ c.body =
        agree-placed (place_in (reverse zs)) (place_in (reverse ws)) (back bs w (range T) typed qs Us types (domains T) zs ks c.body a.places.distinct fa.domains_long is own) (under (domains T) [])
        (λ p V e agree. comes-back bs w (range T) typed qs Us types (domains T) zs ks c.body a.places.distinct fa.domains_long is own p V e
        (in-agreeing_places (place_in (reverse zs)) (place_in (reverse ws)) zs ws (numbers (length (domains T))) p own_zs own_ws (in-numbers (length (domains T)) p (let low = low-place (under (domains T) []) p V e in let high = length-under (domains T) [] in omega arith)) agree))
        c.body (range T) c.long.typed (is ∙ sym other) in
        let reduces : BetaReduces (applied J (bound_terms ks)) c.body = common-applied bs w (range T) typed qs Us types (domains T) zs ks c.body a.places.distinct fa.domains_long is own kept in
        let entry = bind 0 index (function_typ Us (range T)) J in
        let on = extended (entry ∷ []) terms in
        let substitution : IsTermSubstitution on = extended-substitution terms s (entry ∷ []) (common-typed bs w (range T) typed qs Us types, tt) in
        let old = new-old index Us (range T) J in
        let whole : BetaReduces (inst_term on (agreeing_image index T zs ws)) (terms (Var x i T)) = subst (BetaReduces (inst_term on (agreeing_image index T zs ws))) (sym c.is) (selection-reduces on index T Us (agreeing zs ws (own_bounds T)) ks J c.body (new-read index Us (range T) J) (agreeing-bounds T zs ws) reduces) in
        record {
          map = on;
          substitution = substitution;
          old = old;
          fixed = λ y V. fixed-extended terms s (entry ∷ []) y V;
          fits = (setting-fits on substitution (Var x i T) (agreeing_image index T zs ws) u (terms (Var x i T)) (long x i T) (old x i T le) form whole, tt);
        }

    -- `?F zs` and `?G ws`
    pub two-extension : (index x i y j : ℕ) (T U : Typ) (zs ws : List ℕ) (u v : Term) → i + 1 ≤ index → j + 1 ≤ index → IsFlexibleSide l x i T zs → IsFlexibleSide r y j U ws → IsLongForm (left_image index T zs ws) u → IsLongForm (right_image index U zs ws) v
        → IsExtension index terms (bind x i T u ∷ bind y j U v ∷ [])
    two-extension index x i y j T U zs ws u v le lj a b form other_form =
        let bs = under (domains S) [] in
        let lb = below-of [] l S left in
        let rb = below-of [] r S right in
        let w = put_in terms lb.body in
        let c = image-below terms s long x i T in
        let d = image-below terms s long y j U in
        let fa = flexible-side l S x i T zs lb a in
        let fb = flexible-side r S y j U ws rb b in
        let is : renaming (place_in (reverse zs)) c.body ≡ w = sym (flexible-body terms s long l S x i T zs lb a) in
        let other : renaming (place_in (reverse ws)) d.body ≡ w = sym (same-met ∙ flexible-body terms s long r S y j U ws rb b) in
        let typed : HasType bs w (range T) = subst (λ t. HasType bs t (range T)) is (renaming-typed (place_in (reverse zs)) (under (domains T) []) bs (scoped-places (domains T) zs bs [] [] fa.types (λ q V z. absurd (cc))) c.body (range T) c.long.typed) in
        let qs = shared_left zs ws zs in
        let ks = shared_left zs ws (numbers (length (domains T))) in
        let ms = shared_right zs ws (numbers (length (domains U))) in
        let Us = shared_left zs ws (domains T) in
        let Vs = shared_right zs ws (domains U) in
        let types : EachTwo (λ q V. slice_get bs q ≡ Some V) qs Us = shared_left-two (λ q V. slice_get bs q ≡ Some V) zs ws zs (domains T) fa.types in
        let others : EachTwo (λ q V. slice_get bs q ≡ Some V) qs Vs = shared-match (λ q V. slice_get bs q ≡ Some V) zs ws (domains U) fb.types in
        let one_list : Us ≡ Vs = two-same bs qs Us Vs types others in
        let ranges : range T ≡ range U = fa.range_is ∙ sym fb.range_is in
        let own : EachTwo (IsOwn zs) qs ks = shared_left-two (IsOwn zs) zs ws zs (numbers (length (domains T))) (subst (λ n. EachTwo (IsOwn zs) zs (numbers n)) fa.domains_long (own-numbers zs)) in
        let own_ws : EachTwo (IsOwn ws) qs ms = shared-match (IsOwn ws) zs ws (numbers (length (domains U))) (subst (λ n. EachTwo (IsOwn ws) ws (numbers n)) fb.domains_long (own-numbers ws)) in
        let J = below Us (common bs w (range T) typed qs Us types) in
        let left_back = back bs w (range T) typed qs Us types (domains T) zs ks c.body a.places.distinct fa.domains_long is own in
        let right_back = back bs w (range T) typed qs Us types (domains U) ws ms d.body b.places.distinct fb.domains_long other own_ws in
        let left_kept : placed left_back c.body ≡ c.body =
        two-placed (place_in (reverse zs)) (place_in (reverse ws)) left_back (under (domains T) []) (under (domains U) [])
        (λ p m V W e f agree. comes-back bs w (range T) typed qs Us types (domains T) zs ks c.body a.places.distinct fa.domains_long is own p V e
        (in-shared zs ws (place_in (reverse zs) p) (in-places (domains T) zs p V fa.domains_long e) (subst (λ q. IsIn q ws) (sym agree) (in-places (domains U) ws m W fb.domains_long f))))
        c.body d.body (range T) (range U) c.long.typed d.long.typed (is ∙ sym other) in
        let right_kept : placed right_back d.body ≡ d.body =
        two-placed (place_in (reverse ws)) (place_in (reverse zs)) right_back (under (domains U) []) (under (domains T) [])
        (λ p m V W e f agree. comes-back bs w (range T) typed qs Us types (domains U) ws ms d.body b.places.distinct fb.domains_long other own_ws p V e
        (in-shared zs ws (place_in (reverse ws) p) (subst (λ q. IsIn q zs) (sym agree) (in-places (domains T) zs m W fa.domains_long f)) (in-places (domains U) ws p V fb.domains_long e)))
        d.body c.body (range U) (range T) d.long.typed c.long.typed (other ∙ sym is) in
        let left_reduces : BetaReduces (applied J (bound_terms ks)) c.body = common-applied bs w (range T) typed qs Us types (domains T) zs ks c.body a.places.distinct fa.domains_long is own left_kept in
        let right_reduces : BetaReduces (applied J (bound_terms ms)) d.body = common-applied bs w (range T) typed qs Us types (domains U) ws ms d.body b.places.distinct fb.domains_long other own_ws right_kept in
        let entry = bind 0 index (function_typ Us (range T)) J in
        let on = extended (entry ∷ []) terms in
        let substitution : IsTermSubstitution on = extended-substitution terms s (entry ∷ []) (common-typed bs w (range T) typed qs Us types, tt) in
        let old = new-old index Us (range T) J in
        let read : on (Var 0 index (function_typ Us (range T))) ≡ J = new-read index Us (range T) J in
        let read_right : on (Var 0 index (function_typ Vs (range U))) ≡ J = subst (λ F. on (Var 0 index F) ≡ J) (λ l. function_typ (one_list l) (ranges l)) read in
        let first : BetaReduces (inst_term on (left_image index T zs ws)) (terms (Var x i T)) = subst (BetaReduces (inst_term on (left_image index T zs ws))) (sym c.is) (selection-reduces on index T Us (shared_left zs ws (own_bounds T)) ks J c.body read (left-bounds T zs ws) left_reduces) in
        let second : BetaReduces (inst_term on (right_image index U zs ws)) (terms (Var y j U)) = subst (BetaReduces (inst_term on (right_image index U zs ws))) (sym d.is) (selection-reduces on index U Vs (shared_right zs ws (own_bounds U)) ms J d.body read_right (right-bounds U zs ws) right_reduces) in
        record {
          map = on;
          substitution = substitution;
          old = old;
          fixed = λ y V. fixed-extended terms s (entry ∷ []) y V;
          fits = (
            setting-fits on substitution (Var x i T) (left_image index T zs ws) u (terms (Var x i T)) (long x i T) (old x i T le) form first,
            (setting-fits on substitution (Var y j U) (right_image index U zs ws) v (terms (Var y j U)) (long y j U) (old y j U lj) other_form second, tt),
          );
        }

    -- `?F zs` and a rigid side
    module _ (rigid : is_flexible r ≡ false) (x i : ℕ) (T : Typ) (zs : List ℕ) (a : IsFlexibleSide l x i T zs) where
      -- the head of the image of `?F`, and how it is renamed
      image-head : renaming (place_in (reverse zs)) (front (image-below terms s long x i T).body) ≡ head r
      image-head =
          let lb = below-of [] l S left in
          let rb = below-of [] r S right in
          let c = image-below terms s long x i T in
          let is : renaming (place_in (reverse zs)) c.body ≡ put_in terms rb.body = sym (flexible-body terms s long l S x i T zs lb a) ∙ same-met in
          let at_head : head r ≡ front rb.body = ap front (side-body r S rb) in
          let stiff : IsRigidHead (front rb.body) = subst IsRigidHead at_head (head-rigid r right.normal rigid) in
          sym (front-renaming (place_in (reverse zs)) c.body) ∙ (ap front is ∙ (rigid-front terms s long rb.body stiff ∙ sym at_head))

      pub escapes-unsolved : (p : ℕ) → head r ≡ Bound p → ¬ IsIn p zs → ⊥
      escapes-unsolved p e n =
          let c = image-below terms s long x i T in
          let lb = below-of [] l S left in
          let fa = flexible-side l S x i T zs lb a in
          let spine = spine-typed (under (domains T) []) c.body (range T) c.long.typed in
          bound-escapes (front c.body) p zs (domains T) (function_typ spine.0 (range T)) fa.domains_long spine.1 (image-head ∙ e) n

      pub occurs-fails : Occurs (Var x i T) r → ⊥
      occurs-fails o =
          let lb = below-of [] l S left in
          let rb = below-of [] r S right in
          let stiff : is_schematic (front rb.body) ≡ false = sym (ap (λ t. is_schematic (front t)) (side-body r S rb)) ∙ rigid in
          let inside : Occurs (Var x i T) rb.body = occurs-below x i T (domains S) rb.body (subst (Occurs (Var x i T)) rb.is o) in
          let pattern : IsPattern rb.body = pattern-below (domains S) rb.body (subst IsPattern rb.is rp) in
          occurs-unsolved terms s long (under (domains S) []) x i T rb.body (range S) zs (long-front (under (domains S) []) rb.body (range S) rb.long rb.bare) stiff pattern inside (sym (flexible-body terms s long l S x i T zs lb a) ∙ same-met)

      pub imitation-extension : (index : ℕ) (h u : Term) (U : Typ) → i + 1 ≤ index → IsWritten T zs (head r) h U → IsLongForm (image_of index (domains T) h (domains U)) u → IsExtension index terms (bind x i T u ∷ [])
      imitation-extension index h u U le written form =
          let c = image-below terms s long x i T in
          let lb = below-of [] l S left in
          let fa = flexible-side l S x i T zs lb a in
          let bs = under (domains T) [] in
          let spine = spine-typed bs c.body (range T) c.long.typed in
          let Us = spine.0 in
          let cs = arguments c.body in
          let head_is : front c.body ≡ h = written-is T zs (head r) h (front c.body) U (function_typ Us (range T)) a.places.distinct fa.domains_long spine.1 written image-head in
          let typed : HasType bs h (function_typ Us (range T)) = subst (λ k. HasType bs k (function_typ Us (range T))) head_is spine.1 in
          let own : HasType bs h U = written-own T zs (head r) h U written in
          let types : domains U ≡ Us = ap domains (typed-once bs h U (function_typ Us (range T)) own typed) ∙ (head-domains Us T).0 in
          let es = entries index (domains T) 0 Us cs in
          let on = extended es terms in
          let substitution : IsTermSubstitution on = extended-substitution terms s es (entries-typed index (domains T) 0 Us cs spine.2) in
          let old : (y j : ℕ) (V : Typ) → j + 1 ≤ index → on (Var y j V) ≡ terms (Var y j V) = λ y j V lt. old-stays terms s index (domains T) 0 Us cs y j V lt in
          let kept : inst_term on h ≡ h = kept-head on (λ y V. fixed-extended terms s es y V ∙ fixed-stays terms s y V) h (written-rigid T zs (head r) h U written) in
          let reduces = image-reduces terms s on index (domains T) h Us cs (λ y V. refl) kept spine.2 in
          let body : applied h cs ≡ c.body = ap (λ k. applied k cs) (sym head_is) ∙ applied-spine c.body in
          let whole : below (domains T) (applied h cs) ≡ terms (Var x i T) = ap (below (domains T)) body ∙ sym c.is in
          let plain : image_of index (domains T) h (domains U) ≡ image_of index (domains T) h Us = ap (image_of index (domains T) h) types in
          let comes : BetaReduces (inst_term on (image_of index (domains T) h (domains U))) (terms (Var x i T)) = subst (λ t. BetaReduces (inst_term on t) (terms (Var x i T))) (sym plain) (subst (BetaReduces (inst_term on (image_of index (domains T) h Us))) whole reduces) in
          record {
            map = on;
            substitution = substitution;
            old = old;
            fixed = λ y V. fixed-extended terms s es y V;
            fits = (setting-fits on substitution (Var x i T) (image_of index (domains T) h (domains U)) u (terms (Var x i T)) (long x i T) (old x i T le) form comes, tt);
          }
