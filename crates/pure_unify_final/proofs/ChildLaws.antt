-- What solves a simplified node solves one of its children: the variable's image begins as the image of that child.
use Rattle.std.proofs.Common.{◌≡◌, ◌⊎◌, ℕ, zero, suc, ◌+◌, ◌≤◌, inl, inr, List, [], ◌∷◌, length, Bool, true, false, ap, refl, sym, subst, ◌∙◌, arith, slice_get, Some}
use Rattle.std.specs.Prelude.{◌-◌, if◌then◌else◌}
use Rattle.pure_text.specs.Lists.{IsIn, Each, EachTwo}
use Rattle.pure_text.proofs.ListLaws.{in-append_right, in-map}
use Rattle.pure_definitions.specs.Types.Typ.{Typ, typ_eq}
use Rattle.pure_definitions.specs.Models.Equality.{typ_eq-itself}
use Rattle.pure_definitions.specs.Terms.Term.{Term, Const, Free, Var, Bound, Abs, App}
use Rattle.pure_definitions.specs.Terms.Typing.{HasType}
use Rattle.pure_definitions.specs.Terms.Subst.{TermBind, inst_term}
use Rattle.pure_definitions.specs.Reduction.Beta.{IsAbs, IsBetaNormal}
use Rattle.pure_term_laws.proofs.TypingLaws.{typed-once}
use Rattle.pure_eta.proofs.LongLaws.{IsLong}
use Rattle.pure_logic.specs.Derivable.{Pair}
use Rattle.pure_reduction.specs.Steps.{BetaReduces}
use Rattle.pure_reduction.specs.LongForms.{HasLongForm, HaveOneLongForm}
use Rattle.pure_reduction.proofs.LongLaws.{long_form_of_normal, long-from_reduct}
use Rattle.pure_unify_definitions.specs.Fronts.{front, head, arguments, is_schematic, below, domains, range, function_typ, applied, bounds}
use Rattle.pure_unify_definitions.specs.Node.{Node, Single, bind}
use Rattle.pure_unify_definitions.specs.Children.{new_arguments, image_of, imitations, projections, images, child, children}
use Rattle.pure_unify_laws.proofs.SplitLaws.{under}
use Rattle.pure_unify_answers.proofs.PartLaws.{HasParts}
use Rattle.pure_unify_answers.proofs.SpineLaws.{HavePartsIn}
use Rattle.pure_unify_answers.proofs.FitLaws.{put-each, set-parts}
use Rattle.pure_solutions.specs.Solutions.{IsTermSubstitution, SolvesPairs}
use Rattle.pure_solutions.proofs.SolutionLaws.{image-typed, fixed-stays}
use Rattle.pure_unify_final.proofs.SideLaws.{long_form-long, IsRigidHead}
use Rattle.pure_unify_final.proofs.RuleLaws.{AnyTyp, IsUpTo, AreSolvedIn, set-solved}
use Rattle.pure_unify_final.proofs.FailLaws.{AreImagesLong}
use Rattle.pure_unify_final.proofs.HeadLaws.{IsSolid, IsTag, tag, image-head}
use Rattle.pure_unify_final.proofs.BuiltLaws.{IsBuilt, built, applied-spine, spine-typed, head-domains, head-below}
use Rattle.pure_unify_final.proofs.ExtendLaws.{extended, entries, entries-typed, extended-substitution, fixed-extended, old-stays, image-reduces}

-- The images of the children.
behind : (x y : Term) (rest : List Term) (b : Bool) → IsIn x rest → IsIn x (if b then y ∷ rest else rest)
behind x y rest true m = inr m
behind x y rest false m = m

in-projections : (index : ℕ) (Ts : List Typ) (R U : Typ) (Us : List Typ) (from j p : ℕ) → slice_get Us j ≡ Some U → range U ≡ R → p + (from + (j + 1)) ≡ length Ts → IsIn (image_of index Ts (Bound p) (domains U)) (projections index Ts R from Us)
in-projections index Ts R U [] from j p e r n = absurd (cc)
in-projections index Ts R U (V ∷ Us) from zero p e r n =
    let same : V ≡ U = cc in
    let here : length Ts - (from + 1) ≡ p = omega arith in
    let fits : typ_eq (range V) R ≡ true = rw (same, ← r) (typ_eq-itself (range U)) in
    rw (fits, here, same) (inl refl)
in-projections index Ts R U (V ∷ Us) from (suc j) p e r n =
    behind (image_of index Ts (Bound p) (domains U)) (image_of index Ts (Bound (length Ts - (from + 1))) (domains V)) (projections index Ts R (from + 1) Us) (typ_eq (range V) R) (in-projections index Ts R U Us (from + 1) j p e r (omega arith))

-- a place among the binders of abstractions, or outside them
placed : (Ts cs : List Typ) (p : ℕ) (U : Typ) → slice_get (under Ts cs) p ≡ Some U
    → ((j : ℕ) × (slice_get Ts j ≡ Some U) × (p + (j + 1) ≡ length Ts)) ⊎ ((q : ℕ) × (slice_get cs q ≡ Some U) × (p ≡ length Ts + q))
placed [] cs p U e = inr (p, e, omega arith)
placed (T ∷ Ts) cs p U e = by_cases (placed Ts (T ∷ cs) p U e)
  where
    by_cases : ((j : ℕ) × (slice_get Ts j ≡ Some U) × (p + (j + 1) ≡ length Ts)) ⊎ ((q : ℕ) × (slice_get (T ∷ cs) q ≡ Some U) × (p ≡ length Ts + q))
        → ((j : ℕ) × (slice_get (T ∷ Ts) j ≡ Some U) × (p + (j + 1) ≡ length (T ∷ Ts))) ⊎ ((q : ℕ) × (slice_get cs q ≡ Some U) × (p ≡ length (T ∷ Ts) + q))
    by_cases (inl (j, f, n)) = inl (suc j, f, omega arith)
    by_cases (inr (zero, f, n)) = inl (zero, f, omega arith)
    by_cases (inr (suc q, f, n)) = inr (q, f, omega arith)

solid-same : (h k : Term) → IsSolid k → tag h ≡ k → h ≡ k
solid-same (Const c T) k n e = e
solid-same (Free x T) k n e = e
solid-same (Var x i T) k n e = e
solid-same (Bound p) k n e = absurd (subst IsSolid (sym e) n)
solid-same (Abs T b) k n e = e
solid-same (App f a) k n e = e

-- An image with this head is among those of the children, if a head that isn't bound is that of the rigid side.
image-in : (index : ℕ) (T : Typ) (h k : Term) (F : Typ) → IsTag k → is_schematic k ≡ false → (IsSolid k → tag h ≡ k) → HasType (under (domains T) []) k F → range F ≡ range T
    → IsIn (image_of index (domains T) k (domains F)) (images index T h)
image-in index T h (Const c U) F n v same typed e =
    let one : h ≡ Const c U = solid-same h (Const c U) tt (same tt) in
    rw (one, ← typed) (inl refl)
image-in index T h (Free x U) F n v same typed e =
    let one : h ≡ Free x U = solid-same h (Free x U) tt (same tt) in
    rw (one, ← typed) (inl refl)
image-in index T h (Var x i U) F n v same typed e = absurd (cc)
image-in index T h (Bound p) F n v same typed e = in-append_right (image_of index (domains T) (Bound p) (domains F)) (imitations index (domains T) h) (projections index (domains T) (range T) 0 (domains T)) (by_cases (placed (domains T) [] p F typed))
  where
    by_cases : ((j : ℕ) × (slice_get (domains T) j ≡ Some F) × (p + (j + 1) ≡ length (domains T))) ⊎ ((q : ℕ) × (slice_get (under [] []) q ≡ Some F) × (p ≡ length (domains T) + q))
        → IsIn (image_of index (domains T) (Bound p) (domains F)) (projections index (domains T) (range T) 0 (domains T))
    by_cases (inl (j, f, m)) = in-projections index (domains T) (range T) F (domains T) 0 j p f e (omega arith)
    by_cases (inr (q, f, m)) = absurd (cc)
image-in index T h (Abs U b) F n v same typed e = absurd n
image-in index T h (App f a) F n v same typed e = absurd n

-- What stands at the front of a normal term that is no abstraction.
front-tag : (t : Term) → IsBetaNormal t → ¬ IsAbs t → IsTag (front t)
front-tag (App f a) n o = front-tag f n.1 n.0
front-tag (Const c T) n o = tt
front-tag (Free x T) n o = tt
front-tag (Var x i T) n o = tt
front-tag (Bound p) n o = tt
front-tag (Abs T b) n o = o tt

-- The variables of images and of heads.
up-to-more : (n m : ℕ) → n ≤ m → (w : Term) → IsUpTo n w → IsUpTo m w
up-to-more n m le (Var x i T) h = omega arith
up-to-more n m le (Const c T) h = tt
up-to-more n m le (Free x T) h = tt
up-to-more n m le (Bound p) h = tt
up-to-more n m le (Abs T b) h = tt
up-to-more n m le (App f a) h = tt

module _ (V : Term → Type 0) where
  below-parts : (Ts : List Typ) (t : Term) → HasParts AnyTyp V t → HasParts AnyTyp V (below Ts t)
  below-parts [] t h = h
  below-parts (T ∷ Ts) t h = (tt, below-parts Ts t h)

  applied-parts : (f : Term) (ts : List Term) → HasParts AnyTyp V f → Each (HasParts AnyTyp V) ts → HasParts AnyTyp V (applied f ts)
  applied-parts f [] h k = h
  applied-parts f (t ∷ ts) h k = applied-parts (App f t) ts (h, k.0) k.1

  bounds-parts : (n : ℕ) → Each (HasParts AnyTyp V) (bounds n)
  bounds-parts zero = tt
  bounds-parts (suc n) = (tt, bounds-parts n)

  front-parts : (t : Term) → HasParts AnyTyp V t → HasParts AnyTyp V (front t)
  front-parts (App f a) h = front-parts f h.0
  front-parts (Const c T) h = h
  front-parts (Free x T) h = h
  front-parts (Var x i T) h = h
  front-parts (Bound p) h = h
  front-parts (Abs T b) h = h

  pub head-parts : (t : Term) → HasParts AnyTyp V t → HasParts AnyTyp V (head t)
  head-parts (Abs T b) h = head-parts b h.1
  head-parts (App f a) h = front-parts f h.0
  head-parts (Const c T) h = h
  head-parts (Free x T) h = h
  head-parts (Var x i T) h = h
  head-parts (Bound p) h = h

new-parts : (index : ℕ) (Ts : List Typ) (name : ℕ) (Us : List Typ) → Each (HasParts AnyTyp (IsUpTo index)) (new_arguments index Ts name Us)
new-parts index Ts name [] = tt
new-parts index Ts name (U ∷ Us) = (applied-parts (IsUpTo index) (Var name index (function_typ Ts U)) (bounds (length Ts)) (tt, omega arith) (bounds-parts (IsUpTo index) (length Ts)), new-parts index Ts (name + 1) Us)

head-any : (V : Term → Type 0) (k : Term) → IsTag k → is_schematic k ≡ false → HasParts AnyTyp V k
head-any V (Const c T) n e = tt
head-any V (Free x T) n e = tt
head-any V (Bound p) n e = tt
head-any V (Var x i T) n e = absurd (cc)
head-any V (Abs T b) n e = absurd n
head-any V (App f a) n e = absurd n

image_of-parts : (index : ℕ) (Ts : List Typ) (k : Term) (Us : List Typ) → IsTag k → is_schematic k ≡ false → HasParts AnyTyp (IsUpTo index) (image_of index Ts k Us)
image_of-parts index Ts k Us n e = below-parts (IsUpTo index) Ts (applied k (new_arguments index Ts 0 Us)) (applied-parts (IsUpTo index) k (new_arguments index Ts 0 Us) (head-any (IsUpTo index) k n e) (new-parts index Ts 0 Us))

-- A map solves the node's pairs, in which variables have indexes up to the greatest given one and the count of choices.
pub record HasSolution (maxidx : ℕ) (n : Node) : Type 0 where
  pub terms : Term → Term
  pub substitution : IsTermSubstitution terms
  pub variables : Each (HavePartsIn AnyTyp (IsUpTo (maxidx + n.path.choices))) n.pairs
  pub solved : SolvesPairs terms n.pairs

module _ (terms : Term → Term) (s : IsTermSubstitution terms) (long : AreImagesLong terms) where
  kept-head : (es : List TermBind) (k : Term) → IsTag k → is_schematic k ≡ false → inst_term (extended es terms) k ≡ k
  kept-head es (Const c T) n e = refl
  kept-head es (Free x T) n e = fixed-extended terms s es x T ∙ fixed-stays terms s x T
  kept-head es (Bound p) n e = refl
  kept-head es (Var x i T) n e = absurd (cc)
  kept-head es (Abs T b) n e = absurd n
  kept-head es (App f a) n e = absurd n

  module _ (index : ℕ) (Ts Us : List Typ) (cs : List Term) (n : ℕ) (le : n + 1 ≤ index) where
    abbrev more : Term → Term
    more = extended (entries index Ts 0 Us cs) terms

    agree : (t : Term) → HasParts AnyTyp (IsUpTo n) t → inst_term more t ≡ inst_term terms t
    agree (Const c T) h = refl
    agree (Free x T) h = fixed-extended terms s (entries index Ts 0 Us cs) x T
    agree (Var x i T) h = let low = h.1 in old-stays terms s index Ts 0 Us cs x i T (omega arith)
    agree (Bound p) h = refl
    agree (Abs T b) h = ap (Abs T) (agree b h.1)
    agree (App f a) h = λ l. App (agree f h.0 l) (agree a h.1 l)

    still-solved : (ps : List Pair) → Each (HavePartsIn AnyTyp (IsUpTo n)) ps → SolvesPairs terms ps → SolvesPairs more ps
    still-solved [] h k = tt
    still-solved (p ∷ ps) h k = (rw (agree p.left h.0.0, agree p.right h.0.1) k.0, still-solved ps h.1 k.1)

  image-long : (x i : ℕ) (T : Typ) → IsLong [] (terms (Var x i T)) (terms (Var x i T)) T
  image-long x i T =
      let own = long_form-long (terms (Var x i T)) (terms (Var x i T)) (long x i T) in
      subst (IsLong [] (terms (Var x i T)) (terms (Var x i T))) (typed-once [] (terms (Var x i T)) own.0 T own.1.typed (image-typed terms s x i T)) own.1

  -- A rigid side against a side with a variable for its head.
  module _ (maxidx : ℕ) (m : Node) (x i : ℕ) (T : Typ) (h l r : Term) (flexible : head l ≡ Var x i T) (rigid : head r ≡ h) (is : IsRigidHead h) (same : HaveOneLongForm (inst_term terms l) (inst_term terms r))
      (low : i ≤ maxidx + m.path.choices) (sides : AreSolvedIn terms (IsUpTo (maxidx + m.path.choices)) m.pairs) where
    abbrev index : ℕ
    index = maxidx + (m.path.choices + 1)

    abbrev image : Term
    image = terms (Var x i T)

    pub image-built : IsBuilt [] image T
    image-built = built T [] image (image-long x i T)

    solid-head : (k : Term) → head image ≡ k → IsSolid k → tag h ≡ k
    solid-head k e n = rw rigid at (image-head terms s x i T k n e l r flexible (rw rigid is) same)

    rigid-schematic : (k : Term) → IsRigidHead k → (y j : ℕ) (U : Typ) → tag k ≡ Var y j U → ⊥
    rigid-schematic (Const c U) n y j V e = absurd (cc)
    rigid-schematic (Free z U) n y j V e = absurd (cc)
    rigid-schematic (Bound p) n y j V e = absurd (cc)
    rigid-schematic (Var z u U) n y j V e = n
    rigid-schematic (Abs U b) n y j V e = n
    rigid-schematic (App f a) n y j V e = n

    -- The image's head isn't schematic, as the other side is rigid.
    image-rigid : (k : Term) → head image ≡ k → is_schematic k ≡ false
    image-rigid (Var y j U) e = absurd (rigid-schematic h is y j U (solid-head (Var y j U) e tt))
    image-rigid (Const c U) e = refl
    image-rigid (Free y U) e = refl
    image-rigid (Bound p) e = refl
    image-rigid (Abs U b) e = refl
    image-rigid (App f a) e = refl

    pub child-solved : (b : IsBuilt [] image T) → (c : Node) × IsIn c (children maxidx m (Var x i T) h) × HasSolution maxidx c
    child-solved b =
        let k = front b.body in
        let spine = spine-typed (under (domains T) []) b.body (range T) b.typed in
        let Us = spine.0 in
        let cs = arguments b.body in
        let F = function_typ Us (range T) in
        let tagged = front-tag b.body b.normal b.bare in
        let at_head : head image ≡ k = ap head b.is ∙ head-below (domains T) b.body b.bare in
        let apart = image-rigid k at_head in
        let ends = head-domains Us T in
        let u = image_of index (domains T) k (domains F) in
        let among = image-in index T h k F tagged apart (solid-head k at_head) spine.1 ends.1 in
        (child m x i T u, in-map (child m x i T) u (images index T h) among, solution k Us cs u tagged apart (ap (image_of index (domains T) k) ends.0) spine.2 (b.is ∙ ap (below (domains T)) (sym (applied-spine b.body))))
      where
        solution : (k : Term) (Us : List Typ) (cs : List Term) (u : Term) → IsTag k → is_schematic k ≡ false → u ≡ image_of index (domains T) k Us → EachTwo (HasType (under (domains T) [])) cs Us → image ≡ below (domains T) (applied k cs) → HasSolution maxidx (child m x i T u)
        solution k Us cs u tagged apart e typed whole =
            let n = maxidx + m.path.choices in
            let on = more index (domains T) Us cs n (omega arith) in
            let substitution : IsTermSubstitution on = extended-substitution terms s (entries index (domains T) 0 Us cs) (entries-typed index (domains T) 0 Us cs typed) in
            let stays : on (Var x i T) ≡ image = old-stays terms s index (domains T) 0 Us cs x i T (omega arith) in
            let reduces : BetaReduces (inst_term on u) image = rw (e, whole) (image-reduces terms s on index (domains T) k Us cs (λ y V. refl) (kept-head (entries index (domains T) 0 Us cs) k tagged apart) typed) in
            let own : HasLongForm image image = long_form_of_normal image image (long x i T) in
            let one : HaveOneLongForm (on (Var x i T)) (inst_term on u) = rw stays (image, own, long-from_reduct (inst_term on u) image image reduces own) in
            record {
              terms = on;
              substitution = substitution;
              variables = put-each AnyTyp AnyTyp (IsUpTo n) (IsUpTo index) (Single (bind x i T u))
                  (set-parts AnyTyp (IsUpTo n) (IsUpTo index) x i T u (rw e (image_of-parts index (domains T) k Us tagged apart)) (λ w v other. up-to-more n index (omega arith) w v)) m.pairs sides.variables;
              solved = set-solved on substitution x i T u one m.pairs sides.long (still-solved index (domains T) Us cs n (omega arith) m.pairs sides.variables sides.solved);
            }
