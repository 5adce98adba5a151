-- Simplification ends, each node is visited, and so the search has an answer.
use Rattle.std.proofs.Common.{◌≡◌, ◌⊎◌, ℕ, zero, suc, ◌+◌, ◌<◌, ◌≤◌, List, [], ◌∷◌, ◌++◌, map, length, Bool, true, false, ◌||◌, inl, inr, refl, ap, sym, subst, ◌∙◌, arith}
use Rattle.std.proofs.lemmas.Bool.{cases_lt}
use Rattle.pure_text.specs.Lists.{IsIn, Each}
use Rattle.pure_text.proofs.ListLaws.{each-append, each-right, each_of, each_decided}
use Rattle.pure_definitions.specs.Types.Typ.{Typ, TFree, TVar, Con}
use Rattle.pure_definitions.specs.Types.Occurs.{OccursInTyp}
use Rattle.pure_definitions.specs.Types.Order.{Algebra}
use Rattle.pure_definitions.specs.Terms.Term.{Term, Const, Free, Var, Bound, Abs, App, IsWithin}
use Rattle.pure_definitions.specs.Terms.Limits.{IsWithinTyp}
use Rattle.pure_definitions.specs.Terms.Subst.{TypBind, TermBind}
use Rattle.pure_definitions.specs.Declarations.Decl.{algebra_of}
use Rattle.pure_term_laws.specs.LawsOccurs.{TypOccurs}
use Rattle.pure_logic.specs.Content.{Content}
use Rattle.pure_logic.specs.Derivable.{Pair}
use Rattle.pure_tunify.specs.Unifiers.{IsFresh, IsOld}
use Rattle.pure_tunify.proofs.OutcomeLaws.{typ_within_or_not}
use Rattle.pure_unify_definitions.specs.Fronts.{head, is_flexible, pair_variables}
use Rattle.pure_unify_definitions.specs.Node.{Single, Node, root, bind}
use Rattle.pure_unify_definitions.specs.LongSides.{Stop, Big, Sides, AllLong, Stopped, AreLong}
use Rattle.pure_unify_definitions.specs.Treatment.{left}
use Rattle.pure_unify_definitions.specs.Simplification.{IsLeft, with_pairs, Simple, Failed, Halted, Simplifies, simple, step, failed, halted, Visits, visited, visit_stops}
use Rattle.pure_unify_definitions.specs.Children.{IsFlexFlex, HasFlexible, on_left, on_right, IsChoice, images, child, children}
use Rattle.pure_unify_definitions.specs.Search.{max_choices, max_nodes, Unifier, unifier_of, AreImagesWithin, Answer, Unified, NoUnifier, SearchBound, Stopped as AnswerStopped, Searches, over, over_cut, bound, node_fails, node_stops, success, too_large, node_is_cut, inner, IsUnifyAnswer}
use Rattle.pure_unify_laws.specs.Reached.{IsRespecting, AreSidesCertified}
use Rattle.pure_unify_laws.specs.Condition.{HasIndexesUpTo, AreIndexesUpTo, IsUnifyContent, AreUnifiable}
use Rattle.pure_unify_laws.proofs.SplitLaws.{AreSidesLong}
use Rattle.pure_unify_laws.proofs.SolvedLaws.{sides-are-long}
use Rattle.pure_unify_laws.proofs.RespectLaws.{child-kept}
use Rattle.pure_unify_answers.proofs.PartLaws.{HasParts}
use Rattle.pure_unify_answers.proofs.TreatmentLaws.{some_sides, term_within_or_not}
use Rattle.pure_unify_answers.proofs.FewerLaws.{IsOldAmong, old_of_parts}
use Rattle.pure_unify_answers.proofs.SpineLaws.{pair_leaves, HavePartsIn, head-parts, images-parts}
use Rattle.pure_unify_answers.proofs.FitLaws.{sides-parts, put-each, set-parts, pair_schematics, collected, implied-pairs}
use Rattle.pure_unify_answers.proofs.ApplyLaws.{IsFit, GoesOn, IsStepped, is_done, is_failed, is_halted, goes_on, some_step}

false_true : false ≡ true → ⊥
false_true e = cc

neither : (a b : Bool) → a ≡ false → b ≡ false → (a || b) ≡ true → ⊥
neither true b e f h = false_true (sym e)
neither false true e f h = false_true (sym f)
neither false false e f h = false_true h

below_next : (a : ℕ) → a < suc a
below_next a = omega arith

none_below : (a : ℕ) → a < zero → ⊥
none_below a h = absurd (omega arith)

lower : (a b c : ℕ) → a < b → b < suc c → a < c
lower a b c h k = omega arith

no_more : (a b c : ℕ) → a ≤ b → b < suc c → a < suc c
no_more a b c h k = omega arith

-- Pairs that are left are all flexible on both sides, or the first that isn't gives a choice.
flexible_pair : (p : Pair) → IsLeft p → (is_flexible p.left || is_flexible p.right) ≡ true
flexible_pair p (left past e) = e

choice_or_flexible : (ps : List Pair) → Each IsLeft ps → Each IsFlexFlex ps ⊎ ((f : Term) × (h : Term) × IsChoice ps f h)
choice_or_flexible [] lefts = inl tt
choice_or_flexible (p ∷ ps) lefts = by (is_flexible p.left) (is_flexible p.right) refl refl (choice_or_flexible ps lefts.1)
  where
    further : IsFlexFlex p → Each IsFlexFlex ps ⊎ ((f : Term) × (h : Term) × IsChoice ps f h) → Each IsFlexFlex (p ∷ ps) ⊎ ((f : Term) × (h : Term) × IsChoice (p ∷ ps) f h)
    further here (inl rest) = inl (here, rest)
    further here (inr (f, h, c)) = inr (f, h, record { front = p ∷ c.front; pair = c.pair; rest = c.rest; stands = ap (λ qs. p ∷ qs) c.stands; before = (here, c.before); heads = c.heads })

    by : (a b : Bool) → is_flexible p.left ≡ a → is_flexible p.right ≡ b → Each IsFlexFlex ps ⊎ ((f : Term) × (h : Term) × IsChoice ps f h) → Each IsFlexFlex (p ∷ ps) ⊎ ((f : Term) × (h : Term) × IsChoice (p ∷ ps) f h)
    by true true e g rest = further (record { left = e; right = g }) rest
    by true false e g rest = inr (head p.left, head p.right, record { front = []; pair = p; rest = ps; stands = refl; before = tt; heads = on_left e g refl refl })
    by false true e g rest = inr (head p.right, head p.left, record { front = []; pair = p; rest = ps; stands = refl; before = tt; heads = on_right e g refl refl })
    by false false e g rest = absurd (neither (is_flexible p.left) (is_flexible p.right) e g (flexible_pair p lefts.0))

-- Images are within the limits or not.
images_within_or_not : (u : Unifier) → AreImagesWithin u ⊎ ¬ AreImagesWithin u
images_within_or_not u = elim (each_decided (λ (b : TypBind). IsWithinTyp b.image) (λ b. typ_within_or_not b.image) u.typs) [
  | inr beyond ↦ inr (λ h. beyond h.typs)
  | inl typs ↦ elim (each_decided (λ (b : TermBind). IsWithin b.image) (λ b. term_within_or_not b.image) u.terms) [
    | inr beyond ↦ inr (λ h. beyond h.terms)
    | inl terms ↦ inl (record { typs = typs; terms = terms })
  ]
]

-- Terms with indexes up to a number are without fresh type variables of the greater index.
typ_old : (maxidx : ℕ) (whole : Term) → HasIndexesUpTo maxidx whole → (T : Typ) → ((v : Typ) → OccursInTyp v T → TypOccurs v whole) → IsOld (maxidx + 65) 0 T
typ_old maxidx whole h T up v o = by v (up v o)
  where
    apart : (i : ℕ) → i ≤ maxidx → i ≡ maxidx + 65 → ⊥
    apart i k e = absurd (omega arith)

    by : (v : Typ) → TypOccurs v whole → ¬ IsFresh (maxidx + 65) 0 v
    by (TVar x i s) m f = apart i (h.typs x i s m) f.0
    by (TFree x s) m f = f
    by (Con k ts) m f = f

side_old : (maxidx : ℕ) (whole : Term) → HasIndexesUpTo maxidx whole → (t : Term) → ((v : Typ) → TypOccurs v t → TypOccurs v whole) → HasParts (IsOld (maxidx + 65) 0) (λ v. Unit {0}) t
side_old maxidx whole h (Const c T) up = typ_old maxidx whole h T up
side_old maxidx whole h (Free x T) up = typ_old maxidx whole h T up
side_old maxidx whole h (Var x i T) up = (typ_old maxidx whole h T up, tt)
side_old maxidx whole h (Bound n) up = tt
side_old maxidx whole h (Abs T b) up = (typ_old maxidx whole h T (λ v o. up v (inl o)), side_old maxidx whole h b (λ v o. up v (inr o)))
side_old maxidx whole h (App f a) up = (side_old maxidx whole h f (λ v o. up v (inl o)), side_old maxidx whole h a (λ v o. up v (inr o)))

sides_old : (maxidx : ℕ) (ps : List Pair) → Each (AreIndexesUpTo maxidx) ps → Each (HavePartsIn (IsOld (maxidx + 65) 0) (λ v. Unit {0})) ps
sides_old maxidx [] h = tt
sides_old maxidx (p ∷ ps) h = ((side_old maxidx p.left h.0.0 p.left (λ v o. o), side_old maxidx p.right h.0.1 p.right (λ v o. o)), sides_old maxidx ps h.1)

module _ (Q : Content) (u : IsUnifyContent Q) (maxidx : ℕ) where
  abbrev A : Algebra
  A = algebra_of Q.declarations

  -- The types in the sides are without fresh variables.
  abbrev AreOldSides : (from : ℕ) → List Pair → Type 0
  AreOldSides from ps = Each (HavePartsIn (IsOld (maxidx + 65) from) (λ v. Unit {0})) ps

  -- What is known of a node to no pair of which a rule applies.
  record IsSettled (m : Node) (choices : ℕ) : Type 0 where
    respects : Each (IsRespecting Q) m.path.settings
    long : Each (AreSidesLong Q.declarations) m.pairs
    old : AreOldSides m.path.fresh m.pairs
    lefts : Each IsLeft m.pairs
    same : m.path.choices ≡ choices

  data HasOutcome (n : Node) : Type 0 where
    comes : (m : Node) → Simplifies A maxidx n (Simple m) → IsSettled m n.path.choices → HasOutcome n
    fails : Simplifies A maxidx n Failed → HasOutcome n
    halts : (s : Stop) → Simplifies A maxidx n (Halted s) → HasOutcome n

  further : (n : Node) (vs : List Typ) (ws : List Term) (g : GoesOn Q u maxidx n vs ws) → HasOutcome g.to → HasOutcome n
  further n vs ws g (comes m s k) = comes m (step g.applies s) (record { respects = k.respects; long = k.long; old = k.old; lefts = k.lefts; same = k.same ∙ g.choices })
  further n vs ws g (fails s) = fails (step g.applies s)
  further n vs ws g (halts r s) = halts r (step g.applies s)

  -- Simplification ends for nodes with so few type variables; with so few variables; with so few leaves.
  abbrev Ends : ℕ → Type 0
  Ends a = (n : Node) (vs : List Typ) (ws : List Term) → IsFit Q u maxidx n vs ws → length vs < a → HasOutcome n

  abbrev EndsWith : (a b : ℕ) → Type 0
  EndsWith a b = (n : Node) (vs : List Typ) (ws : List Term) → IsFit Q u maxidx n vs ws → length vs < suc a → length ws < b → HasOutcome n

  abbrev EndsAt : (a b c : ℕ) → Type 0
  EndsAt a b c = (n : Node) (vs : List Typ) (ws : List Term) → IsFit Q u maxidx n vs ws → length vs < suc a → length ws < suc b → pair_leaves n.pairs < c → HasOutcome n

  one_step : (a b c : ℕ) → Ends a → EndsWith a b → EndsAt a b c → EndsAt a b (suc c)
  one_step a b c ends ends_with ends_at n vs ws fit h k l = stepped (some_step Q u maxidx n vs ws fit)
    where
      stepped : IsStepped Q u maxidx n vs ws → HasOutcome n
      stepped (is_done lefts) = comes n (simple lefts) (record {
        respects = fit.respects;
        long = fit.long;
        old = implied-pairs (IsOldAmong (maxidx + 65) n.path.fresh vs) (IsOld (maxidx + 65) n.path.fresh) (λ v. IsIn v ws) (λ v. Unit {0}) (λ T c. c.0) (λ x i T m. tt) n.pairs fit.inside;
        lefts = lefts;
        same = refl;
      })
      stepped (is_failed f) = fails (failed f)
      stepped (is_halted s f) = halts s (halted f)
      stepped (goes_on g) = further n vs ws g (elim g.falls [
        | inl few ↦ ends g.to g.typs g.terms g.fit (lower (length g.typs) (length vs) a few h)
        | inr rest ↦ elim rest [
          | inl few ↦ ends_with g.to g.typs g.terms g.fit (no_more (length g.typs) (length vs) a few.0 h) (lower (length g.terms) (length ws) b few.1 k)
          | inr few ↦ ends_at g.to g.typs g.terms g.fit (no_more (length g.typs) (length vs) a few.0 h) (no_more (length g.terms) (length ws) b few.1 k) (lower (pair_leaves g.to.pairs) (pair_leaves n.pairs) c few.2 l)
        ]
      ])

  by_leaves : (a b : ℕ) → Ends a → EndsWith a b → (c : ℕ) → EndsAt a b c
  by_leaves a b ends ends_with zero n vs ws fit h k l = absurd (none_below (pair_leaves n.pairs) l)
  by_leaves a b ends ends_with (suc c) n vs ws fit h k l = one_step a b c ends ends_with (by_leaves a b ends ends_with c) n vs ws fit h k l

  by_terms : (a : ℕ) → Ends a → (b : ℕ) → EndsWith a b
  by_terms a ends zero n vs ws fit h k = absurd (none_below (length ws) k)
  by_terms a ends (suc b) n vs ws fit h k = by_leaves a b ends (by_terms a ends b) (suc (pair_leaves n.pairs)) n vs ws fit h k (below_next (pair_leaves n.pairs))

  by_typs : (a : ℕ) → Ends a
  by_typs zero n vs ws fit h = absurd (none_below (length vs) h)
  by_typs (suc a) n vs ws fit h = by_terms a (by_typs a) (suc (length ws)) n vs ws fit h (below_next (length ws))

  some_outcome : (n : Node) (vs : List Typ) (ws : List Term) → IsFit Q u maxidx n vs ws → HasOutcome n
  some_outcome n vs ws fit = by_typs (suc (length vs)) n vs ws fit (below_next (length vs))

  -- What is known of each node that is to be visited.
  record IsSound (n : Node) : Type 0 where
    respects : Each (IsRespecting Q) n.path.settings
    certified : Each (AreSidesCertified Q.declarations) n.pairs
    old : AreOldSides n.path.fresh n.pairs
    few : n.path.choices ≤ max_choices

  data HasVisit (n : Node) : Type 0 where
    visit_simple : (m : Node) → Visits A maxidx n (Simple m) → IsSettled m n.path.choices → HasVisit n
    visit_fails : Visits A maxidx n Failed → HasVisit n
    visit_halts : (s : Stop) → Visits A maxidx n (Halted s) → HasVisit n

  some_visit : (n : Node) → IsSound n → HasVisit n
  some_visit n h = by (some_sides Q.declarations n.pairs h.certified).0 (some_sides Q.declarations n.pairs h.certified).1
    where
      simplified : (qs : List Pair) → AreLong n.pairs (AllLong qs) → HasOutcome (with_pairs n qs) → HasVisit n
      simplified qs l (comes m s k) = visit_simple m (visited l s) k
      simplified qs l (fails s) = visit_fails (visited l s)
      simplified qs l (halts r s) = visit_halts r (visited l s)

      by : (sides : Sides) → AreLong n.pairs sides → HasVisit n
      by (Stopped s) l = visit_halts s (visit_stops l)
      by (AllLong qs) l = simplified qs l (some_outcome (with_pairs n qs) (pair_schematics qs) (pair_variables qs) (record {
        respects = h.respects;
        long = sides-are-long Q u.content u.above A maxidx l h.certified;
        inside = collected (maxidx + 65) n.path.fresh (λ v. Unit {0}) qs (sides-parts (IsOld (maxidx + 65) n.path.fresh) (λ v. Unit {0}) (old_of_parts (maxidx + 65) n.path.fresh) l h.old);
      }))

  -- The children of a simple node are sound, where a choice may be made.
  module _ (m : Node) (choices : ℕ) (k : IsSettled m choices) where
    abbrev P : Typ → Type 0
    P = IsOld (maxidx + 65) m.path.fresh

    abbrev V : Term → Type 0
    V v = Unit {0}

    child_old : (c : Node) (x i : ℕ) (T : Typ) (us : List Term) → Each (HasParts P V) us → IsIn c (map (child m x i T) us) → AreOldSides c.path.fresh c.pairs × (c.path.choices ≡ m.path.choices + 1)
    child_old c x i T [] h there = absurd there
    child_old c x i T (t ∷ us) h (inl e) =
        subst (λ (o : Node). AreOldSides o.path.fresh o.pairs × (o.path.choices ≡ m.path.choices + 1)) (sym e)
        (put-each P P V V (Single (bind x i T t)) (set-parts P V V x i T t h.0 (λ w v n. tt)) m.pairs k.old, refl)
    child_old c x i T (t ∷ us) h (inr there) = child_old c x i T us h.1 there

    choice-parts : (f h : Term) → IsChoice m.pairs f h → HasParts P V f × HasParts P V h
    choice-parts f h c = by c.heads
      where
        own : HavePartsIn P V c.pair
        own = (each-right (HavePartsIn P V) c.front (c.pair ∷ c.rest) (subst (λ (ps : List Pair). Each (HavePartsIn P V) ps) c.stands k.old)).0

        by : HasFlexible c.pair f h → HasParts P V f × HasParts P V h
        by (on_left a b e g) = (subst (HasParts P V) (sym e) (head-parts P V c.pair.left own.0), subst (HasParts P V) (sym g) (head-parts P V c.pair.right own.1))
        by (on_right a b e g) = (subst (HasParts P V) (sym e) (head-parts P V c.pair.right own.1), subst (HasParts P V) (sym g) (head-parts P V c.pair.left own.0))

    children_old : (f h : Term) → HasParts P V f → HasParts P V h → (c : Node) → IsIn c (children maxidx m f h) → AreOldSides c.path.fresh c.pairs × (c.path.choices ≡ m.path.choices + 1)
    children_old (Var x i T) h a b c there = child_old c x i T (images (maxidx + (m.path.choices + 1)) T h) (images-parts P V (old_of_parts (maxidx + 65) m.path.fresh) (maxidx + (m.path.choices + 1)) (λ name U. tt) T h a.0 b) there
    children_old (Const d U) h a b c there = absurd there
    children_old (Free x U) h a b c there = absurd there
    children_old (Bound p) h a b c there = absurd there
    children_old (Abs U t) h a b c there = absurd there
    children_old (App g t) h a b c there = absurd there

    children_sound : (f h : Term) → IsChoice m.pairs f h → m.path.choices < max_choices → Each IsSound (children maxidx m f h)
    children_sound f h choice more = each_of IsSound (children maxidx m f h) (λ c there. one c there)
      where
        room : (a b c : ℕ) → a < b → c ≡ a + 1 → c ≤ b
        room a b c h e = omega arith

        one : (c : Node) → IsIn c (children maxidx m f h) → IsSound c
        one c there =
            let kept = child-kept Q u maxidx m c f h choice there k.respects k.long k.lefts in
            let parts = choice-parts f h choice in
            let old = children_old f h parts.0 parts.1 c there in
            record { respects = kept.0; certified = kept.1; old = old.0; few = room m.path.choices max_choices c.path.choices more old.1 }

  abbrev HasAnswer : (count : ℕ) (cut : Bool) → List Node → Type 0
  HasAnswer count cut ns = (answer : Answer) × Searches A maxidx count cut ns answer

  -- A node is count, and the others after it.
  after_visit : (count : ℕ) (cut : Bool) (n : Node) (ns : List Node) → count < max_nodes → IsSound n → Each IsSound ns → ((cut : Bool) (os : List Node) → Each IsSound os → HasAnswer (count + 1) cut os) → HasVisit n → HasAnswer count cut (n ∷ ns)
  after_visit count cut n ns w h rest again (visit_fails v) = let later = again cut ns rest in (later.0, node_fails w v later.1)
  after_visit count cut n ns w h rest again (visit_halts s v) = (AnswerStopped s, node_stops w v)
  after_visit count cut n ns w h rest again (visit_simple m v k) = by (choice_or_flexible m.pairs k.lefts)
    where
      made : (f g : Term) → IsChoice m.pairs f g → (m.path.choices < max_choices) ⊎ (max_choices ≤ m.path.choices) → HasAnswer count cut (n ∷ ns)
      made f g c (inl more) = let later = again cut (children maxidx m f g ++ ns) (each-append IsSound (children maxidx m f g) ns (children_sound m n.path.choices k f g c more) rest) in (later.0, inner w v c more later.1)
      made f g c (inr none) = let later = again true ns rest in (later.0, node_is_cut w v c (full m.path.choices max_choices n.path.choices k.same h.few none) later.1)
        where
          full : (a b c : ℕ) → a ≡ c → c ≤ b → b ≤ a → a ≡ b
          full a b c e h k = omega arith

      answered : Each IsFlexFlex m.pairs → AreImagesWithin (unifier_of m) ⊎ ¬ AreImagesWithin (unifier_of m) → HasAnswer count cut (n ∷ ns)
      answered flexible (inl within) = (Unified (unifier_of m), success w v flexible within)
      answered flexible (inr beyond) = (AnswerStopped Big, too_large w v flexible beyond)

      by : Each IsFlexFlex m.pairs ⊎ ((f : Term) × (g : Term) × IsChoice m.pairs f g) → HasAnswer count cut (n ∷ ns)
      by (inl flexible) = answered flexible (images_within_or_not (unifier_of m))
      by (inr (f, g, c)) = made f g c (cases_lt m.path.choices max_choices)

  search_from : (room count : ℕ) → count + room ≡ max_nodes → (cut : Bool) (ns : List Node) → Each IsSound ns → HasAnswer count cut ns
  search_from room count e false [] h = (NoUnifier, over)
  search_from room count e true [] h = (SearchBound, over_cut)
  search_from zero count e cut (n ∷ ns) h = (SearchBound, bound (omega arith))
  search_from (suc room) count e cut (n ∷ ns) h = after_visit count cut n ns (omega arith) h.0 h.1 (λ c os k. search_from room (count + 1) (omega arith) c os k) (some_visit n h.0)

  pub some_answer : (ps : List Pair) → AreUnifiable Q maxidx ps → (answer : Answer) × IsUnifyAnswer A maxidx ps answer
  some_answer ps h = search_from max_nodes 0 (omega arith) false (root ps ∷ []) (record { respects = tt; certified = h.certified; old = sides_old maxidx ps h.indexes; few = omega arith }, tt)

pub search_has_an_answer : (Q : Content) → IsUnifyContent Q → (maxidx : ℕ) (ps : List Pair) → AreUnifiable Q maxidx ps → (answer : Answer) × IsUnifyAnswer (algebra_of Q.declarations) maxidx ps answer
search_has_an_answer Q u maxidx ps h = some_answer Q u maxidx ps h
