-- A step of simplification leads to one node at most, and so does simplification.
use Rattle.std.proofs.Common.{◌≡◌, ◌≢◌, ◌⊎◌, ℕ, ◌+◌, List, [], ◌∷◌, ◌++◌, length, inl, inr, refl, ap, sym, subst, ◌∙◌, arith}
use Rattle.pure_text.specs.Lists.{Each}
use Rattle.pure_text.proofs.ListLaws.{each-right}
use Rattle.pure_definitions.specs.Types.Typ.{Typ}
use Rattle.pure_definitions.specs.Types.Order.{Algebra}
use Rattle.pure_definitions.specs.Terms.Subst.{TypBind, TermBind}
use Rattle.pure_logic.specs.Derivable.{Pair}
use Rattle.pure_order_tables.specs.Classes.{IsAntisymmetric}
use Rattle.pure_tunify.specs.Settings.{composed}
use Rattle.pure_tunify.specs.Procedure.{Outcome, Unified, NotTyped, TooBig}
use Rattle.pure_tunify.proofs.OneAnswerLaws.{unifies_one}
use Rattle.pure_unify_definitions.specs.Fronts.{argument_pairs}
use Rattle.pure_unify_definitions.specs.Node.{Node, Typs, Single, with_setting_put, node_variables}
use Rattle.pure_unify_definitions.specs.LongSides.{Big, Sides, AllLong, Stopped, AreLong}
use Rattle.pure_unify_definitions.specs.Treatment.{Treatment, Drop, Differ, Fail, Put, Split, Unify, Leave, IsTreatment}
use Rattle.pure_unify_definitions.specs.Retyping.{Next, Goes, Fails, Stops, Unifying, MakesTwoSame, retyped, IsRetyped, no_typing, beyond, two_same, side_stops, all_long}
use Rattle.pure_unify_definitions.specs.Simplification.{IsLeft, IsFirst, with_pairs, with_bind, IsSplitAt, Applies, drops, retypes, fails, puts, put_stops, splits, unifies, unify_fails, unify_stops, Visit, Simple, Failed, Halted, Simplifies, simple, step, failed, halted, Visits, visited, visit_stops}
use Rattle.pure_unify_laws.proofs.OneTreatment.{treatment-once}
use Rattle.pure_unify_laws.proofs.OneSides.{sides-once}

-- The first element that lacks a property stands in one place.
pub first-once : {E : Type 0} (P : E → Type 0) (xs ys : List E) (v w : E) (us ws : List E) → xs ++ v ∷ us ≡ ys ++ w ∷ ws → Each P xs → ¬ P v → Each P ys → ¬ P w → (xs ≡ ys) × ((v ≡ w) × (us ≡ ws))
first-once P [] [] v w us ws e f nope g none = (refl, (cc, cc))
first-once P [] (y ∷ ys) v w us ws e f nope g none = let same : v ≡ y = cc in absurd (nope (subst P (sym same) g.0))
first-once P (x ∷ xs) [] v w us ws e f nope g none = let same : x ≡ w = cc in absurd (none (subst P same f.0))
first-once P (x ∷ xs) (y ∷ ys) v w us ws e f nope g none =
    let rest : xs ++ v ∷ us ≡ ys ++ w ∷ ws = cc in
    let here : x ≡ y = cc in
    let more = first-once P xs ys v w us ws rest f.1 nope g.1 none in
    ((λ i. here i ∷ more.0 i), more.1)

-- So does one behind so many others.
pub placed-once : {E : Type 0} (xs ys : List E) (v w : E) (us ws : List E) → xs ++ v ∷ us ≡ ys ++ w ∷ ws → length xs ≡ length ys → (xs ≡ ys) × ((v ≡ w) × (us ≡ ws))
placed-once [] [] v w us ws e same = (refl, (cc, cc))
placed-once [] (y ∷ ys) v w us ws e same = absurd (omega arith)
placed-once (x ∷ xs) [] v w us ws e same = absurd (omega arith)
placed-once (x ∷ xs) (y ∷ ys) v w us ws e same =
    let rest : xs ++ v ∷ us ≡ ys ++ w ∷ ws = cc in
    let here : x ≡ y = cc in
    let more = placed-once xs ys v w us ws rest (omega arith) in
    ((λ i. here i ∷ more.0 i), more.1)

not-left : (p : Pair) (how : Treatment) → how ≢ Leave → IsTreatment p.left p.right how → ¬ IsLeft p
not-left p how other t s = other (treatment-once p.left p.right how Leave t s)

-- the first pair that isn't left
record AreSame (front gront : List Pair) (p q : Pair) (rest sest : List Pair) (how other : Treatment) : Type 0 where
  fronts : front ≡ gront
  pairs : p ≡ q
  rests : rest ≡ sest
  treatments : how ≡ other

first-pair-once : (ps front gront : List Pair) (p q : Pair) (rest sest : List Pair) (how other : Treatment) → how ≢ Leave → other ≢ Leave → IsFirst ps front p rest how → IsFirst ps gront q sest other
    → AreSame front gront p q rest sest how other
first-pair-once ps front gront p q rest sest how other n m f g =
    let same = first-once IsLeft front gront p q rest sest (sym f.stands ∙ g.stands) f.before (not-left p how n f.treated) g.before (not-left q other m g.treated) in
    let moved : IsTreatment p.left p.right other = subst (λ (r : Pair). IsTreatment r.left r.right other) (sym same.1.0) g.treated in
    record { fronts = same.0; pairs = same.1.0; rests = same.1.1; treatments = treatment-once p.left p.right how other f.treated moved }

-- what a node becomes when its sides have been brought to long form, or one stops the search
abbrev retyped-sides : Node → List TypBind → ℕ → Sides → Next
retyped-sides n s k (AllLong qs) = Goes (retyped n s k qs)
retyped-sides n s k (Stopped r) = Stops r

abbrev put-sides : Node → TermBind → Sides → Next
put-sides n b (AllLong qs) = Goes (with_bind n b qs)
put-sides n b (Stopped r) = Stops r

-- what follows from an outcome of a step on types
abbrev Follows : Node → Outcome → Next → Type 0
Follows n (NotTyped at) next = next ≡ Fails
Follows n (TooBig at) next = next ≡ Stops Big
Follows n (Unified s k) next = (MakesTwoSame (composed s) (node_variables n) × (next ≡ Fails))
    ⊎ ((¬ MakesTwoSame (composed s) (node_variables n)) × ((sides : Sides) × AreLong (with_setting_put (Typs s) n.pairs) sides × (next ≡ retyped-sides n s k sides)))

follows-once : (n : Node) (o : Outcome) (one other : Next) → Follows n o one → Follows n o other → one ≡ other
follows-once n (NotTyped at) one other e f = e ∙ sym f
follows-once n (TooBig at) one other e f = e ∙ sym f
follows-once n (Unified s k) one other (inl (same, e)) (inl (again, f)) = e ∙ sym f
follows-once n (Unified s k) one other (inl (same, e)) (inr (apart, (sides, come, f))) = absurd (apart same)
follows-once n (Unified s k) one other (inr (apart, (sides, come, e))) (inl (same, f)) = absurd (apart same)
follows-once n (Unified s k) one other (inr (apart, (sides, come, e))) (inr (again, (tides, go, f))) =
    e ∙ (ap (retyped-sides n s k) (sides-once (with_setting_put (Typs s) n.pairs) sides tides come go) ∙ sym f)

-- what is made of a node whose pair is split after a step on types
abbrev IsSplitNext : (front : List Pair) → (between next : Next) → Type 0
IsSplitNext front (Goes m) next = (split : Node) × IsSplitAt front m split × (next ≡ Goes split)
IsSplitNext front Fails next = next ≡ Fails
IsSplitNext front (Stops s) next = next ≡ Stops s

split-at-once : (front : List Pair) (m one other : Node) → IsSplitAt front m one → IsSplitAt front m other → one ≡ other
split-at-once front m one other f g =
    let same = placed-once f.before g.before f.at g.at f.behind g.behind (sym f.stands ∙ g.stands) (f.place ∙ sym g.place) in
    f.are ∙ ((λ i. with_pairs m (same.0 i ++ (argument_pairs (same.1.0 i).left (same.1.0 i).right ++ same.1.1 i))) ∙ sym g.are)

split-next-once : (front : List Pair) (between one other : Next) → IsSplitNext front between one → IsSplitNext front between other → one ≡ other
split-next-once front (Goes m) one other (s, at, e) (r, there, f) = e ∙ (ap Goes (split-at-once front m s r at there) ∙ sym f)
split-next-once front Fails one other e f = e ∙ sym f
split-next-once front (Stops s) one other e f = e ∙ sym f

module _ (A : Algebra) (anti : IsAntisymmetric A) (maxidx : ℕ) where
  as-follows : (n : Node) (T U : Typ) (next : Next) → IsRetyped A maxidx n T U next → (o : Outcome) × Unifying A maxidx n T U o × Follows n o next
  as-follows n T U next (no_typing {at = at} u) = (NotTyped at, u, refl)
  as-follows n T U next (beyond {at = at} u) = (TooBig at, u, refl)
  as-follows n T U next (two_same {sets = s} {next = k} u same) = (Unified s k, u, inl (same, refl))
  as-follows n T U next (side_stops {sets = s} {next = k} {s = r} u apart come) = (Unified s k, u, inr (apart, (Stopped r, come, refl)))
  as-follows n T U next (all_long {sets = s} {next = k} {qs = qs} u apart come) = (Unified s k, u, inr (apart, (AllLong qs, come, refl)))

  retyped-once : (n : Node) (T U : Typ) (one other : Next) → IsRetyped A maxidx n T U one → IsRetyped A maxidx n T U other → one ≡ other
  retyped-once n T U one other f g =
      let first = as-follows n T U one f in
      let second = as-follows n T U other g in
      let same : first.0 ≡ second.0 = unifies_one A anti (maxidx + 65) first.1 second.1 in
      follows-once n first.0 one other first.2 (subst (λ (o : Outcome). Follows n o other) (sym same) second.2)

  -- what a treatment makes of a node
  abbrev Makes : (n : Node) → (front : List Pair) → (p : Pair) → (rest : List Pair) → Treatment → Next → Type 0
  Makes n front p rest Drop next = next ≡ Goes (with_pairs n (front ++ rest))
  Makes n front p rest (Differ T U) next = IsRetyped A maxidx n T U next
  Makes n front p rest Fail next = next ≡ Fails
  Makes n front p rest (Put b) next = (sides : Sides) × AreLong (with_setting_put (Single b) (front ++ rest)) sides × (next ≡ put-sides n b sides)
  Makes n front p rest Split next = next ≡ Goes (with_pairs n (front ++ (argument_pairs p.left p.right ++ rest)))
  Makes n front p rest (Unify T U) next = (between : Next) × IsRetyped A maxidx n T U between × IsSplitNext front between next
  Makes n front p rest Leave next = ⊥

  makes-once : (n : Node) (front : List Pair) (p : Pair) (rest : List Pair) (how : Treatment) (one other : Next) → Makes n front p rest how one → Makes n front p rest how other → one ≡ other
  makes-once n front p rest Drop one other e f = e ∙ sym f
  makes-once n front p rest (Differ T U) one other e f = retyped-once n T U one other e f
  makes-once n front p rest Fail one other e f = e ∙ sym f
  makes-once n front p rest (Put b) one other (sides, come, e) (tides, go, f) = e ∙ (ap (put-sides n b) (sides-once (with_setting_put (Single b) (front ++ rest)) sides tides come go) ∙ sym f)
  makes-once n front p rest Split one other e f = e ∙ sym f
  makes-once n front p rest (Unify T U) one other (between, e, f) (tween, g, h) =
      split-next-once front between one other f (subst (λ (m : Next). IsSplitNext front m other) (sym (retyped-once n T U between tween e g)) h)
  makes-once n front p rest Leave one other e f = absurd e

  -- a step, by its treatment
  record IsStep (n : Node) (next : Next) : Type 0 where
    front : List Pair
    pair : Pair
    rest : List Pair
    how : Treatment
    other : how ≢ Leave
    first : IsFirst n.pairs front pair rest how
    makes : Makes n front pair rest how next

  as-step : (n : Node) (next : Next) → Applies A maxidx n next → IsStep n next
  as-step n next (drops {front = f} {rest = r} {p = p} i) = record { front = f; pair = p; rest = r; how = Drop; other = λ e. absurd (cc); first = i; makes = refl }
  as-step n next (retypes {front = f} {rest = r} {p = p} {T = T} {U = U} i t) = record { front = f; pair = p; rest = r; how = Differ T U; other = λ e. absurd (cc); first = i; makes = t }
  as-step n next (fails {front = f} {rest = r} {p = p} i) = record { front = f; pair = p; rest = r; how = Fail; other = λ e. absurd (cc); first = i; makes = refl }
  as-step n next (puts {front = f} {rest = r} {qs = qs} {p = p} {b = b} i l) = record { front = f; pair = p; rest = r; how = Put b; other = λ e. absurd (cc); first = i; makes = (AllLong qs, l, refl) }
  as-step n next (put_stops {front = f} {rest = r} {p = p} {b = b} {s = s} i l) = record { front = f; pair = p; rest = r; how = Put b; other = λ e. absurd (cc); first = i; makes = (Stopped s, l, refl) }
  as-step n next (splits {front = f} {rest = r} {p = p} i) = record { front = f; pair = p; rest = r; how = Split; other = λ e. absurd (cc); first = i; makes = refl }
  as-step n next (unifies {front = f} {rest = r} {p = p} {T = T} {U = U} {m = m} {split = s} i t a) = record { front = f; pair = p; rest = r; how = Unify T U; other = λ e. absurd (cc); first = i; makes = (Goes m, t, (s, a, refl)) }
  as-step n next (unify_fails {front = f} {rest = r} {p = p} {T = T} {U = U} i t) = record { front = f; pair = p; rest = r; how = Unify T U; other = λ e. absurd (cc); first = i; makes = (Fails, t, refl) }
  as-step n next (unify_stops {front = f} {rest = r} {p = p} {T = T} {U = U} {s = s} i t) = record { front = f; pair = p; rest = r; how = Unify T U; other = λ e. absurd (cc); first = i; makes = (Stops s, t, refl) }

  moved : (n : Node) (next : Next) (front gront : List Pair) (p q : Pair) (rest sest : List Pair) (how other : Treatment) → AreSame front gront p q rest sest how other → Makes n gront q sest other next → Makes n front p rest how next
  moved n next front gront p q rest sest how other same m = rw (same.fronts, same.pairs, same.rests, same.treatments) m

  pub applies-once : (n : Node) (one other : Next) → Applies A maxidx n one → Applies A maxidx n other → one ≡ other
  applies-once n one other f g =
      let first = as-step n one f in
      let second = as-step n other g in
      let same = first-pair-once n.pairs first.front second.front first.pair second.pair first.rest second.rest first.how second.how first.other second.other first.first second.first in
      makes-once n first.front first.pair first.rest first.how one other first.makes
      (moved n other first.front second.front first.pair second.pair first.rest second.rest first.how second.how same second.makes)

  -- A node of which each pair is left has no step.
  left-no-step : (n : Node) (next : Next) → Each IsLeft n.pairs → Applies A maxidx n next → ⊥
  left-no-step n next each f =
      let first = as-step n next f in
      let behind : Each IsLeft (first.pair ∷ first.rest) = each-right IsLeft first.front (first.pair ∷ first.rest) (subst (λ (ps : List Pair). Each IsLeft ps) first.first.stands each) in
      not-left first.pair first.how first.other first.first.treated behind.0

  -- what a node that doesn't go on comes to
  abbrev Ends : Next → Visit → Type 0
  Ends (Goes m) visit = Simplifies A maxidx m visit
  Ends Fails visit = visit ≡ Failed
  Ends (Stops s) visit = visit ≡ Halted s

  as-ends : (n : Node) (visit : Visit) → Simplifies A maxidx n visit → (Each IsLeft n.pairs × (visit ≡ Simple n)) ⊎ ((next : Next) × Applies A maxidx n next × Ends next visit)
  as-ends n visit (simple each) = inl (each, refl)
  as-ends n visit (step {m = m} f s) = inr (Goes m, f, s)
  as-ends n visit (failed f) = inr (Fails, f, refl)
  as-ends n visit (halted {s = s} f) = inr (Stops s, f, refl)

  stepped : (n m : Node) (other : Visit) {one : Visit} → Applies A maxidx n (Goes m) → (Simplifies A maxidx m other → one ≡ other)
      → (Each IsLeft n.pairs × (other ≡ Simple n)) ⊎ ((next : Next) × Applies A maxidx n next × Ends next other) → one ≡ other
  stepped n m other f rest (inl (each, e)) = absurd (left-no-step n (Goes m) each f)
  stepped n m other f rest (inr (next, h, end)) = let same : next ≡ Goes m = applies-once n next (Goes m) h f in rest (subst (λ (k : Next). Ends k other) same end)

  pub simplifies-once : {n : Node} {one : Visit} → Simplifies A maxidx n one → (other : Visit) → Simplifies A maxidx n other → one ≡ other
  simplifies-once {n = n} (simple each) other g = by (as-ends n other g)
    where
      by : (Each IsLeft n.pairs × (other ≡ Simple n)) ⊎ ((next : Next) × Applies A maxidx n next × Ends next other) → Simple n ≡ other
      by (inl (again, e)) = sym e
      by (inr (next, f, s)) = absurd (left-no-step n next each f)
  simplifies-once {n = n} (step {m = m} f s) other g = stepped n m other f (λ end. simplifies-once s other end) (as-ends n other g)
  simplifies-once {n = n} (failed f) other g = by (as-ends n other g)
    where
      by : (Each IsLeft n.pairs × (other ≡ Simple n)) ⊎ ((next : Next) × Applies A maxidx n next × Ends next other) → Failed ≡ other
      by (inl (each, e)) = absurd (left-no-step n Fails each f)
      by (inr (next, h, end)) = let same : next ≡ Fails = applies-once n next Fails h f in let moved : other ≡ Failed = subst (λ (m : Next). Ends m other) same end in sym moved
  simplifies-once {n = n} (halted {s = s} f) other g = by (as-ends n other g)
    where
      by : (Each IsLeft n.pairs × (other ≡ Simple n)) ⊎ ((next : Next) × Applies A maxidx n next × Ends next other) → Halted s ≡ other
      by (inl (each, e)) = absurd (left-no-step n (Stops s) each f)
      by (inr (next, h, end)) = let same : next ≡ Stops s = applies-once n next (Stops s) h f in let moved : other ≡ Halted s = subst (λ (m : Next). Ends m other) same end in sym moved

  pub visits-once : (n : Node) (one other : Visit) → Visits A maxidx n one → Visits A maxidx n other → one ≡ other
  visits-once n one other (visited {qs = qs} l s) (visited {qs = os} k r) =
      let same : AllLong qs ≡ AllLong os = sides-once n.pairs (AllLong qs) (AllLong os) l k in
      let pairs : qs ≡ os = cc in
      simplifies-once s other (subst (λ (ps : List Pair). Simplifies A maxidx (with_pairs n ps) other) (sym pairs) r)
  visits-once n one other (visited {qs = qs} l s) (visit_stops {s = r} k) = let same : AllLong qs ≡ Stopped r = sides-once n.pairs (AllLong qs) (Stopped r) l k in absurd (cc)
  visits-once n one other (visit_stops {s = r} l) (visited {qs = qs} k s) = let same : AllLong qs ≡ Stopped r = sides-once n.pairs (AllLong qs) (Stopped r) k l in absurd (cc)
  visits-once n one other (visit_stops {s = r} l) (visit_stops {s = s} k) = let same : Stopped r ≡ Stopped s = sides-once n.pairs (Stopped r) (Stopped s) l k in let stops : r ≡ s = cc in ap Halted stops
