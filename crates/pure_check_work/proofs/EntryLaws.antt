-- The entries of promises are those of their lemmas.
use Rattle.std.proofs.Common.{◌≡◌, ◌∙◌, ℕ, List, [], ◌∷◌, ◌++◌, map, filter, cond, refl, sym, ap, subst, Bool, true, false, inl, inr}
use Rattle.std.proofs.lemmas.List.{map-append}
use Rattle.std.specs.declared.alloc.Global.{Global}
use Rattle.std.specs.declared.sync.Arc.{Arc}
use Rattle.pure_text.specs.Lists.{IsIn, Each, EachTwo}
use Rattle.pure_text.proofs.ListLaws.{in-map}
use Rattle.pure_definitions.specs.Names.{Label}
use Rattle.pure_theorem.specs.Sets.{IsLabelSet}
use Rattle.pure_promise_fates.proofs.LabelSets.{not_itself, first_below, rest_is_set}
use Rattle.pure_table.specs.Declare.Notes.{Fork}
use Rattle.pure_table.specs.Method.Proof.{IsProofIn}
use Rattle.pure_table.specs.Method.Outcome.{IsOutcomeOf}
use Rattle.pure_table.specs.Method.declared.outcome.Outcome.{Outcome}
use Rattle.pure_table.specs.Method.declared.outcome.Outcome.TheVariants.{Proved, Fault}
use Rattle.pure_table.specs.Table.{IsOwn, IsEntryOf}
use Rattle.pure_machine.specs.State.{Promise, Standing, Ready, Taken, Settled, Cancelled}
use Rattle.pure_machine.specs.Step.{is_cancelled_standing}
use Rattle.pure_core_end.specs.Joined.{EndsSo}
use Rattle.pure_core_end.proofs.JoinLaws.{in-filter, filter-in}
use Rattle.pure_check_work.specs.Cancelled.{lemmas_of, cancelled_labels, seen_outcome, own_of, entry_of, entries_of}

abbrev label_of : Promise Fork Outcome → Label
label_of p = (p.goal).label

abbrev is_gone : Promise Fork Outcome → Bool
is_gone p = is_cancelled_standing p.standing

-- promises with one label are one
same-label : (ps : List (Promise Fork Outcome)) → IsLabelSet (map label_of ps) → (p q : Promise Fork Outcome) → IsIn p ps → IsIn q ps → label_of p ≡ label_of q → p ≡ q
same-label [] set p q m n e = absurd m
same-label (x ∷ xs) set p q (inl a) (inl b) e = a ∙ sym b
same-label (x ∷ xs) set p q (inl a) (inr b) e = absurd (not_itself (label_of x) (first_below (label_of x) (map label_of xs) set (label_of x) (subst (λ l. IsIn l (map label_of xs)) (sym e ∙ ap label_of a) (in-map label_of q xs b))))
same-label (x ∷ xs) set p q (inr a) (inl b) e = absurd (not_itself (label_of x) (first_below (label_of x) (map label_of xs) set (label_of x) (subst (λ l. IsIn l (map label_of xs)) (e ∙ ap label_of b) (in-map label_of p xs a))))
same-label (x ∷ xs) set p q (inr a) (inr b) e = same-label xs (rest_is_set (label_of x) (map label_of xs) set) p q a b e

-- whose label it is
in-mapped : (l : Label) (ps : List (Promise Fork Outcome)) → IsIn l (map label_of ps) → (p : Promise Fork Outcome) × IsIn p ps × (l ≡ label_of p)
in-mapped l [] m = absurd m
in-mapped l (p ∷ ps) (inl e) = (p, inl refl, e)
in-mapped l (p ∷ ps) (inr m) = let w = in-mapped l ps m in (w.0, inr w.1, w.2)

passes : {A : Type 0} (t : A → Bool) (x : A) (xs : List A) → IsIn x (filter t xs) → t x ≡ true
passes t x [] m = absurd m
passes {A} t x (y ∷ ys) m = by_test (t y) refl (passes t x ys) m
  where
    by_test : (b : Bool) → t y ≡ b → (IsIn x (filter t ys) → t x ≡ true) → IsIn x (cond b (y ∷ filter t ys) (filter t ys)) → t x ≡ true
    by_test true e rest (inl same) = ap t same ∙ e
    by_test true e rest (inr there) = rest there
    by_test false e rest there = rest there

outcome-proof : (texts : List (List ℕ)) (f : Fork) (o : Outcome) → IsOutcomeOf texts f o → IsProofIn texts f.content f.lemma f.fixed f.script (seen_outcome o)
outcome-proof texts f (Proved c) h = h.0
outcome-proof texts f (Fault step fault) h = h

-- what became of a lemma whose promise ended so
own-so : (texts : List (List ℕ)) (K : List Label) (f : Fork) (s : Standing Outcome) → EndsSo (IsOutcomeOf texts) f s → (is_cancelled_standing s ≡ true → IsIn f.label K) → (is_cancelled_standing s ≡ false → ¬ IsIn f.label K) → IsOwn texts K f (own_of s)
own-so texts K f Ready ends gone kept = absurd ends
own-so texts K f Taken ends gone kept = absurd ends
own-so texts K f (Settled o) ends gone kept = (kept refl, outcome-proof texts f o ends)
own-so texts K f Cancelled ends gone kept = gone refl

true-false : (b : Bool) → b ≡ true → b ≡ false → ⊥
true-false b e h = absurd (cc)

module _ (texts : List (List ℕ)) (all : List (Promise Fork Outcome)) (set : IsLabelSet (map label_of all)) where
  entry-so : (p : Promise Fork Outcome) → IsIn p all → EndsSo (IsOutcomeOf texts) p.goal p.standing → IsEntryOf texts (cancelled_labels all) p.goal (entry_of p)
  entry-so p m ends = record {
    label = refl;
    name = refl;
    prop = refl;
    own = own-so texts (cancelled_labels all) p.goal p.standing ends (λ e. in-map label_of p (filter is_gone all) (in-filter is_gone p all m e))
        (λ e k. let w = in-mapped (label_of p) (filter is_gone all) k in
        let same = same-label all set p w.0 m (filter-in is_gone w.0 all w.1) w.2 in
        true-false (is_gone p) (ap is_gone same ∙ passes is_gone w.0 all w.1) e);
  }

  entries-from : (ps : List (Promise Fork Outcome)) → ((p : Promise Fork Outcome) → IsIn p ps → IsIn p all) → Each (λ (p : Promise Fork Outcome). EndsSo (IsOutcomeOf texts) p.goal p.standing) ps → EachTwo (IsEntryOf texts (cancelled_labels all)) (lemmas_of ps) (entries_of ps)
  entries-from [] among ended = tt
  entries-from (p ∷ ps) among ended = (entry-so p (among p (inl refl)) ended.0, entries-from ps (λ q m. among q (inr m)) ended.1)

  pub entries-so : Each (λ (p : Promise Fork Outcome). EndsSo (IsOutcomeOf texts) p.goal p.standing) all → EachTwo (IsEntryOf texts (cancelled_labels all)) (lemmas_of all) (entries_of all)
  entries-so ended = entries-from all (λ p m. m) ended

-- One lemma more.
pub duties-more : (ps : List (Promise Fork Outcome)) (ds : List (Arc Fork Global)) (p : Promise Fork Outcome) (d : Arc Fork Global) → map (λ (x : Arc Fork Global). x.value) ds ≡ lemmas_of ps → d.value ≡ p.goal
    → map (λ (x : Arc Fork Global). x.value) (ds ++ d ∷ []) ≡ lemmas_of (ps ++ p ∷ [])
duties-more ps ds p d so_far same = map-append _ ds (d ∷ []) ∙ ((λ i. so_far i ++ same i ∷ []) ∙ sym (map-append _ ps (p ∷ [])))

-- the labels of lemmas
pub labels-of : (ps : List (Promise Fork Outcome)) → map Fork.label (lemmas_of ps) ≡ map label_of ps
labels-of [] = refl
labels-of (p ∷ ps) = ap (λ ls. label_of p ∷ ls) (labels-of ps)
