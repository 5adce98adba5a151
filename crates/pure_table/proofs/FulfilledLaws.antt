-- The results of a session's lemmas fulfil their promises.
use Rattle.std.proofs.Common.{◌≡◌, ℕ, suc, List, [], ◌∷◌, ◌++◌, length, take, map, inl, inr, refl, sym, ◌∙◌, ap, subst}
use Rattle.std.specs.declared.cmp.Ordering.TheVariants.{Less}
use Rattle.pure_text.specs.Lists.{IsIn, Each}
use Rattle.pure_text.proofs.ListLaws.{in-map, each_of, each_at}
use Rattle.pure_definitions.specs.Names.{Label}
use Rattle.pure_logic.specs.Content.{Content, IsBelow}
use Rattle.pure_logic.specs.Derivable.{Theorem}
use Rattle.pure_theorem.specs.Sets.{label_cmp, IsLabelSet}
use Rattle.pure_theory_run.specs.Theory.Certified.{Certified}
use Rattle.pure_promise_fates.proofs.LabelSets.{not_both, not_itself, first_below, rest_is_set}
use Rattle.pure_graph.specs.Order.{Loaded}
use Rattle.pure_promise.specs.Accepting.{IsForkedBefore}
use Rattle.pure_theory_run.specs.Declare.Notes.{Fork, Note}
use Rattle.pure_theory_run.specs.SessionLaws.Loaded.{IsLoadedSession}
use Rattle.pure_theory_run.specs.SessionMeaning.Statements.{forks_of, AreStatements}
use Rattle.pure_table.specs.Fulfilled.{IsResultOf, ResultsFulfil}
use Rattle.pure_table.proofs.ClaimLaws.{IsPromised}
use Rattle.pure_table.proofs.DerivedLaws.{bound, some_fork, shown_by}

-- Of labels that ascend, one that is before another comes before it.
before : (ls ms : List Label) (l k : Label) → IsLabelSet (ls ++ l ∷ ms) → IsIn k (ls ++ l ∷ ms) → label_cmp k l ≡ Less → IsIn k (take (length ls) (ls ++ l ∷ ms))
before [] ms l k h (inl same) less = absurd (not_itself l (subst (λ x. label_cmp x l ≡ Less) same less))
before [] ms l k h (inr m) less = absurd (not_both k l less (first_below l ms h k m))
before (x ∷ ls) ms l k h (inl same) less = inl same
before (x ∷ ls) ms l k h (inr m) less = inr (before ls ms l k (rest_is_set x (ls ++ l ∷ ms) h) m less)

labels-split : (fs gs : List Fork) (f : Fork) → map Fork.label (fs ++ f ∷ gs) ≡ map Fork.label fs ++ f.label ∷ map Fork.label gs
labels-split [] gs f = refl
labels-split (d ∷ fs) gs f = ap (λ ls. d.label ∷ ls) (labels-split fs gs f)

labels-long : (fs : List Fork) → length (map Fork.label fs) ≡ length fs
labels-long [] = refl
labels-long (d ∷ fs) = ap suc (labels-long fs)

-- A lemma that comes before another is one of those in front of it.
forked-before : (fs earlier later : List Fork) (f g : Fork) → fs ≡ earlier ++ f ∷ later → IsLabelSet (map Fork.label fs) → IsIn g fs → label_cmp g.label f.label ≡ Less
    → IsForkedBefore (map Fork.label fs) (length earlier) g.label
forked-before fs earlier later f g is ascend m less =
    let split : map Fork.label fs ≡ map Fork.label earlier ++ f.label ∷ map Fork.label later = ap (map Fork.label) is ∙ labels-split earlier later f in
    let found = before (map Fork.label earlier) (map Fork.label later) f.label g.label (subst IsLabelSet split ascend) (subst (IsIn g.label) split (in-map Fork.label g fs m)) less in
    subst (λ n. IsIn g.label (take n (map Fork.label fs))) (labels-long earlier) (subst (λ ls. IsIn g.label (take (length (map Fork.label earlier)) ls)) (sym split) found)

pub same-below : (Q R : Content) → Q ≡ R → IsBelow Q R
same-below Q R same d m = subst (λ (P : Content). IsIn d P.declarations) same m

in-at : (fs earlier later : List Fork) (f : Fork) → fs ≡ earlier ++ f ∷ later → IsIn f fs
in-at fs [] later f is = subst (IsIn f) (sym is) (inl refl)
in-at fs (d ∷ earlier) later f is = subst (IsIn f) (sym is) (inr (in-at (earlier ++ f ∷ later) earlier later f refl))

module _ (texts : List (List ℕ)) (theories : List Loaded) (loaded : IsLoadedSession texts theories) (notes : List Note) (statements : AreStatements texts theories notes) where
  -- what a lemma's proof comes to is what was forked before it
  rests-before : (earlier later : List Fork) (f : Fork) → forks_of notes ≡ earlier ++ f ∷ later → (c : Certified) → IsResultOf texts f c → Each (IsForkedBefore (map Fork.label (forks_of notes)) (length earlier)) c.theorem.rests
  rests-before earlier later f is c of =
      let m = in-at (forks_of notes) earlier later f is in
      let b = bound texts theories loaded notes statements in
      let shown = shown_by texts theories loaded f (some_fork texts theories loaded notes statements f m) of.labels of.proof in
      subst (Each (IsForkedBefore (map Fork.label (forks_of notes)) (length earlier))) (sym (ap Theorem.rests of.states))
      (each_of (IsForkedBefore (map Fork.label (forks_of notes)) (length earlier)) of.labels (λ l n.
      let p : IsPromised f l = each_at (IsPromised f) of.labels shown.promised l n in
      let found = b.promises f m l p.0 p.1 in
      let less = subst (λ k. label_cmp k f.label ≡ Less) (sym found.label) found.earlier in
      subst (IsForkedBefore (map Fork.label (forks_of notes)) (length earlier)) found.label
      (forked-before (forks_of notes) earlier later f found.lemma is b.ascend found.stands less)))

pub results_fulfil : ResultsFulfil
results_fulfil S loaded notes statements earlier later f is p promise c of = (
  (((same-below c.content p.stage.value (of.content ∙ sym promise.content), ap Theorem.prop of.states ∙ sym promise.prop), ap Theorem.hyps of.states), ap Theorem.pairs of.states),
  subst (λ n. Each (IsForkedBefore (map Fork.label (forks_of notes)) n) c.theorem.rests) (sym promise.number_is) (rests-before S.names S.theories loaded notes statements earlier later f is c of),
)
