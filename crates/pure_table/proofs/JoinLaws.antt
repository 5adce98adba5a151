-- Entries that are held for a session's lemmas may be joined.
use Rattle.std.proofs.Common.{◌≡◌, ℕ, List, [], ◌∷◌, inl, inr, refl, sym, ◌∙◌, ap, subst}
use Rattle.pure_text.specs.Lists.{IsIn, EachTwo}
use Rattle.pure_text.proofs.ListLaws.{each_of, each_at}
use Rattle.pure_definitions.specs.Names.{Label}
use Rattle.pure_definitions.specs.Terms.Term.{Term}
use Rattle.pure_definitions.specs.Declarations.Decl.{PromiseDecl}
use Rattle.pure_logic.specs.Content.{Content, IsBelow}
use Rattle.pure_logic.specs.Derivable.{Theorem}
use Rattle.pure_graph.specs.Order.{Loaded}
use Rattle.pure_promise.specs.declared.entry.Entry.{Entry}
use Rattle.pure_promise.specs.Joining.{IsClosed, IsGrounded}
use Rattle.pure_promise.specs.Seen.{seen}
use Rattle.pure_theory_run.specs.Declare.Notes.{Fork, Note}
use Rattle.pure_theory_run.specs.SessionLaws.Loaded.{IsLoadedSession}
use Rattle.pure_theory_run.specs.SessionMeaning.Statements.{forks_of, AreStatements}
use Rattle.pure_table.specs.Table.{IsEntryOf}
use Rattle.pure_table.specs.Fulfilled.{IsHeldFor, EntriesMayJoin}
use Rattle.pure_table.proofs.ClaimLaws.{IsEarlier, IsPromised, one_lemma}
use Rattle.pure_table.proofs.DerivedLaws.{bound, some_fork, shown_by, has_fates}

pub seen-of : (texts : List (List ℕ)) (cancelled : List Label) (fs : List Fork) (es : List Entry) → EachTwo (IsHeldFor texts cancelled) fs es → EachTwo (IsEntryOf texts cancelled) fs (seen es)
seen-of texts cancelled [] [] h = tt
seen-of texts cancelled [] (e ∷ es) h = absurd h
seen-of texts cancelled (f ∷ fs) [] h = absurd h
seen-of texts cancelled (f ∷ fs) (e ∷ es) h = (h.0.entry, seen-of texts cancelled fs es h.1)

-- whose entry it is
paired : (texts : List (List ℕ)) (cancelled : List Label) (fs : List Fork) (es : List Entry) → EachTwo (IsHeldFor texts cancelled) fs es → (e : Entry) → IsIn e es → (f : Fork) × IsIn f fs × IsHeldFor texts cancelled f e
paired texts cancelled [] [] h e m = absurd m
paired texts cancelled [] (d ∷ es) h e m = absurd h
paired texts cancelled (f ∷ fs) [] h e m = absurd m
paired texts cancelled (f ∷ fs) (d ∷ es) h e (inl same) = (f, inl refl, subst (IsHeldFor texts cancelled f) (sym same) h.0)
paired texts cancelled (f ∷ fs) (d ∷ es) h e (inr m) = (let found = paired texts cancelled fs es h.1 e m in (found.0, inr found.1, found.2))

below-same : (Q R P S : Content) → Q ≡ P → R ≡ S → IsBelow P S → IsBelow Q R
below-same Q R P S a b h = subst (λ X. IsBelow X R) (sym a) (subst (IsBelow P) (sym b) h)

module _ (texts : List (List ℕ)) (theories : List Loaded) (loaded : IsLoadedSession texts theories) (cancelled : List Label) (notes : List Note) (statements : AreStatements texts theories notes)
    (es : List Entry) (two : EachTwo (IsHeldFor texts cancelled) (forks_of notes) es) where
  of : (e : Entry) → IsIn e es → (f : Fork) × IsIn f (forks_of notes) × IsHeldFor texts cancelled f e
  of e m = paired texts cancelled (forks_of notes) es two e m

  closed : (e : Entry) → IsIn e es → IsClosed e
  closed e m r own =
      let f = of e m in
      let result = f.2.result r own in
      (ap Theorem.prop result.states ∙ sym f.2.entry.prop, ap Theorem.hyps result.states, ap Theorem.pairs result.states)

  -- the lemma of a label, where it is an earlier one
  earlier-one : (f : Fork) → IsIn f (forks_of notes) → (g : Fork) → IsIn g (forks_of notes) → (l : Label) → l ≡ g.label → (A : Term) → IsEarlier (forks_of notes) f l A → (A ≡ g.prop) × IsBelow g.content f.content
  earlier-one f m g n l label A found =
      let same : found.lemma ≡ g = one_lemma (forks_of notes) (bound texts theories loaded notes statements).ascend found.lemma g found.stands n (found.label ∙ label) in
      (sym found.prop ∙ ap Fork.prop same, subst (λ (h : Fork). IsBelow h.content f.content) same found.below)

  grounded : (e : Entry) → IsIn e es → IsGrounded es e
  grounded e m r own d n among =
      let f = of e m in
      let g = of d n in
      let b = bound texts theories loaded notes statements in
      let result = f.2.result r own in
      let shown = shown_by texts theories loaded f.0 (some_fork texts theories loaded notes statements f.0 f.1) result.labels result.proof in
      let p : IsPromised f.0 d.label = each_at (IsPromised f.0) result.labels shown.promised d.label (subst (λ (th : Theorem). IsIn d.label th.rests) result.states among) in (
        λ name A declared. (earlier-one f.0 f.1 g.0 g.1 d.label g.2.entry.label A (b.promises f.0 f.1 d.label A (name, subst (λ (Q : Content). IsIn (PromiseDecl name d.label A) Q.declarations) result.content declared))).0 ∙ sym g.2.entry.prop,
        λ s other. below-same s.content r.content g.0.content f.0.content (g.2.result s other).content result.content (earlier-one f.0 f.1 g.0 g.1 d.label g.2.entry.label p.0 (b.promises f.0 f.1 d.label p.0 p.1)).1,
      )

pub entries_may_join : EntriesMayJoin
entries_may_join S loaded cancelled notes statements es two = record {
  entries = has_fates S.names S.theories loaded notes statements cancelled (seen es) (seen-of S.names cancelled (forks_of notes) es two);
  closed = each_of IsClosed es (closed S.names S.theories loaded cancelled notes statements es two);
  grounded = each_of (IsGrounded es) es (grounded S.names S.theories loaded cancelled notes statements es two);
}
