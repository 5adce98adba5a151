-- Where the promises of a command's next content come from, and that its theories stay.
use Rattle.std.proofs.Common.{◌≡◌, ◌⊎◌, ℕ, List, [], ◌∷◌, ◌++◌, sym, ap, subst, inl, inr}
use Rattle.pure_text.specs.Lists.{IsIn}
use Rattle.pure_text.proofs.ListLaws.{in_split}
use Rattle.pure_definitions.specs.Names.{Label}
use Rattle.pure_definitions.specs.Types.Typ.{Typ}
use Rattle.pure_definitions.specs.Terms.Term.{Term}
use Rattle.pure_definitions.specs.Declarations.Decl.{Decl, ClassDecl, ConDecl, ArityDecl, ConstDecl, AxiomDecl, PromiseDecl}
use Rattle.pure_grammar.specs.Theories.TheoryText.{Command}
use Rattle.pure_logic.specs.Content.{Content, definition}
use Rattle.pure_lookup.specs.Laws.{IsInSession}
use Rattle.pure_theory.specs.Stage.{with_declarations}
use Rattle.pure_declare.specs.Notes.{Note, Fork, Forked, Outcome}
use Rattle.pure_declare.specs.Commands.{Place}
use Rattle.pure_declare.specs.Promised.{DeclaresPromises}
use Rattle.pure_declare.specs.Sessions.{DeclaresInSession}
use Rattle.pure_declare.proofs.DoneLaws.{IsChanged, a_class, a_typ, an_arity, a_const, an_axiom, a_definition, IsBinding, IsDone, changes, binds, is_refused, declared-done}

-- The declaration is no promise.
abbrev IsNoPromise : Decl → Type 0
IsNoPromise (PromiseDecl x l A) = ⊥
IsNoPromise _ = Unit {0}

module _ (x : ℕ) (l : Label) (A : Term) where
  old-promise : (ds added : List Decl) → ((d : Decl) → IsIn d added → IsNoPromise d) → IsIn (PromiseDecl x l A) (ds ++ added) → IsIn (PromiseDecl x l A) ds
  old-promise ds added none m = elim (in_split (PromiseDecl x l A) ds added m) [ inl old ↦ old | inr new ↦ absurd (none (PromiseDecl x l A) new) ]

  one-none : (d : Decl) → IsNoPromise d → (e : Decl) → IsIn e (d ∷ []) → IsNoPromise e
  one-none d h e (inl same) = subst IsNoPromise (sym same) h
  one-none d h e (inr none) = absurd none

  two-none : (c f : ℕ) (T : Typ) (body : Term) (e : Decl) → IsIn e (definition c f T body) → IsNoPromise e
  two-none c f T body e (inl same) = subst IsNoPromise (sym same) tt
  two-none c f T body e (inr (inl same)) = subst IsNoPromise (sym same) tt
  two-none c f T body e (inr (inr none)) = absurd none

  one-more : (Q R : Content) (d : Decl) → IsNoPromise d → R ≡ with_declarations Q (Q.declarations ++ d ∷ []) → IsIn (PromiseDecl x l A) R.declarations → IsIn (PromiseDecl x l A) Q.declarations
  one-more Q R d nope e m = old-promise Q.declarations (d ∷ []) (one-none d nope) (subst (λ (S : Content). IsIn (PromiseDecl x l A) S.declarations) e m)

  changed-promise : (P : Place) (R : Content) → IsChanged P R → IsIn (PromiseDecl x l A) R.declarations → IsIn (PromiseDecl x l A) P.content.declarations
  changed-promise P R (a_class k names new found e) m = one-more P.content R (ClassDecl k) tt e m
  changed-promise P R (a_typ n params new e) m = one-more P.content R (ConDecl n params) tt e m
  changed-promise P R (an_arity a is e) m = one-more P.content R (ArityDecl a) tt e m
  changed-promise P R (a_const n span T new is e) m = one-more P.content R (ConstDecl n _) tt e m
  changed-promise P R (an_axiom n span s new is e) m = one-more P.content R (AxiomDecl n s.prop) tt e m
  changed-promise P R (a_definition c f T body is e) m = old-promise P.content.declarations (definition c f T body) (two-none c f T body) (subst (λ (S : Content). IsIn (PromiseDecl x l A) S.declarations) e m)

  -- The promise stood before, or is the lemma's.
  abbrev ComesFrom : Place → Note → Type 0
  ComesFrom P note = IsIn (PromiseDecl x l A) P.content.declarations ⊎ ((f : Fork) × (note ≡ Forked f) × (f.label ≡ l) × (f.prop ≡ A))

  label-same : (y : ℕ) (m : Label) (B : Term) → PromiseDecl x l A ≡ PromiseDecl y m B → m ≡ l
  label-same y m B e = cc

  prop-same : (y : ℕ) (m : Label) (B : Term) → PromiseDecl x l A ≡ PromiseDecl y m B → B ≡ A
  prop-same y m B e = cc

  bound-promise : (P : Place) (command : Command) (o : Outcome) (b : IsBinding P command o) → IsIn (PromiseDecl x l A) o.next.declarations → ComesFrom P o.note
  bound-promise P command o b m =
      let here : IsIn (PromiseDecl x l A) (P.content.declarations ++ PromiseDecl b.number P.label b.stated.prop ∷ []) = subst (λ (p : Outcome). IsIn (PromiseDecl x l A) p.next.declarations) b.is m in
      elim (in_split (PromiseDecl x l A) P.content.declarations (PromiseDecl b.number P.label b.stated.prop ∷ []) here) [
        | inl old ↦ inl old
        | inr new ↦ elim new [
          | inl same ↦ inr (_, ap (λ (p : Outcome). p.note) b.is, label-same b.number P.label b.stated.prop same, prop-same b.number P.label b.stated.prop same)
          | inr none ↦ absurd none
        ]
      ]

  done-promise : (P : Place) (command : Command) (o : Outcome) → IsDone P command o → IsIn (PromiseDecl x l A) o.next.declarations → ComesFrom P o.note
  done-promise P command o (changes row is h) m = inl (changed-promise P o.next h m)
  done-promise P command o (binds b) m = bound-promise P command o b m
  done-promise P command o (is_refused row e) m = inl (subst (λ (p : Outcome). IsIn (PromiseDecl x l A) p.next.declarations) e m)

pub declares_promises : DeclaresPromises
declares_promises texts source label Q command note next h x l A m =
    let P : Place = record { texts = texts; source = source; label = label; theory = h.theory; content = Q } in
    let o : Outcome = record { note = note; next = next } in
    done-promise x l A P command o (declared-done P command o h.declares) m

-- The theories of a content stay, whatever is declared.
pub session-kept : (texts : List (List ℕ)) (Q : Content) (ds : List Decl) → IsInSession texts Q → IsInSession texts (with_declarations Q ds)
session-kept texts Q ds s = record { names = s.names; apart = record { ancestors = s.apart.ancestors; own = s.apart.own }; theories = s.theories }

changed-session : (P : Place) (R : Content) → IsInSession P.texts P.content → IsChanged P R → IsInSession P.texts R
changed-session P R s (a_class k names new found e) = subst (IsInSession P.texts) (sym e) (session-kept P.texts P.content _ s)
changed-session P R s (a_typ n params new e) = subst (IsInSession P.texts) (sym e) (session-kept P.texts P.content _ s)
changed-session P R s (an_arity a is e) = subst (IsInSession P.texts) (sym e) (session-kept P.texts P.content _ s)
changed-session P R s (a_const n span T new is e) = subst (IsInSession P.texts) (sym e) (session-kept P.texts P.content _ s)
changed-session P R s (an_axiom n span t new is e) = subst (IsInSession P.texts) (sym e) (session-kept P.texts P.content _ s)
changed-session P R s (a_definition c f T body is e) = subst (IsInSession P.texts) (sym e) (session-kept P.texts P.content _ s)

done-session : (P : Place) (command : Command) (o : Outcome) → IsInSession P.texts P.content → IsDone P command o → IsInSession P.texts o.next
done-session P command o s (changes row is h) = changed-session P o.next s h
done-session P command o s (binds b) = subst (λ (p : Outcome). IsInSession P.texts p.next) (sym b.is) (session-kept P.texts P.content (P.content.declarations ++ PromiseDecl b.number P.label b.stated.prop ∷ []) s)
done-session P command o s (is_refused row e) = subst (λ (p : Outcome). IsInSession P.texts p.next) (sym e) s

pub declares_in_session : DeclaresInSession
declares_in_session texts source label Q command note next s h =
    let P : Place = record { texts = texts; source = source; label = label; theory = h.theory; content = Q } in
    let o : Outcome = record { note = note; next = next } in
    done-session P command o s (declared-done P command o h.declares)
