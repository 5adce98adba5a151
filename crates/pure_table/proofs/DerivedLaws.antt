-- The table of a session: its lemmas have fates, and what is printed as proved is derivable.
use Rattle.std.proofs.Common.{◌≡◌, ℕ, List, [], ◌∷◌, inl, inr, refl, sym, ◌∙◌, subst, map, Ok}
use Rattle.std.specs.declared.cmp.Ordering.TheVariants.{Less}
use Rattle.pure_text.specs.Lists.{IsIn, EachTwo}
use Rattle.pure_text.proofs.ListLaws.{each_of}
use Rattle.pure_definitions.specs.Names.{Label}
use Rattle.pure_definitions.specs.Terms.Term.{Term}
use Rattle.pure_logic.specs.Derivable.{IsDerivable, IsDerivableAlone}
use Rattle.pure_logic.specs.Laws.Maps as maps
use Rattle.pure_logic.specs.Laws.Maps.{everything}
use Rattle.pure_theorem.specs.Facts.{IsPromise}
use Rattle.pure_theorem.specs.Sets.{label_cmp}
use Rattle.pure_unify_laws.specs.Condition.{IsUnifyContent}
use Rattle.pure_graph.specs.Order.{Loaded}
use Rattle.pure_promise_fates.specs.Entries.{AreEntries}
use Rattle.pure_promise_fates.specs.Entries as fates
use Rattle.pure_promise_fates.specs.Entries.{IsFate}
use Rattle.pure_print.specs.declared.row.Row.{Row}
use Rattle.pure_print.specs.declared.row.RowStatus.TheVariants as status
use Rattle.pure_statements.proofs.JoinLaws.{schematic-is_generalised}
use Rattle.pure_theory_run.specs.Declare.Notes.{Fork, Note}
use Rattle.pure_theory_run.specs.Method.Facts.{theorem}
use Rattle.pure_theory_run.specs.Method.Proof.{IsProofIn}
use Rattle.pure_theory_run.specs.Method.Outcome.{IsProvable}
use Rattle.pure_theory_run.proofs.Method.ReadyLaws.{unify_content, no-schematic}
use Rattle.pure_theory_run.proofs.Method.SoundLaws.{proved_in-derivable}
use Rattle.pure_theory_run.proofs.Method.FaultLaws.{rests_in-promised}
use Rattle.pure_promise.specs.Entries.{LemmaEntry, plain}
use Rattle.pure_promise.specs.Rows.{IsRowOf}
use Rattle.pure_promise.proofs.FateLaws.{proved_row}
use Rattle.pure_theory_run.specs.SessionLaws.Loaded.{IsLoadedSession}
use Rattle.pure_theory_run.specs.SessionMeaning.Statements.{forks_of, AreStatements}
use Rattle.pure_theory_run.specs.SessionMeaning.Laws.{IsSomeFork, IsStanding, IsPromiseOf}
use Rattle.pure_theory_run.proofs.SessionMeaning.ForkLaws.{forks_stand}
use Rattle.pure_theory_run.proofs.SessionMeaning.ProvableLaws.{forks_provable}
use Rattle.pure_theory_run.proofs.SessionMeaning.PromiseLaws.{promises_before_forks}
use Rattle.pure_theory_run.proofs.SessionMeaning.LabelLaws.{labels_ascend}
use Rattle.pure_theory_run.proofs.SessionMeaning.StatementLaws.{statements_bind_forks}
use Rattle.pure_table.specs.Table.{IsOwn, IsEntryOf, AreEntriesOf}
use Rattle.pure_table.specs.Laws.{LemmasProvable, TableHasFates, TableIsDerived}
use Rattle.pure_table.proofs.ClaimLaws.{IsEarlier, AreBound, IsShownBy, IsOf, ordered, proved_are_derivable}
use Rattle.pure_theory_run.proofs.SessionMeaning.LabelLaws.{before-less}

-- Lists of which each two elements are related, one after the other.
two_through : {A B C : Type 0} (R : A → B → Type 0) (S : B → C → Type 0) (T : A → C → Type 0) → ((a : A) (b : B) (c : C) → R a b → S b c → T a c)
    → (xs : List A) (ys : List B) (zs : List C) → EachTwo R xs ys → EachTwo S ys zs → EachTwo T xs zs
two_through R S T f [] [] [] h k = tt
two_through R S T f [] [] (c ∷ zs) h k = absurd k
two_through R S T f [] (b ∷ ys) zs h k = absurd h
two_through R S T f (a ∷ xs) [] zs h k = absurd h
two_through R S T f (a ∷ xs) (b ∷ ys) [] h k = absurd k
two_through R S T f (a ∷ xs) (b ∷ ys) (c ∷ zs) h k = (f a b c h.0 k.0, two_through R S T f xs ys zs h.1 k.1)

two_from : {A B : Type 0} (R S : A → B → Type 0) (P : A → Type 0) → ((a : A) (b : B) → P a → R a b → S a b) → (xs : List A) (ys : List B) → ((a : A) → IsIn a xs → P a) → EachTwo R xs ys → EachTwo S xs ys
two_from R S P f [] [] each h = tt
two_from R S P f [] (b ∷ ys) each h = absurd h
two_from R S P f (a ∷ xs) [] each h = absurd h
two_from R S P f (a ∷ xs) (b ∷ ys) each h = (f a b (each a (inl refl)) h.0, two_from R S P f xs ys (λ x m. each x (inr m)) h.1)

module _ (texts : List (List ℕ)) (theories : List Loaded) (loaded : IsLoadedSession texts theories) where
  pub standing : (f : Fork) → IsSomeFork texts theories f → IsStanding texts theories f
  standing f some = forks_stand texts theories loaded f some

  pub provable : (f : Fork) → IsSomeFork texts theories f → IsProvable texts f
  provable f (index, others, is) = forks_provable texts theories loaded index others f is

  unify : (f : Fork) → IsSomeFork texts theories f → IsUnifyContent f.content
  unify f some = unify_content f.content (standing f some).orderly.good.sound

  -- a lemma whose proof came to these promises is shown
  pub shown_by : (f : Fork) → IsSomeFork texts theories f → (rests : List Label) → IsProofIn texts f.content f.lemma f.fixed f.script (Ok rests) → IsShownBy f rests
  shown_by f some rests proof =
      let u = unify f some in
      let p = provable f some in
      let prop : maps.generalised (everything 0) f.fixed ≡ f.prop = sym (p.statement.prop ∙ schematic-is_generalised f.fixed) in
      record {
        content = u.content;
        derivable = subst (λ (A : Term). IsDerivable f.content (theorem A rests)) prop (proved_in-derivable texts f.content u f.lemma f.fixed p.proposition (no-schematic f.fixed p.statement.fixed) f.script rests proof);
        promised = rests_in-promised texts f.content f.lemma f.fixed f.script rests proof;
      }

  entry-of : (cancelled : List Label) (f : Fork) (e : LemmaEntry) → IsSomeFork texts theories f → IsEntryOf texts cancelled f e → IsOf f e
  entry-of cancelled f e some is = record {
    label = is.label;
    shown = λ rests own. shown_by f some rests (subst (IsOwn texts cancelled f) own is.own).1;
  }

  module _ (notes : List Note) (statements : AreStatements texts theories notes) where
    pub some_fork : (f : Fork) → IsIn f (forks_of notes) → IsSomeFork texts theories f
    some_fork f m = (statements_bind_forks texts theories loaded notes statements f).0 m

    earlier : (f : Fork) → IsIn f (forks_of notes) → (l : Label) (A : Term) → IsPromise f.content l A → IsEarlier (forks_of notes) f l A
    earlier f m l A (name, declared) =
        let some = some_fork f m in
        by (promises_before_forks texts theories loaded f some name l A declared) (before-less l f.label ((standing f some).above name l A declared))
      where
        by : ((g : Fork) × IsSomeFork texts theories g × IsPromiseOf l A f.content g) → label_cmp l f.label ≡ Less → IsEarlier (forks_of notes) f l A
        by (g, some, of) less = record {
          lemma = g;
          stands = (statements_bind_forks texts theories loaded notes statements g).1 some;
          label = of.label;
          prop = of.prop;
          below = of.below;
          earlier = less;
        }

    pub bound : AreBound (forks_of notes)
    bound = record { ascend = labels_ascend texts theories loaded notes statements; promises = earlier }

    entries_of : (cancelled : List Label) (es : List LemmaEntry) → AreEntriesOf texts cancelled notes es → EachTwo IsOf (forks_of notes) es
    entries_of cancelled es h = two_from (IsEntryOf texts cancelled) IsOf (IsSomeFork texts theories) (λ f e some is. entry-of cancelled f e some is) (forks_of notes) es some_fork h

    pub has_fates : (cancelled : List Label) (es : List LemmaEntry) → AreEntriesOf texts cancelled notes es → AreEntries (map plain es)
    has_fates cancelled es h = ordered (forks_of notes) es bound (entries_of cancelled es h)

pub lemmas_provable : LemmasProvable
lemmas_provable S loaded notes statements =
    each_of (IsProvable S.names) (forks_of notes) (λ f m. provable S.names S.theories loaded f (some_fork S.names S.theories loaded notes statements f m))

pub table_has_fates : TableHasFates
table_has_fates S loaded cancelled notes entries statements is = has_fates S.names S.theories loaded notes statements cancelled entries is

pub table_is_derived : TableIsDerived
table_is_derived S loaded cancelled t table =
    let two = entries_of S.names S.theories loaded t.notes table.statements cancelled t.entries table.entries in
    let b = bound S.names S.theories loaded t.notes table.statements in
    two_through
    (λ (f : Fork) (e : LemmaEntry). IsFate (map plain t.entries) e.label fates.Proved → IsDerivableAlone f.content f.prop)
    (IsRowOf S.names t.entries)
    (λ (f : Fork) (row : Row). row.status ≡ status.Proved → IsDerivableAlone f.content f.prop)
    (λ f e row derived is proved. derived ((proved_row S.names t.entries (ordered (forks_of t.notes) t.entries b two) e row is).0 proved))
    (forks_of t.notes) t.entries t.lemmas (proved_are_derivable (forks_of t.notes) t.entries b two) table.rows
