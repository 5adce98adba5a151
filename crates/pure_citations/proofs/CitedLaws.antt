-- What is printed as proved is derivable from the axioms that it cites alone.
use Rattle.std.proofs.Common.{◌≡◌, ◌∙◌, ℕ, List, [], ◌∷◌, ◌++◌, inl, inr, refl, sym, ap, subst, map, append_assoc}
use Rattle.std.specs.Prelude.{Some, Ok}
use Rattle.std.specs.declared.cmp.Ordering.TheVariants.{Less}
use Rattle.pure_text.specs.Lists.{IsIn, EachTwo}
use Rattle.pure_text.proofs.ListLaws.{in-map, in_split, in-append_right, each_of}
use Rattle.pure_definitions.specs.Names.{Label}
use Rattle.pure_definitions.specs.Terms.Term.{Term}
use Rattle.pure_definitions.specs.Declarations.Decl.{PromiseDecl}
use Rattle.pure_logic.specs.Derivable.{IsDerivable, IsDerivableAlone}
use Rattle.pure_logic.specs.Laws.Maps as maps
use Rattle.pure_logic.specs.Laws.Maps.{everything}
use Rattle.pure_logic.specs.Laws.Promises.{IsSettled}
use Rattle.pure_logic.proofs.PromiseLaws.{settled_is_derivable}
use Rattle.pure_logic.proofs.WeakeningLaws.{weakening_of_derivable}
use Rattle.pure_theorem.specs.Sets.{label_cmp, IsLabelSet}
use Rattle.pure_unify_laws.specs.Condition.{IsUnifyContent}
use Rattle.pure_graph.specs.Order.{Loaded}
use Rattle.pure_promise_fates.specs.Entries as fates
use Rattle.pure_promise_fates.specs.Entries.{Own, Became, Shown, RestsOn, Reaches, directly, through, AreFaultsReached, ReachesCancelled, IsFate}
use Rattle.pure_promise_fates.proofs.LabelSets.{first_below, rest_is_set, not_itself, not_both}
use Rattle.pure_promise_fates.proofs.FateLaws.{one_of_label}
use Rattle.pure_print.specs.declared.row.Row.{Row}
use Rattle.pure_print.specs.declared.row.RowStatus.TheVariants as status
use Rattle.pure_table.specs.Promise.Entries.{LemmaEntry, plain}
use Rattle.pure_table.specs.Promise.Rows.{IsRowOf}
use Rattle.pure_table.proofs.Promise.FateLaws.{proved_row}
use Rattle.pure_statements.proofs.JoinLaws.{schematic-is_generalised}
use Rattle.pure_table.specs.Declare.Notes.{Fork, Note}
use Rattle.pure_table.specs.Method.Facts.{theorem}
use Rattle.pure_table.specs.Method.Proof.{IsProofIn}
use Rattle.pure_table.proofs.Method.ReadyLaws.{unify_content, no-schematic}
use Rattle.pure_table.proofs.Method.SoundLaws.{proved_in-derivable}
use Rattle.pure_table.specs.SessionLaws.Loaded.{IsLoadedSession}
use Rattle.pure_table.specs.SessionMeaning.Statements.{forks_of, AreStatements}
use Rattle.pure_table.specs.SessionMeaning.Laws.{IsSomeFork}
use Rattle.pure_table.specs.Table.{IsOwn, IsEntryOf, AreEntriesOf}
use Rattle.pure_table.proofs.ClaimLaws.{own-shown}
use Rattle.pure_table.proofs.DerivedLaws.{standing, provable, some_fork, bound, has_fates}
use Rattle.pure_citations.specs.Without.{with_axioms}
use Rattle.pure_citations.specs.Cites.{IsReachedFrom, Cites}
use Rattle.pure_citations.specs.Laws.{AreAllCited, CitedSuffice, HeldSuffice}
use Rattle.pure_citations.proofs.WithoutLaws.{kept-in, proposition-kept, content-kept, unify-kept, below-kept}
use Rattle.pure_citations.proofs.KeptProofs.{proof-kept}

-- Of two lists that belong together, what stands beside an element.
pub beside : {A B : Type 0} (T : A → B → Type 0) (xs : List A) (ys : List B) → EachTwo T xs ys → (x : A) → IsIn x xs → (y : B) × IsIn y ys × T x y
beside T [] ys h x m = absurd m
beside T (a ∷ xs) [] h x m = absurd h
beside T (a ∷ xs) (b ∷ ys) h x (inl e) = (b, inl refl, subst (λ c. T c b) (sym e) h.0)
beside T (a ∷ xs) (b ∷ ys) h x (inr m) = let found = beside T xs ys h.1 x m in (found.0, inr found.1, found.2)

-- A lemma before one of those left is done.
earlier_is_done : (done : List Fork) (f : Fork) (left : List Fork) → IsLabelSet (map Fork.label (done ++ f ∷ left)) → (g : Fork) → IsIn g (done ++ f ∷ left) → label_cmp g.label f.label ≡ Less → IsIn g done
earlier_is_done [] f left h g m less = elim m [
  | inl e ↦ absurd (not_itself f.label (subst (λ k. label_cmp k f.label ≡ Less) (ap Fork.label e) less))
  | inr n ↦ absurd (not_both g.label f.label less (first_below f.label (map Fork.label left) h g.label (in-map Fork.label g left n)))
]
earlier_is_done (b ∷ bs) f left h g m less = elim m [
  | inl e ↦ inl e
  | inr n ↦ inr (earlier_is_done bs f left (rest_is_set b.label (map Fork.label (bs ++ f ∷ left)) h) g n less)
]

module _ (texts : List (List ℕ)) (theories : List Loaded) (loaded : IsLoadedSession texts theories) (notes : List Note) (statements : AreStatements texts theories notes) (cancelled : List Label) (es : List LemmaEntry)
    (are : AreEntriesOf texts cancelled notes es) where
  abbrev fs : List Fork
  fs = forks_of notes

  abbrev ps : List fates.Entry
  ps = map plain es

  some : (f : Fork) → IsIn f fs → IsSomeFork texts theories f
  some f m = some_fork texts theories loaded notes statements f m

  unify : (f : Fork) → IsIn f fs → IsUnifyContent f.content
  unify f m = unify_content f.content (standing texts theories loaded f (some f m)).orderly.good.sound

  -- What becomes of a lemma is its entry's.
  became : (f : Fork) (e : LemmaEntry) → IsIn e es → IsEntryOf texts cancelled f e → (own : Own) → (plain e).own ≡ own → Became ps f.label own
  became f e m is own same = record { entry = plain e; stands = in-map plain e es m; of_label = is.label; own_is = same }

  lists : IsLabelSet (map fates.Entry.label ps)
  lists = (has_fates texts theories loaded notes statements cancelled es are).ascend

  -- A lemma that became shown has a proof that comes to the same promises.
  pub proof-of : (f : Fork) → IsIn f fs → (rests : List Label) → Became ps f.label (Shown rests) → IsProofIn texts f.content f.lemma f.fixed f.script (Ok rests)
  proof-of f m rests b =
      let found = beside (IsEntryOf texts cancelled) fs es are f m in
      let e = found.0 in
      let same : b.entry ≡ plain e = one_of_label ps lists b.entry (plain e) b.stands (in-map plain e es found.1) (b.of_label ∙ sym found.2.label) in
      let own : e.own ≡ Some (Ok rests) = own-shown e.own rests (sym (ap fates.Entry.own same) ∙ b.own_is) in
      (subst (IsOwn texts cancelled f) own found.2.own).1

  module _ (l : Label) (names : List ℕ) (cited : (name : ℕ) → Cites texts fs es l name → IsIn name names) where
    -- The lemma, where it is reached and proved, is derivable without other axioms.
    abbrev Settled : Fork → Type 0
    Settled f = IsReachedFrom es l f.label → IsFate ps f.label fates.Proved → IsDerivableAlone (with_axioms names f.content) f.prop

    derivable : (f : Fork) → IsIn f fs → IsReachedFrom es l f.label → (rests : List Label) → Became ps f.label (Shown rests) → IsDerivable (with_axioms names f.content) (theorem f.prop rests)
    derivable f m reached rests b =
        let p = provable texts theories loaded f (some f m) in
        let u = unify f m in
        let prop : maps.generalised (everything 0) f.fixed ≡ f.prop = sym (p.statement.prop ∙ schematic-is_generalised f.fixed) in
        let proof = proof-kept texts f.content names f.lemma p.in_session u.content f.fixed f.script rests
        (λ n h. cited n (record { lemma = f; stands = m; reached = reached; shown = (rests, b); names = h })) (proof-of f m rests b) in
        subst (λ (A : Term). IsDerivable (with_axioms names f.content) (theorem A rests)) prop
        (proved_in-derivable texts (with_axioms names f.content) (unify-kept names f.content u) f.lemma f.fixed (proposition-kept names f.content f.fixed p.proposition) (no-schematic f.fixed p.statement.fixed) f.script rests proof)

    through_one : (k j : Label) → IsReachedFrom es l k → RestsOn ps k j → IsReachedFrom es l j
    through_one k j (inl e) on = inr (directly (subst (λ i. RestsOn ps i j) (sym e) on))
    through_one k j (inr r) on = inr (further l k r j on)
      where
        further : (i k : Label) → Reaches ps i k → (j : Label) → RestsOn ps k j → Reaches ps i j
        further i k (directly h) j on = through k h (directly on)
        further i k (through m h r) j on = through m h (further m k r j on)

    -- What a proved lemma rests on is proved.
    rested : (k : Label) (g : Fork) → IsIn g fs → RestsOn ps k g.label → AreFaultsReached ps k [] → ¬ ReachesCancelled ps k → IsFate ps g.label fates.Proved
    rested k g m on none no_cancelled =
        let found = beside (IsEntryOf texts cancelled) fs es are g m in
        by found.0 found.1 found.2 (plain found.0).own refl
      where
        by : (e : LemmaEntry) → IsIn e es → IsEntryOf texts cancelled g e → (own : Own) → (plain e).own ≡ own → IsFate ps g.label fates.Proved
        by e n is (Shown more) same =
            fates.proved more (became g e n is (Shown more) same) (record { ascend = none.ascend; exactly = λ j. (λ a. absurd a, λ r. (none.exactly j).1 (through g.label on r.0, r.1)) })
            (λ r. no_cancelled (r.0, through g.label on r.1, r.2))
        by e n is fates.Fault same = absurd ((none.exactly g.label).1 (directly on, became g e n is fates.Fault same))
        by e n is fates.Cancelled same = absurd (no_cancelled (g.label, directly on, became g e n is fates.Cancelled same))

    next : (f : Fork) → IsIn f fs → ((g : Fork) → IsIn g fs → label_cmp g.label f.label ≡ Less → Settled g) → Settled f
    next f m before reached (fates.proved rests is none no_cancelled) =
        let Q = with_axioms names f.content in
        let content = content-kept names f.content (unify f m).content in
        settled_is_derivable Q content (theorem f.prop rests) (each_of (IsSettled Q) rests (λ k among name A declared.
        let b = bound texts theories loaded notes statements in
        let earlier = b.promises f m k A (name, kept-in names (PromiseDecl name k A) f.content.declarations declared) in
        let g = earlier.lemma in
        let on : RestsOn ps f.label g.label = (rests, is, subst (λ j. IsIn j rests) (sym earlier.label) among) in
        let alone = before g earlier.stands (subst (λ j. label_cmp j f.label ≡ Less) (sym earlier.label) earlier.earlier) (through_one f.label g.label reached on) (rested f.label g earlier.stands on none no_cancelled) in
        weakening_of_derivable (with_axioms names g.content) Q (content-kept names g.content (unify g earlier.stands).content) (below-kept names g.content f.content earlier.below) (theorem A [])
        (subst (λ (B : Term). IsDerivableAlone (with_axioms names g.content) B) earlier.prop alone)))
        (derivable f m reached rests is)

    all_settled : (done left : List Fork) → fs ≡ done ++ left → ((g : Fork) → IsIn g done → Settled g) → (g : Fork) → IsIn g left → Settled g
    all_settled done [] is before g m = absurd m
    all_settled done (f ∷ left) is before g m =
        let inside : IsIn f fs = rw is (in-append_right f done (f ∷ left) (inl refl)) in
        let ascend = (bound texts theories loaded notes statements).ascend in
        let here : Settled f = next f inside (λ b n less. before b (earlier_is_done done f left (rw is at ascend) b (rw is at n) less)) in
        elim m [
          | inl e ↦ subst Settled (sym e) here
          | inr n ↦ all_settled (done ++ f ∷ []) left (is ∙ sym (append_assoc done (f ∷ []) left)) (λ b k. elim (in_split b done (f ∷ []) k) [
            | inl o ↦ before b o
            | inr o ↦ elim o [ inl e ↦ subst Settled (sym e) here | inr p ↦ absurd p ]
          ]) g n
        ]

  -- A proved lemma is derivable without axioms that it doesn't cite.
  pub derived-by_cited : (f : Fork) → IsIn f fs → IsFate ps f.label fates.Proved → (names : List ℕ) → ((name : ℕ) → Cites texts fs es f.label name → IsIn name names) → IsDerivableAlone (with_axioms names f.content) f.prop
  derived-by_cited f m fate names cited = all_settled f.label names cited [] fs refl (λ g n. absurd n) f m (inl refl) fate

-- Of two lists that belong together, and the second with a third.
two_through : {A B C : Type 0} (R : A → B → Type 0) (S : B → C → Type 0) (T : A → C → Type 0) (P : A → Type 0) → ((a : A) (b : B) (c : C) → P a → R a b → S b c → T a c)
    → (xs : List A) (ys : List B) (zs : List C) → ((a : A) → IsIn a xs → P a) → EachTwo R xs ys → EachTwo S ys zs → EachTwo T xs zs
two_through R S T P f [] [] [] p h k = tt
two_through R S T P f [] [] (c ∷ zs) p h k = absurd k
two_through R S T P f [] (b ∷ ys) zs p h k = absurd h
two_through R S T P f (a ∷ xs) [] zs p h k = absurd h
two_through R S T P f (a ∷ xs) (b ∷ ys) [] p h k = absurd k
two_through R S T P f (a ∷ xs) (b ∷ ys) (c ∷ zs) p h k = (f a b c (p a (inl refl)) h.0 k.0, two_through R S T P f xs ys zs (λ x m. p x (inr m)) h.1 k.1)

pub cited_suffice : CitedSuffice
cited_suffice S loaded cancelled t table =
    let fs = forks_of t.notes in
    let es = has_fates S.names S.theories loaded t.notes table.statements cancelled t.entries table.entries in
    two_through (IsEntryOf S.names cancelled) (IsRowOf S.names t.entries) (λ (f : Fork) (row : Row). row.status ≡ status.Proved → (names : List ℕ) → AreAllCited S t f names → IsDerivableAlone (with_axioms names f.content) f.prop)
    (λ f. IsIn f fs)
    (λ f e row m entry is proved names cited.
    derived-by_cited S.names S.theories loaded t.notes table.statements cancelled t.entries table.entries f m
    (subst (λ k. IsFate (map plain t.entries) k fates.Proved) entry.label ((proved_row S.names t.entries es e row is).0 proved)) names cited)
    fs t.entries t.lemmas (λ f m. m) table.entries table.rows

pub two_imply : {A B : Type 0} (R T : A → B → Type 0) → (xs : List A) (ys : List B) → ((a : A) (b : B) → IsIn a xs → R a b → T a b) → EachTwo R xs ys → EachTwo T xs ys
two_imply R T [] [] f h = tt
two_imply R T [] (b ∷ ys) f h = absurd h
two_imply R T (a ∷ xs) [] f h = absurd h
two_imply R T (a ∷ xs) (b ∷ ys) f h = (f a b (inl refl) h.0, two_imply R T xs ys (λ c d m. f c d (inr m)) h.1)

pub held_suffice : HeldSuffice
held_suffice S loaded cancelled t table =
    two_imply _ _ (forks_of t.notes) t.lemmas (λ f row m derived proved held are names listed.
    let entry = beside (IsEntryOf S.names cancelled) (forks_of t.notes) t.entries table.entries f m in
    derived proved names (λ name cites. listed name ((are name).1 (entry.0, entry.1, entry.2.name, subst (λ l. Cites S.names (forks_of t.notes) t.entries l name) (sym entry.2.label) cites))))
    (cited_suffice S loaded cancelled t table)
