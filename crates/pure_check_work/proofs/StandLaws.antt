-- Whose the promises of a content are: lemmas of its own theory, bound before, and of the theory's ancestors.
use Rattle.std.proofs.Common.{◌≡◌, ◌∙◌, ◌⊎◌, ◌<◌, ℕ, zero, suc, ◌+◌, List, [], ◌∷◌, ◌++◌, length, map, append_assoc, append-nil, refl, sym, ap, subst, arith, Some, None, slice_get, inl, inr}
use Rattle.std.proofs.lemmas.Option.{none-some, same_Some, slice_get_within}
use Rattle.pure_text.specs.Lists.{IsIn, Each, EachTwo}
use Rattle.pure_text.proofs.ListLaws.{any_some, in-append_left, in-append_right}
use Rattle.pure_definitions.specs.Names.{Label}
use Rattle.pure_definitions.specs.Terms.Term.{Term}
use Rattle.pure_definitions.specs.Declarations.Decl.{PromiseDecl}
use Rattle.pure_grammar.specs.Theories.TheoryText.{Command}
use Rattle.pure_logic.specs.Content.{Content}
use Rattle.pure_logic.specs.PureContent.{pure_content}
use Rattle.pure_logic.proofs.MergeLaws.{merge_has_declarations}
use Rattle.pure_graph.specs.Order.{Loaded}
use Rattle.pure_table.specs.Declare.Notes.{Note, Fork, Said, Forked}
use Rattle.pure_table.specs.Declare.Parts.{Part}
use Rattle.pure_table.specs.Declare.Fold.{part_label, AreParts, AreDeclared}
use Rattle.pure_table.proofs.Declare.PartLaws.{parts_promise}
use Rattle.pure_table.specs.SessionLaws.Loaded.{IsLoadedSession}
use Rattle.pure_table.specs.SessionMeaning.Verdicts.{Verdict, Barred, Ran, IsTheoryAt, AreLast, Begins, beginning_over, Closes, barred, ran, AllClose, nothing, also}
use Rattle.pure_table.specs.SessionMeaning.Statements.{forks_of, IsRun, IsFork}
use Rattle.pure_table.specs.SessionMeaning.Steps.{command_label}
use Rattle.pure_table.proofs.SessionMeaning.ForkLaws.{IsLeft, fork-left, left-bound}
use Rattle.pure_table.proofs.SessionMeaning.OrderlyLaws.{no_promise-in_pure}
use Rattle.pure_machine.specs.State.{parents_at}
use Rattle.pure_core_end.specs.Places.{IsAncestor, parent, above, ComesBefore}
use Rattle.pure_check_work.specs.Relations.{shape_of}
use Rattle.pure_check_work.proofs.LeftLaws.{fork-at}

mapped-at : {A B : Type 0} (f : A → B) (xs : List A) (n : ℕ) (x : A) → slice_get xs n ≡ Some x → slice_get (map f xs) n ≡ Some (f x)
mapped-at f [] n x e = absurd (none-some x e)
mapped-at f (y ∷ ys) zero x e = ap (λ z. Some (f z)) (same_Some y x e)
mapped-at f (y ∷ ys) (suc n) x e = mapped-at f ys n x e

-- A promise with this label and statement stood in the content, or is that of a lemma among the notes.
abbrev Adds : Content → List Note → (x : ℕ) → Label → Term → Type 0
Adds Q notes x l A = IsIn (PromiseDecl x l A) Q.declarations ⊎ ((f : Fork) × IsIn (Forked f) notes × (f.label ≡ l) × (f.prop ≡ A))

adds-more : (Q : Content) (notes more : List Note) (x : ℕ) (l : Label) (A : Term) → Adds Q notes x l A → Adds Q (notes ++ more) x l A
adds-more Q notes more x l A (inl old) = inl old
adds-more Q notes more x l A (inr (f, m, label, prop)) = inr (f, in-append_left (Forked f) notes more m, label, prop)

-- what the parts of a command add
parts-promises : (texts : List (List ℕ)) (source : List ℕ) (label : Label) (place : ℕ) (Q : Content) (parts : List Part) (notes : List Note) (R : Content) → AreParts texts source label place Q parts notes R
    → (x : ℕ) (l : Label) (A : Term) → IsIn (PromiseDecl x l A) R.declarations → Adds Q notes x l A
parts-promises texts source label place Q [] notes R h x l A m = inl (subst (λ (P : Content). IsIn (PromiseDecl x l A) P.declarations) h.1 m)
parts-promises texts source label place Q (part ∷ parts) notes R h x l A m = elim (parts-promises texts source label (place + 1) h.1 parts h.2 R h.4 x l A m) [
  | inr later ↦ inr (later.0, subst (IsIn (Forked later.0)) (sym h.5) (inr later.1), later.2, later.3)
  | inl before ↦ elim (parts_promise texts source (part_label label place) Q part h.0 h.1 h.3 x l A before) [
    | inl old ↦ inl old
    | inr new ↦ inr (new.0, subst (IsIn (Forked new.0)) (sym h.5) (inl (sym new.1)), new.3, new.4)
  ]
]

-- what a fold adds
fold-promises : (texts : List (List ℕ)) (source : List ℕ) (i place : ℕ) (Q : Content) (cs : List Command) (notes : List Note) (R : Content) → AreDeclared texts source i place Q cs notes R → (x : ℕ) (l : Label) (A : Term) → IsIn (PromiseDecl x l A) R.declarations
    → Adds Q notes x l A
fold-promises texts source i place Q [] notes R h x l A m = inl (subst (λ (P : Content). IsIn (PromiseDecl x l A) P.declarations) h.1 m)
fold-promises texts source i place Q (c ∷ cs) notes R h x l A m = elim (fold-promises texts source i (place + 1) h.1 cs h.2 R h.4 x l A m) [
  | inr later ↦ inr (later.0, subst (IsIn (Forked later.0)) (sym h.5) (in-append_right (Forked later.0) h.0 h.2 later.1), later.2, later.3)
  | inl before ↦ subst (λ (ns : List Note). Adds Q ns x l A) (sym h.5) (adds-more Q h.0 h.2 x l A (parts-promises texts source (command_label i place) 0 Q h.3.parts h.0 h.1 h.3.are x l A before))
]

-- its place among the lemmas
fork-number : (ns : List Note) (f : Fork) → IsIn (Forked f) ns → (k : ℕ) × (slice_get (forks_of ns) k ≡ Some f)
fork-number [] f m = absurd m
fork-number (Said row ∷ ns) f (inl e) = absurd (cc)
fork-number (Said row ∷ ns) f (inr m) = fork-number ns f m
fork-number (Forked g ∷ ns) f (inl e) = (0, ap Some (same f g e))
  where
    same : (a b : Fork) → Forked a ≡ Forked b → b ≡ a
    same a b e = cc
fork-number (Forked g ∷ ns) f (inr m) = let w = fork-number ns f m in (suc w.0, w.1)

module _ (texts : List (List ℕ)) (theories : List Loaded) where
  -- a lemma with this label and statement, of the theory or of an ancestor, with its number
  record IsOf (i : ℕ) (l : Label) (A : Term) : Type 0 where
    theory : ℕ
    others : ℕ
    fork : Fork
    is : IsFork texts theories theory others fork
    label : fork.label ≡ l
    prop : fork.prop ≡ A
    kin : IsAncestor (shape_of theories) theory i ⊎ (theory ≡ i)

  -- such a lemma, before so many of the theory's own
  pub record IsBefore (i count : ℕ) (l : Label) (A : Term) : Type 0 where
    pub theory : ℕ
    pub others : ℕ
    pub fork : Fork
    pub is : IsFork texts theories theory others fork
    pub label : fork.label ≡ l
    pub prop : fork.prop ≡ A
    pub comes : ComesBefore (shape_of theories) theory others i count

  abbrev AreOf : ℕ → Content → Type 0
  AreOf i Q = (x : ℕ) (l : Label) (A : Term) → IsIn (PromiseDecl x l A) Q.declarations → IsOf i l A

  whole : (i count : ℕ) (l : Label) (A : Term) → IsBefore i count l A → IsOf i l A
  whole i count l A b = record { theory = b.theory; others = b.others; fork = b.fork; is = b.is; label = b.label; prop = b.prop; kin = elim b.comes [ inl older ↦ inl older | inr same ↦ inr same.0 ] }

  -- of a parent's content
  raised : (i p : ℕ) (theory : Loaded) → IsTheoryAt theories i theory → IsIn p theory.parents → (l : Label) (A : Term) (count : ℕ) → IsOf p l A → IsBefore i count l A
  raised i p theory at among l A count h = record {
    theory = h.theory;
    others = h.others;
    fork = h.fork;
    is = h.is;
    label = h.label;
    prop = h.prop;
    comes = inl (elim h.kin [
      | inl older ↦ above parents_are among older
      | inr same ↦ subst (λ j. IsAncestor (shape_of theories) j i) (sym same) (parent parents_are among)
    ]);
  }
    where
      parents_are : parents_at (shape_of theories) i ≡ Some theory.parents
      parents_are = subst (λ k. parents_at (shape_of theories) k ≡ Some theory.parents) (sym at.1) (mapped-at (λ (t : Loaded). t.parents) theories at.0 theory at.2)

  -- of the content with which a theory begins
  first-before : (i : ℕ) (theory : Loaded) → IsTheoryAt theories i theory → (parents : List Verdict) (first : Content) → (b : Begins texts i theory parents first) → ((P : Content) → IsIn P b.contents → (p : ℕ) × IsIn p theory.parents × AreOf p P)
      → (count x : ℕ) (l : Label) (A : Term) → IsIn (PromiseDecl x l A) first.declarations → IsBefore i count l A
  first-before i theory at parents first b of count x l A m = from b.contents of (any_some (λ (P : Content). IsIn (PromiseDecl x l A) P.declarations) (beginning_over b.contents) ((merge_has_declarations (beginning_over b.contents) first.declarations b.begins.merge (PromiseDecl x l A)).0 m))
    where
      from : (contents : List Content) → ((P : Content) → IsIn P contents → (p : ℕ) × IsIn p theory.parents × AreOf p P) → ((P : Content) × IsIn P (beginning_over contents) × IsIn (PromiseDecl x l A) P.declarations) → IsBefore i count l A
      from [] of (P, inl e, n) = absurd (no_promise-in_pure x l A (subst (λ (Q : Content). IsIn (PromiseDecl x l A) Q.declarations) e n))
      from [] of (P, inr none, n) = absurd none
      from (Q ∷ Qs) of (P, among, n) = (let there = of P among in raised i there.0 theory at there.1 l A count (there.2 x l A n))

  -- of a lemma among the first notes of a run
  among-before : (i : ℕ) (notes : List Note) (now : Content) (left : List Command) → IsRun texts theories i notes now left → (front back : List Note) → notes ≡ front ++ back → (f : Fork) → IsIn (Forked f) front
      → (l : Label) (A : Term) → f.label ≡ l → f.prop ≡ A → IsBefore i (length (forks_of front)) l A
  among-before i notes now left run front back e f m l A label prop =
      let number = fork-number front f m in
      let w = fork-at front number.0 f number.1 in
      let notes_are : notes ≡ w.0 ++ Forked f ∷ (w.1 ++ back) = e ∙ ap (λ (ns : List Note). ns ++ back) w.2 ∙ append_assoc w.0 (Forked f ∷ w.1) back in
      record {
        theory = i;
        others = number.0;
        fork = f;
        is = record { notes = w.0; more = w.1 ++ back; now = now; left = left; run = subst (λ (ns : List Note). IsRun texts theories i ns now left) notes_are run; count = w.3 };
        label = label;
        prop = prop;
        comes = inr (refl, slice_get_within (forks_of front) number.0 f number.1);
      }

  -- of the content of a run
  run-before : (i : ℕ) (notes : List Note) (now : Content) (left : List Command) (run : IsRun texts theories i notes now left) → ((P : Content) → IsIn P (run.begins).contents → (p : ℕ) × IsIn p (run.theory).parents × AreOf p P)
      → (x : ℕ) (l : Label) (A : Term) → IsIn (PromiseDecl x l A) now.declarations → IsBefore i (length (forks_of notes)) l A
  run-before i notes now left run of x l A m = elim (fold-promises texts (run.theory).source i 0 run.first run.done notes now run.declared x l A m) [
    | inl old ↦ first-before i run.theory run.is_at run.parents run.first run.begins of (length (forks_of notes)) x l A old
    | inr new ↦ among-before i notes now left run notes [] (sym (append-nil notes)) new.0 new.1 l A new.2 new.3
  ]

  mutual
    closes-of : {i : ℕ} {v : Verdict} → Closes texts theories i v → (notes : List Note) (last : Content) → v ≡ Ran notes last → AreOf i last
    closes-of (barred is_at closed is) notes last e = absurd (cc)
    closes-of (ran {index = i} {theory = theory} {parents = parents} {first = first} {last = final} {notes = all} is_at closed begins declared) notes last e = λ x l A m.
        whole i (length (forks_of all)) l A (run-before i all final [] (record {
          theory = theory;
          is_at = is_at;
          parents = parents;
          closed = closed;
          first = first;
          begins = begins;
          done = theory.text.commands;
          commands = end theory.text.commands;
          declared = declared;
        }) (all-of closed begins.contents begins.last) x l A (subst (λ (Q : Content). IsIn (PromiseDecl x l A) Q.declarations) (same all notes final last e) m))
      where
        end : (cs : List Command) → cs ≡ cs ++ []
        end [] = refl
        end (c ∷ cs) = ap (λ ds. c ∷ ds) (end cs)

        same : (ns ms : List Note) (P Q : Content) → Ran ns P ≡ Ran ms Q → Q ≡ P
        same ns ms P Q e = cc

    all-of : {indexes : List ℕ} {verdicts : List Verdict} → AllClose texts theories indexes verdicts → (contents : List Content) → AreLast verdicts contents → (P : Content) → IsIn P contents → (p : ℕ) × IsIn p indexes × AreOf p P
    all-of nothing [] last P m = absurd m
    all-of nothing (Q ∷ Qs) last P m = absurd last
    all-of (also c cs) [] last P m = absurd last
    all-of (also {index = p} c cs) (Q ∷ Qs) last P (inl e) = (p, inl refl, closes-of c last.0.0 P (last.0.1 ∙ ap (Ran last.0.0) (sym e)))
    all-of (also c cs) (Q ∷ Qs) last P (inr m) = let w = all-of cs Qs last.1 P m in (w.0, inr w.1, w.2)

  -- of the content over which a lemma stands
  pub fork-before : IsLoadedSession texts theories → (i k : ℕ) (f : Fork) → IsFork texts theories i k f → (x : ℕ) (l : Label) (A : Term) → IsIn (PromiseDecl x l A) f.content.declarations → IsBefore i k l A
  fork-before loaded i k f is x l A m = subst (λ n. IsBefore i n l A) is.count (elim added [
    | inl old ↦ first-before i (left.run).theory (left.run).is_at (left.run).parents (left.run).first (left.run).begins (all-of (left.run).closed ((left.run).begins).contents ((left.run).begins).last) (length (forks_of is.notes)) x l A old
    | inr new ↦ among-before i (is.notes ++ Forked f ∷ is.more) is.now is.left is.run is.notes (Forked f ∷ is.more) refl new.0 new.1 l A new.2 new.3
  ])
    where
      left : IsLeft texts theories i is.notes f
      left = fork-left texts theories i k f is

      there : IsIn (PromiseDecl x l A) left.now.declarations
      there = subst (λ (Q : Content). IsIn (PromiseDecl x l A) Q.declarations) (left-bound texts theories loaded i is.notes f left).content_is m

      added : Adds (left.run).first is.notes x l A
      added = subst (λ (ns : List Note). Adds (left.run).first ns x l A) (sym left.notes_are)
          (elim (parts-promises texts ((left.run).theory).source (command_label i (length (left.run).done)) 0 left.before (left.amid).passed left.inner left.now (left.amid).are x l A there) [
            | inl old ↦ adds-more (left.run).first left.whole left.inner x l A (fold-promises texts ((left.run).theory).source i 0 (left.run).first (left.run).done left.whole left.before (left.run).declared x l A old)
            | inr new ↦ inr (new.0, in-append_right (Forked new.0) left.whole left.inner new.1, new.2, new.3)
          ])
