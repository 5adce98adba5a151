-- Each axiom that a lemma cites has its row in the table.
use Rattle.std.proofs.Common.{◌≡◌, ◌≢◌, ◌∙◌, ◌<◌, ℕ, ◌+◌, zero, suc, List, [], ◌∷◌, ◌++◌, take, drop, length, map, append_assoc, refl, sym, ap, subst, inl, inr, arith}
use Rattle.std.proofs.lemmas.Option.{slice_get_within}
use Rattle.std.specs.Prelude.{Some, slice_get}
use Rattle.std.specs.List.{flat_map}
use Rattle.pure_text.specs.Lists.{IsIn, Each, AnyOf}
use Rattle.pure_text.proofs.ListLaws.{each_at, any_some, in-append_left, in-append_right}
use Rattle.pure_definitions.specs.Names.{Label, protect_name}
use Rattle.pure_definitions.specs.Terms.Term.{Term}
use Rattle.pure_definitions.specs.Declarations.Decl.{AxiomDecl}
use Rattle.pure_grammar.specs.Theories.TheoryText.{Command, Step}
use Rattle.pure_logic.specs.Content.{TheoryId, Content, IsBelow}
use Rattle.pure_logic.specs.PureContent.{pure_content}
use Rattle.pure_logic.proofs.MergeLaws.{merge_has_declarations}
use Rattle.pure_lookup.specs.Meaning.{facts, Declared, IsMeant}
use Rattle.pure_lookup.specs.LookUps.{AxiomFact}
use Rattle.pure_lookup.proofs.MeaningLaws.{protect_is_never_found}
use Rattle.pure_graph.specs.Order.{Loaded}
use Rattle.pure_graph.specs.Session.{shown}
use Rattle.pure_print.specs.declared.row.Row.{Row}
use Rattle.pure_table.specs.Declare.Notes.{Fork, Note, Said, Forked}
use Rattle.pure_table.specs.Declare.Fold.{Declares as DeclaresSo}
use Rattle.pure_table.specs.Method.Facts.{named_facts}
use Rattle.pure_table.specs.SessionLaws.Loaded.{IsLoadedSession}
use Rattle.pure_table.specs.SessionMeaning.Verdicts.{Verdict, Barred, Ran, Begins, Closes, beginning_over}
use Rattle.pure_table.specs.SessionMeaning.Statements.{notes_of, forks_of, AreStatements, IsRun, IsFork}
use Rattle.pure_table.specs.SessionMeaning.Steps.{command_label}
use Rattle.pure_table.specs.SessionMeaning.Kept.{IsKept}
use Rattle.pure_table.proofs.SessionMeaning.StepLaws.{run_goes_on}
use Rattle.pure_table.proofs.SessionMeaning.KeptLaws.{run-has}
use Rattle.pure_table.proofs.SessionMeaning.FrontLaws.{run-closed}
use Rattle.pure_table.proofs.SessionMeaning.ForkLaws.{fork-left, left-bound}
use Rattle.pure_table.proofs.DerivedLaws.{some_fork}
use Rattle.pure_table.specs.Table.{with_rows, refusal_row, table_rows}
use Rattle.pure_citations.specs.Named.{MeansAxiom, NamesAxiom}
use Rattle.pure_citations.specs.Rowed.{Declares, CitedHaveRows}
use Rattle.pure_citations.proofs.AxiomRows.{IsRowNote, parts_axioms}
use Rattle.pure_citations.proofs.NamedLaws.{axiom-found}

-- The note is left by some command of the session.
abbrev pub IsSomeNote : (texts : List (List ℕ)) → (theories : List Loaded) → Note → Type 0
IsSomeNote texts theories note = (index : ℕ) × (notes : List Note) × (now : Content) × (left : List Command) × IsRun texts theories index notes now left × IsIn note notes

-- The axiom is declared by such a note.
abbrev HasRow : (texts : List (List ℕ)) → (theories : List Loaded) → ℕ → Type 0
HasRow texts theories n = (note : Note) × IsSomeNote texts theories note × IsRowNote texts n note

-- Each axiom of the content but Pure's own is.
abbrev HasRows : (texts : List (List ℕ)) → (theories : List Loaded) → Label → Content → Type 0
HasRows texts theories label Q = (n : ℕ) (A : Term) → IsIn (AxiomDecl n A) Q.declarations → n ≢ protect_name → HasRow texts theories n

only-own : (n : ℕ) (A : Term) → IsIn (AxiomDecl n A) pure_content.declarations → n ≡ protect_name
only-own n A (inl e) = absurd (cc)
only-own n A (inr (inl e)) = absurd (cc)
only-own n A (inr (inr (inl e))) = absurd (cc)
only-own n A (inr (inr (inr (inl e)))) = absurd (cc)
only-own n A (inr (inr (inr (inr (inl e))))) = absurd (cc)
only-own n A (inr (inr (inr (inr (inr (inl e)))))) = absurd (cc)
only-own n A (inr (inr (inr (inr (inr (inr (inl e))))))) = axiom-same n protect_name A _ e
  where
    axiom-same : (a b : ℕ) (B C : Term) → AxiomDecl a B ≡ AxiomDecl b C → a ≡ b
    axiom-same a b B C same = cc
only-own n A (inr (inr (inr (inr (inr (inr (inr none))))))) = absurd none

module _ (texts : List (List ℕ)) (theories : List Loaded) (session : IsLoadedSession texts theories) where
  first-rows : (index : ℕ) (theory : Loaded) (parents : List Verdict) (first : Content) (b : Begins texts index theory parents first) → Each (HasRows texts theories (command_label index 0)) (beginning_over b.contents)
      → HasRows texts theories (command_label index 0) first
  first-rows index theory parents first b h n A m other =
      let over = beginning_over b.contents in
      let P = any_some (λ (P : Content). IsIn (AxiomDecl n A) P.declarations) over ((merge_has_declarations over first.declarations b.begins.merge (AxiomDecl n A)).0 m) in
      each_at (HasRows texts theories (command_label index 0)) over h P.0 P.1 n A P.2 other

  next-rows : (index : ℕ) (notes : List Note) (now : Content) (command : Command) (left : List Command) (run : IsRun texts theories index notes now (command ∷ left)) (more : List Note) (next : Content)
      → DeclaresSo texts run.theory.source (command_label index (length run.done)) now command more next → HasRows texts theories (command_label index (length run.done)) now → HasRows texts theories (command_label index (length run.done + 1)) next
  next-rows index notes now command left run more next d h n A m other = elim (parts_axioms texts run.theory.source n A (command_label index (length run.done)) 0 now d.parts more next d.are m) [
    | inl old ↦ h n A old other
    | inr new ↦
        let on = run_goes_on texts theories index run.theory run.is_at notes now command left run more next d in
        (new.0, (index, notes ++ more, next, left, on, in-append_right new.0 notes more new.1), new.2)
  ]

  rows-kept : IsKept texts theories (HasRows texts theories)
  rows-kept = record {
    pure = λ label n A m other. absurd (other (only-own n A m));
    later = λ label other Q before h. h;
    begins = λ index theory is_at parents closed first b h. first-rows index theory parents first b h;
    declares = λ index notes now command left run more next d h. next-rows index notes now command left run more next d h;
  }

  -- So is each axiom of the content over which a lemma stands: a command before its own declares it, or one of the parts before its part.
  fork-rows : (index others : ℕ) (f : Fork) → IsFork texts theories index others f → (n : ℕ) (A : Term) → IsIn (AxiomDecl n A) f.content.declarations → n ≢ protect_name → HasRow texts theories n
  fork-rows index others f is n A m other =
      let left = fork-left texts theories index others f is in
      let there : IsIn (AxiomDecl n A) left.now.declarations = subst (λ (Q : Content). IsIn (AxiomDecl n A) Q.declarations) (left-bound texts theories session index is.notes f left).content_is m in
      elim (parts_axioms texts left.run.theory.source n A (command_label index (length left.run.done)) 0 left.before left.amid.passed left.inner left.now left.amid.are there) [
        | inl old ↦ run-has texts theories session (HasRows texts theories) rows-kept index left.whole left.before (left.command ∷ left.left) left.run n A old other
        | inr new ↦
            let among : IsIn new.0 is.notes = subst (λ (ns : List Note). IsIn new.0 ns) (sym left.notes_are) (in-append_right new.0 left.whole left.inner new.1) in
            (new.0, (index, is.notes ++ Forked f ∷ is.more, is.now, is.left, is.run, in-append_left new.0 is.notes (Forked f ∷ is.more) among), new.2)
      ]

  some-verdict : (vs : List Verdict) (p : ℕ) → p < length vs → (v : Verdict) × (slice_get vs p ≡ Some v)
  some-verdict [] p h = absurd (omega (arith, h))
  some-verdict (v ∷ vs) zero h = (v, refl)
  some-verdict (v ∷ vs) (suc p) h = some-verdict vs p (omega (arith, h))

  of-verdict : (vs : List Verdict) (note : Note) (p : ℕ) (v : Verdict) → slice_get vs p ≡ Some v → IsIn note (notes_of v) → IsIn note (flat_map notes_of vs)
  of-verdict [] note zero v h m = absurd (cc)
  of-verdict [] note (suc p) v h m = absurd (cc)
  of-verdict (w ∷ vs) note zero v h m =
      let same : w ≡ v = cc in
      in-append_left note (notes_of w) (flat_map notes_of vs) (subst (λ (x : Verdict). IsIn note (notes_of x)) (sym same) m)
  of-verdict (w ∷ vs) note (suc p) v h m = in-append_right note (notes_of w) (flat_map notes_of vs) (of-verdict vs note p v h m)

  -- Such a note is among the session's.
  pub noted : (notes : List Note) → AreStatements texts theories notes → (note : Note) → IsSomeNote texts theories note → IsIn note notes
  noted notes s note (index, before, now, left, run, among) =
      let place = run.is_at.0 in
      let within : place < length theories = slice_get_within theories place run.theory run.is_at.2 in
      let v = some-verdict s.verdicts place (omega (arith, within, s.all)) in
      let closes : Closes texts theories index v.0 = subst (λ (i : ℕ). Closes texts theories i v.0) (sym run.is_at.1) (s.are place v.0 v.1) in
      let w = run-closed texts theories session index before now left run closes in
      let there : IsIn note w.0 = subst (λ (ms : List Note). IsIn note ms) (sym w.4) (in-append_left note before w.3 among) in
      let here : IsIn note (notes_of v.0) = subst (λ (x : Verdict). IsIn note (notes_of x)) (sym w.2) there in
      subst (λ (ms : List Note). IsIn note ms) (sym s.notes_are) (of-verdict s.verdicts note place v.0 v.1 here)

-- A row that is said is among those of the table.
said-row : (notes : List Note) (lemmas : List Row) (row : Row) → IsIn (Said row) notes → IsIn row (with_rows notes lemmas)
said-row [] lemmas row m = absurd m
said-row (Said other ∷ notes) lemmas row (inl same) = inl (row-same row other same)
  where
    row-same : (a b : Row) → Said a ≡ Said b → a ≡ b
    row-same a b e = cc
said-row (Said other ∷ notes) lemmas row (inr m) = inr (said-row notes lemmas row m)
said-row (Forked fork ∷ notes) lemmas row (inl same) = absurd (cc)
said-row (Forked fork ∷ notes) lemmas row (inr m) = in-append_right row (take 1 lemmas) (with_rows notes (drop 1 lemmas)) (said-row notes (drop 1 lemmas) row m)

-- An axiom that steps name is declared, and not Pure's own.
named-declared : (texts : List (List ℕ)) (Q : Content) (lemma : ℕ) (script : List Step) (n : ℕ) → NamesAxiom texts Q lemma script n → (A : Term) × IsIn (AxiomDecl n A) Q.declarations × (n ≢ protect_name)
named-declared texts Q lemma script n names =
    let step = any_some (λ step. AnyOf (MeansAxiom texts Q lemma n) (named_facts step)) script names in
    let fact = any_some (MeansAxiom texts Q lemma n) (named_facts step.0) step.2 in
    let found = axiom-found texts Q lemma fact.0 (Some (AxiomFact n fact.2.0)) fact.2.1 n fact.2.0 refl in
    let meant = subst (λ m. IsMeant texts Q facts fact.0 m) found.2.0 found.1 in
    (fact.2.0, found.2.1, λ same. protect_is_never_found texts Q facts fact.0 (subst (λ k. IsMeant texts Q facts fact.0 (Declared k)) same meant))

pub cited_have_rows : CitedHaveRows
cited_have_rows S loaded cancelled t table l name c =
    let f = c.lemma in
    let some = some_fork S.names S.theories loaded t.notes table.statements f c.stands in
    let d = named-declared S.names f.content f.lemma f.script name c.names in
    let note = fork-rows S.names S.theories loaded some.0 some.1 f some.2 name d.0 d.1 d.2 in
    let there : IsIn note.0 t.notes = noted S.names S.theories loaded t.notes table.statements note.0 note.1 in
    let row = note.2 in
    (row.0, in-append_left row.0 (with_rows t.notes t.lemmas) (map refusal_row (map shown S.refused)) (said-row t.notes t.lemmas row.0 (subst (λ x. IsIn x t.notes) row.1 there)), row.2)
