-- A session comes to a table.
use Rattle.std.proofs.Common.{ℕ, List, Some, None, inl, inr, refl}
use Rattle.std.specs.List.{flat_map}
use Rattle.pure_definitions.specs.Names.{Label}
use Rattle.pure_graph.specs.Order.{Loaded}
use Rattle.pure_theory_run.specs.Declare.Notes.{Fork}
use Rattle.pure_lookup.proofs.MeantLaws.{found_somehow}
use Rattle.pure_promise_fates.proofs.ThereLaws.{among_or_not}
use Rattle.pure_promise.specs.Entries.{LemmaEntry}
use Rattle.pure_theory_run.proofs.Method.ReadyLaws.{ready, ready-fact, no-schematic}
use Rattle.pure_theory_run.proofs.Method.InLemmaLaws.{names_have_answers}
use Rattle.pure_theory_run.proofs.Method.ValueLaws.{proof_in-has_a_value}
use Rattle.pure_theory_run.specs.SessionLaws.Loaded.{IsLoadedSession}
use Rattle.pure_theory_run.specs.SessionMeaning.Statements.{notes_of, forks_of}
use Rattle.pure_theory_run.specs.SessionMeaning.Laws.{IsSomeFork}
use Rattle.pure_table.specs.Table.{IsEntryOf}
use Rattle.pure_table.specs.There.{ProofsHaveValues, TableIsThere}
use Rattle.pure_theory_run.proofs.SessionMeaning.CloseLaws.{statements_there}
use Rattle.pure_table.proofs.DerivedLaws.{standing, provable, some_fork, has_fates}
use Rattle.pure_table.proofs.FillingLaws.{beside, rows_there}

pub proofs_have_values : ProofsHaveValues
proofs_have_values texts theories loaded f some =
    let p = provable texts theories loaded f some in
    let r = ready texts f p (standing texts theories loaded f some).orderly.good.sound in
    proof_in-has_a_value texts f.content p.in_session r.unify f.lemma
    (record { found = names_have_answers texts f.content f.lemma (found_somehow texts f.content); normal = λ written th h. (ready-fact texts f.content r f.lemma written th h).normal })
    f.fixed p.proposition (no-schematic f.fixed p.statement.fixed) f.script p.script

module _ (texts : List (List ℕ)) (theories : List Loaded) (loaded : IsLoadedSession texts theories) (cancelled : List Label) where
  entry_there : (f : Fork) → IsSomeFork texts theories f → (e : LemmaEntry) × IsEntryOf texts cancelled f e
  entry_there f some = elim (among_or_not f.label cancelled) [
    | inl gone ↦ (record { label = f.label; name = f.name; prop = f.prop; own = None }, record { label = refl; name = refl; prop = refl; own = gone })
    | inr stays ↦ (let w = proofs_have_values texts theories loaded f some in
        (record { label = f.label; name = f.name; prop = f.prop; own = Some w.0 }, record { label = refl; name = refl; prop = refl; own = (stays, w.1) }))
  ]

pub table_is_there : TableIsThere
table_is_there S loaded cancelled =
    let s = statements_there S.names S.theories loaded in
    let notes = flat_map notes_of s.0 in
    let entries = beside (IsEntryOf S.names cancelled) (forks_of notes) (λ f m. entry_there S.names S.theories loaded cancelled f (some_fork S.names S.theories loaded notes s.1 f m)) in
    let ordered = has_fates S.names S.theories loaded notes s.1 cancelled entries.0 entries.1 in
    let rows = rows_there S.names entries.0 ordered in
    (record { notes = notes; entries = entries.0; lemmas = rows.0 }, record { statements = s.1; entries = entries.1; rows = rows.1 })
