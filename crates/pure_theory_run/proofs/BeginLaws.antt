-- Runs of theories that begin.
use Rattle.std.proofs.Common.{◌≡◌, ◌∙◌, ℕ, List, [], ◌++◌, length, sym, refl, subst}
use Rattle.std.specs.Prelude.{Some, None, Result, Ok, Err, IfOk}
use Rattle.std.specs.declared.alloc.AllocError.{AllocError}
use Rattle.std.proofs.lemmas.List.{length-map}
use Rattle.pure_typ.specs.NameTexts.{HasText}
use Rattle.pure_logic.specs.Beginning.{IsBeginning}
use Rattle.pure_session_meaning.specs.Theory.Begin.{MayBegin}
use Rattle.pure_script.specs.Seen.{seen_command}
use Rattle.pure_session.specs.declared.order.Loaded as loaded
use Rattle.pure_session.specs.Waiting.{seen_loaded}
use Rattle.pure_logic.specs.Content.{Content}
use Rattle.pure_print.specs.declared.row.Row.{Row}
use Rattle.pure_graph.specs.Order.{Loaded}
use Rattle.pure_graph.specs.Outcome.{part_count}
use Rattle.pure_graph.specs.Session.{parent_refused_text}
use Rattle.pure_session_meaning.specs.Declare.Seen.{seen_notes}
use Rattle.pure_session_meaning.specs.Declare.declared.notes.Note as code_note
use Rattle.pure_session_meaning.specs.Verdicts.{IsTheoryAt, AreLast, Begins, by_parent, not_coregular, beginning_over, refused_theory}
use Rattle.pure_session_meaning.specs.SessionLaws.Loaded.{IsLoadedSession}
use Rattle.pure_session_meaning.proofs.StepLaws.{run_begins}
use Rattle.pure_session_meaning.proofs.OwnerLaws.{theories_may_begin}
use Rattle.pure_theory_run.specs.Outline.{Outline, lasts}
use Rattle.pure_theory_run.specs.Parents.{AreOutlinesOf, IsFirstBarredAt, IsNameOfParent}
use Rattle.pure_theory_run.specs.Runs.{IsUnderWay, IsStandingOf}
use Rattle.pure_theory_run.specs.Begun.{IsFirst, IsFirstOver, IsBegunOver}
use Rattle.pure_theory_run.specs.declared.run.Going.{Going}
use Rattle.pure_theory_run.specs.declared.run.Standing.{Standing}
use Rattle.pure_theory_run.specs.declared.run.Standing.TheVariants as code
use Rattle.pure_theory_run.proofs.OutlineLaws.{first-barred, last-all}

module _ (texts : List (List ℕ)) (theories : List Loaded) (index : ℕ) (T : Loaded) (at : IsTheoryAt theories index T) (values : List Outline) (parents : AreOutlinesOf texts theories T.parents values) where
  -- A parent was refused.
  pub barred-by_parent : (place : ℕ) (name : List ℕ) (row : Row) → IsFirstBarredAt values (Some place) → IsNameOfParent theories T.parents place name → row ≡ refused_theory T.name (parent_refused_text ++ name)
      → IsStandingOf texts theories index [] (code.Barred row)
  barred-by_parent place name row first named row_is = (
    refl,
    record {
      theory = T;
      is_at = at;
      parents = parents.verdicts;
      closed = parents.closed;
      barred = by_parent name (first-barred texts theories T.parents parents.verdicts place name (subst (λ (os : List Outline). IsFirstBarredAt os (Some place)) parents.values_are first) named) row_is;
    },
  )

  all-last : IsFirstBarredAt values None → AreLast parents.verdicts (lasts values)
  all-last none =
      subst (λ (os : List Outline). AreLast parents.verdicts (lasts os)) (sym parents.values_are) (last-all parents.verdicts (subst (λ (os : List Outline). IsFirstBarredAt os None) parents.values_are none))

  -- None was: it may begin.
  pub may-begin : IsLoadedSession texts theories → IsFirstBarredAt values None → (name : ℕ) → HasText texts name T.name → MayBegin (record { name = name; index = index }) (beginning_over (lasts values))
  may-begin session none name text = theories_may_begin texts theories session index T at parents.verdicts parents.closed (lasts values) (all-last none) name text

  first-begins : IsFirstBarredAt values None → (g : Going) (b : IsFirstOver texts index T (beginning_over (lasts values)) g) → Begins texts index T parents.verdicts b.first
  first-begins none g b = record {
    contents = lasts values;
    last = all-last none;
    name = b.name;
    text = b.text;
    may = b.may;
    begins = b.begins;
  }

  -- Then it is refused since they aren't coregular, or none of its commands was run yet.
  pub stands-begun : IsFirstBarredAt values None → (s : Standing) → IsBegunOver texts index T (beginning_over (lasts values)) s → IsStandingOf texts theories index [] s
  stands-begun none (code.Barred row) b = (
    refl,
    record {
      theory = T;
      is_at = at;
      parents = parents.verdicts;
      closed = parents.closed;
      barred = not_coregular (lasts values) (all-last none) b.con b.c1 b.c2 b.conflict b.row_is;
    },
  )
  stands-begun none (code.Going g) b = record {
    way = subst (λ (ws : List code_note.Note). IsUnderWay texts theories index (seen_notes ws) g.now.value g.left g.parts) (sym b.going_is.waiting)
        (subst (λ (Q : Content). IsUnderWay texts theories index [] Q g.left g.parts) (sym b.going_is.now) (record {
          commands = T.text.commands;
          run = run_begins texts theories index T at parents.verdicts parents.closed b.first (first-begins none g b);
          count = b.going_is.left_is;
          parts_are = b.going_is.parts_are;
        }));
    rows = b.going_is.rows;
  }

-- A row that names the first parent that was refused.
pub barred-named : (theories : List Loaded) (indexes : List ℕ) (place : ℕ) (name theory : List ℕ) (r : Result Row AllocError) → IsNameOfParent theories indexes place name
    → IfOk r (λ row. row ≡ refused_theory theory (parent_refused_text ++ name)) → IfOk r (λ row. (n : List ℕ) × IsNameOfParent theories indexes place n × (row ≡ refused_theory theory (parent_refused_text ++ n)))
barred-named theories indexes place name theory (Ok row) named h = (name, named, h)
barred-named theories indexes place name theory (Err e) named h = h

-- None of its commands was run yet.
pub first-over : (texts : List (List ℕ)) (index : ℕ) (t : loaded.Loaded) (Qs : List Content) (g : Going) (first : Content) (name left parts : ℕ) → HasText texts name t.name
    → MayBegin (record { name = name; index = index }) Qs → IsBeginning (record { name = name; index = index }) Qs first → left ≡ length t.text.commands.items
    → parts ≡ part_count (seen_loaded t).text.commands → IsFirst left parts first g → IsFirstOver texts index (seen_loaded t) Qs g
first-over texts index t Qs g first name left parts text may begins count own f = record {
  first = first;
  going_is = subst (λ (p : ℕ). IsFirst (length (seen_loaded t).text.commands) p first g) own (subst (λ (n : ℕ). IsFirst n parts first g) (count ∙ sym (length-map t.text.commands.items seen_command)) f);
  name = name;
  text = text;
  may = may;
  begins = begins;
}
