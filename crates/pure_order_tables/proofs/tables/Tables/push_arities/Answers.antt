use Rattle.std.proofs.Common.{◌∷◌, [], ◌++◌, ◌∙◌, ap, refl, take, take_all}
use Rattle.pure_definitions.specs.Types.Order.{Algebra}
use Rattle.pure_text.proofs.AnswerLaws.{test_fails}
use Rattle.pure_text.proofs.ListLaws.{in-map, each_at, each_read, read_in}
use Rattle.pure_order_tables.specs.Kept.{IsKeptEntry}
use Rattle.pure_order_tables.proofs.KeptLaws.{kept_copy}
use Rattle.pure_order_tables.specs.Arities.{IsKnown}
use Rattle.pure_order_tables.specs.ArityView.{arity_of, arities_of}
use Rattle.pure_order_tables.proofs.CoregularLaws.{one_more_arity}
use Rattle.pure_order_tables.proofs.JudgeLaws.{extends_itself}
use Rattle.pure_order_tables.proofs.OtherLaws.{others_none, others_kept, others_put}
use Rattle.pure_order_tables.proofs.tables.Tables.push_arities.Goals as goal
use Rattle.pure_order_tables.proofs.tables.Tables.push_arities.Goals.{then-not-has_same+in_ok-uncovered+in_ok-greater+in_ok-share+in_ok-push_arity, else-not-has_same}

pub uncovered-requires-clause-extends : goal.uncovered-requires-clause-extends
uncovered-requires-clause-extends c = extends_itself c.loop-i.self

pub uncovered-requires-clause-kept : goal.uncovered-requires-clause-kept
uncovered-requires-clause-kept c = rw c.loop-i.invariant.classes (each_read (IsKeptEntry c.args.self.now.classes) c.args.arities.now c.loop-i.i c.get-arity.result.now (rw c.len-i-end.ensures at c.loop-i-test.true) c.get-arity.ensures c.requires.kept)

pub uncovered-requires-clause-entries : goal.uncovered-requires-clause-entries
uncovered-requires-clause-entries c = record { are = c.arities.ensures.are; kept = c.arities.ensures.kept }

pub greater-requires-clause-kept : goal.greater-requires-clause-kept
greater-requires-clause-kept c = rw c.loop-i.invariant.classes (each_read (IsKeptEntry c.args.self.now.classes) c.args.arities.now c.loop-i.i c.get-arity.result.now (rw c.len-i-end.ensures at c.loop-i-test.true) c.get-arity.ensures c.requires.kept)

pub push_arity-requires-clause-kept : goal.push_arity-requires-clause-kept
push_arity-requires-clause-kept c = rw c.loop-i.invariant.classes (kept_copy c.args.self.now.classes c.get-arity.result.now c.in_ok-share.field-0 c.in_ok-share.ensures.same c.in_ok-share.ensures.rows (each_read (IsKeptEntry c.args.self.now.classes) c.args.arities.now c.loop-i.i c.get-arity.result.now (rw c.len-i-end.ensures at c.loop-i-test.true) c.get-arity.ensures c.requires.kept))

pub uncovered-requires-clause-declared : goal.uncovered-requires-clause-declared
uncovered-requires-clause-declared c = rw c.loop-i.invariant.classes (each_at (IsKnown c.args.self.now.classes) (arities_of c.args.arities.now) c.requires.known (arity_of c.get-arity.result.now) (in-map arity_of c.get-arity.result.now c.args.arities.now (read_in c.args.arities.now c.loop-i.i c.get-arity.result.now (rw c.len-i-end.ensures at c.loop-i-test.true) c.get-arity.ensures))).class

pub greater-requires-clause-declared : goal.greater-requires-clause-declared
greater-requires-clause-declared c = rw c.loop-i.invariant.classes (each_at (IsKnown c.args.self.now.classes) (arities_of c.args.arities.now) c.requires.known (arity_of c.get-arity.result.now) (in-map arity_of c.get-arity.result.now c.args.arities.now (read_in c.args.arities.now c.loop-i.i c.get-arity.result.now (rw c.len-i-end.ensures at c.loop-i-test.true) c.get-arity.ensures))).class

pub greater-requires-clause-uncovered : goal.greater-requires-clause-uncovered
greater-requires-clause-uncovered c = rw c.as_slice.ensures.value c.in_ok-uncovered.ensures

pub push_arity-requires-clause-known : goal.push_arity-requires-clause-known
push_arity-requires-clause-known c = rw (c.in_ok-share.ensures.same, c.loop-i.invariant.classes) (each_at (IsKnown c.args.self.now.classes) (arities_of c.args.arities.now) c.requires.known (arity_of c.get-arity.result.now) (in-map arity_of c.get-arity.result.now c.args.arities.now (read_in c.args.arities.now c.loop-i.i c.get-arity.result.now (rw c.len-i-end.ensures at c.loop-i-test.true) c.get-arity.ensures)))

pub push_arity-requires-clause-greater : goal.push_arity-requires-clause-greater
push_arity-requires-clause-greater c = rw (c.in_ok-share.ensures.same, c.as_slice-then-not-has_same.ensures.value) c.in_ok-greater.ensures

pub loop-i-init : goal.loop-i-init
loop-i-init c = record { classes = refl; arities = rw c.requires.same (others_none c.args.first.now.arities) }

pub loop-i-preserved : goal.loop-i-preserved
loop-i-preserved c =
    let read = one_more_arity c.args.arities.now c.loop-i.i c.get-arity.result.now (rw c.len-i-end.ensures at c.loop-i-test.true) c.get-arity.ensures in
    elim c.if-not-has_same.branch [
      | then-not-has_same+in_ok-uncovered+in_ok-greater+in_ok-share+in_ok-push_arity w ↦ record {
        classes = rw w.self-is (ap (λ (A : Algebra). A.classes) w.in_ok-push_arity.ensures.ok ∙ c.loop-i.invariant.classes);
        arities = rw w.self-is (others_put c.args.first.now.arities (arities_of (take c.loop-i.i c.args.arities.now)) _ c.loop-i.self.arities w.push_arity.new.self.arities (arity_of c.get-arity.result.now) read
            (ap (λ (A : Algebra). A.arities) w.in_ok-push_arity.ensures.ok ∙ ap (λ a. c.loop-i.self.arities ++ a ∷ []) w.in_ok-share.ensures.same) (test_fails _ c.has_same.result c.has_same.ensures w.if-not-has_same.true) c.loop-i.invariant.arities);
      }
      | else-not-has_same w ↦ record {
        classes = rw w.self-is c.loop-i.invariant.classes;
        arities = rw w.self-is (others_kept c.args.first.now.arities (arities_of (take c.loop-i.i c.args.arities.now)) _ c.loop-i.self.arities (arity_of c.get-arity.result.now) read (c.has_same.ensures.0 w.if-not-has_same.false) c.loop-i.invariant.arities);
      }
    ]

pub returns-clause-arities : goal.returns-clause-arities
returns-clause-arities c = rw (take_all c.loop-i.i c.args.arities.now (rw c.len-i-end.ensures at c.loop-i-test.false)) at c.loop-i.invariant.arities
