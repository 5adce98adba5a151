use Rattle.std.proofs.Common.{ℕ, [], refl, arith}
use Rattle.std.specs.Prelude.{Ok, Err, Result, IfOk}
use Rattle.pure_definitions.specs.Types.Order.{Algebra}
use Rattle.pure_unify_definitions.specs.Node.{root}
use Rattle.pure_unify_definitions.specs.Simplification.{Failed, Visits}
use Rattle.pure_unify_definitions.specs.Search.{Searches, IsUnifyAnswer}
use Rattle.pure_unify.specs.declared.unifier.Unifier.{Unifier}
use Rattle.pure_unify.specs.declared.fault.UnifyFault.{UnifyFault}
use Rattle.pure_unify.specs.declared.fault.UnifyFault.TheVariants.{NoUnifier}
use Rattle.pure_unify.specs.Unified.{seen, IsToldAs, IsUnified}
use Rattle.pure_unify.specs.Unsolved.{IsNoFinal}
use Rattle.pure_unify_answers.specs.Maps.{Solves, IsFiniteUnifier}
use Rattle.pure_unify.proofs.FrameLaws.{told_of, unless_stopped, found_at, onward_at, none_held}
use Rattle.pure_unify.proofs.CallLaws.{solves_of, finite_of, final_of}
use Rattle.pure_unify.proofs.ClashLaws.{root_fails}
use Rattle.pure_unify.proofs.call.unify_while.Goals as goal

pub returns-then-fails_at_once-clause-answer : goal.returns-then-fails_at_once-clause-answer
returns-then-fails_at_once-clause-answer g c =
    let fails : (A : Algebra) (maxidx : ℕ) → Visits A maxidx (root c.args.pairs.now) Failed = rw c.if-fails_at_once.true at c.fails_at_once.ensures in
    root_fails c.args.order.now c.args.maxidx c.args.pairs.now (fails c.args.order.now c.args.maxidx)

pub returns-then-fails_at_once-clause-unsolved : goal.returns-then-fails_at_once-clause-unsolved
returns-then-fails_at_once-clause-unsolved g c = final_of c.args.order.now c.args.maxidx c.args.pairs.now (Err NoUnifier) (returns-then-fails_at_once-clause-answer g c)

pub returns-in-Ok-Some-clause-answer : goal.returns-in-Ok-Some-clause-answer
returns-in-Ok-Some-clause-answer g c =
    found_at c.args.order.now c.args.maxidx (IsUnifyAnswer c.args.order.now c.args.maxidx c.args.pairs.now) c.after_visit.new.search c.in-Ok-Some.field-0 c.in-Ok-Some.unifier c.in-Ok-Some.field-0-is
    (c.in-Ok-Some.ensures.answer c.args.order.now (root c.args.pairs.now) [] 0 c.visit_root-outcome.ensures.answer (none_held c.new.result.items c.new.ensures.items) refl (omega arith))

pub returns-in-Ok-Some-clause-solves : goal.returns-in-Ok-Some-clause-solves
returns-in-Ok-Some-clause-solves g c = solves_of c.args.order.now c.args.maxidx c.args.pairs.now (Ok c.in-Ok-Some.unifier) (returns-in-Ok-Some-clause-answer g c)

pub returns-in-Ok-Some-clause-finite : goal.returns-in-Ok-Some-clause-finite
returns-in-Ok-Some-clause-finite g c = finite_of c.args.order.now c.args.maxidx c.args.pairs.now (Ok c.in-Ok-Some.unifier) (returns-in-Ok-Some-clause-answer g c)

pub returns-in-Ok-None-clause-answer : goal.returns-in-Ok-None-clause-answer
returns-in-Ok-None-clause-answer g c =
    let step = onward_at c.args.order.now c.args.maxidx (IsUnifyAnswer c.args.order.now c.args.maxidx c.args.pairs.now) c.after_visit.new.search c.in-Ok-None.field-0 c.in-Ok-None.field-0-is
    (c.in-Ok-None.ensures.answer c.args.order.now (root c.args.pairs.now) [] 0 c.visit_root-outcome.ensures.answer (none_held c.new.result.items c.new.ensures.items) refl (omega arith)) in
    let searches = Searches c.args.order.now c.args.maxidx c.after_visit.new.search.visited c.after_visit.new.search.cut step.0 in
    unless_stopped (IsToldAs searches) (IsUnified c.args.order.now c.args.maxidx c.args.pairs.now) (told_of searches (IsUnifyAnswer c.args.order.now c.args.maxidx c.args.pairs.now) step.2) c.run.result (c.run.ensures.answer step.0 step.1)

pub returns-in-Ok-None-clause-solves : goal.returns-in-Ok-None-clause-solves
returns-in-Ok-None-clause-solves g c = λ Q content same can.
    unless_stopped (IsUnified c.args.order.now c.args.maxidx c.args.pairs.now) (λ (found : Result Unifier UnifyFault). IfOk found (λ u. Solves Q c.args.pairs.now (seen u))) (λ found told. solves_of c.args.order.now c.args.maxidx c.args.pairs.now found told Q content same can) c.run.result (returns-in-Ok-None-clause-answer g c)

pub returns-in-Ok-None-clause-finite : goal.returns-in-Ok-None-clause-finite
returns-in-Ok-None-clause-finite g c = λ Q content same can.
    unless_stopped (IsUnified c.args.order.now c.args.maxidx c.args.pairs.now) (λ (found : Result Unifier UnifyFault). IfOk found (λ u. IsFiniteUnifier Q (seen u))) (λ found told. finite_of c.args.order.now c.args.maxidx c.args.pairs.now found told Q content same can) c.run.result (returns-in-Ok-None-clause-answer g c)

pub returns-in-Ok-None-clause-unsolved : goal.returns-in-Ok-None-clause-unsolved
returns-in-Ok-None-clause-unsolved g c = λ few.
    unless_stopped (IsUnified c.args.order.now c.args.maxidx c.args.pairs.now) (IsNoFinal c.args.pairs.now) (λ found told. final_of c.args.order.now c.args.maxidx c.args.pairs.now found told few) c.run.result (returns-in-Ok-None-clause-answer g c)

pub returns-in-Err-clause-answer : goal.returns-in-Err-clause-answer
returns-in-Err-clause-answer g c = c.in-Err.ensures.answer c.args.order.now (root c.args.pairs.now) [] 0 c.visit_root-outcome.ensures.answer (none_held c.new.result.items c.new.ensures.items) refl (omega arith)

pub returns-in-Err-clause-unsolved : goal.returns-in-Err-clause-unsolved
returns-in-Err-clause-unsolved g c = final_of c.args.order.now c.args.maxidx c.args.pairs.now (Err c.in-Err.fault) (returns-in-Err-clause-answer g c)
