use Rattle.std.proofs.Common.{subst}
use Rattle.pure_text.proofs.AnswerLaws.{test_fails}
use Rattle.pure_definitions.specs.Types.Order.{IsOfSort}
use Rattle.pure_definitions.specs.Terms.Subst.{TypBind, AreSortRespecting, AreTypeRespecting}
use Rattle.pure_definitions.specs.Declarations.Decl.{algebra_of}
use Rattle.pure_theorem.specs.First.{IsFirstWith}
use Rattle.pure_inst.proofs.DerivedLaws.{instance-derived}
use Rattle.pure_inst.proofs.InstanceLaws.{given, given-big, given-within}
use Rattle.pure_inst.proofs.instance.instantiate.Goals as goal

pub returns-in-Some-clause-answer : goal.returns-in-Some-clause-answer
returns-in-Some-clause-answer g c =
    subst (λ A. IsFirstWith (λ (b : TypBind). ¬ IsOfSort A b.image b.sort) c.args.typs.now c.in-Some.place) c.order.ensures
    (subst (λ bs. IsFirstWith (λ (b : TypBind). ¬ IsOfSort c.order.result.now b.image b.sort) bs c.in-Some.place) c.binds.ensures.are c.in-Some.ensures)

pub returns-then-not-theorem_fits-clause-answer : goal.returns-then-not-theorem_fits-clause-answer
returns-then-not-theorem_fits-clause-answer g c =
    let sorts = subst (λ A. AreSortRespecting A c.args.typs.now) c.order.ensures (subst (AreSortRespecting c.order.result.now) c.binds.ensures.are c.in_default.ensures) in
    let types = subst AreTypeRespecting c.binds-2.ensures.are (rw c.in_default-2.is at c.in_ok-place.ensures) in
    given-big (algebra_of (g.B.Base.content c.args.thy.now).declarations) c.args.typs.now c.args.terms.now c.args.th.now sorts types (test_fails _ c.theorem_fits.result c.theorem_fits.ensures c.if-not-theorem_fits.true)

pub returns-clause-answer : goal.returns-clause-answer
returns-clause-answer g c =
    let sorts = subst (λ A. AreSortRespecting A c.args.typs.now) c.order.ensures (subst (AreSortRespecting c.order.result.now) c.binds.ensures.are c.in_default.ensures) in
    let types = subst AreTypeRespecting c.binds-2.ensures.are (rw c.in_default-2.is at c.in_ok-place.ensures) in
    given-within (algebra_of (g.B.Base.content c.args.thy.now).declarations) c.args.typs.now c.args.terms.now c.args.th.now sorts types c.in_ok-put_into.field-0 c.in_ok-put_into.ensures
    (c.theorem_fits.ensures.0 c.if-not-theorem_fits.false)

pub returns-clause-derivable : goal.returns-clause-derivable
returns-clause-derivable g c = λ q certified_typs certified_terms h.
    let sorts = subst (λ A. AreSortRespecting A c.args.typs.now) c.order.ensures (subst (AreSortRespecting c.order.result.now) c.binds.ensures.are c.in_default.ensures) in
    let types = subst AreTypeRespecting c.binds-2.ensures.are (rw c.in_default-2.is at c.in_ok-place.ensures) in
    instance-derived (g.B.Base.content c.args.thy.now) q c.args.typs.now c.args.terms.now certified_typs certified_terms c.args.th.now h c.in_ok-put_into.field-0
    (given (algebra_of (g.B.Base.content c.args.thy.now).declarations) c.args.typs.now c.args.terms.now c.args.th.now sorts types c.in_ok-put_into.field-0 c.in_ok-put_into.ensures)
