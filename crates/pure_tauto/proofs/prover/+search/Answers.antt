use Rattle.std.proofs.Common.{sym, subst}
use Rattle.pure_kernel.specs.Definitions.Declarations.Certified.{IsCertified}
use Rattle.pure_tauto.specs.Decided.{AreDerivable}
use Rattle.pure_tauto.proofs.ProverLaws.{certified-premise, certified-conclusion}
use Rattle.pure_tauto.proofs.prover.+search.Goals as goal

pub prove-returns-in-Some : goal.prove-returns-in-Some
prove-returns-in-Some g t c = λ q h k. c.prove_implication.ensures q (subst (IsCertified (g.B.Base.content c.args.thy.now).declarations) c.in-Some.ensures h) k

pub prove_implication-returns : goal.prove_implication-returns
prove_implication-returns g t c = λ q h k.
    let a = certified-premise (g.B.Base.content c.args.thy.now).declarations c.args.a.now c.args.b.now h in
    let b = certified-conclusion (g.B.Base.content c.args.thy.now).declarations c.args.a.now c.args.b.now h in
    c.discharged.ensures q a (c.in_ok-found.ensures q b (subst (AreDerivable (g.B.Base.content c.args.thy.now)) (sym c.deref.ensures.value) (c.in_ok-more.ensures a k)))

pub fulfilled_at-returns : goal.fulfilled_at-returns
fulfilled_at-returns g t c = λ q k.
    let ab = c.in-Some.ensures (g.B.Base.content c.args.thy.now) q k in
    c.concluded.ensures q k (c.in_ok-found.ensures q ab (subst (AreDerivable (g.B.Base.content c.args.thy.now)) (sym c.deref.ensures.value) (c.in_ok-less.ensures q ab k)))
