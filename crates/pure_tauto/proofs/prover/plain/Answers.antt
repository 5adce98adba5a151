use Rattle.pure_tauto.proofs.ProverLaws.{proof-of}
use Rattle.pure_tauto.proofs.prover.plain.Goals as goal

pub returns-then-is_proof-clause-plain : goal.returns-then-is_proof-clause-plain
returns-then-is_proof-clause-plain c =
    let yes = c.if-is_proof.true in
    proof-of _ c.args.goal.now (c.is_proof.ensures.hyps yes) (c.is_proof.ensures.pairs yes) (c.is_proof.ensures.prop yes) (c.is_proof.ensures.rests yes)
