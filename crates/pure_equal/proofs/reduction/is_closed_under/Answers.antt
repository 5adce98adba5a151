use Rattle.std.proofs.Common.{inl, inr, arith}
use Rattle.std.proofs.lemmas.Bool.Decides.{leb_tells}
use Rattle.pure_definitions.proofs.MeasureLemmas.{closed_exactly}
use Rattle.pure_equal.proofs.reduction.is_closed_under.Goals as goal

pub returns : goal.returns
returns c =
    let exactly = closed_exactly c.args.binders c.args.t.now in
    elim (leb_tells c.loose_above_of.result c.from.result) [
      | inl w ↦ (let low = w.1 in (λ _. exactly.1 (omega arith), λ _. w.0))
      | inr w ↦ (let high = w.1 in let no = w.0 in (λ e. absurd (cc), λ h. (let low = exactly.0 h in absurd (omega arith))))
    ]
