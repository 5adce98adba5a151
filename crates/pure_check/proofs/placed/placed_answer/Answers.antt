use Rattle.std.proofs.Common.{refl}
use Rattle.pure_check.proofs.PlacedLemmas.{placed-text}
use Rattle.pure_check.proofs.placed.placed_answer.Goals as goal

pub returns-clause-ok : goal.returns-clause-ok
returns-clause-ok g c =
    placed-text c.args.session (g.L.Library.files c.args.library.now) c.args.workers _ refl _ c.as_slice.ensures.value _ c.in_ok-theories.ensures c.as_slice-3.result c.as_slice-3.ensures.value
    _ c.as_slice-2.ensures.value _ c.in_ok-refused.ensures.told c.as_slice-4.result c.as_slice-4.ensures.value _ refl c.session_answer.result c.session_answer.ensures.ok
