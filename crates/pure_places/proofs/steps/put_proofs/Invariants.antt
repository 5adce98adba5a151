use Rattle.std.proofs.Common.{◌≡◌, drop}
use Rattle.pure_places.specs.Proofs.{own_proof}
use Rattle.pure_places.specs.Found.{found_proofs}
use Rattle.pure_places.specs.Stages.{seen_proofs, found_behind}
use Rattle.pure_places.proofs.steps.put_proofs.Given as goal

abbrev pub invariant-loop-token : goal.invariant-loop-token
invariant-loop-token l = found_behind l.source l.stage l.found (drop l.token-index l.tokens) ≡ found_proofs l.source own_proof (seen_proofs l.fn.found) l.tokens
