use Rattle.pure_resolve.proofs.SharedLaws.{preferred_taken}
use Rattle.std.proofs.Common.{◌++◌, ◌∙◌}
use Rattle.pure_resolve.proofs.reorder.preferred.Goals as goal

pub returns : goal.returns
returns c front A others C e count = c.app.ensures ∙ preferred_taken c.in_ok-first.field-0 A (front ++ others) C (c.in_ok-first.ensures front A others C e count)
