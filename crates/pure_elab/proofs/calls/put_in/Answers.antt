use Rattle.std.proofs.Common.{subst}
use Rattle.pure_definitions.specs.Terms.Term.{Term}
use Rattle.pure_elab.specs.Finished.{IsLimited}
use Rattle.pure_elab.proofs.PutInLaws.{put_same}
use Rattle.pure_elab.proofs.calls.put_in.Goals as goal

pub returns-then-has_large_image : goal.returns-then-has_large_image
returns-then-has_large_image c =
    subst (λ (t : Term). IsLimited t c.in_ok-found.found) (put_same c.args.settings.now.sets c.in_ok-full.full.sets c.in_ok-full.ensures c.args.term.value) c.in_ok-found.ensures
