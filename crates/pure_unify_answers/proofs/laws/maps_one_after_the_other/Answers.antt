use Rattle.pure_unify_answers.proofs.MapLaws.{maps_one_after_the_other}
use Rattle.pure_unify_answers.proofs.laws.maps_one_after_the_other.Goals as goal

pub returns : goal.returns
returns c = maps_one_after_the_other
