use Rattle.pure_core_runs.proofs.SeatLaws.{orderly-others, orderly-own}
use Rattle.pure_core_runs.proofs.laws.orderly_grows.Goals as goal

pub returns : goal.returns
returns g c = λ o acts more seat orderly. (orderly-others o acts more seat orderly, λ e. orderly-own o acts seat e orderly)
