use Rattle.pure_pairs.proofs.EquatedModulo.{equal_modulo_is_equated}
use Rattle.pure_pairs.proofs.laws.equal_modulo_is_equated.Goals as goal

pub returns : goal.returns
returns c = equal_modulo_is_equated
