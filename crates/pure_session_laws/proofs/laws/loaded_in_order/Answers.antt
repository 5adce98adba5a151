use Rattle.pure_session_laws.proofs.OrderLaws.{loaded-in-order}
use Rattle.pure_session_laws.proofs.laws.loaded_in_order.Goals as goal

pub returns : goal.returns
returns c = loaded-in-order
