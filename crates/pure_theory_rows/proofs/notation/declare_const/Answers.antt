use Rattle.pure_logic.proofs.ConnectiveLaws.{prop-certified}
use Rattle.pure_theory_rows.proofs.notation.declare_const.Goals as goal

pub declare_const-requires-clause-certified : goal.declare_const-requires-clause-certified
declare_const-requires-clause-certified c = rw c.prop-typ.ensures (prop-certified c.args.theory.now c.content_is_sound.ensures.above_pure)
