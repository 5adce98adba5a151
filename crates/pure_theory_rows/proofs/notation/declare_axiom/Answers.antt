use Rattle.pure_definitions.specs.Types.Typ.{prop}
use Rattle.pure_logic.specs.PureContent.{pure_content, proposition_variable}
use Rattle.pure_logic.proofs.AboveLaws.{certified_of-above}
use Rattle.pure_logic.proofs.ChainLaws.{variable_is_proposition}
use Rattle.pure_theory_rows.proofs.notation.declare_axiom.Goals as goal

pub declare_axiom-requires : goal.declare_axiom-requires
declare_axiom-requires c =
    rw c.in_ok-prop.ensures (record { proposition = certified_of-above pure_content c.args.theory.now c.content_is_sound.ensures.above_pure (proposition_variable 0) prop (variable_is_proposition 0); schematic = tt })
