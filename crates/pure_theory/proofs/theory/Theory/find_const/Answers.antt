use Rattle.pure_theory.proofs.LookupLaws.{found_name}
use Rattle.pure_theory.proofs.theory.Theory.find_const.Goals as goal

pub returns : goal.returns
returns c = found_name _ _ _ _ c.find_name.result (λ e. absurd (cc)) c.find_name.ensures
