use Rattle.pure_check.proofs.AxiomsLaws.{axioms_are_led_to as law}
use Rattle.pure_check.proofs.laws.axioms_are_led_to.Goals as goal

pub returns : goal.returns
returns c = law c.listed_suffice.ensures.led
