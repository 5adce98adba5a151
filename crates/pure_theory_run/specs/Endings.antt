-- What the program holds of a theory that closed, as the definitions see it.
use Rattle.pure_theory_run.specs.declared.closed.Ending.{Ending}
use Rattle.pure_theory_run.specs.declared.closed.Ending.TheVariants as code
use Rattle.pure_theory_run.specs.Outline.{Outline, Barred, Ran}

abbrev pub seen_ending : Ending → Outline
seen_ending (code.Barred row) = Barred row
seen_ending (code.Ran rows last) = Ran rows.items last.value
