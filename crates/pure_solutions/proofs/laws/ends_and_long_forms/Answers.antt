use Rattle.pure_solutions.proofs.EndLaws.{long_forms_are_ends, ends_are_long_forms}
use Rattle.pure_solutions.proofs.laws.ends_and_long_forms.Goals as goal

pub returns-clause-ends : goal.returns-clause-ends
returns-clause-ends c = long_forms_are_ends

pub returns-clause-long : goal.returns-clause-long
returns-clause-long c = ends_are_long_forms
