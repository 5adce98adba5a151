use Rattle.pure_term_laws.proofs.OrderExamples.{certified_example, certified_parts_example, not_certified_example, certified_images_example}
use Rattle.pure_term_laws.proofs.laws.certified_example.Goals as goal

pub returns-clause-certified : goal.returns-clause-certified
returns-clause-certified c = certified_example

pub returns-clause-parts : goal.returns-clause-parts
returns-clause-parts c = certified_parts_example

pub returns-clause-refused : goal.returns-clause-refused
returns-clause-refused c = not_certified_example

pub returns-clause-images : goal.returns-clause-images
returns-clause-images c = certified_images_example
