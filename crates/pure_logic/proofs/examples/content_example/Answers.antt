use Rattle.pure_logic.proofs.ContentExamples.{named_twice_example, ill_formed_example, schematic_example, below_example}
use Rattle.pure_logic.proofs.examples.content_example.Goals as goal

pub returns-clause-twice : goal.returns-clause-twice
returns-clause-twice c = named_twice_example

pub returns-clause-ill_formed : goal.returns-clause-ill_formed
returns-clause-ill_formed c = ill_formed_example

pub returns-clause-below : goal.returns-clause-below
returns-clause-below c = below_example

pub returns-clause-schematic : goal.returns-clause-schematic
returns-clause-schematic c = schematic_example
