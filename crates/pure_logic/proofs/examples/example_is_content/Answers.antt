use Rattle.pure_logic.proofs.ExampleLaws.{example_is_content as is_content}
use Rattle.pure_logic.proofs.examples.example_is_content.Goals as goal

pub returns : goal.returns
returns c = is_content
