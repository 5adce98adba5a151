use Rattle.pure_logic.proofs.ContentLaws.{pure_is_content as is_content}
use Rattle.pure_logic.proofs.laws.pure_is_content.Goals as goal

pub returns-clause-content : goal.returns-clause-content
returns-clause-content c = is_content
