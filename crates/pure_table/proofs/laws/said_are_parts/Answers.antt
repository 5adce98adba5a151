use Rattle.pure_table.proofs.PrintedLaws.{said_are_statements as statements, said_are_parts as parts}
use Rattle.pure_table.proofs.laws.said_are_parts.Goals as goal

pub returns-clause-statements : goal.returns-clause-statements
returns-clause-statements c = statements

pub returns-clause-parts : goal.returns-clause-parts
returns-clause-parts c = parts
