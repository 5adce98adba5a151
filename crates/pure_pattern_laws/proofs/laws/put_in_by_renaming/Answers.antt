use Rattle.pure_pattern_laws.proofs.PutLaws.{put_in_is_long_form}
use Rattle.pure_pattern_laws.proofs.PatternLaws.{put_in_is_pattern}
use Rattle.pure_pattern_laws.proofs.laws.put_in_by_renaming.Goals as goal

pub returns-clause-long : goal.returns-clause-long
returns-clause-long c = put_in_is_long_form

pub returns-clause-pattern : goal.returns-clause-pattern
returns-clause-pattern c = put_in_is_pattern
