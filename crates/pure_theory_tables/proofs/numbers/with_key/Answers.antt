use Rattle.pure_theory_tables.specs.View.{decl_of}
use Rattle.pure_theory_tables.proofs.NumberedLaws.{put_numbered, kept_numbered}
use Rattle.pure_theory_tables.proofs.numbers.with_key.Goals as goal

pub returns-in_ok-more-in-None : goal.returns-in_ok-more-in-None
returns-in_ok-more-in-None c = λ ds keyed h. put_numbered c.args.numbered.now _ c.args.key c.args.entry.now.value _ ds c.in_ok-entry-in-None.ensures c.in_ok-more-in-None.ensures keyed h

pub returns-in_ok-same-in-Some : goal.returns-in_ok-same-in-Some
returns-in_ok-same-in-Some c = λ ds keyed h. kept_numbered c.args.numbered.now _ c.args.key _ ds (decl_of c.args.entry.now.value) c.in_ok-same-in-Some.ensures c.in-Some.ensures keyed h
