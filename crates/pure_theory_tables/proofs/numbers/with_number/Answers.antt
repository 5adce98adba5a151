use Rattle.std.proofs.Common.{sym, ◌∙◌}
use Rattle.pure_theory_tables.specs.View.{decl_of}
use Rattle.pure_theory_tables.proofs.NumberedLaws.{other_numbered}
use Rattle.pure_theory_tables.proofs.numbers.with_number.Goals as goal

pub returns-in_ok-same-in-None : goal.returns-in_ok-same-in-None
returns-in_ok-same-in-None c = λ ds h. other_numbered c.args.numbered.now _ ds (decl_of c.args.entry.now.value) c.in_ok-same-in-None.ensures (rw c.deref.ensures at (sym c.number_key.ensures ∙ c.in-None.is)) h

pub returns-in_ok-more-in-Some : goal.returns-in_ok-more-in-Some
returns-in_ok-more-in-Some c = λ ds h. c.in_ok-more-in-Some.ensures ds (rw c.deref.ensures at (sym c.number_key.ensures ∙ c.in-Some.is)) h
