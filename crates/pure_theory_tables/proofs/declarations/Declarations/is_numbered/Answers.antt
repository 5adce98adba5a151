use Rattle.pure_text.proofs.AnswerLaws.{no_as}
use Rattle.pure_theory_tables.specs.View.{decl_of}
use Rattle.pure_theory_tables.proofs.NumberedLaws.{not_numbered, same_numbered}
use Rattle.pure_theory_tables.proofs.SameLaws.{told_same}
use Rattle.pure_theory_tables.proofs.declarations.Declarations.is_numbered.Goals as goal

pub returns-in-None : goal.returns-in-None
returns-in-None c = no_as _ (not_numbered c.self.inside.numbered c.args.self.now (decl_of c.args.entry.now) c.args.key (rw c.self.view_is at c.self.invariant.by_number) c.requires c.in-None.ensures)

pub returns-then-is_same_entry : goal.returns-then-is_same_entry
returns-then-is_same_entry c = (
  λ t. same_numbered c.self.inside.numbered c.args.self.now (decl_of c.args.entry.now) c.args.key c.in-Some.own.now (rw c.self.view_is at c.self.invariant.by_number) c.in-Some.ensures (told_same _ _ c.is_same_entry.result c.is_same_entry.ensures c.if-is_same_entry.true),
  λ m. c.if-is_same_entry.true,
)
