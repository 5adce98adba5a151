use Rattle.pure_text.proofs.AnswerLaws.{test_fails, yes_as, no_as}
use Rattle.pure_declare.proofs.MayLaws.{passed-more, passed-there, passed-all}
use Rattle.pure_declare.proofs.may.is_label_above.Goals as goal

pub returns-in-None : goal.returns-in-None
returns-in-None c = yes_as _ (passed-all c.args.theory.now.declarations c.decls.place c.args.label c.in-None.ensures c.decls.invariant)

pub returns-then-not-is_passed : goal.returns-then-not-is_passed
returns-then-not-is_passed c =
    no_as _ (λ above. test_fails _ c.is_passed.result c.is_passed.ensures c.if-not-is_passed.true (passed-there c.args.theory.now.declarations c.decls.place c.in-Some.decl c.in-Some.ensures c.args.label above))

pub decls-preserved : goal.decls-preserved
decls-preserved c =
    rw c.in_ok-place-in-Some.ensures
    (passed-more c.args.theory.now.declarations c.decls.place c.in-Some.decl c.in-Some.ensures c.args.label (c.is_passed.ensures.0 c.if-not-is_passed.false) c.decls.invariant)
