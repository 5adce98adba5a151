use Rattle.pure_text.proofs.AnswerLaws.{test_fails, no_as}
use Rattle.pure_theory.proofs.AgreedLaws.{no_parents, some_parents}
use Rattle.pure_theory.proofs.theory.Theory.may_begin.Goals as goal

pub returns-then-is_empty : goal.returns-then-is_empty
returns-then-is_empty c = no_as _ (λ m. m.some (no_parents c.args.parents.now c.is_empty.result c.is_empty.ensures c.if-is_empty.true))

pub returns-then-not-apart : goal.returns-then-not-apart
returns-then-not-apart c = no_as _ (λ m. test_fails _ c.in_ok-apart.apart c.in_ok-apart.ensures c.if-not-apart.true (m.apart, m.new))

pub are_agreed-requires : goal.are_agreed-requires
are_agreed-requires c = some_parents c.args.parents.now c.is_empty.result c.is_empty.ensures c.if-is_empty.false

pub returns : goal.returns
returns c =
    let follows = c.in_ok-apart.ensures.0 c.if-not-apart.false in (
      λ t. record {
        some = some_parents c.args.parents.now c.is_empty.result c.is_empty.ensures c.if-is_empty.false;
        agreed = c.in_ok-agreed.ensures.0 t;
        apart = follows.0;
        new = follows.1;
      },
      λ m. c.in_ok-agreed.ensures.1 m.agreed,
    )
