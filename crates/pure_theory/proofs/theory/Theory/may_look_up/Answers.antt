use Rattle.std.proofs.Common.{sym, ◌∙◌, true≢false}
use Rattle.pure_text.proofs.AnswerLaws.{test_fails}
use Rattle.pure_theory.proofs.PlainLaws.{in_session, own_plain, ancestors_plain}
use Rattle.pure_theory.proofs.theory.Theory.may_look_up.Goals as goal

pub returns-then-is_plain_if_any : goal.returns-then-is_plain_if_any
returns-then-is_plain_if_any c = (
  λ k. in_session c.args.names.now c.args.self.now c.requires c.content_is_sound.ensures.apart
      (λ t e. rw c.names-names.ensures at (c.is_plain_if_any.ensures.0 c.if-is_plain_if_any.true t (c.own_theory.ensures ∙ e)))
      (rw (c.ancestor_list.ensures, c.names-names.ensures) at (c.are_plainly_named.ensures.0 k)),
  λ s. c.are_plainly_named.ensures.1 (rw (c.ancestor_list.ensures, c.names-names.ensures) (ancestors_plain c.args.names.now c.args.self.now s)),
)

pub returns-else-is_plain_if_any : goal.returns-else-is_plain_if_any
returns-else-is_plain_if_any c = (
  λ k. absurd (true≢false (sym k ∙ c.if-is_plain_if_any.false)),
  λ s. absurd (test_fails _ c.is_plain_if_any.result c.is_plain_if_any.ensures c.if-is_plain_if_any.false (λ t e. rw c.names-names.ensures (own_plain c.args.names.now c.args.self.now s t (sym c.own_theory.ensures ∙ e)))),
)
