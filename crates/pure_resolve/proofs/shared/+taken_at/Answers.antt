use Rattle.std.proofs.Common.{◌∷◌, ◌++◌, ◌∙◌}
use Rattle.pure_resolve.proofs.SharedLaws.{taken_first, taken_behind}
use Rattle.pure_resolve.proofs.shared.+taken_at.Goals as goal

pub returns-then-place-eq0 : goal.returns-then-place-eq0
returns-then-place-eq0 t c = λ front A others C e count.
    taken_first c.in-Some.first.now.value c.in-Some.rest.now.value front A others C c.args.place c.taken_first.result (c.in-Some.ensures.premise (front ++ A ∷ others) C e) count c.if-place-eq0.true c.taken_first.ensures.first c.taken_first.ensures.rest

pub returns : goal.returns
returns t c = λ front A others C e count.
    taken_behind c.in-Some.first.now.value c.in-Some.rest.now.value c.in_ok-inner.inner front A others C c.args.place c.behind.result (c.in-Some.ensures.premise (front ++ A ∷ others) C e) count c.if-place-eq0.false
    (λ front A others C e count. c.in_ok-inner.ensures front A others C (c.deref-tail.ensures ∙ e) count) c.behind.ensures.first c.behind.ensures.rest
