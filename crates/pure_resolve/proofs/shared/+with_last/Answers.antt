use Rattle.std.proofs.Common.{sym, ◌∙◌, arith}
use Rattle.pure_resolve.proofs.SharedLaws.{last_alone, last_behind, behind_smaller}
use Rattle.pure_resolve.proofs.shared.+with_last.Goals as goal

pub with_last-requires : goal.with_last-requires
with_last-requires t c =
    let smaller = behind_smaller c.args.t.now.value c.in-Some.first.now.value c.in-Some.rest.now.value (sym c.deref-whole.ensures ∙ c.in-Some.ensures.parts) in
    (omega (arith, smaller), tt)

pub returns-in_default : goal.returns-in_default
returns-in_default t c As A C e l =
    last_alone (λ u. u.value) c.args.t.now.value c.args.last.now.value c.in_ok-marked.marked.value As A C c.applied.result (c.in_default.ensures.premise As C (c.deref-whole.ensures ∙ e)) e l c.in_ok-marked.ensures c.applied.ensures

pub returns : goal.returns
returns t c As A C e l =
    last_behind (λ u. u.value) c.in-Some.first.now.value c.in-Some.rest.now.value c.args.last.now.value c.in_ok-conclusion.conclusion.value As A C c.applied-2.result
    (c.in-Some.ensures.premise As C (c.deref-whole.ensures ∙ e)) l c.in_ok-conclusion.ensures c.applied-2.ensures
