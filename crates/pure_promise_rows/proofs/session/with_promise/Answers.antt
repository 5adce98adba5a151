use Rattle.std.proofs.Common.{subst}
use Rattle.pure_logic.specs.Content.{IsProposition}
use Rattle.pure_promise_rows.proofs.EarlierLemmas.{next_earlier, above_earlier}
use Rattle.pure_promise_rows.proofs.session.with_promise.Goals as goal

pub declare_promise-requires-clause-statement : goal.declare_promise-requires-clause-statement
declare_promise-requires-clause-statement c = record {
  proposition = subst (IsProposition c.args.theory.now) c.deref.ensures (c.is_proposition.ensures c.if-not-is_proposition.false);
  schematic = c.requires.schematic;
}

pub declare_promise-requires-clause-label : goal.declare_promise-requires-clause-label
declare_promise-requires-clause-label c = above_earlier c.args.place c.args.theory.now.declarations c.label_at.result c.label_at.ensures.theory c.label_at.ensures.command c.requires.earlier

pub returns-in-Ok : goal.returns-in-Ok
returns-in-Ok c = rw c.in-Ok.ensures.ok (next_earlier c.args.place c.args.theory.now.declarations _ c.label_at.result _ c.label_at.ensures.theory c.label_at.ensures.command c.requires.earlier)
