use Rattle.pure_declare_rows.proofs.commands.declared.Goals as goal

pub declare-requires-clause-names : goal.declare-requires-clause-names
declare-requires-clause-names c = (c.in_ok-may.ensures.0 c.if-not-may.false).names

pub declare-requires-clause-ranges : goal.declare-requires-clause-ranges
declare-requires-clause-ranges c = (c.in_ok-may.ensures.0 c.if-not-may.false).ranges

pub declare-requires-clause-given : goal.declare-requires-clause-given
declare-requires-clause-given c = (c.in_ok-may.ensures.0 c.if-not-may.false).given

pub declare-requires-clause-labels : goal.declare-requires-clause-labels
declare-requires-clause-labels c = (c.in_ok-may.ensures.0 c.if-not-may.false).labels
