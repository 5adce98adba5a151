use Rattle.pure_declare.proofs.may.may_be_given.Goals as goal

pub returns : goal.returns
returns c = (
  λ t. record {
    in_session = rw c.deref.ensures at (c.may_look_up.ensures.0 c.if-not-may_look_up.false);
    small = c.is_small.ensures.0 c.if-not-is_small.false;
    label_above = rw c.deref-2.ensures at (c.in_ok-above.ensures.0 t);
  },
  λ given. c.in_ok-above.ensures.1 (rw c.deref-2.ensures given.label_above),
)
