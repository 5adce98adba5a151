use Rattle.pure_term_laws.proofs.BindLaws.{lift-past-subst, lift-above-bind, lift-below-bind, bind-past-subst, bind-below-subst}
use Rattle.pure_term_laws.proofs.laws.lifting_and_abstraction_past.Goals as goal

pub returns-clause-lift_past_subst : goal.returns-clause-lift_past_subst
returns-clause-lift_past_subst c = lift-past-subst

pub returns-clause-lift_above_bind : goal.returns-clause-lift_above_bind
returns-clause-lift_above_bind c = lift-above-bind

pub returns-clause-lift_below_bind : goal.returns-clause-lift_below_bind
returns-clause-lift_below_bind c = lift-below-bind

pub returns-clause-bind_past_subst : goal.returns-clause-bind_past_subst
returns-clause-bind_past_subst c = bind-past-subst

pub returns-clause-bind_below_subst : goal.returns-clause-bind_below_subst
returns-clause-bind_below_subst c = bind-below-subst
