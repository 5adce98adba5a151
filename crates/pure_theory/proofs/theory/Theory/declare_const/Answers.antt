use Rattle.std.proofs.Common.{refl}
use Rattle.pure_theory.proofs.GrowthLaws.{const_stage}
use Rattle.pure_theory.proofs.NamesakeLaws.{new_const, old_const}
use Rattle.pure_theory.proofs.theory.Theory.declare_const.Goals as goal

pub with-requires : goal.with-requires
with-requires c = rw (← c.self.view_is, c.in_ok-declared.ensures, c.in_ok-order.ensures, c.in_ok-typ.ensures) (const_stage _ _ c.self.invariant c.args.name c.args.typ.now c.in_default.ensures (rw (← c.self.view_is) at c.requires.certified) c.requires.schematic)

pub returns-clause-ok : goal.returns-clause-ok
returns-clause-ok c = rw (c.in_ok-more.ensures, c.in_ok-declared.ensures, c.in_ok-typ.ensures, ← c.self.view_is) refl

pub returns-clause-new : goal.returns-clause-new
returns-clause-new c = rw (← c.self.view_is) (new_const c.self.inside.declared c.args.name c.args.typ.now c.in_default.ensures)

pub returns-in-Some-clause-fault : goal.returns-in-Some-clause-fault
returns-in-Some-clause-fault c = rw (← c.self.view_is) (old_const c.self.inside.declared c.args.name c.args.typ.now c.in-Some._old.now ((c.in-Some.ensures c.in-Some._old.now).1 refl))
