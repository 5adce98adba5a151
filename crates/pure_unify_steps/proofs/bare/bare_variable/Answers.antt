use Rattle.std.proofs.Common.{sym, ◌∙◌, arith}
use Rattle.pure_unify_steps.proofs.BareLaws.{plain_is_none, rigid_is_none, other_is_none, many_is_none}
use Rattle.pure_unify_steps.proofs.bare.bare_variable.Goals as goal

pub returns-then-is_plain : goal.returns-then-is_plain
returns-then-is_plain c = plain_is_none c.args.t.now (sym c.is_plain.ensures ∙ c.if-is_plain.true)

pub returns-then-not-is_flexible : goal.returns-then-not-is_flexible
returns-then-not-is_flexible c = rigid_is_none c.args.t.now c.requires (sym c.is_flexible.ensures ∙ c.if-not-is_flexible.true)

pub returns-then-not-is_schematic : goal.returns-then-not-is_schematic
returns-then-not-is_schematic c = other_is_none c.args.t.now c.in_ok-form.form c.in_ok-form.ensures (sym c.is_schematic.ensures ∙ c.if-not-is_schematic.true)

pub has_as_many-requires : goal.has_as_many-requires
has_as_many-requires c = let low = c.requires.within.depth in omega arith

pub returns-then-not-has_as_many : goal.returns-then-not-has_as_many
returns-then-not-has_as_many c = many_is_none c.args.t.now c.requires (sym c.has_as_many.ensures ∙ c.if-not-has_as_many.true)
