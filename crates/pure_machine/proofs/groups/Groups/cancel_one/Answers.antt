use Rattle.std.proofs.Common.{◌∙◌, sym, ap}
use Rattle.pure_machine.proofs.MarkLaws.{marked-stays}
use Rattle.pure_machine.proofs.CountLaws.{count-more}
use Rattle.pure_machine.proofs.groups.Groups.cancel_one.Goals as goal

pub invariant_of-self-then-is_unmarked : goal.invariant_of-self-then-is_unmarked
invariant_of-self-then-is_unmarked c = count-more c.self.inside.theories.items c.as_slice.result.now c.self.inside.count c.in-Theory.index c.as_slice.ensures.value (sym c.is_unmarked.ensures ∙ c.if-is_unmarked.true) c.self.invariant

pub returns-else-is_unmarked : goal.returns-else-is_unmarked
returns-else-is_unmarked c =
    marked-stays c.args.self.now c.args.group c.in-Theory.index c.as_slice.result.now c.in-Theory.is (c.as_slice.ensures.value ∙ ap (λ m. m.theories) c.self.view_is) (sym c.is_unmarked.ensures ∙ c.if-is_unmarked.false)
