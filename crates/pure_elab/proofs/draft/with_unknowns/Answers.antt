use Rattle.std.proofs.Common.{ap, ◌+◌, length, refl, ◌∙◌}
use Rattle.pure_elab.specs.Numbered.{unknown_of}
use Rattle.pure_elab.specs.Numbers.{entries}
use Rattle.pure_elab.proofs.DraftedLaws.{nothing_added}
use Rattle.pure_elab.proofs.ReplacedLaws.{unknowns_by, unknowns_replaced, no_entries}
use Rattle.pure_elab.proofs.draft.with_unknowns.Goals as goal

pub returns-clause-typ : goal.returns-clause-typ
returns-clause-typ c =
    let first = c.args.constraints.now.next in
    let new = entries unknown_of first c.number_typ.new.numbers in
    let bare = no_entries unknown_of first c.restart.new.numbers.few.items c.restart.new.numbers.many c.restart.ensures.few c.restart.ensures.many in
    let are = unknowns_by first (entries unknown_of first c.restart.new.numbers) new c.args.declared.now bare c.in_ok-typ.ensures.added in
    unknowns_replaced first new c.args.declared.now c.in_ok-typ.typ are c.in_ok-typ.ensures.typ

pub returns-clause-added : goal.returns-clause-added
returns-clause-added c =
    let first = c.args.constraints.now.next in
    let new = entries unknown_of first c.number_typ.new.numbers in
    let bare = no_entries unknown_of first c.restart.new.numbers.few.items c.restart.new.numbers.many c.restart.ensures.few c.restart.ensures.many in
    let are = unknowns_by first (entries unknown_of first c.restart.new.numbers) new c.args.declared.now bare c.in_ok-typ.ensures.added in
    nothing_added _ c.args.constraints.now _ (c.in_ok-next.ensures unknown_of ∙ ap (λ l. first + length l) are) refl refl
