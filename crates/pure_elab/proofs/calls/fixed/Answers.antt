use Rattle.std.proofs.Common.{[], ◌∙◌}
use Rattle.pure_definitions.specs.Types.Typ.{TFree}
use Rattle.pure_elab.specs.Numbers.{entries}
use Rattle.pure_elab.proofs.NumberedLaws.{fixed_by}
use Rattle.pure_elab.proofs.ReplacedLaws.{no_entries}
use Rattle.pure_elab.proofs.calls.fixed.Goals as goal

pub returns : goal.returns
returns g c =
    let V = g.L.Language.vocabulary c.args.language.now in
    let first = c.first_fresh-first.result in
    let bare = no_entries TFree first c.no_numbers-numbers.result.few.items c.no_numbers-numbers.result.many c.no_numbers-numbers.ensures.few c.no_numbers-numbers.ensures.many in
    let h = c.in_ok-fixed.ensures in
    c.in_ok-copy.ensures
    ∙ c.deref.ensures
    ∙ fixed_by V.fresh first (entries TFree first c.no_numbers-numbers.result) (entries TFree first c.number_term.new.numbers) c.args.term.now.value c.in_ok-fixed.fixed.value bare c.first_fresh-first.ensures h.added (h.replaced [])
