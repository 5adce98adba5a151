use Rattle.std.proofs.Common.{List, sym, subst}
use Rattle.pure_elab.specs.declared.sorts.VariableSort.{VariableSort}
use Rattle.pure_elab.specs.Written.{AreSorts, term_classes}
use Rattle.pure_elab.specs.Table.{sort_among}
use Rattle.pure_elab.specs.Drafts.{whole_draft}
use Rattle.pure_elab.proofs.CallLaws.{draft_of}
use Rattle.pure_elab.proofs.calls.text_draft.Goals as goal

pub returns : goal.returns
returns g c =
    let V = g.L.Language.vocabulary c.args.language.now in
    let sorts = sort_among c.as_slice.result.now in
    let are : AreSorts V.algebra (term_classes V c.args.raw.now) sorts = subst (λ (l : List VariableSort). AreSorts V.algebra (term_classes V c.args.raw.now) (sort_among l)) (sym c.as_slice.ensures.value) c.in_ok-sorts.ensures in
    (whole_draft V sorts c.args.raw.now c.args.typ, draft_of V c.args.raw.now c.args.typ sorts c.in_ok-found.ensures.sound are, c.in_ok-found.ensures.draft)
