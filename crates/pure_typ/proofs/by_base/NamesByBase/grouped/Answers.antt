use Rattle.std.proofs.Common.{◌∷◌, ◌++◌, [], ap, ◌∙◌}
use Rattle.std.specs.Prelude.{cond}
use Rattle.pure_typ.specs.NameBases.{has_base}
use Rattle.pure_typ.proofs.ByBaseLemmas.{with-more}
use Rattle.pure_typ.proofs.by_base.NamesByBase.grouped.Goals as goal

pub loop-number-preserved : goal.loop-number-preserved
loop-number-preserved c = λ base.
    c.in_ok-put.ensures base
    ∙ (ap (λ xs. cond (has_base c.args.names base c.loop-number.number) (xs ++ c.loop-number.number ∷ []) xs) (c.loop-number.invariant base)
    ∙ with-more (has_base c.args.names base) c.loop-number.number)
